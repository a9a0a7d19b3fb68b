use Rattle.std.proofs.Common.{◌≡◌, true}
use Rattle.registry_model.specs.Command.{grant}
use Rattle.registry_model.specs.World.{has_repo}
use Rattle.registry_store.proofs.KeeperStates.{asked}
use Rattle.registry_store.proofs.RowCalls.{rows_clean, rows_crash, rows_make, rows_want}
use Rattle.registry_store.proofs.KeeperAnswers.{nothing_once, untouched_holds, writes_once}
use Rattle.registry_store.proofs.keeper.StoreKeeper.grant.Goals as goal

pub invariant_of-self : goal.invariant_of-self
invariant_of-self g c =
    untouched_holds g.S.Store g.C.Contents g.O.Origin.is_ours c.self.inside.conn c.self.inside.contents c.args.self.now c.self.inside.spent c.self.view_is c.self.inside.known c.self.invariant c.if-self.false (c.grant-answer.new.conn, c.self.inside.contents) (rows_clean g.S.Store g.C.Contents c.self.inside.contents c.self.inside.conn c.grant-answer.new.conn c.grant-answer.ensures.survives)
    c.note_fault.result c.grant-answer.result c.note_fault.new.spent c.note_fault.ensures.same c.note_fault.ensures.noted (λ w. grant w c.args.token.now c.args.name.now c.args.level)
    (λ ours. rows_make g.S.Store g.C.Contents c.self.inside.contents c.self.inside.conn c.grant-answer.new.conn c.grant-answer.result (λ w. has_repo w c.args.name.now ≡ true) (λ w. grant w c.args.token.now c.args.name.now c.args.level) (c.grant-answer.ensures.made (g.C.Contents.layout c.self.inside.contents)) (λ _. c.grant-answer.ensures.places (g.C.Contents.layout c.self.inside.contents)) (asked g.S.Store g.C.Contents c.self.inside.conn c.self.inside.contents c.args.self.now c.self.inside.spent c.self.view_is (λ w. has_repo w c.args.name.now ≡ true) g.O.Origin.is_ours c.if-self.false ours c.requires.there))
    (λ ours. rows_want g.S.Store g.C.Contents c.self.inside.contents c.self.inside.conn c.grant-answer.new.conn c.grant-answer.result (λ w. has_repo w c.args.name.now ≡ true) (λ _. c.grant-answer.ensures.memory (g.C.Contents.layout c.self.inside.contents)) (asked g.S.Store g.C.Contents c.self.inside.conn c.self.inside.contents c.args.self.now c.self.inside.spent c.self.view_is (λ w. has_repo w c.args.name.now ≡ true) g.O.Origin.is_ours c.if-self.false ours c.requires.there))
    (λ knows. knows)

pub returns-then-self : goal.returns-then-self
returns-then-self g c = nothing_once g.S.Store g.C.Contents g.O.Origin.is_ours c.self.inside.conn c.self.inside.contents c.args.self.now c.self.inside.spent c.self.view_is c.if-self.true

pub returns : goal.returns
returns g c =
    writes_once g.S.Store g.C.Contents g.O.Origin.is_ours c.self.inside.conn c.self.inside.contents c.args.self.now c.self.inside.spent c.self.view_is c.self.inside.known c.self.invariant c.if-self.false (c.grant-answer.new.conn, c.self.inside.contents) (rows_clean g.S.Store g.C.Contents c.self.inside.contents c.self.inside.conn c.grant-answer.new.conn c.grant-answer.ensures.survives)
    c.note_fault.result c.grant-answer.result c.note_fault.new.spent c.note_fault.ensures.same c.note_fault.ensures.noted (λ w. grant w c.args.token.now c.args.name.now c.args.level)
    (λ ours. rows_make g.S.Store g.C.Contents c.self.inside.contents c.self.inside.conn c.grant-answer.new.conn c.grant-answer.result (λ w. has_repo w c.args.name.now ≡ true) (λ w. grant w c.args.token.now c.args.name.now c.args.level) (c.grant-answer.ensures.made (g.C.Contents.layout c.self.inside.contents)) (λ _. c.grant-answer.ensures.places (g.C.Contents.layout c.self.inside.contents)) (asked g.S.Store g.C.Contents c.self.inside.conn c.self.inside.contents c.args.self.now c.self.inside.spent c.self.view_is (λ w. has_repo w c.args.name.now ≡ true) g.O.Origin.is_ours c.if-self.false ours c.requires.there))
    (λ ours. rows_want g.S.Store g.C.Contents c.self.inside.contents c.self.inside.conn c.grant-answer.new.conn c.grant-answer.result (λ w. has_repo w c.args.name.now ≡ true) (λ _. c.grant-answer.ensures.memory (g.C.Contents.layout c.self.inside.contents)) (asked g.S.Store g.C.Contents c.self.inside.conn c.self.inside.contents c.args.self.now c.self.inside.spent c.self.view_is (λ w. has_repo w c.args.name.now ≡ true) g.O.Origin.is_ours c.if-self.false ours c.requires.there))
    (λ ours. rows_crash g.S.Store g.C.Contents c.self.inside.contents c.self.inside.conn c.grant-answer.new.conn c.grant-answer.result g.C.Contents.lasts g.C.Contents.remembers_spared (λ w. has_repo w c.args.name.now ≡ true) (λ w. grant w c.args.token.now c.args.name.now c.args.level) (λ l. c.grant-answer.ensures.crash l) (asked g.S.Store g.C.Contents c.self.inside.conn c.self.inside.contents c.args.self.now c.self.inside.spent c.self.view_is (λ w. has_repo w c.args.name.now ≡ true) g.O.Origin.is_ours c.if-self.false ours c.requires.there))
