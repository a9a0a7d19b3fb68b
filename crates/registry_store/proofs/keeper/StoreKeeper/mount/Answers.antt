use Rattle.std.proofs.Common.{◌≡◌, true}
use Rattle.registry_model.specs.Lookups.{mount}
use Rattle.registry_model.specs.World.{has_repo}
use Rattle.registry_store.proofs.KeeperStates.{asked}
use Rattle.registry_store.proofs.RowCalls.{rows_clean, rows_crash, rows_know, rows_make, rows_want}
use Rattle.registry_store.proofs.KeeperAnswers.{nothing_once, write_holds, writes_once}
use Rattle.registry_store.proofs.keeper.StoreKeeper.mount.Goals as goal

pub write_rows-answer-requires : goal.write_rows-answer-requires
write_rows-answer-requires g c = record { rows = tt }

pub invariant_of-self : goal.invariant_of-self
invariant_of-self g c =
    write_holds g.S.Store g.C.Contents g.O.Origin.is_ours c.self.inside.conn c.self.inside.contents c.args.self.now c.self.inside.spent c.self.view_is c.self.inside.known c.self.invariant c.if-self.false (c.write_rows-answer.new.conn, c.self.inside.contents) (rows_clean g.S.Store g.C.Contents c.self.inside.contents c.self.inside.conn c.write_rows-answer.new.conn c.write_rows-answer.ensures.survives)
    c.note_fault.result c.write_rows-answer.result c.note_fault.new.spent c.note_fault.ensures.same c.note_fault.ensures.noted c.write_rows-answer.new.known (λ w. mount w c.args.from.now c.args.to.now c.args.digest.now)
    (λ ours. rows_make g.S.Store g.C.Contents c.self.inside.contents c.self.inside.conn c.write_rows-answer.new.conn c.write_rows-answer.result (λ w. has_repo w c.args.to.now ≡ true) (λ w. mount w c.args.from.now c.args.to.now c.args.digest.now) (c.write_rows-answer.ensures.made (g.C.Contents.layout c.self.inside.contents)) (c.write_rows-answer.ensures.places (g.C.Contents.layout c.self.inside.contents)) (asked g.S.Store g.C.Contents c.self.inside.conn c.self.inside.contents c.args.self.now c.self.inside.spent c.self.view_is (λ w. has_repo w c.args.to.now ≡ true) g.O.Origin.is_ours c.if-self.false ours c.requires.there))
    (λ ours. rows_want g.S.Store g.C.Contents c.self.inside.contents c.self.inside.conn c.write_rows-answer.new.conn c.write_rows-answer.result (λ w. has_repo w c.args.to.now ≡ true) (c.write_rows-answer.ensures.memory (g.C.Contents.layout c.self.inside.contents)) (asked g.S.Store g.C.Contents c.self.inside.conn c.self.inside.contents c.args.self.now c.self.inside.spent c.self.view_is (λ w. has_repo w c.args.to.now ≡ true) g.O.Origin.is_ours c.if-self.false ours c.requires.there))
    (λ ours. rows_know g.S.Store g.C.Contents c.self.inside.contents c.self.inside.conn c.write_rows-answer.new.conn c.write_rows-answer.result c.self.inside.known c.write_rows-answer.new.known (λ w. has_repo w c.args.to.now ≡ true) (λ k has. c.write_rows-answer.ensures.known (g.C.Contents.layout c.self.inside.contents) k has has) (asked g.S.Store g.C.Contents c.self.inside.conn c.self.inside.contents c.args.self.now c.self.inside.spent c.self.view_is (λ w. has_repo w c.args.to.now ≡ true) g.O.Origin.is_ours c.if-self.false ours c.requires.there) (rows_clean g.S.Store g.C.Contents c.self.inside.contents c.self.inside.conn c.write_rows-answer.new.conn c.write_rows-answer.ensures.survives))

pub returns-then-self : goal.returns-then-self
returns-then-self g c = nothing_once g.S.Store g.C.Contents g.O.Origin.is_ours c.self.inside.conn c.self.inside.contents c.args.self.now c.self.inside.spent c.self.view_is c.if-self.true

pub returns : goal.returns
returns g c =
    writes_once g.S.Store g.C.Contents g.O.Origin.is_ours c.self.inside.conn c.self.inside.contents c.args.self.now c.self.inside.spent c.self.view_is c.self.inside.known c.self.invariant c.if-self.false (c.write_rows-answer.new.conn, c.self.inside.contents) (rows_clean g.S.Store g.C.Contents c.self.inside.contents c.self.inside.conn c.write_rows-answer.new.conn c.write_rows-answer.ensures.survives)
    c.note_fault.result c.write_rows-answer.result c.note_fault.new.spent c.note_fault.ensures.same c.note_fault.ensures.noted (λ w. mount w c.args.from.now c.args.to.now c.args.digest.now)
    (λ ours. rows_make g.S.Store g.C.Contents c.self.inside.contents c.self.inside.conn c.write_rows-answer.new.conn c.write_rows-answer.result (λ w. has_repo w c.args.to.now ≡ true) (λ w. mount w c.args.from.now c.args.to.now c.args.digest.now) (c.write_rows-answer.ensures.made (g.C.Contents.layout c.self.inside.contents)) (c.write_rows-answer.ensures.places (g.C.Contents.layout c.self.inside.contents)) (asked g.S.Store g.C.Contents c.self.inside.conn c.self.inside.contents c.args.self.now c.self.inside.spent c.self.view_is (λ w. has_repo w c.args.to.now ≡ true) g.O.Origin.is_ours c.if-self.false ours c.requires.there))
    (λ ours. rows_want g.S.Store g.C.Contents c.self.inside.contents c.self.inside.conn c.write_rows-answer.new.conn c.write_rows-answer.result (λ w. has_repo w c.args.to.now ≡ true) (c.write_rows-answer.ensures.memory (g.C.Contents.layout c.self.inside.contents)) (asked g.S.Store g.C.Contents c.self.inside.conn c.self.inside.contents c.args.self.now c.self.inside.spent c.self.view_is (λ w. has_repo w c.args.to.now ≡ true) g.O.Origin.is_ours c.if-self.false ours c.requires.there))
    (λ ours. rows_crash g.S.Store g.C.Contents c.self.inside.contents c.self.inside.conn c.write_rows-answer.new.conn c.write_rows-answer.result g.C.Contents.lasts g.C.Contents.remembers_spared (λ w. has_repo w c.args.to.now ≡ true) (λ w. mount w c.args.from.now c.args.to.now c.args.digest.now) (λ l. c.write_rows-answer.ensures.crash l) (asked g.S.Store g.C.Contents c.self.inside.conn c.self.inside.contents c.args.self.now c.self.inside.spent c.self.view_is (λ w. has_repo w c.args.to.now ≡ true) g.O.Origin.is_ours c.if-self.false ours c.requires.there))
