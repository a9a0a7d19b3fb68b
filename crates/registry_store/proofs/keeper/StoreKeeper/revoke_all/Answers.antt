use Rattle.std.specs.Prelude.{⊤}
use Rattle.registry_model.specs.Command.{revoke_all}
use Rattle.registry_store.proofs.RowCalls.{rows_clean, rows_crash, rows_make, rows_want}
use Rattle.registry_store.proofs.KeeperAnswers.{nothing_once, untouched_holds, writes_once}
use Rattle.registry_store.proofs.keeper.StoreKeeper.revoke_all.Goals as goal

pub invariant_of-self : goal.invariant_of-self
invariant_of-self g c =
    untouched_holds g.S.Store g.C.Contents g.O.Origin.is_ours c.self.inside.conn c.self.inside.contents c.args.self.now c.self.inside.spent c.self.view_is c.self.inside.known c.self.invariant c.if-self.false (c.revoke_all-answer.new.conn, c.self.inside.contents) (rows_clean g.S.Store g.C.Contents c.self.inside.contents c.self.inside.conn c.revoke_all-answer.new.conn c.revoke_all-answer.ensures.survives)
    c.note_fault.result c.revoke_all-answer.result c.note_fault.new.spent c.note_fault.ensures.same c.note_fault.ensures.noted (λ w. revoke_all w c.args.token.now)
    (λ ours. rows_make g.S.Store g.C.Contents c.self.inside.contents c.self.inside.conn c.revoke_all-answer.new.conn c.revoke_all-answer.result (λ _. ⊤) (λ w. revoke_all w c.args.token.now) (λ _. c.revoke_all-answer.ensures.made (g.C.Contents.layout c.self.inside.contents)) (λ _. c.revoke_all-answer.ensures.places (g.C.Contents.layout c.self.inside.contents)) (λ _. tt))
    (λ ours. rows_want g.S.Store g.C.Contents c.self.inside.contents c.self.inside.conn c.revoke_all-answer.new.conn c.revoke_all-answer.result (λ _. ⊤) (λ _. c.revoke_all-answer.ensures.memory (g.C.Contents.layout c.self.inside.contents)) (λ _. tt))
    (λ knows. knows)

pub returns-then-self : goal.returns-then-self
returns-then-self g c = nothing_once g.S.Store g.C.Contents g.O.Origin.is_ours c.self.inside.conn c.self.inside.contents c.args.self.now c.self.inside.spent c.self.view_is c.if-self.true

pub returns : goal.returns
returns g c =
    writes_once g.S.Store g.C.Contents g.O.Origin.is_ours c.self.inside.conn c.self.inside.contents c.args.self.now c.self.inside.spent c.self.view_is c.self.inside.known c.self.invariant c.if-self.false (c.revoke_all-answer.new.conn, c.self.inside.contents) (rows_clean g.S.Store g.C.Contents c.self.inside.contents c.self.inside.conn c.revoke_all-answer.new.conn c.revoke_all-answer.ensures.survives)
    c.note_fault.result c.revoke_all-answer.result c.note_fault.new.spent c.note_fault.ensures.same c.note_fault.ensures.noted (λ w. revoke_all w c.args.token.now)
    (λ ours. rows_make g.S.Store g.C.Contents c.self.inside.contents c.self.inside.conn c.revoke_all-answer.new.conn c.revoke_all-answer.result (λ _. ⊤) (λ w. revoke_all w c.args.token.now) (λ _. c.revoke_all-answer.ensures.made (g.C.Contents.layout c.self.inside.contents)) (λ _. c.revoke_all-answer.ensures.places (g.C.Contents.layout c.self.inside.contents)) (λ _. tt))
    (λ ours. rows_want g.S.Store g.C.Contents c.self.inside.contents c.self.inside.conn c.revoke_all-answer.new.conn c.revoke_all-answer.result (λ _. ⊤) (λ _. c.revoke_all-answer.ensures.memory (g.C.Contents.layout c.self.inside.contents)) (λ _. tt))
    (λ ours. rows_crash g.S.Store g.C.Contents c.self.inside.contents c.self.inside.conn c.revoke_all-answer.new.conn c.revoke_all-answer.result g.C.Contents.lasts g.C.Contents.remembers_spared (λ _. ⊤) (λ w. revoke_all w c.args.token.now) (λ l _. c.revoke_all-answer.ensures.crash l) (λ _. tt))
