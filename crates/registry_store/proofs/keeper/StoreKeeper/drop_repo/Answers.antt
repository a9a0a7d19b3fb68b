use Rattle.std.specs.Prelude.{⊤}
use Rattle.registry_model.specs.Command.{drop_repo}
use Rattle.registry_store.proofs.RowCalls.{rows_clean, rows_crash, rows_know, rows_make, rows_want}
use Rattle.registry_store.proofs.KeeperAnswers.{nothing_once, write_holds, writes_once}
use Rattle.registry_store.proofs.keeper.StoreKeeper.drop_repo.Goals as goal

pub invariant_of-self : goal.invariant_of-self
invariant_of-self g c =
    write_holds g.S.Store g.C.Contents g.O.Origin.is_ours c.self.inside.conn c.self.inside.contents c.args.self.now c.self.inside.spent c.self.view_is c.self.inside.known c.self.invariant c.if-self.false (c.drop_repo-answer.new.conn, c.self.inside.contents) (rows_clean g.S.Store g.C.Contents c.self.inside.contents c.self.inside.conn c.drop_repo-answer.new.conn c.drop_repo-answer.ensures.survives)
    c.note_fault.result c.drop_repo-answer.result c.note_fault.new.spent c.note_fault.ensures.same c.note_fault.ensures.noted c.drop_repo-answer.new.known (λ w. drop_repo w c.args.name.now)
    (λ ours. rows_make g.S.Store g.C.Contents c.self.inside.contents c.self.inside.conn c.drop_repo-answer.new.conn c.drop_repo-answer.result (λ _. ⊤) (λ w. drop_repo w c.args.name.now) (λ _. c.drop_repo-answer.ensures.made (g.C.Contents.layout c.self.inside.contents)) (λ _. c.drop_repo-answer.ensures.places (g.C.Contents.layout c.self.inside.contents)) (λ _. tt))
    (λ ours. rows_want g.S.Store g.C.Contents c.self.inside.contents c.self.inside.conn c.drop_repo-answer.new.conn c.drop_repo-answer.result (λ _. ⊤) (λ _. c.drop_repo-answer.ensures.memory (g.C.Contents.layout c.self.inside.contents)) (λ _. tt))
    (λ ours. rows_know g.S.Store g.C.Contents c.self.inside.contents c.self.inside.conn c.drop_repo-answer.new.conn c.drop_repo-answer.result c.self.inside.known c.drop_repo-answer.new.known (λ _. ⊤) (λ k _. c.drop_repo-answer.ensures.known (g.C.Contents.layout c.self.inside.contents) k) (λ _. tt) (rows_clean g.S.Store g.C.Contents c.self.inside.contents c.self.inside.conn c.drop_repo-answer.new.conn c.drop_repo-answer.ensures.survives))

pub returns-then-self : goal.returns-then-self
returns-then-self g c = nothing_once g.S.Store g.C.Contents g.O.Origin.is_ours c.self.inside.conn c.self.inside.contents c.args.self.now c.self.inside.spent c.self.view_is c.if-self.true

pub returns : goal.returns
returns g c =
    writes_once g.S.Store g.C.Contents g.O.Origin.is_ours c.self.inside.conn c.self.inside.contents c.args.self.now c.self.inside.spent c.self.view_is c.self.inside.known c.self.invariant c.if-self.false (c.drop_repo-answer.new.conn, c.self.inside.contents) (rows_clean g.S.Store g.C.Contents c.self.inside.contents c.self.inside.conn c.drop_repo-answer.new.conn c.drop_repo-answer.ensures.survives)
    c.note_fault.result c.drop_repo-answer.result c.note_fault.new.spent c.note_fault.ensures.same c.note_fault.ensures.noted (λ w. drop_repo w c.args.name.now)
    (λ ours. rows_make g.S.Store g.C.Contents c.self.inside.contents c.self.inside.conn c.drop_repo-answer.new.conn c.drop_repo-answer.result (λ _. ⊤) (λ w. drop_repo w c.args.name.now) (λ _. c.drop_repo-answer.ensures.made (g.C.Contents.layout c.self.inside.contents)) (λ _. c.drop_repo-answer.ensures.places (g.C.Contents.layout c.self.inside.contents)) (λ _. tt))
    (λ ours. rows_want g.S.Store g.C.Contents c.self.inside.contents c.self.inside.conn c.drop_repo-answer.new.conn c.drop_repo-answer.result (λ _. ⊤) (λ _. c.drop_repo-answer.ensures.memory (g.C.Contents.layout c.self.inside.contents)) (λ _. tt))
    (λ ours. rows_crash g.S.Store g.C.Contents c.self.inside.contents c.self.inside.conn c.drop_repo-answer.new.conn c.drop_repo-answer.result g.C.Contents.lasts g.C.Contents.remembers_spared (λ _. ⊤) (λ w. drop_repo w c.args.name.now) (λ l _. c.drop_repo-answer.ensures.crash l) (λ _. tt))
