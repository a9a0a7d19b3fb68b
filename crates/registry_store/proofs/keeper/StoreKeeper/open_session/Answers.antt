use Rattle.std.proofs.Common.{◌≡◌, true, ◌+◌}
use Rattle.std.specs.Prelude.{⊤}
use Rattle.registry_model.specs.Lookups.{open_session, last_number_at}
use Rattle.registry_model.specs.World.{has_repo}
use Rattle.registry_store.proofs.KeeperStates.{asked}
use Rattle.registry_store.proofs.RowCalls.{rows_clean, rows_crash, rows_know, rows_number, rows_want}
use Rattle.registry_store.proofs.KeeperAnswers.{nothing_once, numbered_holds, numbers_once}
use Rattle.registry_store.proofs.keeper.StoreKeeper.open_session.Goals as goal

pub invariant_of-self : goal.invariant_of-self
invariant_of-self g c =
    numbered_holds g.S.Store g.C.Contents g.O.Origin.is_ours c.self.inside.conn c.self.inside.contents c.args.self.now c.self.inside.spent c.self.view_is c.self.inside.known c.self.invariant c.if-self.false (c.open_session-answer.new.conn, c.self.inside.contents) (rows_clean g.S.Store g.C.Contents c.self.inside.contents c.self.inside.conn c.open_session-answer.new.conn c.open_session-answer.ensures.survives)
    c.note_fault.result c.open_session-answer.result c.note_fault.new.spent c.note_fault.ensures.same c.note_fault.ensures.noted c.open_session-answer.new.known (λ w. last_number_at w c.args.repo.now + 1) (λ w. open_session w c.args.repo.now)
    (rows_number g.S.Store g.C.Contents c.self.inside.contents c.self.inside.conn c.open_session-answer.new.conn c.open_session-answer.result (λ w. last_number_at w c.args.repo.now + 1) (λ w. open_session w c.args.repo.now) (c.open_session-answer.ensures.made (g.C.Contents.layout c.self.inside.contents)) (c.open_session-answer.ensures.places (g.C.Contents.layout c.self.inside.contents)))
    (rows_want g.S.Store g.C.Contents c.self.inside.contents c.self.inside.conn c.open_session-answer.new.conn c.open_session-answer.result (λ _. ⊤) (λ _. c.open_session-answer.ensures.memory (g.C.Contents.layout c.self.inside.contents)) (λ _. tt))
    (λ ours. rows_know g.S.Store g.C.Contents c.self.inside.contents c.self.inside.conn c.open_session-answer.new.conn c.open_session-answer.result c.self.inside.known c.open_session-answer.new.known (λ w. has_repo w c.args.repo.now ≡ true) (c.open_session-answer.ensures.known (g.C.Contents.layout c.self.inside.contents)) (asked g.S.Store g.C.Contents c.self.inside.conn c.self.inside.contents c.args.self.now c.self.inside.spent c.self.view_is (λ w. has_repo w c.args.repo.now ≡ true) g.O.Origin.is_ours c.if-self.false ours c.requires.there) (rows_clean g.S.Store g.C.Contents c.self.inside.contents c.self.inside.conn c.open_session-answer.new.conn c.open_session-answer.ensures.survives))

pub returns-then-self : goal.returns-then-self
returns-then-self g c = nothing_once g.S.Store g.C.Contents g.O.Origin.is_ours c.self.inside.conn c.self.inside.contents c.args.self.now c.self.inside.spent c.self.view_is c.if-self.true

pub returns : goal.returns
returns g c =
    numbers_once g.S.Store g.C.Contents g.O.Origin.is_ours c.self.inside.conn c.self.inside.contents c.args.self.now c.self.inside.spent c.self.view_is c.self.inside.known c.self.invariant c.if-self.false (c.open_session-answer.new.conn, c.self.inside.contents) (rows_clean g.S.Store g.C.Contents c.self.inside.contents c.self.inside.conn c.open_session-answer.new.conn c.open_session-answer.ensures.survives)
    c.note_fault.result c.open_session-answer.result c.note_fault.new.spent c.note_fault.ensures.same c.note_fault.ensures.noted (λ w. last_number_at w c.args.repo.now + 1) (λ w. open_session w c.args.repo.now)
    (rows_number g.S.Store g.C.Contents c.self.inside.contents c.self.inside.conn c.open_session-answer.new.conn c.open_session-answer.result (λ w. last_number_at w c.args.repo.now + 1) (λ w. open_session w c.args.repo.now) (c.open_session-answer.ensures.made (g.C.Contents.layout c.self.inside.contents)) (c.open_session-answer.ensures.places (g.C.Contents.layout c.self.inside.contents)))
    (rows_want g.S.Store g.C.Contents c.self.inside.contents c.self.inside.conn c.open_session-answer.new.conn c.open_session-answer.result (λ _. ⊤) (λ _. c.open_session-answer.ensures.memory (g.C.Contents.layout c.self.inside.contents)) (λ _. tt))
    (rows_crash g.S.Store g.C.Contents c.self.inside.contents c.self.inside.conn c.open_session-answer.new.conn c.open_session-answer.result g.C.Contents.lasts g.C.Contents.remembers_spared (λ _. ⊤) (λ w. open_session w c.args.repo.now) (λ l _. c.open_session-answer.ensures.crash l) (λ _. tt))
