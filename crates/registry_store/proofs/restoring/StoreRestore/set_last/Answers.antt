use Rattle.std.proofs.Common.{◌≤◌}
use Rattle.registry_copy.specs.Restoring.{set_last}
use Rattle.registry_model.specs.Lookups.{last_number_at}
use Rattle.registry_store.specs.Kept.{both, world_at}
use Rattle.registry_store.proofs.KeeperStates.{asked}
use Rattle.registry_store.proofs.LastNumberKnown.{last_known}
use Rattle.registry_store.proofs.RowCalls.{rows_clean, rows_crash, rows_make, rows_want}
use Rattle.registry_store.proofs.KeeperAnswers.{nothing_once, untouched_holds, writes_once}
use Rattle.registry_store.proofs.restoring.StoreRestore.set_last.Goals as goal

pub invariant_of-self : goal.invariant_of-self
invariant_of-self g c =
    untouched_holds g.S.Store g.C.Contents g.O.Origin.is_ours c.self.inside.conn c.self.inside.contents c.args.self.now c.self.inside.spent c.self.view_is c.self.inside.known c.self.invariant c.if-self.false (c.set_last-answer.new.conn, c.self.inside.contents) (rows_clean g.S.Store g.C.Contents c.self.inside.contents c.self.inside.conn c.set_last-answer.new.conn c.set_last-answer.ensures.survives)
    c.note_fault.result c.set_last-answer.result c.note_fault.new.spent c.note_fault.ensures.same c.note_fault.ensures.noted (λ w. set_last w c.args.repo.now c.args.number)
    (λ ours. rows_make g.S.Store g.C.Contents c.self.inside.contents c.self.inside.conn c.set_last-answer.new.conn c.set_last-answer.result (λ w. last_number_at w c.args.repo.now ≤ c.args.number) (λ w. set_last w c.args.repo.now c.args.number) (c.set_last-answer.ensures.made (g.C.Contents.layout c.self.inside.contents)) (λ _. c.set_last-answer.ensures.places (g.C.Contents.layout c.self.inside.contents)) (asked g.S.Store g.C.Contents c.self.inside.conn c.self.inside.contents c.args.self.now c.self.inside.spent c.self.view_is (λ w. last_number_at w c.args.repo.now ≤ c.args.number) g.O.Origin.is_ours c.if-self.false ours c.requires.rises))
    (λ ours. rows_want g.S.Store g.C.Contents c.self.inside.contents c.self.inside.conn c.set_last-answer.new.conn c.set_last-answer.result (λ w. last_number_at w c.args.repo.now ≤ c.args.number) (λ _. c.set_last-answer.ensures.memory (g.C.Contents.layout c.self.inside.contents)) (asked g.S.Store g.C.Contents c.self.inside.conn c.self.inside.contents c.args.self.now c.self.inside.spent c.self.view_is (λ w. last_number_at w c.args.repo.now ≤ c.args.number) g.O.Origin.is_ours c.if-self.false ours c.requires.rises))
    (last_known c.self.inside.known _ c.args.repo.now c.args.number)

pub returns-then-self : goal.returns-then-self
returns-then-self g c = nothing_once g.S.Store g.C.Contents g.O.Origin.is_ours c.self.inside.conn c.self.inside.contents c.args.self.now c.self.inside.spent c.self.view_is c.if-self.true

pub returns : goal.returns
returns g c =
    writes_once g.S.Store g.C.Contents g.O.Origin.is_ours c.self.inside.conn c.self.inside.contents c.args.self.now c.self.inside.spent c.self.view_is c.self.inside.known c.self.invariant c.if-self.false (c.set_last-answer.new.conn, c.self.inside.contents) (rows_clean g.S.Store g.C.Contents c.self.inside.contents c.self.inside.conn c.set_last-answer.new.conn c.set_last-answer.ensures.survives)
    c.note_fault.result c.set_last-answer.result c.note_fault.new.spent c.note_fault.ensures.same c.note_fault.ensures.noted (λ w. set_last w c.args.repo.now c.args.number)
    (λ ours. rows_make g.S.Store g.C.Contents c.self.inside.contents c.self.inside.conn c.set_last-answer.new.conn c.set_last-answer.result (λ w. last_number_at w c.args.repo.now ≤ c.args.number) (λ w. set_last w c.args.repo.now c.args.number) (c.set_last-answer.ensures.made (g.C.Contents.layout c.self.inside.contents)) (λ _. c.set_last-answer.ensures.places (g.C.Contents.layout c.self.inside.contents)) (asked g.S.Store g.C.Contents c.self.inside.conn c.self.inside.contents c.args.self.now c.self.inside.spent c.self.view_is (λ w. last_number_at w c.args.repo.now ≤ c.args.number) g.O.Origin.is_ours c.if-self.false ours c.requires.rises))
    (λ ours. rows_want g.S.Store g.C.Contents c.self.inside.contents c.self.inside.conn c.set_last-answer.new.conn c.set_last-answer.result (λ w. last_number_at w c.args.repo.now ≤ c.args.number) (λ _. c.set_last-answer.ensures.memory (g.C.Contents.layout c.self.inside.contents)) (asked g.S.Store g.C.Contents c.self.inside.conn c.self.inside.contents c.args.self.now c.self.inside.spent c.self.view_is (λ w. last_number_at w c.args.repo.now ≤ c.args.number) g.O.Origin.is_ours c.if-self.false ours c.requires.rises))
    (λ ours. rows_crash g.S.Store g.C.Contents c.self.inside.contents c.self.inside.conn c.set_last-answer.new.conn c.set_last-answer.result g.C.Contents.lasts g.C.Contents.remembers_spared (λ w. last_number_at w c.args.repo.now ≤ c.args.number) (λ w. set_last w c.args.repo.now c.args.number) (λ l. c.set_last-answer.ensures.crash l) (asked g.S.Store g.C.Contents c.self.inside.conn c.self.inside.contents c.args.self.now c.self.inside.spent c.self.view_is (λ w. last_number_at w c.args.repo.now ≤ c.args.number) g.O.Origin.is_ours c.if-self.false ours c.requires.rises))
