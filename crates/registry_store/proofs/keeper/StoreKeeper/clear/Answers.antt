use Rattle.registry_store.specs.Calls.{IsFreed}
use Rattle.registry_store.proofs.KeeperAnswers.{did_told, nothing_once, untouched_holds, was_settled, writes_once}
use Rattle.registry_store.proofs.keeper.StoreKeeper.clear.Goals as goal

pub invariant_of-self : goal.invariant_of-self
invariant_of-self g c =
    untouched_holds g.S.Store g.C.Contents g.O.Origin.is_ours c.self.inside.conn c.self.inside.contents c.args.self.now c.self.inside.spent c.self.view_is c.self.inside.known c.self.invariant c.if-self.false (c.clear-answer.new.conn, c.clear-answer.new.self) c.clear-answer.ensures.clean
    c.note_fault.result c.clear-answer.result c.note_fault.new.spent c.note_fault.ensures.same c.note_fault.ensures.noted (λ w. w)
    (λ ours. c.clear-answer.ensures.made)
    (λ ours. c.clear-answer.ensures.memory)
    (λ knows. knows)

pub returns-then-self : goal.returns-then-self
returns-then-self g c = record { once = nothing_once g.S.Store g.C.Contents g.O.Origin.is_ours c.self.inside.conn c.self.inside.contents c.args.self.now c.self.inside.spent c.self.view_is c.if-self.true; freed = λ honest. tt }

pub returns : goal.returns
returns g c = record {
  once =
      writes_once g.S.Store g.C.Contents g.O.Origin.is_ours c.self.inside.conn c.self.inside.contents c.args.self.now c.self.inside.spent c.self.view_is c.self.inside.known c.self.invariant c.if-self.false (c.clear-answer.new.conn, c.clear-answer.new.self) c.clear-answer.ensures.clean
      c.note_fault.result c.clear-answer.result c.note_fault.new.spent c.note_fault.ensures.same c.note_fault.ensures.noted (λ w. w)
      (λ ours. c.clear-answer.ensures.made)
      (λ ours. c.clear-answer.ensures.memory)
      (λ ours. c.clear-answer.ensures.crash);
  freed =
      λ honest. did_told g.S.Store g.C.Contents c.self.inside.conn c.self.inside.contents c.args.self.now c.self.inside.spent c.self.view_is (c.clear-answer.new.conn, c.clear-answer.new.self) (IsFreed g.S.Store g.C.Contents) c.note_fault.result c.clear-answer.result c.note_fault.ensures.same
      (c.clear-answer.ensures.freed honest.0 (was_settled g.S.Store g.C.Contents g.O.Origin.is_ours c.self.inside.conn c.self.inside.contents c.args.self.now c.self.inside.spent c.self.view_is c.self.inside.known c.self.invariant c.if-self.false (c.clear-answer.new.conn, c.clear-answer.new.self) c.clear-answer.ensures.clean
      c.note_fault.result c.clear-answer.result c.note_fault.new.spent c.note_fault.ensures.same c.note_fault.ensures.noted honest));
}
