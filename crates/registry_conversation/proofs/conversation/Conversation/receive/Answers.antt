use Rattle.std.proofs.Common.{◌≡◌, ℕ, ◌+◌, ◌≤◌, refl, sym, ap, arith}
use Rattle.registry_conversation.specs.ConversationShowing.{shown}
use Rattle.registry_conversation.specs.Shown.{Shown}
use Rattle.registry_conversation.proofs.SteppingLemmas.{empty_from, none_received, all_received, no_more_held, not_both, lacked}
use Rattle.registry_conversation.proofs.conversation.Conversation.receive.Goals as goal

no_less : (m n : ℕ) → m ≤ m + n
no_less m n = omega arith

emptied : (m n : ℕ) → m ≡ 0 → m ≤ n
emptied m n none = omega (arith, none)

pub returns-then-not-listens : goal.returns-then-not-listens
returns-then-not-listens c = record {
  ignores = λ deaf. refl;
  keeps = λ hears. absurd (not_both _ _ (sym c.listens.ensures) hears c.if-not-listens.true);
  sized = no_less _ _;
}

pub returns-then-none : goal.returns-then-none
returns-then-none c = record {
  ignores = λ deaf. refl;
  keeps = λ hears. none_received (shown c.args.self.now) c.args.bytes.now (empty_from c.args.bytes.now _ c.is_empty-none.ensures c.if-none.true);
  sized = no_less _ _;
}

pub returns-in-Err : goal.returns-in-Err
returns-in-Err c =
    let so_far = c.reads.invariant.kept in
    record {
      ignores = λ deaf. absurd (not_both _ _ c.listens.ensures c.if-not-listens.false deaf);
      keeps = λ hears.
          lacked _ c.args.bytes.now (shown c.args.self.now) _ _ (ap (λ (s : Shown). s.going) so_far.2) (ap (λ (s : Shown). s.finished) so_far.2) c.refuse.ensures.refuses;
      sized = emptied _ _ c.refuse.ensures.refuses.none_held;
    }

pub returns-then-whole : goal.returns-then-whole
returns-then-whole c =
    let so_far = c.reads.invariant.kept in
    let pulls = c.in-Ok.ensures.cases in
    record {
      ignores = λ deaf. absurd (not_both _ _ c.listens.ensures c.if-not-listens.false deaf);
      keeps = λ hears.
          all_received (shown c.args.self.now) _ _ _ _ _ _ _ so_far.0 _ pulls.bytes _ c.args.bytes.now so_far.1 so_far.2 c.read_more.ensures.before pulls.grown pulls.taken
          (empty_from _ _ c.is_empty-whole.ensures c.if-whole.true);
      sized =
          no_more_held _ _ _ _ so_far.0 _ pulls.bytes _ c.args.bytes.now _ _ so_far.1 (ap (λ (s : Shown). s.taken) so_far.2) (ap (λ (s : Shown). s.unread) so_far.2)
          c.read_more.ensures.before pulls.grown pulls.taken;
    }

pub returns : goal.returns
returns c =
    let so_far = c.reads.invariant.kept in
    record {
      ignores = λ deaf. absurd (not_both _ _ c.listens.ensures c.if-not-listens.false deaf);
      keeps = λ hears.
          lacked _ c.args.bytes.now (shown c.args.self.now) _ _ (ap (λ (s : Shown). s.going) so_far.2) (ap (λ (s : Shown). s.finished) so_far.2) c.refuse-2.ensures.refuses;
      sized = emptied _ _ c.refuse-2.ensures.refuses.none_held;
    }
