use Rattle.std.proofs.Common.{◌≡◌, ◌⊎◌, false, [], ◌++◌, refl, subst, sym, ap, ◌∙◌, le_of_eq}
use Rattle.oci_types.specs.Text.{Text}
use Rattle.registry_model.specs.Keeping.{state_of}
use Rattle.registry_http.specs.Spelling.{HeadIsCut, HeadIsUnreadable}
use Rattle.registry_conversation.specs.declared.phase.Phase.{Phase}
use Rattle.registry_conversation.specs.Shown.{listens_as}
use Rattle.registry_conversation.specs.Headings.{BeginsAt}
use Rattle.registry_conversation.specs.Telling.{Tells}
use Rattle.registry_conversation.specs.ConversationShowing.{shown}
use Rattle.registry_conversation.proofs.SteppingLemmas.{held_at_head, empty_from, some_from, nothing_came, head_cut, head_never, waited_same, none_left, leads_waited, leads_refused}
use Rattle.registry_model.proofs.HeldLaws.{held_rests}
use Rattle.registry_conversation.proofs.conversation.Conversation.begin.Goals as goal

pub returns-then-none : goal.returns-then-none
returns-then-none g c = record {
  honest = λ honest. honest;
  holds = λ honest. held_rests (g.K.Keeper.kept c.args.service.now) (g.K.Keeper.kept c.args.service.now) refl;
  finished = (waited_same c.wait.result _ (shown c.args.self.now) (shown c.wait.new.self) c.wait.ensures.waits).0;
  fewer = (waited_same c.wait.result _ (shown c.args.self.now) (shown c.wait.new.self) c.wait.ensures.waits).1;
  leads =
      leads_waited c.wait.result _ (shown c.args.self.now) (shown c.args.self.now) (shown c.wait.new.self) c.wait.ensures.waits
      (ap (λ (p : Phase). listens_as p false) c.requires) (le_of_eq refl);
  acts = λ honest b said x.
      let old = shown c.args.self.now in
      nothing_came c.args.settings c.wait.result b said old _ _ _ _ x (held_at_head c.args.settings old b said c.requires x) c.wait.ensures.waits c.wait.ensures.report
      (sym c.behind-unread.ensures ∙ empty_from _ _ c.is_empty-none.ensures c.if-none.true);
}

pub returns-else-none : goal.returns-else-none
returns-else-none g c = record {
  honest = λ honest. honest;
  holds = λ honest. held_rests (g.K.Keeper.kept c.args.service.now) (g.K.Keeper.kept c.args.service.now) refl;
  finished = (waited_same c.wait-else-none.result _ (shown c.args.self.now) (shown c.wait-else-none.new.self) c.wait-else-none.ensures.waits).0;
  fewer = (waited_same c.wait-else-none.result _ (shown c.args.self.now) (shown c.wait-else-none.new.self) c.wait-else-none.ensures.waits).1;
  leads =
      leads_waited c.wait-else-none.result _ (shown c.args.self.now) (shown c.args.self.now) (shown c.wait-else-none.new.self) c.wait-else-none.ensures.waits
      (ap (λ (p : Phase). listens_as p false) c.requires) (le_of_eq refl);
  acts = λ honest b said x.
      let old = shown c.args.self.now in
      head_cut c.args.settings c.wait-else-none.result b said old _ _ _ _ x (held_at_head c.args.settings old b said c.requires x) c.wait-else-none.ensures.waits c.wait-else-none.ensures.report
      (λ none. some_from _ _ c.is_empty-none.ensures c.if-none.false (c.behind-unread.ensures ∙ none))
      (subst (λ (y : Text). (y ≡ []) ⊎ HeadIsCut y) c.behind.ensures c.in-NotYet.ensures);
}

pub returns-in-Never : goal.returns-in-Never
returns-in-Never g c = record {
  honest = λ honest. honest;
  holds = λ honest. held_rests (g.K.Keeper.kept c.args.service.now) (g.K.Keeper.kept c.args.service.now) refl;
  finished = c.refuse.ensures.refuses.finished;
  fewer = none_left (shown c.args.self.now) (shown c.refuse.new.self) c.refuse.ensures.refuses.none_held;
  leads = leads_refused c.refuse.result _ (shown c.args.self.now) (shown c.args.self.now) (shown c.refuse.new.self) c.refuse.ensures.refuses;
  acts = λ honest b said x.
      let old = shown c.args.self.now in
      head_never c.args.settings c.refuse.result b said old _ _ _ _ x (held_at_head c.args.settings old b said c.requires x) c.refuse.ensures.refuses c.refuse.ensures.tells
      (λ tail. subst (λ (y : Text). HeadIsUnreadable (y ++ tail)) c.behind.ensures (c.in-Never.ensures tail));
}

pub returns-in-Whole : goal.returns-in-Whole
returns-in-Whole g c = record {
  honest = c.take_head.ensures.honest;
  holds = c.take_head.ensures.holds;
  finished = c.take_head.ensures.finished;
  fewer = c.take_head.ensures.fewer;
  leads = c.take_head.ensures.leads;
  acts = λ honest b said x.
      let old = shown c.args.self.now in
      let held = held_at_head c.args.settings old b said c.requires x in
      let begins = subst (BeginsAt c.args.settings c.in-Whole.heading) (c.behind.ensures ∙ held.1) c.in-Whole.ensures in
      subst (λ (y : Text). Tells c.args.settings c.take_head.result b y old (state_of (g.K.Keeper.kept c.args.service.now)) (state_of (g.K.Keeper.kept c.take_head.new.service)) (shown c.take_head.new.self)
      c.args.self.now.outbox.report c.take_head.new.self.outbox.report)
      (sym held.2) (c.take_head.ensures.acts honest b begins held.0 held.1);
}
