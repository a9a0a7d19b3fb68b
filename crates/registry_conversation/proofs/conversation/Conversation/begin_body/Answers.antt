use Rattle.std.proofs.Common.{◌≡◌, ◌<◌, [], ◌++◌, length, take, refl, sym, ap, ◌∙◌, subst, le_of_eq, arith}
use Rattle.oci_types.specs.Text.{Text}
use Rattle.registry_model.specs.Keeping.{state_of}
use Rattle.registry_http.specs.Expecting.{IsBefore, continue_if}
use Rattle.registry_conversation.specs.Shown.{Shown, with_going, coming_len, heads}
use Rattle.registry_conversation.specs.ConversationShowing.{shown}
use Rattle.registry_outbox.specs.Outboxes.{left}
use Rattle.registry_conversation.specs.Stepping.{continuing}
use Rattle.registry_conversation.specs.Telling.{Tells}
use Rattle.registry_conversation.proofs.HoldingLemmas.{before_there}
use Rattle.registry_conversation.proofs.SteppingLemmas.{part_ends, leads_ended}
use Rattle.registry_model.proofs.HeldLaws.{held_rests}
use Rattle.registry_conversation.proofs.conversation.Conversation.begin_body.Goals as goal

pub returns-then-not-awaits : goal.returns-then-not-awaits
returns-then-not-awaits g c = record {
  honest = c.go_on.ensures.honest;
  holds = c.go_on.ensures.holds;
  finished = c.go_on.ensures.finished;
  fewer = c.go_on.ensures.fewer;
  leads = c.go_on.ensures.leads;
  acts = λ honest b x.
      let none : continue_if c.args.awaits ≡ [] = ap continue_if c.if-not-awaits.true in
      subst (λ (said : Text). Tells c.args.settings c.go_on.result b said (shown c.args.self.now) (state_of (g.K.Keeper.kept c.args.service.now)) (state_of (g.K.Keeper.kept c.go_on.new.service))
      (shown c.go_on.new.self) c.args.self.now.outbox.report c.go_on.new.self.outbox.report) none
      (c.go_on.ensures.acts honest b (continue_if c.args.awaits) x);
}

pub returns-in-Ok : goal.returns-in-Ok
returns-in-Ok g c = record {
  honest = λ honest. honest;
  holds = λ honest. held_rests (g.K.Keeper.kept c.args.service.now) (g.K.Keeper.kept c.args.service.now) refl;
  finished = refl;
  fewer = le_of_eq refl;
  leads = omega (arith, ap heads c.requires);
  acts = λ honest b x. (
    record {
      first = continue_if c.args.awaits;
      unsaid = refl;
      first_is = λ tail. subst (λ (y : Text). IsBefore c.args.settings (b ++ tail) y) (sym x.3) (before_there c.args.settings x.0 b x.1 tail x.2);
      holds = x;
      put = subst (λ (y : Text). left c.put_continue.new.self ≡ left c.args.self.now.outbox ++ y) (sym (ap continue_if c.if-not-awaits.false)) c.in-Ok.ensures.sends;
      same = refl;
    },
    c.put_continue.ensures.report,
  );
}

pub returns-in-Err : goal.returns-in-Err
returns-in-Err g c = record {
  honest = λ honest. honest;
  holds = λ honest. held_rests (g.K.Keeper.kept c.args.service.now) (g.K.Keeper.kept c.args.service.now) refl;
  finished = ap (λ (k : Shown). k.finished) c.end.ensures.ends;
  fewer = le_of_eq (ap coming_len c.end.ensures.ends);
  leads =
      leads_ended c.end.result _ (shown c.args.self.now) (with_going (shown c.args.self.now) (left c.put_continue.new.self))
      (shown c.end.new.self) c.end.ensures.step c.end.ensures.ends;
  acts = λ honest b x.
      let old = c.args.self.now in
      let sent = subst (λ (y : Text). (c.in-Err.fault.written < length y) × (left c.put_continue.new.self ≡ left old.outbox ++ take c.in-Err.fault.written y))
      (sym (ap continue_if c.if-not-awaits.false)) c.in-Err.ensures.sends in
      part_ends c.args.settings c.end.result _ b [] (shown old).going _ _ (with_going (shown old) (left c.put_continue.new.self)) (shown c.end.new.self) _ _ c.end.ensures.step c.end.ensures.ends (
        continuing (continue_if c.args.awaits) refl (λ tail. subst (λ (y : Text). IsBefore c.args.settings (b ++ tail) y) (sym x.3) (before_there c.args.settings x.0 b x.1 tail x.2))
            sent.0 sent.1 refl,
        c.end.ensures.report ∙ c.put_continue.ensures.report,
      );
}
