use Rattle.std.proofs.Common.{List, Option, refl, sym, ap, ◌∙◌, subst, le_of_eq, arith}
use Rattle.oci_types.specs.Text.{Text}
use Rattle.httparse.specs.declared.spans.HeaderSpan.{HeaderSpan}
use Rattle.registry_http.specs.Spelling.{Item}
use Rattle.registry_http.proofs.HeadLemmas.{request_some}
use Rattle.registry_http.proofs.TextPlaces.{behind}
use Rattle.registry_conversation.specs.Headings.{IsTaken}
use Rattle.registry_conversation.specs.Shown.{Shown, with_going, coming_len}
use Rattle.registry_conversation.specs.ConversationShowing.{shown}
use Rattle.registry_outbox.specs.Outboxes.{left}
use Rattle.registry_outbox.specs.declared.report.Report.{Report}
use Rattle.registry_outbox.specs.Reports.{TellsAnswer, Reported}
use Rattle.registry_conversation.proofs.HoldingLemmas.{item_taken, head_there}
use Rattle.registry_conversation.proofs.SteppingLemmas.{answered_first, replied_in_part, part_ends, none_left, leads_refused, leads_answered, leads_ended}
use Rattle.registry_model.proofs.HeldLaws.{held_rests}
use Rattle.registry_conversation.proofs.conversation.Conversation.reply.Goals as goal

pub returns-in_default : goal.returns-in_default
returns-in_default g c = record {
  honest = λ honest. honest;
  holds = λ honest. held_rests (g.K.Keeper.kept c.args.service.now) (g.K.Keeper.kept c.args.service.now) refl;
  finished = c.refuse.ensures.refuses.finished;
  fewer = none_left (shown c.args.self.now) (shown c.refuse.new.self) c.refuse.ensures.refuses.none_held;
  leads = leads_refused c.refuse.result _ (shown c.args.self.now) _ (shown c.refuse.new.self) c.refuse.ensures.refuses;
  acts = λ honest b said w.
      let old = shown c.args.self.now in
      absurd (c.in_default.ensures.none w.head w.body.body (head_there c.args.settings old.taken old.unread b said w));
}

pub returns-in-Ok : goal.returns-in-Ok
returns-in-Ok g c = record {
  honest = c.reply_to.ensures.honest;
  holds = λ honest. c.reply_to.ensures.holds honest _ refl;
  finished = c.close_if.ensures.finished;
  fewer = omega (arith, c.close_if.ensures.rest);
  leads =
      let read = c.in-Some.ensures.found.1 in
      leads_answered (shown c.args.self.now) (shown c.args.self.now) (shown c.close_if.new.self) refl
      (omega (arith, read.within, read.len, request_some c.in-Some.ensures.found.0))
      c.close_if.ensures.rest;
  acts = λ honest b said w.
      let mid = c.args.self.now in
      let found = c.in-Some.ensures.found in
      let v = w in
      let i : Item = record { head = v.head; coded = v.body.coded; body = v.body.body } in
      let read = found.1 in
      let there = subst (λ (y : List HeaderSpan). IsTaken c.before-taken.result.now y c.in-Some.spans i) (sym c.deref.ensures.value)
      (subst (λ (x : Text). IsTaken x c.taken_head.new.room.spans.items c.in-Some.spans i) (sym c.before-taken.ensures)
      (item_taken c.args.settings (shown mid).taken (shown mid).unread b said v c.taken_head.new.room.spans.items c.in-Some.spans found.0 read)) in
      let sent = c.in-Ok.ensures.replies honest i there.at (behind c.before-taken.result.now c.in-Some.spans.len ∙ there.body) in
      let told = subst (λ (q : Option Report). Reported q (shown mid).going (shown c.close_if.new.self).going (λ r. TellsAnswer r i sent.0)) (sym c.close_if.ensures.report)
      (subst (λ (x : Text). Reported c.reply_to.new.outbox.report (shown mid).going x (λ r. TellsAnswer r i sent.0)) (sym c.close_if.ensures.going) sent.3) in
      answered_first c.args.settings _ _ (shown mid).going b said v mid.outbox.report c.close_if.new.self.outbox.report sent.0 _ _ c.in-Ok.closing (shown c.close_if.new.self) sent.1
      (c.close_if.ensures.going ∙ sent.2) (c.in-Ok.ensures.closing i there.at) (c.close_if.ensures.next c.args.settings) told;
}

pub returns-in-Err : goal.returns-in-Err
returns-in-Err g c = record {
  honest = c.reply_to.ensures.honest;
  holds = λ honest. c.reply_to.ensures.holds honest _ refl;
  finished = ap (λ (k : Shown). k.finished) c.end.ensures.ends;
  fewer = le_of_eq (ap coming_len c.end.ensures.ends);
  leads =
      leads_ended c.end.result _ (shown c.args.self.now) (with_going (shown c.args.self.now) (left c.reply_to.new.outbox))
      (shown c.end.new.self) c.end.ensures.step c.end.ensures.ends;
  acts = λ honest b said w.
      let mid = c.args.self.now in
      let found = c.in-Some.ensures.found in
      let v = w in
      let i : Item = record { head = v.head; coded = v.body.coded; body = v.body.body } in
      let read = found.1 in
      let there = subst (λ (y : List HeaderSpan). IsTaken c.before-taken.result.now y c.in-Some.spans i) (sym c.deref.ensures.value)
      (subst (λ (x : Text). IsTaken x c.taken_head.new.room.spans.items c.in-Some.spans i) (sym c.before-taken.ensures)
      (item_taken c.args.settings (shown mid).taken (shown mid).unread b said v c.taken_head.new.room.spans.items c.in-Some.spans found.0 read)) in
      let sent = c.in-Err.ensures.replies honest i there.at (behind c.before-taken.result.now c.in-Some.spans.len ∙ there.body) in
      part_ends c.args.settings c.end.result _ b said (shown mid).going _ _ (with_going (shown mid) (left c.reply_to.new.outbox)) (shown c.end.new.self) mid.outbox.report c.end.new.self.outbox.report c.end.ensures.step c.end.ensures.ends
      (replied_in_part c.args.settings _ _ (shown mid).going b said v mid.outbox.report c.end.new.self.outbox.report _ sent.0 _ _ _ sent.1 sent.2.0 sent.2.1
      (subst (λ (q : Option Report). Reported q (shown mid).going (left c.reply_to.new.outbox) (λ r. TellsAnswer r i sent.0)) (sym c.end.ensures.report) sent.3));
}
