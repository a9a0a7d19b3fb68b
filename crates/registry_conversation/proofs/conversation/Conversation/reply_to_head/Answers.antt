use Rattle.std.proofs.Common.{List, [], ◌++◌, Option, take, refl, sym, ap, ◌∙◌, subst, le_of_eq, arith}
use Rattle.oci_types.specs.Text.{Text}
use Rattle.httparse.specs.declared.spans.HeaderSpan.{HeaderSpan}
use Rattle.registry_http.specs.Spelling.{Item}
use Rattle.registry_http.proofs.HeadLemmas.{request_some}
use Rattle.registry_http.specs.Reading.{IsHeadAt}
use Rattle.registry_conversation.specs.Shown.{Shown, with_going, coming_len}
use Rattle.registry_conversation.specs.ConversationShowing.{shown}
use Rattle.registry_outbox.specs.Outboxes.{left}
use Rattle.registry_outbox.specs.declared.report.Report.{Report}
use Rattle.registry_outbox.specs.Reports.{TellsAnswer, Reported}
use Rattle.registry_conversation.proofs.ApartLemmas.{apart_is, head_alone, head_at}
use Rattle.registry_conversation.proofs.WantingLemmas.{rests_from}
use Rattle.registry_conversation.proofs.SteppingLemmas.{answered_first, replied_in_part, part_ends, none_left, leads_refused, leads_answered, leads_ended}
use Rattle.registry_conversation.proofs.conversation.Conversation.reply_to_head.Goals as goal

pub returns-in_default : goal.returns-in_default
returns-in_default g c = record {
  honest = λ honest. honest;
  holds = λ honest t is. rests_from (g.B.RequestBody.stage c.args.body) (g.K.Keeper.kept c.args.service.now);
  finished = c.refuse.ensures.refuses.finished;
  fewer = none_left (shown c.args.self.now) (shown c.refuse.new.self) c.refuse.ensures.refuses.none_held;
  leads = leads_refused c.refuse.result _ (shown c.args.self.now) _ (shown c.refuse.new.self) c.refuse.ensures.refuses;
  acts = λ honest t b said is body w.
      let old = shown c.args.self.now in
      absurd (c.in_default.ensures.none w.head [] (head_alone c.args.settings old.taken t old.unread b said is w));
}

pub returns-in-Ok : goal.returns-in-Ok
returns-in-Ok g c = record {
  honest = c.reply_to.ensures.honest;
  holds = c.reply_to.ensures.holds;
  finished = c.close_if.ensures.finished;
  fewer = omega (arith, c.close_if.ensures.rest);
  leads =
      let read = c.in-Some.ensures.found.1 in
      leads_answered (shown c.args.self.now) (shown c.args.self.now) (shown c.close_if.new.self) refl
      (omega (arith, read.within, read.len, request_some c.in-Some.ensures.found.0))
      c.close_if.ensures.rest;
  acts = λ honest t b said is body w.
      let mid = c.args.self.now in
      let found = c.in-Some.ensures.found in
      let v = w in
      let i : Item = record { head = v.head; coded = v.body.coded; body = v.body.body } in
      let read = found.1 in
      let there = subst (λ (x : Text). IsHeadAt (take c.in-Some.spans.len x) (take c.in-Some.spans.headers c.deref.result.now) c.in-Some.spans w.head) (sym c.before-taken.ensures)
      (subst (λ (y : List HeaderSpan). IsHeadAt (take c.in-Some.spans.len (shown mid).taken) (take c.in-Some.spans.headers y) c.in-Some.spans w.head) (sym c.deref.ensures.value)
      (head_at c.args.settings (shown mid).taken t (shown mid).unread b said is w c.taken_head.new.room.spans.items c.in-Some.spans found.0 read)) in
      let whole = subst (λ (x : Text). g.B.RequestBody.is_body c.args.body (g.K.Keeper.kept c.args.service.now) x) (apart_is c.args.settings (shown mid).taken t (shown mid).unread b said is w) body in
      let sent = c.in-Ok.ensures.replies honest i there whole in
      let told = subst (λ (q : Option Report). Reported q (shown mid).going (shown c.close_if.new.self).going (λ r. TellsAnswer r i sent.0)) (sym c.close_if.ensures.report)
      (subst (λ (x : Text). Reported c.reply_to.new.outbox.report (shown mid).going x (λ r. TellsAnswer r i sent.0)) (sym c.close_if.ensures.going) sent.3) in
      answered_first c.args.settings ((shown mid).taken ++ t) _ (shown mid).going b said v mid.outbox.report c.close_if.new.self.outbox.report sent.0 _ _ c.in-Ok.closing (shown c.close_if.new.self) sent.1
      (c.close_if.ensures.going ∙ sent.2) (c.in-Ok.ensures.closing i there) (c.close_if.ensures.next c.args.settings) told;
}

pub returns-in-Err : goal.returns-in-Err
returns-in-Err g c = record {
  honest = c.reply_to.ensures.honest;
  holds = c.reply_to.ensures.holds;
  finished = ap (λ (k : Shown). k.finished) c.end.ensures.ends;
  fewer = le_of_eq (ap coming_len c.end.ensures.ends);
  leads =
      leads_ended c.end.result _ (shown c.args.self.now) (with_going (shown c.args.self.now) (left c.reply_to.new.outbox))
      (shown c.end.new.self) c.end.ensures.step c.end.ensures.ends;
  acts = λ honest t b said is body w.
      let mid = c.args.self.now in
      let found = c.in-Some.ensures.found in
      let v = w in
      let i : Item = record { head = v.head; coded = v.body.coded; body = v.body.body } in
      let read = found.1 in
      let there = subst (λ (x : Text). IsHeadAt (take c.in-Some.spans.len x) (take c.in-Some.spans.headers c.deref.result.now) c.in-Some.spans w.head) (sym c.before-taken.ensures)
      (subst (λ (y : List HeaderSpan). IsHeadAt (take c.in-Some.spans.len (shown mid).taken) (take c.in-Some.spans.headers y) c.in-Some.spans w.head) (sym c.deref.ensures.value)
      (head_at c.args.settings (shown mid).taken t (shown mid).unread b said is w c.taken_head.new.room.spans.items c.in-Some.spans found.0 read)) in
      let whole = subst (λ (x : Text). g.B.RequestBody.is_body c.args.body (g.K.Keeper.kept c.args.service.now) x) (apart_is c.args.settings (shown mid).taken t (shown mid).unread b said is w) body in
      let sent = c.in-Err.ensures.replies honest i there whole in
      part_ends c.args.settings c.end.result _ b said (shown mid).going _ _ (with_going (shown mid) (left c.reply_to.new.outbox)) (shown c.end.new.self) mid.outbox.report c.end.new.self.outbox.report c.end.ensures.step c.end.ensures.ends
      (replied_in_part c.args.settings ((shown mid).taken ++ t) _ (shown mid).going b said v mid.outbox.report c.end.new.self.outbox.report _ sent.0 _ _ _ sent.1 sent.2.0 sent.2.1
      (subst (λ (q : Option Report). Reported q (shown mid).going (left c.reply_to.new.outbox) (λ r. TellsAnswer r i sent.0)) (sym c.end.ensures.report) sent.3));
}
