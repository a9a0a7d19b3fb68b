use Rattle.std.proofs.Common.{◌≡◌, ◌==◌, true, min, position, length, take, inl, inr, refl, ap, subst, sym, ◌∙◌, arith}
use Rattle.oci_types.specs.Text.{Text}
use Rattle.order_carrying.specs.Answering.{AnswersLine}
use Rattle.order_sockets.specs.Calling.{Called}
use Rattle.order_sockets.proofs.CallingLemmas.{found_line, obeyed_line, obeyed_by}
use Rattle.order_sockets.proofs.caller.Caller.obey.Goals as goal

pub returns-in-Ok : goal.returns-in-Ok
returns-in-Ok g c = record {
  honest = c.answer_to-answer.ensures.honest;
  heard = refl;
  obeys = λ honest.
      let heard = c.args.self.now.heard.items in
      let s = g.K.Keeper.kept c.args.service.now in
      let s' = g.K.Keeper.kept c.answer_to-answer.new.service in
      let within : c.min-end.result ≡ min c.in-Some.end (length heard) = omega (arith, c.min-end.ensures, c.len.ensures, c.args.self.now.heard.ok.0) in
      let line = take c.min-end.result heard in
      let tested : take c.min-end.result c.deref-2.result.now ≡ line = ap (take c.min-end.result) c.deref-2.ensures.value in
      let given : take c.min-end.result c.deref-3.result.now ≡ line = ap (take c.min-end.result) c.deref-3.ensures.value in
      let new : Called = record { heard = heard; answered = true; answer = c.in-Ok.answer.items; over = c.args.self.now.over; stops = c.is_stop-stops.result } in
      obeyed_line _ heard line new s s'
      (found_line heard c.in-Some.end c.min-end.result (c.in-Some.ensures ∙ ap (position (λ byte. byte == 10)) c.deref.ensures.value) within) refl
      (obeyed_by line c.is_stop-stops.result new s s' (λ e. sym tested ∙ c.is_stop-stops.ensures.0 e) (λ e. c.is_stop-stops.ensures.1 (tested ∙ e)) refl
      (λ e. c.in-Ok.ensures.same (given ∙ e)) (λ e. inl (c.in-Ok.ensures.stops (given ∙ e)))
      (λ ne. inl (c.in-Ok.ensures.steps honest, subst (λ (t : Text). AnswersLine s t c.in-Ok.answer.items s') given (c.in-Ok.ensures.answers honest (λ e. ne (sym given ∙ e))))));
}

pub returns-in-Err : goal.returns-in-Err
returns-in-Err g c = record {
  honest = c.answer_to-answer.ensures.honest;
  heard = refl;
  obeys = λ honest.
      let heard = c.args.self.now.heard.items in
      let s = g.K.Keeper.kept c.args.service.now in
      let s' = g.K.Keeper.kept c.answer_to-answer.new.service in
      let within : c.min-end.result ≡ min c.in-Some.end (length heard) = omega (arith, c.min-end.ensures, c.len.ensures, c.args.self.now.heard.ok.0) in
      let line = take c.min-end.result heard in
      let tested : take c.min-end.result c.deref-2.result.now ≡ line = ap (take c.min-end.result) c.deref-2.ensures.value in
      let new : Called = record { heard = heard; answered = true; answer = c.args.self.now.answer.items; over = true; stops = c.is_stop-stops.result } in
      obeyed_line _ heard line new s s'
      (found_line heard c.in-Some.end c.min-end.result (c.in-Some.ensures ∙ ap (position (λ byte. byte == 10)) c.deref.ensures.value) within) refl
      (obeyed_by line c.is_stop-stops.result new s s' (λ e. sym tested ∙ c.is_stop-stops.ensures.0 e) (λ e. c.is_stop-stops.ensures.1 (tested ∙ e)) refl
      (λ e. c.in-Err.ensures.unsaid honest) (λ e. inr refl) (λ ne. inr (c.in-Err.ensures.unsaid honest, refl)));
}
