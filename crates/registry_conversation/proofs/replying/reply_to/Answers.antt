use Rattle.std.specs.Prelude.{IfOk, IfSome, String, string_bytes}
use Rattle.std.specs.declared.alloc.Global.{Global}
use Rattle.std.proofs.Common.{Bool, ◌≡◌, ◌-◌, Option, Some, inr, length, ap, refl, sym, subst, ◌∙◌}
use Rattle.oci_types.specs.Text.{Text}
use Rattle.registry_model.specs.Answer.{answer_of}
use Rattle.registry_model.specs.Heads.{is_head}
use Rattle.registry_model.specs.Keeping.{state_of}
use Rattle.registry_http.specs.Asking.{ask_in, verb_of, path_text, form_if}
use Rattle.registry_http.specs.ReplyText.{reply_text}
use Rattle.registry_http.specs.Sending.{SendsReply}
use Rattle.registry_http.specs.Serving.{reply_for}
use Rattle.registry_outbox.specs.Outboxes.{left}
use Rattle.registry_outbox.specs.Reports.{name_of, failure_of}
use Rattle.registry_conversation.proofs.HoldingLemmas.{closes_at}
use Rattle.registry_outbox.proofs.ReportLemmas.{reported}
use Rattle.registry_conversation.proofs.WantingLemmas.{wanting, rests_from}
use Rattle.registry_conversation.proofs.replying.reply_to.Goals as goal

pub returns-in-Err-clause-closing : goal.returns-in-Err-clause-closing
returns-in-Err-clause-closing g c = λ i at.
    subst (λ (f : Bool). IfOk c.told.result (λ (told : Bool). told ≡ f)) (c.closes-closing.ensures ∙ closes_at _ _ c.args.spans.now i at)
    c.told.ensures.told

pub returns-in-Err-clause-replies : goal.returns-in-Err-clause-replies
returns-in-Err-clause-replies g c = λ honest i at is.
    let answer = failure_of c.spent-spent.result in
    let old = Some (left c.args.outbox.now) in
    let new = Some (left c.put_failure-written.new.self) in
    let closing = c.closes-closing.ensures ∙ closes_at _ _ c.args.spans.now i at in
    let flag = is_head (verb_of i.head.method) in
    let mid = subst (λ (x : Text). SendsReply c.put_failure-written.result (Some x) new (reply_text flag c.closes-closing.result answer)) c.make_room.ensures (c.put_failure-written.ensures flag) in
    let sent = subst (λ (f : Bool). SendsReply c.put_failure-written.result old new (reply_text flag f answer)) closing mid in (
      answer,
      wanting (state_of (g.K.Keeper.kept c.args.service.now)) (ask_in c.args.settings i.head i.body) answer c.spent-spent.result refl c.spent-spent.ensures,
      c.told.ensures.sends old (Some (left c.tell.new.self)) (reply_for i answer) (subst (λ (x : Text). SendsReply c.put_failure-written.result old (Some x) (reply_for i answer)) (sym c.tell.ensures.same) sent),
      reported c.tell.new.self.report (left c.args.outbox.now) (left c.put_failure-written.new.self) (left c.tell.new.self) (reply_for i answer) c.put_failure-written.result c.len-before.result
          (record {
            status = c.failure_code.result;
            asked = Some c.unread-asked.result;
            came = c.size-came.result;
            went = length (left c.put_failure-written.new.self) - c.len-before.result;
          })
          i answer c.tell.ensures.told refl c.len-before.ensures c.tell.ensures.same sent
          (record {
            status = c.failure_code.ensures;
            asked = c.unread-asked.result;
            asked_is = refl;
            asks = record {
              verb = c.unread-asked.ensures.verb ∙ c.verb.ensures ∙ ap verb_of (c.of.ensures ∙ at.method);
              endpoint = inr (c.unread-asked.ensures.endpoint, (c.spent-spent.result, refl));
              repository = subst (λ (o : Option (String Global)). IfSome o (λ (n : String Global). name_of (form_if (path_text i.head.target)) ≡ Some (string_bytes n)))
                  (sym c.unread-asked.ensures.repository) tt;
            };
            came = c.size-came.ensures (g.K.Keeper.kept c.args.service.now) i.body is;
          }),
    )

pub returns-in-Err-clause-holds : goal.returns-in-Err-clause-holds
returns-in-Err-clause-holds g c = λ honest t is. rests_from (g.B.RequestBody.stage c.args.body) (g.K.Keeper.kept c.args.service.now)

pub returns-clause-closing : goal.returns-clause-closing
returns-clause-closing g c = λ i at.
    subst (λ (f : Bool). IfOk c.told-2.result (λ (told : Bool). told ≡ f)) (c.closes-closing.ensures ∙ closes_at _ _ c.args.spans.now i at)
    c.told-2.ensures.told

pub returns-clause-replies : goal.returns-clause-replies
returns-clause-replies g c = λ honest i at is.
    let spans = c.args.spans.now in
    let flag = c.is_head.ensures ∙ ap (λ (m : Text). is_head (verb_of m)) (c.of-2.ensures ∙ at.method) in
    let answer = answer_of c.answer-reply.result.0 in
    let old = Some (left c.args.outbox.now) in
    let new = Some (left c.put_reply-written.new.self) in
    let text : reply_text c.is_head.result c.closes-closing.result answer ≡ reply_for i answer =
    ap (λ (f : Bool). reply_text f c.closes-closing.result answer) flag
    ∙ ap (λ (f : Bool). reply_text (is_head (verb_of i.head.method)) f answer) (c.closes-closing.ensures ∙ closes_at _ _ spans i at) in
    let sent = subst (λ (x : Text). SendsReply c.put_reply-written.result (Some x) new (reply_text c.is_head.result c.closes-closing.result answer)) c.make_room.ensures
    c.put_reply-written.ensures in (
      answer,
      c.answer-reply.ensures.does honest i.head at i.body is,
      c.told-2.ensures.sends old (Some (left c.tell-2.new.self)) (reply_for i answer)
          (subst (λ (x : Text). SendsReply c.put_reply-written.result old (Some x) (reply_for i answer)) (sym c.tell-2.ensures.same) (subst (λ (t : Text). SendsReply c.put_reply-written.result old new t) text sent)),
      reported c.tell-2.new.self.report (left c.args.outbox.now) (left c.put_reply-written.new.self) (left c.tell-2.new.self) (reply_for i answer) c.put_reply-written.result c.len-before.result
          (record {
            status = c.code-status.result;
            asked = Some c.answer-reply.result.1;
            came = c.size-came.result;
            went = length (left c.put_reply-written.new.self) - c.len-before.result;
          })
          i answer c.tell-2.ensures.told refl c.len-before.ensures c.tell-2.ensures.same (subst (λ (t : Text). SendsReply c.put_reply-written.result old new t) text sent)
          (record {
            status = c.code-status.ensures;
            asked = c.answer-reply.result.1;
            asked_is = refl;
            asks = c.answer-reply.ensures.asked i.head at;
            came = c.size-came.ensures (g.K.Keeper.kept c.args.service.now) i.body is;
          }),
    )

pub returns-clause-holds : goal.returns-clause-holds
returns-clause-holds g c = c.answer-reply.ensures.holds
