use Rattle.std.proofs.Common.{◌≡◌, inl, inr, Option, Some, ap, sym, subst, ◌∙◌}
use Rattle.std.specs.Prelude.{IfSome, String, string_bytes}
use Rattle.std.specs.declared.alloc.Global.{Global}
use Rattle.oci_types.specs.Text.{Text}
use Rattle.registry_model.specs.Answer.{answer_of}
use Rattle.registry_model.specs.Ask.{Ask}
use Rattle.registry_model.specs.Doing.{Does}
use Rattle.registry_model.specs.Form.{Form}
use Rattle.registry_model.specs.Heads.{is_head}
use Rattle.registry_model.specs.Keeping.{state_of}
use Rattle.registry_http.specs.Asking.{ask_in, verb_of, path_text, form_if, keys_in, query_in}
use Rattle.registry_outbox.specs.Reports.{endpoint_of, name_of}
use Rattle.registry_service.specs.Bodies.{ask_with}
use Rattle.registry_conversation.proofs.WantingLemmas.{wanting, whole, rests_from}
use Rattle.registry_conversation.proofs.answering.answer.Goals as goal

pub returns-in-Ok : goal.returns-in-Ok
returns-in-Ok g c = record {
  asked = λ h at.
      let target = c.of.ensures ∙ at.target in
      let path = c.in-Ok.ensures.path ∙ ap path_text target in
      let keys = c.in-Ok.ensures.keys ∙ ap (λ (t : Text). keys_in (query_in t)) target in
      let asks = c.request_of-request.ensures.asks h at path keys in
      let asked = c.of-asked in
      record {
        verb = asked.ensures.verb ∙ ap (λ (q : Ask). q.verb) asks;
        endpoint = inl (asked.ensures.endpoint ∙ ap (λ (q : Ask). Some (endpoint_of q.form)) asks);
        repository = subst (λ (f : Form). IfSome asked.result.repository (λ (n : String Global). name_of f ≡ Some (string_bytes n))) (ap (λ (q : Ask). q.form) asks)
            asked.ensures.repository;
      };
  does = λ honest h at t is.
      let target = c.of.ensures ∙ at.target in
      let path = c.in-Ok.ensures.path ∙ ap path_text target in
      let keys = c.in-Ok.ensures.keys ∙ ap (λ (t : Text). keys_in (query_in t)) target in
      subst (λ (q : Ask). Does (state_of (g.K.Keeper.kept c.args.service.now)) (ask_with q t) (answer_of c.handle_with.result) (state_of (g.K.Keeper.kept c.handle_with.new.self)))
      (c.request_of-request.ensures.asks h at path keys) (c.handle_with.ensures.does honest t is);
  holds = c.handle_with.ensures.holds;
  carries = λ other. c.handle_with.ensures.carries (ap is_head c.request_of-request.ensures.verb ∙ other);
  honest = c.handle_with.ensures.honest;
}

pub returns-in-Err : goal.returns-in-Err
returns-in-Err g c = record {
  asked = λ h at. record {
    verb = c.unread-asked.ensures.verb ∙ c.verb.ensures ∙ ap verb_of (c.of-in-Err.ensures ∙ at.method);
    endpoint = inr (c.unread-asked.ensures.endpoint, (c.spent.result, c.unread.ensures));
    repository = subst (λ (o : Option (String Global)). IfSome o (λ (n : String Global). name_of (form_if (path_text h.target)) ≡ Some (string_bytes n))) (sym c.unread-asked.ensures.repository) tt;
  };
  does = λ honest h at t is. wanting (state_of (g.K.Keeper.kept c.args.service.now)) (ask_in c.args.settings h t) (answer_of c.unread.result) c.spent.result c.unread.ensures c.spent.ensures;
  holds = λ honest t is. rests_from (g.B.RequestBody.stage c.args.body) (g.K.Keeper.kept c.args.service.now);
  carries = λ other. whole (answer_of c.unread.result) c.spent.result c.unread.ensures;
  honest = λ honest. honest;
}
