use Rattle.std.proofs.Common.{ap, subst, ◌∙◌, []}
use Rattle.std.specs.Prelude.{unwrap_or}
use Rattle.http.specs.StatusCode.{code_digits, reason_phrase}
use Rattle.oci_types.specs.Text.{Text}
use Rattle.registry_http.specs.Sending.{Carries}
use Rattle.registry_http.proofs.SendingLemmas.{status_bytes}
use Rattle.registry_http.proofs.outgoing.Outgoing.put_status.Goals as goal

pub returns-in-Ok : goal.returns-in-Ok
returns-in-Ok g c = λ held text carried.
    let same = c.in-Ok.ensures.1 in
    subst (λ (x : Text). Carries c.put-in-Ok-4.new.self held (g.W.Write.contents c.put-in-Ok-4.new.writer) x)
    (status_bytes c.args.code _ _ (c.as_bytes.ensures.value ∙ c.as_str.ensures ∙ ap code_digits same)
    (c.as_bytes-in-Ok.ensures.value ∙ c.reason.ensures ∙ ap (λ n. unwrap_or (reason_phrase n) []) same) text)
    (c.put-in-Ok-4.ensures held _ (c.put-in-Ok-3.ensures held _ (c.put-in-Ok-2.ensures held _ (c.put-in-Ok.ensures held _ (c.put.ensures held text carried)))))
