use Rattle.std.proofs.Common.{subst}
use Rattle.std.specs.Prelude.{Option}
use Rattle.oci_types.specs.Text.{Text}
use Rattle.oci_types.specs.Manifest.{shown}
use Rattle.manifest_operations.specs.Saying.{Says}
use Rattle.manifest_operations.specs.Push.{kept_answer}
use Rattle.manifest_operations.proofs.SayingLemmas.{said}
use Rattle.manifest_operations.proofs.PushLemmas.{kept_answers, kept_sent}
use Rattle.manifest_operations.proofs.manifest_push.keep_manifest.Goals as goal

pub returns : goal.returns
returns g c =
    let digest = c.args.digest in
    let subject = (shown c.args.manifest).subject in
    said (kept_answer digest subject) c.keep-kept.result c.kept_reply.result _ _ _ _ _ _
    (subst (λ (o : Option Text). Says (kept_answer digest o) c.keep-kept.result c.kept_reply.result) c.subject_of.ensures c.kept_reply.ensures)
    (kept_answers digest subject) (kept_sent digest subject) c.keep-kept.ensures
