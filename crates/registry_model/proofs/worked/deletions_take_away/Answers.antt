use Rattle.std.proofs.Common.{◌∙◌, cond, [], ◌∷◌, ap}
use Rattle.std.specs.Prelude.{codes, is_some}
use Rattle.std.specs.Option.{option_and_then}
use Rattle.std.specs.FinMap.{get-remove, get-from_entries}
use Rattle.registry_model.specs.declared.refusal.Refusal.TheVariants.{BlobUnknown, ManifestUnknown}
use Rattle.registry_model.specs.declared.reply.Status.TheVariants.{Accepted}
use Rattle.registry_model.specs.Decision.{refuses, makes}
use Rattle.registry_model.specs.Answer.{bare_answer}
use Rattle.registry_model.specs.Blobs.{without_blob}
use Rattle.registry_model.specs.Manifests.{without_manifest, found_manifest, manifest_of_digest}
use Rattle.registry_model.specs.Operation as op
use Rattle.registry_model.specs.Worked.{abc_digest, holding_abc, two_tags}
use Rattle.registry_model.proofs.TextOrder.{text_total}
use Rattle.registry_model.proofs.WorkedRequests.{in_app, found_abc, tag_goes}
use Rattle.registry_model.proofs.worked.deletions_take_away.Goals as goal

pub returns : goal.returns
returns c = record {
  blob_goes = λ w s. ap (λ o. o.reply) (
      in_app w (holding_abc 1000) s (op.deletes_blob abc_digest) []
      ∙ ap (λ o. cond (is_some o) (makes (bare_answer Accepted) (without_blob (holding_abc 1000) abc_digest)) (refuses BlobUnknown)) (found_abc 1000));
  blob_gone = λ w s. let r = without_blob (holding_abc 1000) abc_digest in ap (λ o. o.reply) (
      in_app w r s (op.deletes_blob abc_digest) []
      ∙ ap (λ o. cond (is_some o) (makes (bare_answer Accepted) (without_blob r abc_digest)) (refuses BlobUnknown)) (get-remove text_total (holding_abc 1000).blobs abc_digest abc_digest));
  manifest_goes = λ w bytes s. ap (λ o. o.reply) (
      in_app w (two_tags bytes) s (op.deletes_manifest abc_digest) []
      ∙ ap (λ o. cond (is_some o) (makes (bare_answer Accepted) (without_manifest (two_tags bytes) abc_digest)) (refuses ManifestUnknown)) (get-from_entries text_total ((abc_digest, bytes) ∷ []) abc_digest));
  manifest_gone = λ w bytes s. let r = without_manifest (two_tags bytes) abc_digest in ap (λ o. o.reply) (
      in_app w r s (op.deletes_manifest abc_digest) []
      ∙ ap (λ o. cond (is_some o) (makes (bare_answer Accepted) (without_manifest r abc_digest)) (refuses ManifestUnknown)) (get-remove text_total (two_tags bytes).manifests abc_digest abc_digest));
  tag_gone = λ w bytes s. let r = without_manifest (two_tags bytes) abc_digest in ap (λ o. o.reply) (
      in_app w r s (op.reads_manifest (codes "v2")) [] ∙ ap (λ o. found_manifest (option_and_then (manifest_of_digest r) o)) (tag_goes bytes));
  no_reference = λ w r s. ap (λ o. o.reply) (in_app w r s (op.reads_manifest (codes "-x")) []);
}
