use Rattle.std.proofs.Common.{◌∙◌, None, ap}
use Rattle.std.specs.Prelude.{codes, replicate}
use Rattle.oci_types.specs.Manifest.{manifest_in}
use Rattle.registry_model.specs.Manifests.{push_read}
use Rattle.registry_model.specs.Operation as op
use Rattle.registry_model.specs.Worked.{app, abc_digest, md5_digest}
use Rattle.registry_model.proofs.WorkedRequests.{in_app, unequal}
use Rattle.registry_model.proofs.worked.manifests_are_pushed_by_reference.Goals as goal

pub returns : goal.returns
returns c = record {
  no_tag = λ w r body s. ap (λ o. o.reply) (in_app w r s (op.pushes_manifest (codes "-x") None) body);
  long_tag = λ w r body s. ap (λ o. o.reply) (in_app w r s (op.pushes_manifest (replicate 129 97) None) body);
  unverified = λ w r s. ap (λ o. o.reply) (in_app w r s (op.pushes_manifest md5_digest None) (codes "{}"));
  other = λ w r s differs. ap (λ o. o.reply) (
      in_app w r s (op.pushes_manifest abc_digest None) (codes "{}") ∙ unequal abc_digest (codes "{}") (push_read r app abc_digest None (codes "{}") (manifest_in (codes "{}"))) differs);
}
