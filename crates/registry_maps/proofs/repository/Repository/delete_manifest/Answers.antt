use Rattle.std.proofs.Common.{not}
use Rattle.std.specs.Prelude.{bytes_eq}
use Rattle.std.proofs.lemmas.Map.Made.{filter_same_pairs}
use Rattle.std.proofs.Common.{rules}
use Rattle.oci_types.specs.Text.{Text}
use Rattle.registry_maps.specs.Maps.{repo_of}
use Rattle.registry_model.proofs.TextOrder.{text_total, exact_texts}
use Rattle.registry_maps.proofs.SeenMaps.{seen_removed}
use Rattle.registry_maps.proofs.SeenRepositories.{untagged}
use Rattle.registry_maps.proofs.repository.Repository.delete_manifest.Goals as goal

pub returns : goal.returns
returns c =
    let r = c.args.self.now in
    let digest = c.args.digest.now in
    let kept = filter_same_pairs _ (λ (e : Text × Text). not (bytes_eq e.1 digest)) _ (λ k v b w f' t. search rules) r.tags.entries c.retain.new.self.entries c.retain.ensures.filtered in
    λ i. record (repo_of r) {
      manifests = seen_removed text_total exact_texts (λ (t : Text). t) digest r.manifests c.remove.new.self c.remove.ensures.updates i;
      tags = untagged r.tags c.retain.new.self.entries digest c.retain.ensures.was_ordered kept i;
    }
