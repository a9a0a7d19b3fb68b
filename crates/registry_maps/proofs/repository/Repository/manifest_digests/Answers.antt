use Rattle.oci_types.specs.Text.{Text}
use Rattle.registry_model.proofs.TextOrder.{text_total, exact_texts}
use Rattle.registry_maps.proofs.SeenMaps.{keys_copied}
use Rattle.registry_maps.proofs.repository.Repository.manifest_digests.Goals as goal

pub returns : goal.returns
returns c =
    keys_copied text_total exact_texts (λ (t : Text). t) c.args.self.now.manifests c.digests_of.result c.digests_of.ensures.ordered c.digests_of.ensures.found
