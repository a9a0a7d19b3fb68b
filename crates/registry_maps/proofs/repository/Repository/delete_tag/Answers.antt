use Rattle.std.proofs.Common.{ap}
use Rattle.oci_types.specs.Text.{Text}
use Rattle.registry_maps.specs.Maps.{repo_of}
use Rattle.registry_model.proofs.TextOrder.{text_total, exact_texts}
use Rattle.registry_maps.proofs.SeenMaps.{seen_removed}
use Rattle.registry_maps.proofs.repository.Repository.delete_tag.Goals as goal

pub returns : goal.returns
returns c =
    let r = c.args.self.now in
    ap (λ x. record (repo_of r) { tags = x }) (seen_removed text_total exact_texts (λ (t : Text). t) c.args.tag.now r.tags c.remove.new.self c.remove.ensures.updates)
