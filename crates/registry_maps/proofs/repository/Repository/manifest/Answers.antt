use Rattle.std.proofs.Common.{◌∙◌, sym, ap, Some}
use Rattle.std.specs.Prelude.{option_map}
use Rattle.oci_types.specs.Text.{Text}
use Rattle.registry_model.specs.Manifests.{kind_in}
use Rattle.registry_model.proofs.TextOrder.{text_total, exact_texts}
use Rattle.registry_maps.proofs.SeenMaps.{at_some, at_none}
use Rattle.registry_maps.proofs.repository.Repository.manifest.Goals as goal

pub returns-in_ok-to_vec-in-Some : goal.returns-in_ok-to_vec-in-Some
returns-in_ok-to_vec-in-Some c =
    (λ i. Some (c.kind.ensures i, c.in_ok-to_vec-in-Some.ensures i))
    ∙ sym (ap (option_map (λ (bytes : Text). (kind_in bytes, bytes))) (at_some text_total exact_texts (λ (t : Text). t) c.args.self.now.manifests c.args.digest.now c.get.result c.in-Some.kept c.in-Some.is c.get.ensures.value))

pub returns-in-None : goal.returns-in-None
returns-in-None c =
    sym (ap (option_map (λ (bytes : Text). (kind_in bytes, bytes))) (at_none text_total exact_texts (λ (t : Text). t) c.args.self.now.manifests c.args.digest.now c.get.result c.in-None.is c.get.ensures.value))
