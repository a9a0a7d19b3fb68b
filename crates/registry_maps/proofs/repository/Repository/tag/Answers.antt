use Rattle.std.proofs.Common.{◌≡◌, ◌∙◌, sym, ap, Some, rules}
use Rattle.oci_types.specs.Text.{Text}
use Rattle.registry_model.proofs.TextOrder.{text_total, exact_texts}
use Rattle.registry_maps.proofs.SeenMaps.{at_some, at_none}
use Rattle.registry_maps.proofs.repository.Repository.tag.Goals as goal

pub returns-in_ok-clone-in-Some : goal.returns-in_ok-clone-in-Some
returns-in_ok-clone-in-Some c =
    let copy : c.in_ok-clone-in-Some.field-0 ≡ c.in-Some.digest.now = search rules in
    ap Some copy
    ∙ sym (at_some text_total exact_texts (λ (t : Text). t) c.args.self.now.tags c.args.tag.now c.get.result c.in-Some.digest c.in-Some.is c.get.ensures.value)

pub returns-in-None : goal.returns-in-None
returns-in-None c =
    sym (at_none text_total exact_texts (λ (t : Text). t) c.args.self.now.tags c.args.tag.now c.get.result c.in-None.is c.get.ensures.value)
