use Rattle.std.proofs.Common.{ap, string_bytes, String, Global}
use Rattle.oci_types.specs.Text.{Text}
use Rattle.oci_documents.specs.Shown.{descriptor_shown, descriptors_shown}
use Rattle.oci_documents.proofs.NamedDigests.{all_named}
use Rattle.oci_documents.proofs.body.image_says.Goals as goal

pub returns : goal.returns
returns c =
    let parts = c.into_parts-media_type.result in
    all_named (descriptor_shown c.args.config) (descriptors_shown c.args.layers.items) _ _ _ (string_bytes parts.0) parts.1
    (ap (λ (p : String Global × Text). string_bytes p.0) c.into_parts-media_type.ensures) (ap (λ (p : String Global × Text). p.1) c.into_parts-media_type.ensures)
    c.new-contents.ensures c.in_ok-name.ensures c.in_ok-name_all.ensures
