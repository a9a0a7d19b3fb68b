use Rattle.std.proofs.Common.{◌∙◌, ap, sym}
use Rattle.std.specs.Prelude.{bytes_eq}
use Rattle.std.proofs.lemmas.Map.Text.{is_eq-slice_cmp}
use Rattle.oci_types.proofs.order.TagPartialEq.eq.Goals as goal

-- src/order.rt
pub returns : goal.returns
returns c = c.eq.ensures ∙ ap (λ t. bytes_eq t c.as_str-2.result.now) c.as_str.ensures.text ∙ ap (bytes_eq c.args.self.now) c.as_str-2.ensures.text ∙ sym (is_eq-slice_cmp c.args.self.now c.args.other.now)
