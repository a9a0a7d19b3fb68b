use Rattle.std.proofs.Common.{◌≡◌, drop}
use Rattle.serde_json.specs.View.{items_view}
use Rattle.oci_types.specs.Member.{all_texts}
use Rattle.oci_documents.proofs.member.are_texts.Given as goal

abbrev pub invariant-loop-item : goal.invariant-loop-item
invariant-loop-item l = all_texts (items_view l.items) ≡ all_texts (items_view (drop l.item-index l.items))
