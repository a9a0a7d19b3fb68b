use Rattle.std.proofs.Common.{◌≡◌, ◌++◌, drop}
use Rattle.std.specs.Io.KnownBytes.{Appends}
use Rattle.oci_types.specs.Text.{Text}
use Rattle.registry_orders.specs.Outputs.{text_of_all}
use Rattle.registry_orders.proofs.output.write_texts.Given as goal

-- what was written so far, with the texts that are left, are all texts
abbrev pub invariant-loop-text : goal.invariant-loop-text
invariant-loop-text g l = (done : Text) × (text_of_all l.texts ≡ done ++ text_of_all (drop l.text-index l.texts)) × Appends (g.W.Write.contents l.fn.out) (g.W.Write.contents l.out) done
