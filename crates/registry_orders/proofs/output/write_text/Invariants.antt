use Rattle.std.proofs.Common.{◌≡◌, ◌++◌}
use Rattle.std.specs.Io.KnownBytes.{Appends}
use Rattle.oci_types.specs.Text.{Text}
use Rattle.registry_orders.proofs.output.write_text.Given as goal

-- what is gone from the rest was appended
abbrev pub invariant-loop : goal.invariant-loop
invariant-loop g l = (done : Text) × (l.fn.text ≡ done ++ l.rest) × Appends (g.W.Write.contents l.fn.out) (g.W.Write.contents l.out) done
