use Rattle.std.proofs.Common.{rules, ◌∙◌, ap, append_assoc, w64}
use Rattle.std.proofs.lemmas.Int.{to_z-of_z}
use Rattle.std.specs.Prelude.{FitsSigned}
use Rattle.std.specs.Fmt.{signed_decimal}
use Rattle.registry_orders.proofs.failure.write_line.Goals as goal

pub returns-in-Err : goal.returns-in-Err
returns-in-Err g c =
    let found = c.in-Err.found in
    let fits : FitsSigned w64 found = search rules in
    let digits = c.format-found.ensures.text ∙ ap signed_decimal (to_z-of_z w64 found fits) in
    rw c.in-Err.ensures (simp append_assoc (rw digits at c.write_texts-in-Err.ensures))
