-- What takes a text, piece by piece.
use Rattle.std.specs.Prelude.{◌≡◌, ◌++◌, Result, Ok, Err}
use Rattle.oci_types.specs.Text.{Text}
use Rattle.oci_types.specs.declared.fault.Fault.{Fault}
use Rattle.oci_types.specs.declared.fault.Fault.TheVariants.{Memory}

-- The piece was taken behind what had been taken, or memory was wanting.
abbrev pub Takes : {S : Type 0} → (S → Text → Type 0) → Result (Unit {0}) Fault → S → S → Text → Type 0
Takes took (Ok done) old new piece = (before : Text) → took old before → took new (before ++ piece)
Takes took (Err fault) old new piece = fault ≡ Memory
