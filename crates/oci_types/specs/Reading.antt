-- What reading a text as one of the registry's words gives.
use Rattle.std.specs.Prelude.{◌≡◌, Bool, true, false, ◌⊎◌, Result, MatchResult}
use Rattle.oci_types.specs.Text.{Text}
use Rattle.oci_types.specs.declared.fault.NameFault.{NameFault}
use Rattle.oci_types.specs.declared.fault.NameFault.TheVariants.{Memory}

-- The text itself where the test has it, or want of memory there; and else the fault.
abbrev pub ReadsWord : Result Text NameFault → Text → Bool → NameFault → Type 0
ReadsWord result t test fault = MatchResult result
    (λ v. (v ≡ t) × (test ≡ true))
    (λ e. ((e ≡ Memory) × (test ≡ true)) ⊎ ((e ≡ fault) × (test ≡ false)))

-- It gives one where the grammar has the text, and the fault exactly where it has not.
abbrev pub ReadsWordBy : {T : Type 0} → Result T NameFault → Type 0 → NameFault → Type 0
ReadsWordBy result grammar fault = MatchResult result
    (λ _. grammar)
    (λ e. ((e ≡ Memory) × grammar) ⊎ ((e ≡ fault) × ¬ grammar))
