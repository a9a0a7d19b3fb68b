-- Rules in their order: the first that fails gives its fault.
use Rattle.std.specs.Prelude.{◌≡◌, Option, Some, None, Result, Ok, Err}
use Rattle.oci_types.specs.declared.manifest_fault.ManifestFault.{ManifestFault}
use Rattle.oci_types.specs.declared.manifest_fault.ManifestFault.TheVariants.{Memory}

infixl 10 ◌>>=◌
abbrev pub ◌>>=◌ : {A B : Type 0} → Result A ManifestFault → (A → Result B ManifestFault)
    → Result B ManifestFault
(Ok x) >>= f = f x
(Err e) >>= f = Err e

-- a rule is kept where its part is found
abbrev pub or_fault : {A : Type 0} → ManifestFault → Option A → Result A ManifestFault
or_fault fault None = Err fault
or_fault fault (Some x) = Ok x

-- What a call returned, seen by view, is what reading gives, unless memory ran out.
abbrev pub Gives : {X Y : Type 0} → (X → Y) → Result X ManifestFault → Result Y ManifestFault → Type 0
Gives view (Ok x) read = read ≡ Ok (view x)
Gives view (Err e) read = ¬ (e ≡ Memory) → read ≡ Err e
