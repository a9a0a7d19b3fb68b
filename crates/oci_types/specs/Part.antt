-- Parts of a document: each is found in the form that is asked for, or it is not.
use Rattle.std.specs.Prelude.{◌≡◌, Option, Some, None, Result, Ok, Err}
use Rattle.oci_types.specs.declared.manifest_fault.ManifestFault.{ManifestFault}
use Rattle.oci_types.specs.declared.manifest_fault.ManifestFault.TheVariants.{Memory}

infixl 10 ◌>>=◌
abbrev pub ◌>>=◌ : {A B : Type 0} → Option A → (A → Option B) → Option B
None >>= f = None
(Some x) >>= f = f x

-- What a call returned, seen by view, is the part that is there; where there is none, it named that fault,
-- unless memory ran out.
abbrev pub Finds : {X Y : Type 0} → ManifestFault → (X → Y) → Result X ManifestFault → Option Y → Type 0
Finds fault view (Ok x) part = part ≡ Some (view x)
Finds fault view (Err e) part = ¬ (e ≡ Memory) → (e ≡ fault) × (part ≡ None)
