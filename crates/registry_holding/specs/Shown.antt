-- What maps of stages and of contents stand for.
use Rattle.std.specs.Prelude.{ℕ, Vec, option_map, Option, Result, Ok, Err}
use Rattle.std.specs.Ordering.{nat_cmp}
use Rattle.std.specs.BTreeMap.{BTreeMap, get}
use Rattle.std.specs.declared.alloc.Global.{Global}
use Rattle.std.specs.declared.rc.Rc.{Rc}
use Rattle.std.specs.declared.alloc.AllocError.{AllocError}
use Rattle.oci_types.specs.Text.{Text}
use Rattle.oci_types.specs.declared.fault.Fault.{Fault}
use Rattle.oci_types.specs.declared.fault.Fault.TheVariants.{Memory}
use Rattle.registry_model.specs.Keeping.{Kept, Held}

abbrev pub shown : {X : Type 0} → (X → Text) → BTreeMap ℕ X → ℕ → Option Text
shown show m number = option_map show (get nat_cmp m number)

abbrev pub stages_in : BTreeMap ℕ Text → ℕ → Option Text
stages_in m = shown (λ t. t) m

abbrev pub pins_in : BTreeMap ℕ (Rc (Vec ℕ Global) Global) → ℕ → Option Text
pins_in m = shown (λ r. r.value.items) m

abbrev pub held_in : BTreeMap ℕ Text → BTreeMap ℕ (Rc (Vec ℕ Global) Global) → Held
held_in stages pins = record { stages = stages_in stages; pins = pins_in pins }

-- what a keeper keeps, with what such maps hold beside it
abbrev pub holding : BTreeMap ℕ Text → BTreeMap ℕ (Rc (Vec ℕ Global) Global) → Kept → Kept
holding stages pins k = record k { held = held_in stages pins }

abbrev pub or_memory : Result (Unit {0}) AllocError → Result (Unit {0}) Fault
or_memory (Ok v) = Ok v
or_memory (Err e) = Err Memory
