-- What is held beside the world, each under the number of a connection, and what calls say of it.
use Rattle.std.specs.Prelude.{◌≡◌, ◌==◌, ◌-◌, ℕ, false, if◌then◌else◌, min, length, Option, Some, Result, Ok, Err, ⊤}
use Rattle.std.specs.Option.{option_map_or}
use Rattle.std.specs.declared.alloc.AllocError.{AllocError}
use Rattle.sha2.specs.Sha256.{sha256}
use Rattle.oci_types.specs.Text.{Text}
use Rattle.oci_types.specs.declared.fault.Fault.{Fault}
use Rattle.oci_types.specs.declared.fault.Fault.TheVariants.{Memory, Storage}
use Rattle.registry_model.specs.World.{World}
use Rattle.registry_model.specs.Keeping.{Kept, goes_on}
use Rattle.registry_holding.specs.declared.staged.StageSum.{StageSum}

-- under this number there is that, and under the others what there was
abbrev pub put_under : ℕ → Option Text → (ℕ → Option Text) → ℕ → Option Text
put_under key bytes held number = if key == number then bytes else held number

-- the stage, or the pin, becomes that, and nothing else changes
abbrev pub with_stage : Kept → ℕ → Option Text → Kept
with_stage k key bytes =
    record k { held = record { stages = put_under key bytes k.held.stages; pins = k.held.pins } }

abbrev pub with_pin : Kept → ℕ → Option Text → Kept
with_pin k key bytes =
    record k { held = record { stages = k.held.stages; pins = put_under key bytes k.held.pins } }

-- what is known of bytes: how many they are, and their SHA-256
abbrev pub sum_of : Text → StageSum
sum_of t = record { size = length t; sha256 = sha256 t }

-- ---- what calls say

-- what a call asks of a stage: it is there, and this is so of its bytes, where the keeper is honest and not
-- spent
abbrev pub StageIs : Type 0 → Kept → ℕ → (Text → Type 0) → Type 0
StageIs honest k key IsSo = honest → k.spent ≡ false → (t : Text) × (k.held.stages key ≡ Some t) × IsSo t

-- the stage becomes that; where memory is wanting it is whatever it is, and nothing else has changed
abbrev pub Stages : Result (Unit {0}) AllocError → ℕ → Option Text → Kept → Kept → Type 0
Stages (Ok v) key bytes k k' = k' ≡ with_stage k key bytes
Stages (Err e) key bytes k k' = k' ≡ with_stage k key (k'.held.stages key)

-- the world becomes w, and of the stage nothing is known; or memory is wanting
abbrev pub WritesStage : Result (Unit {0}) Fault → ℕ → World → Kept → Kept → Type 0
WritesStage (Ok v) key w k k' = k' ≡ goes_on (with_stage k key (k'.held.stages key)) w
WritesStage (Err Memory) key w k k' = k' ≡ with_stage k key (k'.held.stages key)
WritesStage (Err Storage) key w k k' = ⊤

-- the value is told, and the pin becomes that; where memory is wanting it is whatever it is
abbrev pub Pins : {A : Type 0} → Result A Fault → ℕ → A → Option Text → Kept → Kept → Type 0
Pins (Ok v) key value bytes k k' = (v ≡ value) × (k' ≡ with_pin k key bytes)
Pins (Err Memory) key value bytes k k' = k' ≡ with_pin k key (k'.held.pins key)
Pins (Err Storage) key value bytes k k' = ⊤

-- how many bytes are read from a place on, into this much room
abbrev pub count_from : Option Text → ℕ → ℕ → ℕ
count_from bytes from room = option_map_or (λ t. min room (length t - from)) bytes 0
