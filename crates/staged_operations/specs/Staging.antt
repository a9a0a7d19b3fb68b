-- What an operation comes to whose body is staged.
use Rattle.std.specs.Prelude.{◌≡◌, ℕ, Result, Some}
use Rattle.oci_types.specs.Text.{Text}
use Rattle.oci_types.specs.declared.fault.Fault.{Fault}
use Rattle.registry_model.specs.declared.reply.Reply.{Reply}
use Rattle.registry_model.specs.World.{Repo}
use Rattle.registry_model.specs.Decision.{Decision}
use Rattle.registry_model.specs.Keeping.{Kept}
use Rattle.registry_model.specs.Lookups.{bytes_or_none}
use Rattle.registry_holding.specs.Holding.{with_stage}
use Rattle.operation_parts.specs.Operating.{Operates}

-- the bytes that are staged under the number; none where there is no stage
abbrev pub staged_in : Kept → ℕ → Text
staged_in k key = bytes_or_none (k.held.stages key)

-- there is a stage
abbrev pub IsStaged : Kept → ℕ → Type 0
IsStaged k key = k.held.stages key ≡ Some (staged_in k key)

-- what was kept before, but for the stage, which is as it is afterwards
abbrev pub from_stage : ℕ → Kept → Kept → Kept
from_stage key k k' = with_stage k key (k'.held.stages key)

-- the outcome of the operation on the bytes that were staged; of the stage nothing is known afterwards, and
-- all else that is held is as it was
abbrev pub OperatesStaged : Result Reply Fault → Text → (Text → Repo → Decision) → ℕ → Kept → Kept → Type 0
OperatesStaged r name act key k k' = Operates r name (act (staged_in k key)) (from_stage key k k') k'
