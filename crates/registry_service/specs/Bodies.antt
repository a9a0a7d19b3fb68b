-- Requests whose body is told apart from them, and what is kept beside it.
use Rattle.std.specs.Prelude.{◌≡◌, ℕ, false, Option, Some, None}
use Rattle.oci_types.specs.Text.{Text}
use Rattle.registry_model.specs.Ask.{Ask}
use Rattle.registry_model.specs.Keeping.{Kept, Held}
use Rattle.registry_holding.specs.Holding.{put_under}

-- the request, with this body
abbrev pub ask_with : Ask → Text → Ask
ask_with q body = record q { body = body }

-- these bytes are staged under the number, where the storage has not failed
abbrev pub StageIs : Kept → ℕ → Text → Type 0
StageIs k key t = k.spent ≡ false → k.held.stages key ≡ Some t

-- what was held before, but for a stage, which is as it is afterwards
abbrev pub held_from : Option ℕ → Held → Held → Held
held_from None held held' = held
held_from (Some key) held held' =
    record { stages = put_under key (held'.stages key) held.stages; pins = held.pins }

-- what was kept before, but for that stage
abbrev pub from_body : Option ℕ → Kept → Kept → Kept
from_body stage k k' = record k { held = held_from stage k.held k'.held }
