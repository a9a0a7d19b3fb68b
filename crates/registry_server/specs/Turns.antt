-- Whose turn comes when.
use Rattle.std.specs.Prelude.{◌≡◌, ℕ, ◌⊎◌, true, List, [], ◌∷◌, ◌++◌}
use Rattle.registry_model.specs.Keeping.{Kept}
use Rattle.registry_conversation.specs.declared.phase.Step.{Step}
use Rattle.registry_conversation.specs.ConversationEvents.{came, ended, acted, sent}
use Rattle.registry_server.specs.Open.{Slot, Open}
use Rattle.registry_server.specs.Events.{Event, comes, on, goes, unstages, elsewhere, Passes}

-- the connection is open and is to be looked at: nothing is to go out on it, and something came for it, or
-- its last reply has gone out
abbrev pub IsStirred : ℕ → List Slot → Type 0
IsStirred m [] = ⊥
IsStirred m (c ∷ slots) = ((c.number ≡ m) × (c.stirred ≡ true)) ⊎ IsStirred m slots

-- among the events it takes a turn, or is gone
abbrev pub HasTurn : ℕ → List Event → Type 0
HasTurn m [] = ⊥
HasTurn m (on k (acted found) ∷ events) = (k ≡ m) ⊎ HasTurn m events
HasTurn m (on k (came bytes) ∷ events) = HasTurn m events
HasTurn m (on k ended ∷ events) = HasTurn m events
HasTurn m (on k (sent text) ∷ events) = HasTurn m events
HasTurn m (goes k ∷ events) = (k ≡ m) ⊎ HasTurn m events
HasTurn m (comes k ∷ events) = HasTurn m events
HasTurn m (unstages k ∷ events) = HasTurn m events
HasTurn m (elsewhere step outcome ∷ events) = HasTurn m events

-- two turns of the connection n, one after the other but for these events
abbrev pub TurnsTwice : ℕ → List Event → Open → Kept → Open → Kept → Type 0
TurnsTwice n between u s u' s' =
    (first : Step) × (second : Step)
    × Passes (on n (acted first) ∷ between ++ on n (acted second) ∷ []) u s u' s'
