-- Empty files hold nothing yet, whatever is beside them.
use Rattle.std.specs.Prelude.{ℕ, List, []}
use Rattle.std.proofs.Common.{inl, inr}
use Rattle.registry_store.specs.Unwritten as tables
use Rattle.layout_opening.specs.Opening.{WereOursBeside}

pub unknown_was_ours : (file : List ℕ) → WereOursBeside (record { log = []; db = [] }) file
unknown_was_ours file db sound may = elim (tables.unknown_was_ours db sound may) [
  | inl bare ↦ inl bare
  | inr holds ↦ inr (inl holds)
]
