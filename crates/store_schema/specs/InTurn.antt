-- Texts that are executed one after the other, inside a transaction.
use Rattle.std.specs.Prelude.{◌≡◌, ◌⊎◌, ℕ, List, [], ◌∷◌, Ok, Err}
use Rattle.sqlite_trees.specs.declared.store.Store.{Ghosts}
use Rattle.sqlite.specs.declared.error.Error.{Error}
use Rattle.sqlite.specs.State.{ExecutesInside}
use Rattle.sqlite.specs.Held.{Held, state}

module _ {S : Type 0} (g : Ghosts S) where
  -- each of them ran
  abbrev pub RanEach : List (List ℕ) → Held S → Held S → Type 0
  RanEach [] old new = old ≡ new
  RanEach (text ∷ texts) old new =
      (mid : Held S) × (count : ℕ) × ExecutesInside 0 text [] (state g old) (state g mid) (Ok count)
      × RanEach texts mid new

  -- one of them failed, behind those that ran
  abbrev pub FailedAmong : List (List ℕ) → Held S → Held S → Error → Type 0
  FailedAmong [] old new e = ⊥
  FailedAmong (text ∷ texts) old new e =
      ExecutesInside 0 text [] (state g old) (state g new) (Err e)
      ⊎ ((mid : Held S) × (count : ℕ) × ExecutesInside 0 text [] (state g old) (state g mid) (Ok count)
      × FailedAmong texts mid new e)
