-- What an opener does between two moments: it opens a registry, has something done over it and closes it; or
-- it takes one over.
use Rattle.std.specs.Prelude.{◌≡◌, ◌∷◌, ◌++◌, ℕ, Bool, false, true, List, [], map, Option, All, IfSome}
use Rattle.std.specs.List.{cons_option}
use Rattle.registry_model.specs.Keeping.{Kept}

-- a registry that was opened: where it lies, as it was opened, and as it was closed
pub record Opening (K : Type 0) : Type 0 where
  pub path : List ℕ
  pub first : K
  pub last : K

-- what is done at one path: a registry is opened there, or it is taken over or that fails
pub data Deed (K : Type 0) : Type 0 where
  opened : Opening K → Deed K
  moved : List ℕ → Bool → Deed K

-- Two moments of an opener: which keepers return what was written, their states, in which states a registry
-- at a path may be found, and what was done up to the one moment and up to the other.
pub record Between (K : Type 0) : Type 1 where
  pub is_honest : K → Type 0
  pub kept : K → Kept
  pub opens : List ℕ → Kept → Type 0
  pub had : List (Deed K) → Type 0
  pub had' : List (Deed K) → Type 0

abbrev pub between : {K : Type 0} → (K → Type 0) → (K → Kept) → (List ℕ → Kept → Type 0)
    → (List (Deed K) → Type 0) → (List (Deed K) → Type 0) → Between K
between {K} is_honest kept opens had had' =
    record { is_honest = is_honest; kept = kept; opens = opens; had = had; had' = had' }

-- nothing was done
abbrev pub Never : {K : Type 0} → Between K → Type 0
Never {K} b = (l : List (Deed K)) → b.had l → b.had' l

-- just these were done, one after the other
abbrev pub Just : {K : Type 0} → Between K → List (Deed K) → Type 0
Just {K} b deeds = (l : List (Deed K)) → b.had l → b.had' (l ++ deeds)

-- the registry at the path was taken over, or where `done` is false that failed, and nothing else was done
abbrev pub TakesOver : {K : Type 0} → Between K → List ℕ → Bool → Type 0
TakesOver {K} b path done = Just b (moved path done ∷ [])

-- The registry at the path was opened, and this was done over it, as far as the storage has returned what was
-- written.
abbrev pub IsOver : {K : Type 0} → Between K → List ℕ → (Kept → Kept → Type 0) → Opening K → Type 0
IsOver {K} b path Says o = (o.path ≡ path) × (b.is_honest o.last → b.opens path (b.kept o.first)
    × ((b.kept o.first).spent ≡ false) × Says (b.kept o.first) (b.kept o.last))

-- one registry was opened, that at the path, and this was done over it; nothing else was done
pub record Once {K : Type 0} (b : Between K) (path : List ℕ) (Says : Kept → Kept → Type 0) : Type 0 where
  pub opening : Opening K
  pub just : Just b (opened opening ∷ [])
  pub is : IsOver b path Says opening

abbrev pub EndsSpent : {K : Type 0} → Between K → Opening K → Type 0
EndsSpent {K} b o = b.is_honest o.last → (b.kept o.last).spent ≡ true

-- The registry at the path was opened some times. Over each opening but the last `Says` was done, and it was
-- closed since its storage had failed; over the last one, if there was any, `Ends`. Nothing else was done.
pub record Spans {K : Type 0} (b : Between K) (path : List ℕ) (Says Ends : Kept → Kept → Type 0)
    : Type 0 where
  pub spent : List (Opening K)
  pub last : Option (Opening K)
  pub just : Just b (map opened (spent ++ cons_option last []))
  pub all_spent : All (EndsSpent b) spent
  pub all_over : All (IsOver b path Says) spent
  pub last_over : IfSome last (IsOver b path Ends)
