-- Rows of further tables: a write to one of the nine tables leaves them, and where there are none, no such
-- table has a row.
use Rattle.std.proofs.Common.{◌≡◌, ◌≢◌, ◌∙◌, ◌==◌, inl, inr, ℕ, zero, suc, List, [], ◌∷◌, ◌++◌, Bool, true, false, true≢false, Some, refl, sym, ap, subst, if◌then◌else◌}
use Rattle.std.specs.Prelude.{slice_get, not, ◌&&◌}
use Rattle.std.specs.List.{AllByRecursion, list_any}
use Rattle.std.proofs.lemmas.Bool.{eq-eqb, or_left, or_right}
use Rattle.sqlite.specs.Order.{Row}
use Rattle.sqlite.specs.Table.{Table}
use Rattle.sqlite.specs.Tree.{Trees}
use Rattle.sqlite_rules.specs.Lists.{Has}
use Rattle.store_statements.specs.Known.{is_beside, refers, rows_beside}

-- a number that stands in a list is found there
among : (nine : List ℕ) (i a x : ℕ) → slice_get nine i ≡ Some a → x ≡ a → list_any (λ n. n == x) nine ≡ true
among [] i a x at e = absurd cc
among (n ∷ ns) zero a x at e = let same : n ≡ a = cc in or_left (n == x) (list_any (λ m. m == x) ns) (eq-eqb n x (same ∙ sym e))
among (n ∷ ns) (suc i) a x at e = or_right (n == x) (list_any (λ m. m == x) ns) (among ns i a x at e)

-- the tree of a further table is none of the nine
pub apart_beside : (nine : List ℕ) (i a : ℕ) (t : Table) → slice_get nine i ≡ Some a → is_beside nine t ≡ true → t.tree ≢ a
apart_beside nine i a t at is e = true≢false (sym (sym (ap (λ b. not b && refers t.references) (among nine i a t.tree at e)) ∙ is))

-- a write to the table of this tree leaves them
pub left_beside : (a b : Trees) (tree : ℕ) (nine : List ℕ) (i : ℕ) → slice_get nine i ≡ Some tree → (ts : List Table) → AllByRecursion (λ (t : Table). t.tree ≢ tree → b t.tree ≡ a t.tree) ts → rows_beside b nine ts ≡ rows_beside a nine ts
left_beside a b tree nine i at [] h = refl
left_beside a b tree nine i at (t ∷ ts) h = λ j. here (is_beside nine t) refl j ++ left_beside a b tree nine i at ts h.1 j
  where
    here : (x : Bool) → is_beside nine t ≡ x → (if x then b t.tree ∷ [] else []) ≡ (if x then a t.tree ∷ [] else [])
    here true is = ap (λ (rows : List Row). rows ∷ []) (h.0 (apart_beside nine i tree t at is))
    here false is = refl

-- where each of them keeps its rows
pub same_beside : (a b : Trees) (nine : List ℕ) (ts : List Table) → AllByRecursion (λ (t : Table). is_beside nine t ≡ true → b t.tree ≡ a t.tree) ts → rows_beside b nine ts ≡ rows_beside a nine ts
same_beside a b nine [] h = refl
same_beside a b nine (t ∷ ts) h = λ j. here (is_beside nine t) refl j ++ same_beside a b nine ts h.1 j
  where
    here : (x : Bool) → is_beside nine t ≡ x → (if x then b t.tree ∷ [] else []) ≡ (if x then a t.tree ∷ [] else [])
    here true is = ap (λ (rows : List Row). rows ∷ []) (h.0 is)
    here false is = refl

abbrev AreEmpty : List (List Row) → Type 0
AreEmpty tables = AllByRecursion (λ (rows : List Row). rows ≡ []) tables

-- where they are empty, each further table is
pub none_beside : (trees : Trees) (nine : List ℕ) (ts : List Table) → AreEmpty (rows_beside trees nine ts) → (t : Table) → Has ts t → is_beside nine t ≡ true → trees t.tree ≡ []
none_beside trees nine [] h t has is = absurd has
none_beside trees nine (u ∷ us) h t (inl same) is =
    let here : is_beside nine u ≡ true = subst (λ (x : Table). is_beside nine x ≡ true) same is in
    ap (λ (x : Table). trees x.tree) same ∙ (subst (λ b. AreEmpty ((if b then trees u.tree ∷ [] else []) ++ rows_beside trees nine us)) here h).0
none_beside trees nine (u ∷ us) h t (inr has) is = none_beside trees nine us (rest (is_beside nine u) h) t has is
  where
    rest : (b : Bool) → AreEmpty ((if b then trees u.tree ∷ [] else []) ++ rows_beside trees nine us) → AreEmpty (rows_beside trees nine us)
    rest true e = e.1
    rest false e = e
