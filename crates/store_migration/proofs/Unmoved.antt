-- Rows of schema 1 of which one is found and goes, while a row of its key comes into a table of schema 2.
use Rattle.std.proofs.Common.{◌≡◌, inr, List, [], ◌∷◌, ◌++◌, Bool, true, false, cond, not, Option, None, Some, refl, sym, ap, ◌∙◌}
use Rattle.std.specs.Prelude.{find, option_map}
use Rattle.std.specs.List.{AllByRecursion}
use Rattle.sqlite.specs.declared.types.Value.TheVariants.{Int}
use Rattle.sqlite.specs.Order.{Row}
use Rattle.store_schema.proofs.Lists.{find_middle}
use Rattle.store_statements.specs.Changes.{without, Comes}
use Rattle.store_migration.specs.Both.{AreUnmoved}

-- the row of which a value was found
pub row_of : {X : Type 0} (value : Row → X) (o : Option Row) (x : X) → option_map value o ≡ Some x → (r : Row) × (o ≡ Some r) × (value r ≡ x)
row_of value None x e = absurd cc
row_of value (Some r) x e = (r, refl, cc)

-- a row that fails a test does not show in what is found by it
pub none_came : (q : Row → Bool) (olds news : List Row) (columns : Row) (c : Comes olds news columns) → q (Int c.id ∷ columns) ≡ false → find q olds ≡ None → find q news ≡ None
none_came q olds news columns c fails none =
    ap (find q) c.puts.news_are ∙ find_middle q (Int c.id ∷ columns) c.puts.before c.puts.after (inr fails)
    ∙ ap (λ b. cond b (Some (Int c.id ∷ columns)) (find q (c.puts.before ++ c.puts.after))) fails ∙ ap (find q) (sym c.puts.olds_are) ∙ none

-- what is left fails the test
pub all_left : (P Q : Row → Type 0) (p : Row → Bool) → ((r : Row) → p r ≡ false → P r → Q r) → (rows : List Row) → AllByRecursion P rows → AllByRecursion Q (without p rows)
all_left P Q p gives [] h = tt
all_left P Q p gives (r ∷ rs) h = step (p r) refl (all_left P Q p gives rs h.1)
  where
    step : (b : Bool) → p r ≡ b → AllByRecursion Q (without p rs) → AllByRecursion Q (cond (not b) (r ∷ without p rs) (without p rs))
    step true e more = more
    step false e more = (gives r e h.0, more)

-- the row of the key goes, and one of the key comes: no other row has the key
pub unmoved_left : (same : Row → Row → Bool) (p : Row → Bool) (olds rows news : List Row) (columns : Row) (c : Comes rows news columns) → ((r : Row) → same r (Int c.id ∷ columns) ≡ p r)
    → AreUnmoved same olds rows → AreUnmoved same (without p olds) news
unmoved_left same p olds rows news columns c keyed h = all_left (λ r. find (same r) rows ≡ None) (λ r. find (same r) news ≡ None) p (λ r e none. none_came (same r) rows news columns c (keyed r ∙ e) none) olds h
