-- The map of the rows that have a name, by the text in their second column, after a row of it came, went or changed.
use Rattle.std.proofs.Common.{◌≡◌, ℤ, List, [], ◌∷◌, ◌++◌, map, Bool, true, false, cond, not, None, Some, refl, ap, ◌∙◌}
use Rattle.std.specs.Prelude.{◌&&◌, bytes_eq, filter, find}
use Rattle.std.specs.FinMap.{FinMap, insert, remove, from_entries}
use Rattle.std.proofs.lemmas.Cmp.{nat_list_cmp_total}
use Rattle.std.proofs.lemmas.Map.Lookups.{exact_bytes}
use Rattle.sqlite.specs.declared.types.Value.TheVariants.{Int}
use Rattle.sqlite.specs.Order.{Row}
use Rattle.sqlite_trees.proofs.ListLemmas.{all-filter, ascending-filter}
use Rattle.oci_types.specs.Text.{Text}
use Rattle.registry_model.specs.World.{text_cmp}
use Rattle.store_schema.specs.Rows.{bytes_at}
use Rattle.store_schema.proofs.Lists.{bytes_eq_itself}
use Rattle.store_statements.specs.Keys.{of_first, of_second, has_key}
use Rattle.store_statements.specs.Changes.{without, changed, Comes}
use Rattle.store_statements.proofs.Found.{find_filter, map_came, map_without, map_changed}
use Rattle.store_statements.proofs.Base.{second_tie}

module _ {X : Type 0} where
  pub filter_append : (p : X → Bool) (xs ys : List X) → filter p (xs ++ ys) ≡ filter p xs ++ filter p ys
  filter_append p [] ys = refl
  filter_append p (x ∷ xs) ys = step (p x) (filter_append p xs ys)
    where
      step : (b : Bool) → filter p (xs ++ ys) ≡ filter p xs ++ filter p ys → cond b (x ∷ filter p (xs ++ ys)) (filter p (xs ++ ys)) ≡ cond b (x ∷ filter p xs) (filter p xs) ++ filter p ys
      step true e = ap (λ l. x ∷ l) e
      step false e = e

  -- of the rows that pass the first test those stay that fail the second
  pub filter_within : (p q : X → Bool) (xs : List X) → filter p (filter (λ x. not (p x && q x)) xs) ≡ filter (λ x. not (q x)) (filter p xs)
  filter_within p q [] = refl
  filter_within p q (x ∷ xs) = step (p x) (q x) refl refl (filter_within p q xs)
    where
      step : (b c : Bool) → p x ≡ b → q x ≡ c → filter p (filter (λ y. not (p y && q y)) xs) ≡ filter (λ y. not (q y)) (filter p xs)
          → filter p (cond (not (b && c)) (x ∷ filter (λ y. not (p y && q y)) xs) (filter (λ y. not (p y && q y)) xs)) ≡ filter (λ y. not (q y)) (cond b (x ∷ filter p xs) (filter p xs))
      step true true e f more = rw (f, more)
      step true false e f more = rw (e, f, more)
      step false c e f more = rw (e, more)

  pub filter_swapped : (p q : X → Bool) (xs : List X) → filter p (filter q xs) ≡ filter q (filter p xs)
  filter_swapped p q [] = refl
  filter_swapped p q (x ∷ xs) = step (p x) (q x) refl refl (filter_swapped p q xs)
    where
      step : (b c : Bool) → p x ≡ b → q x ≡ c → filter p (filter q xs) ≡ filter q (filter p xs) → filter p (cond c (x ∷ filter q xs) (filter q xs)) ≡ filter q (cond b (x ∷ filter p xs) (filter p xs))
      step true true e f more = rw (e, f, more)
      step true false e f more = rw (f, more)
      step false true e f more = rw (e, more)
      step false false e f more = more

  pub changed_within : (p q : X → Bool) (f : X → X) → ((x : X) → p (f x) ≡ p x) → (xs : List X) → filter p (map (λ x. cond (p x && q x) (f x) x) xs) ≡ map (λ x. cond (q x) (f x) x) (filter p xs)
  changed_within p q f keeps [] = refl
  changed_within p q f keeps (x ∷ xs) = step (p x) (q x) refl refl (changed_within p q f keeps xs)
    where
      step : (b c : Bool) → p x ≡ b → q x ≡ c → filter p (map (λ y. cond (p y && q y) (f y) y) xs) ≡ map (λ y. cond (q y) (f y) y) (filter p xs)
          → filter p (cond (b && c) (f x) x ∷ map (λ y. cond (p y && q y) (f y) y) xs) ≡ map (λ y. cond (q y) (f y) y) (cond b (x ∷ filter p xs) (filter p xs))
      step true true e g more = rw (keeps x, e, g, more)
      step true false e g more = rw (e, g, more)
      step false c e g more = rw (e, more)

-- among the rows that pass a test a row came that passes it
unfoldable pub comes_within : (p : Row → Bool) (olds news : List Row) (columns : Row) (c : Comes olds news columns) → p (Int c.id ∷ columns) ≡ true → Comes (filter p olds) (filter p news) columns
comes_within p olds news columns c e = record {
  id = c.id;
  puts = record {
    before = filter p c.puts.before;
    after = filter p c.puts.after;
    olds_are = ap (filter p) c.puts.olds_are ∙ filter_append p c.puts.before c.puts.after;
    news_are = ap (filter p) c.puts.news_are ∙ filter_append p c.puts.before ((Int c.id ∷ columns) ∷ c.puts.after)
        ∙ ap (λ b. filter p c.puts.before ++ cond b ((Int c.id ∷ columns) ∷ filter p c.puts.after) (filter p c.puts.after)) e;
  };
  ids = (ascending-filter _ p news c.ids.0, all-filter _ p news c.ids.1);
}

module _ {X : Type 0} (value : Row → X) where
  abbrev pub named : List Row → Text → FinMap text_cmp X
  named rows name = from_entries {R = text_cmp} (map (λ r. (bytes_at r 2, value r)) (filter (of_first name) rows))

  pub named_came : (olds news : List Row) (name key : Text) (columns : Row) (c : Comes olds news columns) → ((id : ℤ) → bytes_at (Int id ∷ columns) 1 ≡ name) → ((id : ℤ) → bytes_at (Int id ∷ columns) 2 ≡ key) → find (has_key name key) olds ≡ None
      → named news name ≡ insert (named olds name) key (value (Int c.id ∷ columns))
  unfolding comes_within
  named_came olds news name key columns c first second fresh =
      map_came nat_list_cmp_total exact_bytes (λ r. bytes_at r 2) value of_second second_tie key (filter (of_first name) olds) (filter (of_first name) news) columns
      (comes_within (of_first name) olds news columns c (ap (λ n. bytes_eq n name) (first c.id) ∙ bytes_eq_itself name)) second (find_filter (of_first name) (of_second key) olds ∙ fresh)

  pub named_without : (rows : List Row) (name key : Text) → named (without (has_key name key) rows) name ≡ remove (named rows name) key
  named_without rows name key = ap (λ xs. from_entries {R = text_cmp} (map (λ r. (bytes_at r 2, value r)) xs)) (filter_within (of_first name) (of_second key) rows)
      ∙ map_without nat_list_cmp_total exact_bytes (λ r. bytes_at r 2) value of_second second_tie key (filter (of_first name) rows)

  pub named_changed : (rows : List Row) (name key : Text) (f : Row → Row) (v : X) (there : Row) → ((r : Row) → bytes_at (f r) 1 ≡ bytes_at r 1) → ((r : Row) → bytes_at (f r) 2 ≡ bytes_at r 2) → ((r : Row) → value (f r) ≡ v)
      → find (has_key name key) rows ≡ Some there → named (changed (has_key name key) f rows) name ≡ insert (named rows name) key v
  named_changed rows name key f v there first second gives found =
      ap (λ xs. from_entries {R = text_cmp} (map (λ r. (bytes_at r 2, value r)) xs)) (changed_within (of_first name) (of_second key) f (λ r. ap (λ n. bytes_eq n name) (first r)) rows)
      ∙ map_changed nat_list_cmp_total exact_bytes (λ r. bytes_at r 2) value of_second second_tie key f v (filter (of_first name) rows) there (λ q r. ap (λ n. bytes_eq n q) (second r)) gives
      (find_filter (of_first name) (of_second key) rows ∙ found)
