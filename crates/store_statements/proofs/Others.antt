-- Rows of another repository are not touched by what is done to the rows of one.
use Rattle.std.proofs.Common.{◌≡◌, ℕ, ℤ, List, [], ◌∷◌, ◌++◌, map, Bool, true, false, cond, not, refl, sym, ap, ◌∙◌, true≢false}
use Rattle.std.specs.Prelude.{bytes_eq, filter}
use Rattle.sqlite.specs.declared.types.Value.TheVariants.{Int}
use Rattle.sqlite.specs.Order.{Row}
use Rattle.oci_types.specs.Text.{Text}
use Rattle.store_schema.specs.Rows.{bytes_at}
use Rattle.store_schema.proofs.Lists.{bytes_eq_true, bytes_eq_itself}
use Rattle.store_statements.specs.Keys.{of_first, has_key, of_session}
use Rattle.store_statements.specs.Changes.{without, changed, Comes}
use Rattle.store_statements.proofs.Found.{both_true}

module _ {X : Type 0} where
  -- what passes the one test does not pass the other
  abbrev pub Parts : (X → Bool) → (X → Bool) → Type 0
  Parts p q = (x : X) → q x ≡ true → p x ≡ false

  pub filter_apart : (p q : X → Bool) → Parts p q → (xs : List X) → filter q (filter (λ x. not (p x)) xs) ≡ filter q xs
  filter_apart p q parts [] = refl
  filter_apart p q parts (x ∷ xs) = step (q x) (p x) refl refl (filter_apart p q parts xs)
    where
      step : (b c : Bool) → q x ≡ b → p x ≡ c → filter q (filter (λ y. not (p y)) xs) ≡ filter q xs
          → filter q (cond (not c) (x ∷ filter (λ y. not (p y)) xs) (filter (λ y. not (p y)) xs)) ≡ cond b (x ∷ filter q xs) (filter q xs)
      step true true e f more = absurd (true≢false (sym f ∙ parts x e))
      step true false e f more = rw (e, more)
      step false true e f more = more
      step false false e f more = rw (e, more)

  pub map_apart : (p q : X → Bool) (f : X → X) → Parts p q → ((x : X) → q (f x) ≡ q x) → (xs : List X) → filter q (map (λ x. cond (p x) (f x) x) xs) ≡ filter q xs
  map_apart p q f parts keeps [] = refl
  map_apart p q f parts keeps (x ∷ xs) = step (q x) (p x) refl refl (map_apart p q f parts keeps xs)
    where
      step : (b c : Bool) → q x ≡ b → p x ≡ c → filter q (map (λ y. cond (p y) (f y) y) xs) ≡ filter q xs
          → filter q (cond c (f x) x ∷ map (λ y. cond (p y) (f y) y) xs) ≡ cond b (x ∷ filter q xs) (filter q xs)
      step true true e f more = absurd (true≢false (sym f ∙ parts x e))
      step true false e f more = rw (e, more)
      step false true e g more = ap (λ b. cond b (f x ∷ filter q (map (λ y. cond (p y) (f y) y) xs)) (filter q (map (λ y. cond (p y) (f y) y) xs))) (keeps x ∙ e) ∙ more
      step false false e f more = rw (e, more)

  pub middle_apart : (q : X → Bool) (x : X) (xs ys : List X) → q x ≡ false → filter q (xs ++ x ∷ ys) ≡ filter q (xs ++ ys)
  middle_apart q x [] ys e = ap (λ b. cond b (x ∷ filter q ys) (filter q ys)) e
  middle_apart q x (z ∷ zs) ys e = ap (λ l. cond (q z) (z ∷ l) l) (middle_apart q x zs ys e)

-- ---- names

pub other_first : (name other : Text) → bytes_eq other name ≡ false → Parts (of_first name) (of_first other)
other_first name other apart r e = ap (λ n. bytes_eq n name) (bytes_eq_true _ _ e) ∙ apart

-- a test that asks for the name and for more
abbrev pub Within : Text → (Row → Bool) → Type 0
Within name p = (r : Row) → p r ≡ true → of_first name r ≡ true

pub parts_within : (name other : Text) (p : Row → Bool) → Within name p → bytes_eq other name ≡ false → Parts p (of_first other)
parts_within name other p within apart r e = step (p r) refl
  where
    step : (b : Bool) → p r ≡ b → b ≡ false
    step true h = absurd (true≢false (sym (within r h) ∙ other_first name other apart r e))
    step false h = refl

pub within_itself : (name : Text) → Within name (of_first name)
within_itself name r e = e

pub within_key : (name key : Text) → Within name (has_key name key)
within_key name key r e = (both_true _ _ e).0

pub within_session : (name : Text) (number : ℕ) → Within name (of_session name number)
within_session name number r e = (both_true _ _ e).0

-- ---- the rows of another name

pub others_without : (name other : Text) (p : Row → Bool) (rows : List Row) → Within name p → bytes_eq other name ≡ false → filter (of_first other) (without p rows) ≡ filter (of_first other) rows
others_without name other p rows within apart = filter_apart p (of_first other) (parts_within name other p within apart) rows

-- and of this name none are left
pub none_left : (p : Row → Bool) (rows : List Row) → filter p (without p rows) ≡ []
none_left p [] = refl
none_left p (r ∷ rs) = step (p r) refl (none_left p rs)
  where
    step : (b : Bool) → p r ≡ b → filter p (without p rs) ≡ [] → filter p (cond (not b) (r ∷ without p rs) (without p rs)) ≡ []
    step true e more = more
    step false e more = ap (λ b. cond b (r ∷ filter p (without p rs)) (filter p (without p rs))) e ∙ more

pub others_changed : (name other : Text) (p : Row → Bool) (f : Row → Row) (rows : List Row) → Within name p → ((r : Row) → bytes_at (f r) 1 ≡ bytes_at r 1) → bytes_eq other name ≡ false
    → filter (of_first other) (changed p f rows) ≡ filter (of_first other) rows
others_changed name other p f rows within keeps apart = map_apart p (of_first other) f (parts_within name other p within apart) (λ r. ap (λ n. bytes_eq n other) (keeps r)) rows

-- a row that passes no test
pub filter_came : (q : Row → Bool) (olds news : List Row) (columns : Row) (c : Comes olds news columns) → q (Int c.id ∷ columns) ≡ false → filter q news ≡ filter q olds
filter_came q olds news columns c e = ap (filter q) c.puts.news_are ∙ middle_apart q (Int c.id ∷ columns) c.puts.before c.puts.after e ∙ ap (filter q) (sym c.puts.olds_are)

pub others_came : (name other : Text) (olds news : List Row) (columns : Row) (c : Comes olds news columns) → ((id : ℤ) → bytes_at (Int id ∷ columns) 1 ≡ name) → bytes_eq other name ≡ false
    → filter (of_first other) news ≡ filter (of_first other) olds
others_came name other olds news columns c named apart = filter_came (of_first other) olds news columns c (step (of_first other (Int c.id ∷ columns)) refl)
  where
    step : (b : Bool) → of_first other (Int c.id ∷ columns) ≡ b → b ≡ false
    step true e = absurd (true≢false (sym (ap (λ n. bytes_eq n name) (named c.id) ∙ bytes_eq_itself name) ∙ other_first name other apart (Int c.id ∷ columns) e))
    step false e = refl
