-- What is found in lists of rows: after rows went, changed or came, and in the map that the rows make.
use Rattle.std.proofs.Common.{◌≡◌, ◌⊎◌, inl, inr, ℕ, ℤ, List, [], ◌∷◌, ◌++◌, map, Bool, true, false, cond, None, Some, refl, sym, ap, ◌∙◌, true≢false, Ordering, subst}
use Rattle.std.specs.Prelude.{◌&&◌, ◌==◌, bytes_eq, filter, find, Option, option_map, is_some}
use Rattle.std.specs.List.{AllByRecursion}
use Rattle.std.specs.Ordering.{eq_by_cmp, nat_cmp}
use Rattle.std.specs.Cmp.{IsTotalOrder, unsigned_tied}
use Rattle.std.specs.FinMap as finite
use Rattle.std.specs.FinMap.{FinMap, get, insert, remove, from_entries, get-insert, get-remove, get-from_entries, same_map}
use Rattle.std.proofs.lemmas.Cmp.{nat_cmp_total, eq_by_cmp_equiv}
use Rattle.std.proofs.lemmas.Map.Lookups.{CmpEqualImpliesEq, exact_unsigned}
use Rattle.std.proofs.lemmas.Map.Text.{is_eq-slice_cmp}
use Rattle.sqlite.specs.declared.types.Value.TheVariants.{Int}
use Rattle.sqlite.specs.Order.{Row}
use Rattle.sqlite_rules.proofs.ListLemmas.{has_found}
use Rattle.registry_model.specs.World.{text_cmp}
use Rattle.store_schema.specs.Rows.{bytes_at, natural_at}
use Rattle.store_schema.proofs.Lists.{bytes_eq_true, bytes_eq-sym, find_middle, find_left, mapped, mapped_none}
use Rattle.store_schema.proofs.Ids.{is_eq_equal}
use Rattle.store_statements.specs.Keys.{of_first, has_key, of_session}
use Rattle.store_statements.specs.Changes.{without, changed, Comes}

-- ---- tests

pub both_true : (a b : Bool) → a && b ≡ true → (a ≡ true) × (b ≡ true)
both_true true b e = (refl, e)
both_true false b e = absurd (true≢false (sym e))

pub equal_true : (a b : ℕ) → (a == b) ≡ true → a ≡ b
equal_true a b e = exact_unsigned a b (is_eq_equal _ (unsigned_tied a b ∙ e))

pub equal_itself : (a : ℕ) → (a == a) ≡ true
equal_itself a = sym (unsigned_tied a a) ∙ (eq_by_cmp_equiv nat_cmp_total).refl a

pub has_first : (name : List ℕ) (r : Row) → of_first name r ≡ true → bytes_at r 1 ≡ name
has_first name r e = bytes_eq_true _ _ e

pub is_key : (a b : List ℕ) (r : Row) → has_key a b r ≡ true → (bytes_at r 1 ≡ a) × (bytes_at r 2 ≡ b)
is_key a b r e = let both = both_true _ _ e in (bytes_eq_true _ _ both.0, bytes_eq_true _ _ both.1)

pub is_session : (name : List ℕ) (number : ℕ) (r : Row) → of_session name number r ≡ true → (bytes_at r 1 ≡ name) × (natural_at r 2 ≡ number)
is_session name number r e = let both = both_true _ _ e in (bytes_eq_true _ _ both.0, equal_true _ _ both.1)

-- ---- what is found passes

module _ {X : Type 0} where
  pub found_passes : (p : X → Bool) (xs : List X) (x : X) → find p xs ≡ Some x → p x ≡ true
  found_passes p xs x e = (has_found p xs x e).1

  pub found_all : (P : X → Type 0) (p : X → Bool) (xs : List X) (x : X) → AllByRecursion P xs → find p xs ≡ Some x → P x
  found_all P p [] x h e = absurd (true≢false (sym (ap is_some e)))
  found_all P p (y ∷ ys) x h e = step (p y) e (found_all P p ys x h.1)
    where
      step : (b : Bool) → cond b (Some y) (find p ys) ≡ Some x → (find p ys ≡ Some x → P x) → P x
      step true e more = let same : y ≡ x = cc in subst P same h.0
      step false e more = more e

  -- of the rows that pass the first test
  pub find_filter : (p q : X → Bool) (xs : List X) → find q (filter p xs) ≡ find (λ x. p x && q x) xs
  find_filter p q [] = refl
  find_filter p q (x ∷ xs) = step (p x) (find_filter p q xs)
    where
      step : (b : Bool) → find q (filter p xs) ≡ find (λ y. p y && q y) xs → find q (cond b (x ∷ filter p xs) (filter p xs)) ≡ cond (b && q x) (Some x) (find (λ y. p y && q y) xs)
      step true e = ap (cond (q x) (Some x)) e
      step false e = e

  -- of rows that changed, where the test sees none of it
  pub find_map : (p : X → Bool) (f : X → X) → ((x : X) → p (f x) ≡ p x) → (xs : List X) → find p (map f xs) ≡ option_map f (find p xs)
  find_map p f keeps [] = refl
  find_map p f keeps (x ∷ xs) = ap (λ b. cond b (Some (f x)) (find p (map f xs))) (keeps x) ∙ ap (cond (p x) (Some (f x))) (find_map p f keeps xs) ∙ sym (mapped f (p x) x (find p xs))

  pub filter_map : (p : X → Bool) (f : X → X) → ((x : X) → p (f x) ≡ p x) → (xs : List X) → filter p (map f xs) ≡ map f (filter p xs)
  filter_map p f keeps [] = refl
  filter_map p f keeps (x ∷ xs) = ap (λ b. cond b (f x ∷ filter p (map f xs)) (filter p (map f xs))) (keeps x) ∙ step (p x) (filter_map p f keeps xs)
    where
      step : (b : Bool) → filter p (map f xs) ≡ map f (filter p xs) → cond b (f x ∷ filter p (map f xs)) (filter p (map f xs)) ≡ map f (cond b (x ∷ filter p xs) (filter p xs))
      step true e = ap (λ l. f x ∷ l) e
      step false e = e

  -- two tests that agree find the same
  pub find_alike : (p q : X → Bool) → ((x : X) → p x ≡ q x) → (xs : List X) → find p xs ≡ find q xs
  find_alike p q same [] = refl
  find_alike p q same (x ∷ xs) = ap (λ b. cond b (Some x) (find p xs)) (same x) ∙ ap (cond (q x) (Some x)) (find_alike p q same xs)

-- two values of what is found agree where they agree on each row that passes
pub found_alike : {X Y : Type 0} (f g : X → Y) (p : X → Bool) (o : Option X) → ((x : X) → o ≡ Some x → f x ≡ g x) → option_map f o ≡ option_map g o
found_alike f g p None same = refl
found_alike f g p (Some x) same = ap Some (same x refl)

-- a row that passes a test, changed, passes each test that sees none of the change
pub changed_passes : (p q : Row → Bool) (f : Row → Row) → ((r : Row) → q (f r) ≡ q r) → (r : Row) → q (cond (p r) (f r) r) ≡ q r
changed_passes p q f keeps r = step (p r)
  where
    step : (b : Bool) → q (cond b (f r) r) ≡ q r
    step true = keeps r
    step false = refl

pub find_changed : (p q : Row → Bool) (f : Row → Row) → ((r : Row) → q (f r) ≡ q r) → (rows : List Row) → find q (changed p f rows) ≡ option_map (λ r. cond (p r) (f r) r) (find q rows)
find_changed p q f keeps rows = find_map q (λ r. cond (p r) (f r) r) (changed_passes p q f keeps) rows

-- ---- a row that came

-- where the test that nothing passed is the one that the new row passes
pub find_came : (p fresh : Row → Bool) (olds news : List Row) (columns : Row) (c : Comes olds news columns) → find fresh olds ≡ None → (p (Int c.id ∷ columns) ≡ true → (r : Row) → p r ≡ fresh r)
    → find p news ≡ cond (p (Int c.id ∷ columns)) (Some (Int c.id ∷ columns)) (find p olds)
find_came p fresh olds news columns c none only =
    ap (find p) c.puts.news_are ∙ find_middle p row c.puts.before c.puts.after (either (p row) refl) ∙ ap (λ rows. cond (p row) (Some row) (find p rows)) (sym c.puts.olds_are)
  where
    row : Row
    row = Int c.id ∷ columns

    either : (b : Bool) → p row ≡ b → (find p (c.puts.before ++ c.puts.after) ≡ None) ⊎ (p row ≡ false)
    either true e = inl (ap (find p) (sym c.puts.olds_are) ∙ find_alike p fresh (only e) olds ∙ none)
    either false e = inr e

-- ---- the map that rows make

-- a text is a key as the test of it has it
pub text_tie : (q : List ℕ) (t : List ℕ) → eq_by_cmp text_cmp q t ≡ bytes_eq t q
text_tie q t = is_eq-slice_cmp q t ∙ bytes_eq-sym q t

pub number_tie : (q n : ℕ) → eq_by_cmp nat_cmp q n ≡ (n == q)
number_tie q n = (eq_by_cmp_equiv nat_cmp_total).symm q n ∙ unsigned_tied n q

module _ {K X : Type 0} {R : K → K → Ordering} (o : IsTotalOrder R) (exact : CmpEqualImpliesEq R) (key : Row → K) (value : Row → X) (is : K → Row → Bool) (tie : (q : K) (r : Row) → eq_by_cmp R q (key r) ≡ is q r) where
  abbrev pub rows_map : List Row → FinMap R X
  rows_map rows = from_entries {R = R} (map (λ r. (key r, value r)) rows)

  pub find_entry : (q : K) (rows : List Row) → finite.find R q (map (λ r. (key r, value r)) rows) ≡ option_map value (find (is q) rows)
  find_entry q [] = refl
  find_entry q (r ∷ rs) = ap (λ t. cond t (Some (value r)) (finite.find R q (map (λ x. (key x, value x)) rs))) (tie q r) ∙ ap (cond (is q r) (Some (value r))) (find_entry q rs) ∙ sym (mapped value (is q r) r (find (is q) rs))

  pub get_found : (q : K) (rows : List Row) → get (rows_map rows) q ≡ option_map value (find (is q) rows)
  get_found q rows = get-from_entries o _ q ∙ find_entry q rows

  -- one row more, of a key that no row had
  pub map_came : (k : K) (olds news : List Row) (columns : Row) (c : Comes olds news columns) → ((id : ℤ) → key (Int id ∷ columns) ≡ k) → find (is k) olds ≡ None
      → rows_map news ≡ insert (rows_map olds) k (value (Int c.id ∷ columns))
  map_came k olds news columns c keyed none = same_map o exact _ _ (λ q.
      let here : eq_by_cmp R q k ≡ is q row = ap (eq_by_cmp R q) (sym (keyed c.id)) ∙ tie q row in
      get_found q news ∙ ap (option_map value) (find_came (is q) (is k) olds news columns c none (λ e r. ap (λ x. is x r) (exact q k (is_eq_equal _ (here ∙ e)))))
      ∙ mapped value (is q row) row (find (is q) olds) ∙ ap (cond (is q row) (Some (value row))) (sym (get_found q olds))
      ∙ ap (λ b. cond b (Some (value row)) (get (rows_map olds) q)) (sym here) ∙ sym (get-insert o (rows_map olds) k (value row) q))
    where
      row : Row
      row = Int c.id ∷ columns

  -- the key of a row that passes
  pub keyed_found : (q : K) (r : Row) → is q r ≡ true → q ≡ key r
  keyed_found q r e = exact q (key r) (is_eq_equal _ (tie q r ∙ e))

  -- rows go by their key
  pub map_without : (k : K) (rows : List Row) → rows_map (without (is k) rows) ≡ remove (rows_map rows) k
  map_without k rows = same_map o exact _ _ (λ q.
      get_found q (without (is k) rows)
      ∙ ap (option_map value) (find_left (is k) (is q) (eq_by_cmp R q k) rows (λ r h e. sym (tie k r) ∙ ap (eq_by_cmp R k) (sym (keyed_found q r e)) ∙ (eq_by_cmp_equiv o).symm k q))
      ∙ mapped_none value (eq_by_cmp R q k) _ ∙ ap (cond (eq_by_cmp R q k) None) (sym (get_found q rows)) ∙ sym (get-remove o (rows_map rows) k q))

  -- the row of a key gets another value, and keeps its key
  pub map_changed : (k : K) (f : Row → Row) (v : X) (rows : List Row) (there : Row) → ((q : K) (r : Row) → is q (f r) ≡ is q r) → ((r : Row) → value (f r) ≡ v) → find (is k) rows ≡ Some there
      → rows_map (changed (is k) f rows) ≡ insert (rows_map rows) k v
  map_changed k f v rows there keeps gives found = same_map o exact _ _ (λ q.
      get_found q (changed (is k) f rows) ∙ ap (option_map value) (find_changed (is k) (is q) f (keeps q) rows) ∙ each q (find (is q) rows) refl
      ∙ ap (cond (eq_by_cmp R q k) (Some v)) (sym (get_found q rows)) ∙ sym (get-insert o (rows_map rows) k v q))
    where
      value_now : (b : Bool) (r : Row) → value (cond b (f r) r) ≡ cond b v (value r)
      value_now true r = gives r
      value_now false r = refl

      lifted : (b : Bool) (x : X) → Some (cond b v x) ≡ cond b (Some v) (Some x)
      lifted true x = refl
      lifted false x = refl

      nowhere : (q : K) (b : Bool) → eq_by_cmp R q k ≡ b → find (is q) rows ≡ None → None ≡ cond b (Some v) None
      nowhere q true e none = absurd (true≢false (ap is_some (sym found ∙ sym (ap (λ x. find (is x) rows) (exact q k (is_eq_equal _ e))) ∙ none)))
      nowhere q false e none = refl

      each : (q : K) (o : Option Row) → find (is q) rows ≡ o → option_map value (option_map (λ r. cond (is k r) (f r) r) o) ≡ cond (eq_by_cmp R q k) (Some v) (option_map value o)
      each q None e = nowhere q (eq_by_cmp R q k) refl e
      each q (Some r) e =
          let same : is k r ≡ eq_by_cmp R q k = sym (tie k r) ∙ ap (eq_by_cmp R k) (sym (keyed_found q r (found_passes (is q) rows r e))) ∙ (eq_by_cmp_equiv o).symm k q in
          ap Some (value_now (is k r) r) ∙ lifted (is k r) (value r) ∙ ap (λ b. cond b (Some v) (Some (value r))) same
