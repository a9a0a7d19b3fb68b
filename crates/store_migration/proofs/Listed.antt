-- Where the keys of all rows are listed, and the rows of each go in turn, none is left.
use Rattle.std.proofs.Common.{◌≡◌, ◌&&◌, inl, inr, ℕ, List, [], ◌∷◌, map, Bool, true, false, cond, not, None, refl, sym, ap, ◌∙◌, true≢false}
use Rattle.std.specs.Prelude.{find}
use Rattle.std.specs.List.{AllByRecursion}
use Rattle.std.specs.List.Sorted.{IsPermutation}
use Rattle.sqlite.specs.Order.{Row}
use Rattle.sqlite_rules.specs.Lists.{Has}
use Rattle.sqlite_trees.proofs.ListLemmas.{all_weaker, all-permutation}
use Rattle.oci_types.specs.Text.{Text}
use Rattle.store_schema.specs.Rows.{bytes_at, natural_at}
use Rattle.store_schema.proofs.Lists.{bytes_eq_itself, none_found}
use Rattle.store_statements.specs.Keys.{has_key, of_session}
use Rattle.store_statements.specs.Changes.{without}
use Rattle.store_statements.proofs.Found.{equal_itself}
use Rattle.store_migration.specs.Listed.{key_of, session_of, left_by_keys, left_by_sessions}
use Rattle.store_migration.proofs.Unmoved.{all_left}

-- where no row passes, none goes
none_goes : (p : Row → Bool) (rows : List Row) → AllByRecursion (λ r. p r ≡ false) rows → without p rows ≡ rows
none_goes p [] h = refl
none_goes p (r ∷ rs) h = ap (λ b. cond (not b) (r ∷ without p rs) (without p rs)) h.0 ∙ ap (λ l. r ∷ l) (none_goes p rs h.1)

pub gone_stays : (p : Row → Bool) (rows : List Row) → find p rows ≡ None → without p rows ≡ rows
gone_stays p rows e = none_goes p rows (none_found p rows e)

module _ {K : Type 0} (key : Row → K) (is : K → Row → Bool) (tie : (r : Row) → is (key r) r ≡ true) where
  abbrev AreListed : List K → List Row → Type 0
  AreListed ks rows = AllByRecursion (λ r. Has ks (key r)) rows

  -- no row has a key of an empty list
  pub none_listed : (rows : List Row) → AreListed [] rows → rows ≡ []
  none_listed [] h = refl
  none_listed (r ∷ rs) h = absurd h.0

  -- of the rows that are left each has one of the other keys
  pub fewer_listed : (k : K) (ks : List K) (rows : List Row) → AreListed (k ∷ ks) rows → AreListed ks (without (is k) rows)
  fewer_listed k ks rows h = all_left (λ r. Has (k ∷ ks) (key r)) (λ r. Has ks (key r)) (is k) step rows h
    where
      step : (r : Row) → is k r ≡ false → Has (k ∷ ks) (key r) → Has ks (key r)
      step r out (inl same) = absurd (true≢false (sym (tie r) ∙ ap (λ x. is x r) same ∙ out))
      step r out (inr more) = more

  each_has : (ks : List K) → AllByRecursion (Has ks) ks
  each_has [] = tt
  each_has (k ∷ ks) = (inl refl, all_weaker (Has ks) (Has (k ∷ ks)) (λ x h. inr h) ks (each_has ks))

  unmapped : (P : K → Type 0) (rows : List Row) → AllByRecursion P (map key rows) → AllByRecursion (λ r. P (key r)) rows
  unmapped P [] h = tt
  unmapped P (r ∷ rs) h = (h.0, unmapped P rs h.1)

  pub all_listed : (ks : List K) (rows : List Row) → IsPermutation ks (map key rows) → AreListed ks rows
  all_listed ks rows h = unmapped (Has ks) rows (all-permutation (Has ks) ks (map key rows) h (each_has ks))

-- ---- of blobs and manifests

has_own_key : (r : Row) → has_key (bytes_at r 1) (bytes_at r 2) r ≡ true
has_own_key r = λ i. bytes_eq_itself (bytes_at r 1) i && bytes_eq_itself (bytes_at r 2) i

none_left : (keys : List (Text × Text)) (rows : List Row) → AllByRecursion (λ r. Has keys (key_of r)) rows → left_by_keys keys rows ≡ []
none_left [] rows h = none_listed key_of (λ k. has_key k.0 k.1) has_own_key rows h
none_left (k ∷ ks) rows h = none_left ks (without (has_key k.0 k.1) rows) (fewer_listed key_of (λ x. has_key x.0 x.1) has_own_key k ks rows h)

pub keys_go : (keys : List (Text × Text)) (rows : List Row) → IsPermutation keys (map key_of rows) → left_by_keys keys rows ≡ []
keys_go keys rows h = none_left keys rows (all_listed key_of (λ k. has_key k.0 k.1) has_own_key keys rows h)

-- ---- of sessions

is_own_session : (r : Row) → of_session (bytes_at r 1) (natural_at r 2) r ≡ true
is_own_session r = λ i. bytes_eq_itself (bytes_at r 1) i && equal_itself (natural_at r 2) i

no_session_left : (keys : List (Text × ℕ)) (rows : List Row) → AllByRecursion (λ r. Has keys (session_of r)) rows → left_by_sessions keys rows ≡ []
no_session_left [] rows h = none_listed session_of (λ k. of_session k.0 k.1) is_own_session rows h
no_session_left (k ∷ ks) rows h = no_session_left ks (without (of_session k.0 k.1) rows) (fewer_listed session_of (λ x. of_session x.0 x.1) is_own_session k ks rows h)

pub sessions_go : (keys : List (Text × ℕ)) (rows : List Row) → IsPermutation keys (map session_of rows) → left_by_sessions keys rows ≡ []
sessions_go keys rows h = no_session_left keys rows (all_listed session_of (λ k. of_session k.0 k.1) is_own_session keys rows h)
