-- How many of a repository's rows go with a deletion, and how many bytes.
use Rattle.std.proofs.Common.{◌≡◌, ◌∙◌, ◌+◌, ◌<◌, ℕ, List, min, [], ◌∷◌, length, Bool, true, false, cond, not, None, Some, refl, sym, ap, arith}
use Rattle.std.specs.Prelude.{◌&&◌, Option, option_map, bytes_eq, filter, find, sum_by}
use Rattle.std.specs.FinMap.{FinMap, get, retain_keys, values, len}
use Rattle.std.proofs.Math.Path.{subst₂}
use Rattle.sqlite.specs.Order.{Row}
use Rattle.oci_types.specs.Text.{Text}
use Rattle.registry_model.specs.World.{Repo, text_cmp, repo_at}
use Rattle.registry_model.specs.Usage.{in_64_bits}
use Rattle.registry_model.specs.Manifests.{is_text, without_manifest}
use Rattle.registry_model.specs.Command.{without_sessions}
use Rattle.store_schema.specs.Rows.{bytes_at}
use Rattle.store_statements.specs.Keys.{of_first, same_key}
use Rattle.store_statements.specs.Steps.{names_digest}
use Rattle.store_statements.specs.Changes.{without}
use Rattle.store_statements.specs.Tables.{Tables, IsTagRow}
use Rattle.store_statements.specs.World.{tags_of, sessions_of, repo_in, world_of}
use Rattle.store_statements.specs.Registry.{IsRegistry}
use Rattle.store_statements.proofs.Base.{repo_found, found_named}
use Rattle.store_statements.proofs.Kept.{rows_without}
use Rattle.store_statements.proofs.ManifestWorlds.{tags_left}
use Rattle.store_statements.proofs.Named.{filter_within}
use Rattle.store_statements.proofs.Ordered.{named_len}
use Rattle.store_statements.proofs.Usages.{sessions_sum, sessions_len}
use Rattle.store_reads.specs.declared.tallies.Tally.{Tally}
use Rattle.store_reads.specs.Tallies.{tally_in}
use Rattle.store_reads.specs.Usages.{Foretells, AreNaming, Turns}
use Rattle.store_reads.proofs.TallyLemmas.{as_min}
use Rattle.store_reads.proofs.DeletionTurns.{loss, sessions_gone}

-- a repository that is there has what the rows of its name say
named_row : (t : Tables) (name : Text) (r : Repo) → repo_at (world_of t) name ≡ Some r → (row : Row) × (bytes_at row 1 ≡ name) × (r ≡ repo_in t row)
named_row t name r at = by (find (of_first name) t.repos) refl (sym (repo_found t name) ∙ at)
  where
    by : (o : Option Row) → find (of_first name) t.repos ≡ o → option_map (repo_in t) o ≡ Some r → (row : Row) × (bytes_at row 1 ≡ name) × (r ≡ repo_in t row)
    by None e is = absurd (cc)
    by (Some row) e is = (row, found_named t.repos name row e, cc)

-- ---- the tags that name a digest

-- of the rows that pass the first test, some pass the second
split : {X : Type 0} (p q : X → Bool) (xs : List X) → length (filter (λ x. not (q x)) (filter p xs)) + length (filter (λ x. p x && q x) xs) ≡ length (filter p xs)
split p q [] = refl
split p q (x ∷ xs) = step (p x) (q x) refl (split p q xs)
  where
    step : (b c : Bool) → q x ≡ c → length (filter (λ y. not (q y)) (filter p xs)) + length (filter (λ y. p y && q y) xs) ≡ length (filter p xs)
        → length (filter (λ y. not (q y)) (cond b (x ∷ filter p xs) (filter p xs))) + length (cond (b && c) (x ∷ filter (λ y. p y && q y) xs) (filter (λ y. p y && q y) xs)) ≡ length (cond b (x ∷ filter p xs) (filter p xs))
    step true true f e = rw f (omega arith)
    step true false f e = rw f (omega arith)
    step false c f e = e

pub naming_found : (t : Tables) (name digest : Text) (n : ℕ) → IsRegistry t → n ≡ length (filter (names_digest name digest) t.tags) → AreNaming (world_of t) name digest n
naming_found t name digest n is counted r at = by (named_row t name r at)
  where
    p : Row → Bool
    p = names_digest name digest

    stay : FinMap text_cmp Text → FinMap text_cmp Text
    stay tags = retain_keys tags (λ tag. not (is_text digest (get tags tag)))

    by : (row : Row) × (bytes_at row 1 ≡ name) × (r ≡ repo_in t row) → len (without_manifest r digest).tags + n ≡ len r.tags
    by it =
        let are : r.tags ≡ tags_of t.tags name = ap (λ (x : Repo). x.tags) it.2 ∙ ap (tags_of t.tags) it.1 in
        let left : len (stay r.tags) ≡ length (filter (λ x. not (bytes_eq (bytes_at x 3) digest)) (filter (of_first name) t.tags)) =
        ap (λ m. len (stay m)) are ∙ ap len (sym (tags_left t.tags name digest is.tables.tags.apart))
        ∙ named_len (λ x. bytes_at x 3) (without p t.tags) name (rows_without IsTagRow same_key p t.tags is.tables.tags).apart
        ∙ ap length (filter_within (of_first name) (λ x. bytes_eq (bytes_at x 3) digest) t.tags) in
        let whole : len r.tags ≡ length (filter (of_first name) t.tags) = ap len are ∙ named_len (λ x. bytes_at x 3) t.tags name is.tables.tags.apart in
        let parts = split (of_first name) (λ x. bytes_eq (bytes_at x 3) digest) t.tags in
        omega (arith, left, whole, parts, counted)

-- ---- all sessions

exact : (n x : ℕ) → x ≡ in_64_bits n → x < 18446744073709551615 → x ≡ n
exact n x is told = let least : x ≡ min n 18446744073709551615 = is ∙ as_min n in omega (arith, least, told)

pub sessions_end : (t : Tables) (name : Text) (tally : Tally) → IsRegistry t → tally ≡ tally_in t.uploads name → tally.bytes < 18446744073709551615
    → Foretells (world_of t) name without_sessions (loss tally.bytes 0 0 0 tally.number)
sessions_end t name tally is tallied told r at = by (named_row t name r at)
  where
    by : (row : Row) × (bytes_at row 1 ≡ name) × (r ≡ repo_in t row) → Turns (loss tally.bytes 0 0 0 tally.number) r (without_sessions r)
    by it =
        let are : r.sessions ≡ sessions_of t.contents t.pieces t.uploads name = ap (λ (x : Repo). x.sessions) it.2 ∙ ap (sessions_of t.contents t.pieces t.uploads) it.1 in
        let bytes : sum_by length (values r.sessions) ≡ tally.bytes =
        ap (λ m. sum_by length (values m)) are ∙ sessions_sum t name is ∙ sym (exact _ tally.bytes (ap (λ (x : Tally). x.bytes) tallied) told) in
        let number : len r.sessions ≡ tally.number = ap len are ∙ sessions_len t name is ∙ sym (ap (λ (x : Tally). x.number) tallied) in
        subst₂ (λ n k. Turns (loss n 0 0 0 k) r (without_sessions r)) bytes number (sessions_gone r)
