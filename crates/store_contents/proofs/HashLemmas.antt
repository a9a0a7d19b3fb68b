-- A content is known by its digest alone.
use Rattle.std.proofs.Common.{◌≡◌, ◌⊎◌, ℕ, ℤ, List, [], ◌∷◌, map, Bool, true, false, None, Some, Ok, Err, IfOk, IfErr, refl, sym, ap, subst, ◌∙◌}
use Rattle.std.specs.Prelude.{filter, find, Option, option_map, bytes_eq}
use Rattle.std.specs.Ordering.{int_eq}
use Rattle.std.specs.List.{list_any}
use Rattle.std.specs.List.Sorted.{IsPermutation}
use Rattle.std.proofs.lemmas.List.Sorted.{list_any-IsPermutation}
use Rattle.sqlite.specs.declared.types.Value.TheVariants.{Int, Text}
use Rattle.sqlite.specs.Order.{Row, column}
use Rattle.sqlite.specs.Tree.{has_rowid, rowid}
use Rattle.sqlite.specs.Effect.{Database}
use Rattle.sqlite.specs.State.{State, Shown, FailsToQuery, IsUnchanged, IsRolledBack}
use Rattle.sqlite.specs.Given.{IsPlain}
use Rattle.sqlite.specs.Listing.{understood}
use Rattle.sqlite_rules.specs.Lists.{Has}
use Rattle.sqlite_rules.proofs.ListLemmas.{all_has, some_has, some_from, has_filtered, has_kept}
use Rattle.sqlite_rules.proofs.ProbeLemmas.{has_mapped, mapped_has}
use Rattle.store_schema.specs.Rows.{bytes_at, integer}
use Rattle.store_schema.proofs.Ids.{find_id, found_has, rowid_is, int_eq_is, int_eq_itself}
use Rattle.store_schema.proofs.Selects.{Answer, shows, left_by_query}
use Rattle.store_contents.specs.Texts.{hash_text, find_terms}
use Rattle.store_contents.specs.Contents.{HoldsContents, IsContentRow, content_rows, bytes_in, sha256_text}
use Rattle.store_contents.specs.Search.{has_sha256}
use Rattle.store_contents.specs.Hashed.{shows_id, has_hash}
use Rattle.store_contents.proofs.SearchLemmas.{chosen-sha256}

-- ---- the rows that are shown

pub ids_shown : (old new : State) (sha256 : List ℕ) (r : Answer) → HoldsContents old.now → IfOk r (λ rows. Shown hash_text (Text sha256 ∷ []) old new rows.items)
    → IfOk r (λ rows. IsPermutation (map (λ r. column r 0 ∷ []) (filter (has_sha256 sha256) (content_rows old.now))) rows.items)
ids_shown old new sha256 (Err e) is h = tt
ids_shown old new sha256 (Ok rows) is h =
    subst (λ xs. IsPermutation (map (λ r. column r 0 ∷ []) xs) rows.items) (chosen-sha256 sha256 (content_rows old.now) is.rows)
    (shows old.now.schema hash_text _ _ find_terms _ (Text sha256 ∷ []) old new rows.items refl is.known.texts.hash is.known.stands.stored h)

-- a query that fails
pub leaves_failed : (sql : List ℕ) (params : Row) (old new : State) (r : Answer) → IsPlain (understood old.now.schema sql) → IfErr r (FailsToQuery sql params old new) → IfErr r (λ e. IsUnchanged old new ⊎ IsRolledBack old new)
leaves_failed sql params old new (Ok rows) plain h = tt
leaves_failed sql params old new (Err e) plain h = left_by_query sql params old new e plain h

-- ---- which content they are of

module _ (db : Database) (is : HoldsContents db) (id : ℤ) (sha256 : List ℕ) where
  abbrev pub table : List Row
  table = content_rows db

  abbrev pub id_of : Row → Row
  id_of r = column r 0 ∷ []

  -- the digest of a row is that of its bytes
  hash_of : (r : Row) → IsContentRow r → has_sha256 sha256 r ≡ bytes_eq (sha256_text (bytes_at r 4)) sha256
  hash_of r it = ap (λ t. bytes_eq t sha256) it.hashed

  -- the content that is found has the digest
  of_found : (o : Option Row) (r : Row) → o ≡ Some r → Has table r → has_hash (option_map (λ x. bytes_at x 4) o) sha256 ≡ has_sha256 sha256 r
  of_found o r e has = ap (λ x. has_hash (option_map (λ y. bytes_at y 4) x) sha256) e ∙ sym (hash_of r (all_has IsContentRow table r is.rows has))

  -- a row that shows the id is that content
  is_there : list_any (shows_id id) (map id_of (filter (has_sha256 sha256) table)) ≡ true → has_hash (bytes_in db id) sha256 ≡ true
  is_there e =
      let shown = some_has (shows_id id) (map id_of (filter (has_sha256 sha256) table)) e in
      let from = has_mapped id_of (filter (has_sha256 sha256) table) shown.0 shown.1 in
      let r = from.0 in
      let has = has_filtered (has_sha256 sha256) table r from.1 in
      let named : integer (column r 0) ≡ id = int_eq_is _ _ (ap (λ x. shows_id id x) (sym from.2) ∙ shown.2) in
      let whole = rowid_is table r is.ids has.0 in
      let here : rowid r ≡ Int id = whole ∙ ap Int (sym (ap integer whole) ∙ named) in
      of_found (find (has_rowid id) table) r (find_id table r id is.ids has.0 here) has.0 ∙ has.1

  -- and where it has the digest, it is shown
  is_shown : (o : Option Row) → find (has_rowid id) table ≡ o → has_hash (option_map (λ x. bytes_at x 4) o) sha256 ≡ true → list_any (shows_id id) (map id_of (filter (has_sha256 sha256) table)) ≡ true
  is_shown None f e = absurd cc
  is_shown (Some r) f e =
      let it = found_has table r id is.ids f in
      let kept = has_kept (has_sha256 sha256) table r it.0 (sym (of_found (Some r) r refl it.0) ∙ e) in
      some_from (shows_id id) (map id_of (filter (has_sha256 sha256) table)) (id_of r) (mapped_has id_of (filter (has_sha256 sha256) table) r kept) (ap (λ v. int_eq (integer v) id) it.1 ∙ int_eq_itself id)

  both_so : (a b : Bool) → (a ≡ true → b ≡ true) → (b ≡ true → a ≡ true) → a ≡ b
  both_so true b f g = sym (f refl)
  both_so false true f g = g refl
  both_so false false f g = refl

  pub hash_is : (rows : List Row) → IsPermutation (map id_of (filter (has_sha256 sha256) table)) rows → list_any (shows_id id) rows ≡ has_hash (bytes_in db id) sha256
  hash_is rows same = sym (list_any-IsPermutation (shows_id id) _ rows same) ∙ both_so _ _ is_there (is_shown (find (has_rowid id) table) refl)
