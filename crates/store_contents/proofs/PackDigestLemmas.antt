-- A content in a pack is known by the digits in its row.
use Rattle.std.proofs.Common.{◌≡◌, ◌∙◌, ℕ, ℤ, List, [], ◌∷◌, map, Bool, true, false, None, Some, Ok, Err, IfOk, refl, sym, ap, subst}
use Rattle.std.specs.Prelude.{◌||◌, find, Option, option_map, bytes_eq}
use Rattle.std.specs.List.{list_any}
use Rattle.std.specs.List.Sorted.{IsPermutation}
use Rattle.std.specs.Option.{option_to_list}
use Rattle.sqlite.specs.declared.types.Value.TheVariants.{Int}
use Rattle.sqlite.specs.Order.{Row, column}
use Rattle.sqlite.specs.Tree.{has_rowid}
use Rattle.sqlite.specs.Effect.{Database}
use Rattle.sqlite.specs.State.{State, Shown}
use Rattle.sqlite.proofs.Callers.{one_permutation}
use Rattle.sqlite_trees.proofs.ListLemmas.{filter_same}
use Rattle.sqlite_rules.proofs.ListLemmas.{all_from, all_has}
use Rattle.store_schema.specs.Rows.{HaveIds, bytes_at}
use Rattle.store_schema.proofs.Ids.{only_id, found_has}
use Rattle.store_schema.proofs.Lists.{no_permutation}
use Rattle.store_schema.proofs.Selects.{Answer, chosen, shows}
use Rattle.store_contents.specs.Contents.{sha256_text}
use Rattle.store_contents.specs.Hashed.{has_hash, is_text, shows_digits}
use Rattle.store_contents.specs.Layouts.{HoldsPack}
use Rattle.store_contents.specs.PlaceTexts.{by_id, content_hash}
use Rattle.store_contents.specs.Places.{HoldsPlaces, IsContentRow, bytes_in, content_rows, joined, place_rows, places_of}
use Rattle.store_contents.proofs.RemoveLemmas.{by_id_passes}

abbrev pub digits_shown : Option Row → List Row
digits_shown o = map (λ r. column r 2 ∷ []) (option_to_list o)

settle : (o : Option Row) (rows : List Row) → IsPermutation (digits_shown o) rows → rows ≡ digits_shown o
settle None rows h = no_permutation rows h
settle (Some r) rows h = one_permutation _ rows h

chosen_one : (rows : List Row) (id : ℤ) → HaveIds rows → chosen (Int id ∷ []) by_id rows ≡ option_to_list (find (has_rowid id) rows)
chosen_one rows id ids = filter_same _ _ rows (all_from _ rows (λ r has. by_id_passes rows id r ids has)) ∙ only_id rows id ids

-- the row of the content shows its digits, or there is none
pub digits_found : (id : ℤ) (old new : State) (r : Answer) → HoldsPlaces old.now → IfOk r (λ rows. Shown content_hash (Int id ∷ []) old new rows.items)
    → IfOk r (λ rows. rows.items ≡ digits_shown (find (has_rowid id) (content_rows old.now)))
digits_found id old new (Err e) is ran = tt
digits_found id old new (Ok rows) is ran =
    settle (find (has_rowid id) (content_rows old.now)) rows.items
    (subst (λ xs. IsPermutation (map (λ r. column r 2 ∷ []) xs) rows.items) (chosen_one (content_rows old.now) id is.content_ids)
    (shows old.now.schema content_hash _ _ by_id _ (Int id ∷ []) old new rows.items refl is.known.content_texts.hash is.known.contents.stored ran))

-- they are those of the bytes at its places
module _ (file : List ℕ) (db : Database) (is : HoldsPack file db) (id : ℤ) (sha256 : List ℕ) where
  abbrev bytes : List ℕ
  bytes = joined file (places_of (place_rows db) id)

  or_not : (b : Bool) → (b || false) ≡ b
  or_not true = refl
  or_not false = refl

  of_row : (r : Row) → find (has_rowid id) (content_rows db) ≡ Some r → list_any (shows_digits sha256) (digits_shown (Some r)) ≡ bytes_eq (sha256_text bytes) sha256
  of_row r found =
      let has = (found_has (content_rows db) r id is.rows.content_ids found).0 in
      let text = (all_has IsContentRow (content_rows db) r is.rows.contents has).sha256 in
      or_not (is_text sha256 (column r 2)) ∙ ap (is_text sha256) text ∙ ap (λ t. bytes_eq t sha256) (is.hashed id r found)

  of_found : (o : Option Row) → find (has_rowid id) (content_rows db) ≡ o → list_any (shows_digits sha256) (digits_shown o) ≡ has_hash (option_map (λ _. bytes) o) sha256
  of_found None found = refl
  of_found (Some r) found = of_row r found

  pub digits_are : (rows : List Row) → rows ≡ digits_shown (find (has_rowid id) (content_rows db)) → list_any (shows_digits sha256) rows ≡ has_hash (bytes_in db file id) sha256
  digits_are rows same = ap (list_any (shows_digits sha256)) same ∙ of_found (find (has_rowid id) (content_rows db)) refl
