-- A content that comes, of a layout that keeps it so.
use Rattle.std.proofs.Common.{◌≡◌, ◌∙◌, ◌≢◌, ℕ, ℤ, Bor, Bool, true, false, cond, List, ◌∷◌, length, Some, None, refl, sym, ap, subst}
use Rattle.std.specs.Prelude.{find, option_map}
use Rattle.std.specs.Ordering.{int_eq}
use Rattle.sqlite_keyed.proofs.ListLemmas.{all-slice_get}
use Rattle.sqlite.specs.declared.types.Value.TheVariants.{Int}
use Rattle.sqlite.specs.Order.{Row}
use Rattle.sqlite.specs.Table.{Table}
use Rattle.sqlite.specs.Tree.{has_rowid}
use Rattle.sqlite.specs.Effect.{Database}
use Rattle.registry_pack.specs.declared.extent.Extent.{Extent}
use Rattle.registry_pack.specs.Extents.{AreWithin, bytes_at, total_of}
use Rattle.registry_pack.proofs.ContentLemmas.{length-bytes_at}
use Rattle.store_schema.specs.Rows as rows
use Rattle.store_schema.specs.Layout.{rows_of, tree_of, placed, Stands}
use Rattle.store_contents.specs.Contents.{sha256_text}
use Rattle.store_contents.specs.PlaceTables.{contents_table, places_table}
use Rattle.store_contents.specs.Places.{HoldsPlaces, bytes_in, content_rows, place_rows, places_of, joined}
use Rattle.store_contents.specs.Layouts.{Layout, InTables, InPack, HoldsPack}
use Rattle.store_places.specs.Places.{Adds, KeepsAround, Removes, content_columns}
use Rattle.sha2.specs.Sha256.{sha256}
use Rattle.store_places.specs.declared.source.Source.{Source}
use Rattle.store_places.specs.declared.source.Source.TheVariants.{Bytes, Extents}
use Rattle.store_places.specs.Source.{Suits, text_in}

-- extents that are there have so many bytes
pub sized : (l : Layout) (extents : Bor (List Extent)) (hash : List ℕ) (size : ℕ) → size ≡ total_of extents.now → Suits l (Extents extents hash) → length (text_in l (Extents extents hash)) ≡ size
sized InTables extents hash size is suits = absurd suits
sized (InPack file) extents hash size is suits = length-bytes_at file extents.now suits.0 ∙ sym is

-- what is so of bytes in the tables is so of a layout that has such bytes
pub of_bytes : (P : Layout → List ℕ → Type 0) (source : Source) (bytes : Bor (List ℕ)) → source ≡ Bytes bytes → P InTables bytes.now → (l : Layout) → Suits l source → P l (text_in l source)
of_bytes P source bytes is p l = subst (λ s. Suits l s → P l (text_in l s)) (sym is) (go l)
  where
    go : (k : Layout) → Suits k (Bytes bytes) → P k (text_in k (Bytes bytes))
    go InTables suits = p
    go (InPack file) suits = absurd suits

-- and what is so of each pack in which the extents are
pub of_extents : (P : Layout → List ℕ → Type 0) (source : Source) (extents : Bor (List Extent)) (hash : List ℕ) → source ≡ Extents extents hash
    → ((file : List ℕ) → AreWithin file extents.now → hash ≡ sha256 (bytes_at file extents.now) → P (InPack file) (bytes_at file extents.now)) → (l : Layout) → Suits l source → P l (text_in l source)
of_extents P source extents hash is p l = subst (λ s. Suits l s → P l (text_in l s)) (sym is) (go l)
  where
    go : (k : Layout) → Suits k (Extents extents hash) → P k (text_in k (Extents extents hash))
    go InTables suits = absurd suits
    go (InPack file) suits = p file suits.0 suits.1

-- ---- the row of each content has the digest of its bytes

abbrev row_of : ℤ → List ℕ → List Extent → Row
row_of id sha256 extents = Int id ∷ content_columns sha256 (total_of extents)

module _ (file : List ℕ) (old new : Database) (id : ℤ) where
  abbrev here : Database → ℤ → List ℕ
  here db i = joined file (places_of (place_rows db) i)

  pub added_holds : (sha256 : List ℕ) (extents : List Extent) → Adds old new id sha256 extents → HoldsPack file old → HoldsPlaces new → sha256 ≡ sha256_text (bytes_at file extents) → HoldsPack file new
  added_holds sha256 extents it was kept is = record { rows = kept; hashed = λ i row found. by i row found (int_eq id i) refl }
    where
      by : (i : ℤ) (row : Row) → find (has_rowid i) (content_rows new) ≡ Some row → (b : Bool) → int_eq id i ≡ b → rows.bytes_at row 2 ≡ sha256_text (here new i)
      by i row found true e =
          let row_is : row ≡ row_of id sha256 extents = (let same : Some row ≡ Some (row_of id sha256 extents) = sym found ∙ it.rows i ∙ ap (λ b. cond b (Some (row_of id sha256 extents)) (find (has_rowid i) (content_rows old))) e in cc) in
          let bytes_are : here new i ≡ bytes_at file extents =
          (let same : Some (here new i) ≡ Some (bytes_at file extents) = sym (ap (option_map (λ _. here new i)) found) ∙ it.bytes file i ∙ ap (λ b. cond b (Some (bytes_at file extents)) (bytes_in old file i)) e in cc) in
          ap (λ r. rows.bytes_at r 2) row_is ∙ is ∙ ap sha256_text (sym bytes_are)
      by i row found false e =
          let there : find (has_rowid i) (content_rows old) ≡ Some row = sym (it.rows i ∙ ap (λ b. cond b (Some (row_of id sha256 extents)) (find (has_rowid i) (content_rows old))) e) ∙ found in
          let bytes_are : here new i ≡ here old i =
          (let same : Some (here new i) ≡ Some (here old i) = sym (ap (option_map (λ _. here new i)) found) ∙ it.bytes file i ∙ ap (λ b. cond b (Some (bytes_at file extents)) (bytes_in old file i)) e ∙ ap (option_map (λ _. here old i)) there in cc) in
          was.hashed i row there ∙ ap sha256_text (sym bytes_are)

  pub removed_holds : Removes old new id → HoldsPack file old → HoldsPlaces new → HoldsPack file new
  removed_holds it was kept = record { rows = kept; hashed = λ i row found. by i row found (int_eq id i) refl }
    where
      by : (i : ℤ) (row : Row) → find (has_rowid i) (content_rows new) ≡ Some row → (b : Bool) → int_eq id i ≡ b → rows.bytes_at row 2 ≡ sha256_text (here new i)
      by i row found true e = absurd (let none : Some row ≡ None = sym found ∙ it.rows i ∙ ap (λ b. cond b None (find (has_rowid i) (content_rows old))) e in cc)
      by i row found false e =
          let there : find (has_rowid i) (content_rows old) ≡ Some row = sym (it.rows i ∙ ap (λ b. cond b None (find (has_rowid i) (content_rows old))) e) ∙ found in
          let bytes_are : here new i ≡ here old i =
          (let same : Some (here new i) ≡ Some (here old i) = sym (ap (option_map (λ _. here new i)) found) ∙ it.bytes file i ∙ ap (λ b. cond b None (bytes_in old file i)) e ∙ ap (option_map (λ _. here old i)) there in cc) in
          was.hashed i row there ∙ ap sha256_text (sym bytes_are)

-- ---- all other tables

-- a table that is neither of the two keeps its rows
pub rows_around : (old new : Database) (other : Table) (stands : Stands old.schema other) → KeepsAround old new → tree_of old.schema other ≢ tree_of old.schema contents_table → tree_of old.schema other ≢ tree_of old.schema places_table → rows_of new other ≡ rows_of old other
rows_around old new other stands keeps none neither =
    ap (λ s. new.trees (tree_of s other)) keeps.schema
    ∙ all-slice_get (λ (t : Table). t.tree ≢ tree_of old.schema contents_table → t.tree ≢ tree_of old.schema places_table → new.trees t.tree ≡ old.trees t.tree) old.schema.tables stands.at (placed old.schema other) stands.place keeps.tables none neither
