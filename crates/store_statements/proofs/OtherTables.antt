-- A statement that writes one table leaves the others: one lemma over the nine, so that a tenth is a line in
-- each of the lists by table below.
use Rattle.std.proofs.Common.{◌≡◌, ◌≢◌, ◌∙◌, ◌==◌, ℕ, ℤ, zero, suc, Bool, true, false, List, ◌∷◌, [], Some, refl, ap, sym, subst, if◌then◌else◌}
use Rattle.std.specs.Prelude.{slice_get, Option, find, option_map}
use Rattle.std.proofs.lemmas.Bool.{eqb-true, eqb-false}
use Rattle.sqlite_keyed.proofs.ListLemmas.{all-slice_get}
use Rattle.sqlite_trees.proofs.ListLemmas.{all_weaker, all_both}
use Rattle.sqlite.specs.Order.{Row}
use Rattle.sqlite.specs.Table.{Table}
use Rattle.sqlite.specs.Schema.{Schema}
use Rattle.sqlite.specs.Tree.{has_rowid}
use Rattle.sqlite.specs.Effect.{Database}
use Rattle.store_schema.specs.Schema.{version_table, repos_table, grants_table, tags_table, contents_table, blob_links_table, manifest_links_table, uploads_table, pieces_table}
use Rattle.store_schema.specs.Layout.{rows_of, tree_of, Stands, KeepsOthers}
use Rattle.store_schema.proofs.Writes.{rows_in}
use Rattle.store_contents.specs.Contents.{HoldsContents, bytes_in}
use Rattle.store_contents.specs.PlaceTables.{pack_table, places_table}
use Rattle.store_contents.specs.Places.{content_rows, joined, pack_rows, place_rows, places_of}
use Rattle.store_places.specs.Places.{KeepsAround}
use Rattle.store_places.proofs.SourceLemmas.{rows_around}
use Rattle.store_contents.specs.Layouts.{Layout, InTables, InPack, Holds, contents_in, places_in, packs_in, further_trees, schema_number}
use Rattle.store_contents.proofs.LayoutLemmas.{AreLeft, left_by_other}
use Rattle.store_statements.specs.Tables.{Tables, Beside}
use Rattle.store_statements.specs.Known.{KnowsRegistry, AreApart, IsFurther, trees_of, rows_beside, is_beside}
use Rattle.store_statements.specs.Held.{tables_in, beside_in}
use Rattle.store_statements.proofs.BesideRows.{left_beside, same_beside, apart_beside}

-- the tables, but for those of contents
data Which : Type 0 where
  version : Which
  repos : Which
  grants : Which
  tags : Which
  blobs : Which
  manifests : Which
  uploads : Which
  pieces : Which

abbrev table_of : Which → Table
table_of version = version_table
table_of repos = repos_table
table_of grants = grants_table
table_of tags = tags_table
table_of blobs = blob_links_table
table_of manifests = manifest_links_table
table_of uploads = uploads_table
table_of pieces = pieces_table

-- where its tree stands in `trees_of`
abbrev place : Which → ℕ
place version = 0
place repos = 1
place grants = 2
place tags = 3
place blobs = 5
place manifests = 6
place uploads = 7
place pieces = 8

-- what the tables of contents keep, wherever their bytes are
record Kept : Type 0 where
  contents : ℤ → Option (List ℕ)
  places : List Row
  packs : List Row

abbrev kept_in : Layout → Database → Kept
kept_in l db = record { contents = contents_in l db; places = places_in l db; packs = packs_in l db }

-- the tables with these rows, and with those of further tables
abbrev with_rows : Layout → (Which → List Row) → Kept → Beside → Tables
with_rows l f kept more = record {
  number = schema_number l;
  version = f version;
  repos = f repos;
  grants = f grants;
  tags = f tags;
  contents = kept.contents;
  places = kept.places;
  packs = kept.packs;
  blobs = f blobs;
  manifests = f manifests;
  uploads = f uploads;
  pieces = f pieces;
  beside = more;
}

-- at two places of a list in which no two are one stand two
apart_at : (trees : List ℕ) → AreApart trees → (i j : ℕ) → i ≢ j → (a b : ℕ) → slice_get trees i ≡ Some a → slice_get trees j ≡ Some b → a ≢ b
apart_at [] h i j n a b p q = absurd cc
apart_at (t ∷ ts) h zero zero n a b p q = absurd (n refl)
apart_at (t ∷ ts) h zero (suc j) n a b p q = let same : t ≡ a = cc in subst (λ x. x ≢ b) same (all-slice_get (λ x. t ≢ x) ts j b q h.0)
apart_at (t ∷ ts) h (suc i) zero n a b p q = let same : t ≡ b = cc in λ e. all-slice_get (λ x. t ≢ x) ts i a p h.0 (same ∙ sym e)
apart_at (t ∷ ts) h (suc i) (suc j) n a b p q = apart_at ts h.1 i j (λ e. n (ap suc e)) a b p q

module _ {l : Layout} (old new : Database) (k : KnowsRegistry l old.schema) where
  stands : (w : Which) → Stands old.schema (table_of w)
  stands version = k.version
  stands repos = k.repos
  stands grants = k.grants
  stands tags = k.tags
  stands blobs = k.blobs
  stands manifests = k.manifests
  stands uploads = k.uploads
  stands pieces = k.pieces

  at : (w : Which) → slice_get (trees_of old.schema) (place w) ≡ Some (tree_of old.schema (table_of w))
  at version = refl
  at repos = refl
  at grants = refl
  at tags = refl
  at blobs = refl
  at manifests = refl
  at uploads = refl
  at pieces = refl

  -- the table whose tree is the one at this place of `trees_of` is written, and others keep their rows
  module _ (table : Table) (p : ℕ) (here : slice_get (trees_of old.schema) p ≡ Some (tree_of old.schema table)) (keeps : KeepsOthers table old new) where
    beside : (v : Which) → (p == place v) ≡ false → rows_of new (table_of v) ≡ rows_of old (table_of v)
    beside v other =
        rows_in old new table (table_of v) (stands v) keeps
        (apart_at (trees_of old.schema) k.apart (place v) p (λ e. eqb-false p (place v) other (sym e))
        (tree_of old.schema (table_of v)) (tree_of old.schema table) (at v) here)

    at_itself : (v : Which) → (p == place v) ≡ true → rows_of new (table_of v) ≡ rows_of new table
    at_itself v same =
        let trees : Some (tree_of old.schema (table_of v)) ≡ Some (tree_of old.schema table) = sym (at v) ∙ ap (slice_get (trees_of old.schema)) (sym (eqb-true p (place v) same)) ∙ here in
        let tree : tree_of old.schema (table_of v) ≡ tree_of old.schema table = cc in
        ap (λ s. new.trees (tree_of s (table_of v))) keeps.schema ∙ ap new.trees tree ∙ sym (ap (λ s. new.trees (tree_of s table)) keeps.schema)

    -- the rows before, but for one table
    abbrev written : List Row → Which → List Row
    written rows v = if p == place v then rows else rows_of old (table_of v)

    each_of : (rows : List Row) → rows_of new table ≡ rows → (v : Which) (b : Bool) → (p == place v) ≡ b → rows_of new (table_of v) ≡ (if b then rows else rows_of old (table_of v))
    each_of rows e v true is = at_itself v is ∙ e
    each_of rows e v false is = beside v is

    further : beside_in new ≡ beside_in old
    further = λ i. record {
      schema = keeps.schema i;
      rows = (ap (λ (s : Schema). rows_beside new.trees (trees_of s) s.tables) keeps.schema
          ∙ left_beside old.trees new.trees (tree_of old.schema table) (trees_of old.schema) p here old.schema.tables keeps.tables) i;
    }

    only : (rows : List Row) → rows_of new table ≡ rows → (kept : Kept) → kept_in l new ≡ kept → tables_in l new ≡ with_rows l (written rows) kept (beside_in old)
    only rows e kept same = λ i. with_rows l (λ v. each_of rows e v (p == place v) refl i) (same i) (further i)

    -- a write to another table than that of contents leaves what is kept
    left_kept : (4 == p) ≡ false → AreLeft l old new
    left_kept other =
        left_by_other l table old new k.contents keeps
        (apart_at (trees_of old.schema) k.apart 4 p (eqb-false 4 p other) (tree_of old.schema contents_table) (tree_of old.schema table) refl here)
        (all_weaker (IsFurther old.schema) (λ tree. tree ≢ tree_of old.schema table) (λ tree it e. all-slice_get (λ o. o ≢ tree) (trees_of old.schema) p (tree_of old.schema table) here it.0 (sym e)) (further_trees l old.schema) k.further)

    beside_contents : (4 == p) ≡ false → (rows : List Row) → rows_of new table ≡ rows → tables_in l new ≡ with_rows l (written rows) (kept_in l old) (beside_in old)
    beside_contents other rows e =
        let it = left_kept other in
        only rows e (kept_in l old) (λ i. record { contents = it.contents i; places = it.places i; packs = it.packs i })

    contents_beside : (4 == p) ≡ false → Holds l old → Holds l new
    contents_beside other = (left_kept other).holds

  pub only_version : KeepsOthers version_table old new → (rows : List Row) → rows_of new version_table ≡ rows → tables_in l new ≡ record (tables_in l old) { version = rows }
  only_version keeps = beside_contents version_table 0 refl keeps refl

  pub only_repos : KeepsOthers repos_table old new → (rows : List Row) → rows_of new repos_table ≡ rows → tables_in l new ≡ record (tables_in l old) { repos = rows }
  only_repos keeps = beside_contents repos_table 1 refl keeps refl

  pub only_grants : KeepsOthers grants_table old new → (rows : List Row) → rows_of new grants_table ≡ rows → tables_in l new ≡ record (tables_in l old) { grants = rows }
  only_grants keeps = beside_contents grants_table 2 refl keeps refl

  pub only_tags : KeepsOthers tags_table old new → (rows : List Row) → rows_of new tags_table ≡ rows → tables_in l new ≡ record (tables_in l old) { tags = rows }
  only_tags keeps = beside_contents tags_table 3 refl keeps refl

  pub only_blobs : KeepsOthers blob_links_table old new → (rows : List Row) → rows_of new blob_links_table ≡ rows → tables_in l new ≡ record (tables_in l old) { blobs = rows }
  only_blobs keeps = beside_contents blob_links_table 5 refl keeps refl

  pub only_manifests : KeepsOthers manifest_links_table old new → (rows : List Row) → rows_of new manifest_links_table ≡ rows → tables_in l new ≡ record (tables_in l old) { manifests = rows }
  only_manifests keeps = beside_contents manifest_links_table 6 refl keeps refl

  pub only_uploads : KeepsOthers uploads_table old new → (rows : List Row) → rows_of new uploads_table ≡ rows → tables_in l new ≡ record (tables_in l old) { uploads = rows }
  only_uploads keeps = beside_contents uploads_table 7 refl keeps refl

  pub only_pieces : KeepsOthers pieces_table old new → (rows : List Row) → rows_of new pieces_table ≡ rows → tables_in l new ≡ record (tables_in l old) { pieces = rows }
  only_pieces keeps = beside_contents pieces_table 8 refl keeps refl

  pub contents_beside_version : KeepsOthers version_table old new → Holds l old → Holds l new
  contents_beside_version keeps = contents_beside version_table 0 refl keeps refl

  pub contents_beside_repos : KeepsOthers repos_table old new → Holds l old → Holds l new
  contents_beside_repos keeps = contents_beside repos_table 1 refl keeps refl

  pub contents_beside_grants : KeepsOthers grants_table old new → Holds l old → Holds l new
  contents_beside_grants keeps = contents_beside grants_table 2 refl keeps refl

  pub contents_beside_tags : KeepsOthers tags_table old new → Holds l old → Holds l new
  contents_beside_tags keeps = contents_beside tags_table 3 refl keeps refl

  pub contents_beside_blobs : KeepsOthers blob_links_table old new → Holds l old → Holds l new
  contents_beside_blobs keeps = contents_beside blob_links_table 5 refl keeps refl

  pub contents_beside_manifests : KeepsOthers manifest_links_table old new → Holds l old → Holds l new
  contents_beside_manifests keeps = contents_beside manifest_links_table 6 refl keeps refl

  pub contents_beside_uploads : KeepsOthers uploads_table old new → Holds l old → Holds l new
  contents_beside_uploads keeps = contents_beside uploads_table 7 refl keeps refl

  pub contents_beside_pieces : KeepsOthers pieces_table old new → Holds l old → Holds l new
  contents_beside_pieces keeps = contents_beside pieces_table 8 refl keeps refl

-- ---- where bytes are in the tables

module _ (old new : Database) (k : KnowsRegistry InTables old.schema) where
  pub only_contents : KeepsOthers contents_table old new → tables_in InTables new ≡ record (tables_in InTables old) { contents = bytes_in new }
  only_contents keeps = only old new k contents_table 4 refl keeps (rows_of new contents_table) refl (kept_in InTables new) refl

  -- a write to a further table
  module _ (table : Table) (apart : AreApart (tree_of old.schema table ∷ trees_of old.schema)) (keeps : KeepsOthers table old new) where
    left : (v : Which) → rows_of new (table_of v) ≡ rows_of old (table_of v)
    left v = rows_in old new table (table_of v) (stands old new k v) keeps
        (apart_at (tree_of old.schema table ∷ trees_of old.schema) apart (suc (place v)) 0 (λ e. absurd (let x = e in cc)) (tree_of old.schema (table_of v)) (tree_of old.schema table) (at old new k v) refl)

    contents_left : AreLeft InTables old new
    contents_left = left_by_other InTables table old new k.contents keeps
        (apart_at (tree_of old.schema table ∷ trees_of old.schema) apart 5 0 (λ e. absurd (let x = e in cc)) (tree_of old.schema contents_table) (tree_of old.schema table) refl refl) tt

    pub only_further : tables_in InTables new ≡ record (tables_in InTables old) { beside = beside_in new }
    only_further = λ i. with_rows InTables (λ v. left v i) (record { contents = contents_left.contents i; places = []; packs = [] }) (beside_in new)

    pub contents_beside_further : HoldsContents old → HoldsContents new
    contents_beside_further = contents_left.holds

-- ---- where bytes are in a pack: a write to the tables that say where

module _ (file : List ℕ) (old new : Database) (k : KnowsRegistry (InPack file) old.schema) (keeps : KeepsAround old new) where
  around : (v : Which) → rows_of new (table_of v) ≡ rows_of old (table_of v)
  around v =
      rows_around old new (table_of v) (stands old new k v) keeps
      (apart_at (trees_of old.schema) k.apart (place v) 4 (not_four v) (tree_of old.schema (table_of v)) (tree_of old.schema contents_table) (at old new k v) refl)
      (all-slice_get (λ o. o ≢ tree_of old.schema places_table) (trees_of old.schema) (place v) (tree_of old.schema (table_of v)) (at old new k v) k.further.0.0)
    where
      not_four : (w : Which) → place w ≢ 4
      not_four version e = absurd cc
      not_four repos e = absurd cc
      not_four grants e = absurd cc
      not_four tags e = absurd cc
      not_four blobs e = absurd cc
      not_four manifests e = absurd cc
      not_four uploads e = absurd cc
      not_four pieces e = absurd cc

  beside_around : beside_in new ≡ beside_in old
  beside_around = λ i. record {
    schema = keeps.schema i;
    rows = (ap (λ (s : Schema). rows_beside new.trees (trees_of s) s.tables) keeps.schema
        ∙ same_beside old.trees new.trees (trees_of old.schema) old.schema.tables
        (all_both (λ (t : Table). t.tree ≢ tree_of old.schema contents_table → t.tree ≢ tree_of old.schema places_table → new.trees t.tree ≡ old.trees t.tree)
        (λ (t : Table). is_beside (trees_of old.schema) t ≡ true → t.tree ≢ tree_of old.schema places_table) (λ (t : Table). is_beside (trees_of old.schema) t ≡ true → new.trees t.tree ≡ old.trees t.tree)
        (λ t keep none is. keep (apart_beside (trees_of old.schema) 4 (tree_of old.schema contents_table) t refl is) (none is)) old.schema.tables keeps.tables k.further.0.1)) i;
  }

  pub only_around : tables_in (InPack file) new ≡ record (tables_in (InPack file) old) { contents = contents_in (InPack file) new; places = place_rows new }
  only_around = λ i. with_rows (InPack file) (λ v. around v i)
      (record { contents = contents_in (InPack file) new; places = place_rows new; packs = rows_around old new pack_table k.contents.pack keeps k.contents.pack_apart.0 k.contents.pack_apart.1 i }) (beside_around i)

-- ---- the row that says which pack it is

module _ (file : List ℕ) (old new : Database) (k : KnowsRegistry (InPack file) old.schema) (keeps : KeepsOthers pack_table old new)
    (contents : content_rows new ≡ content_rows old) (places : place_rows new ≡ place_rows old) where
  left_by_pack : (v : Which) → rows_of new (table_of v) ≡ rows_of old (table_of v)
  left_by_pack v =
      rows_in old new pack_table (table_of v) (stands old new k v) keeps
      (all-slice_get (λ o. o ≢ tree_of old.schema pack_table) (trees_of old.schema) (place v) (tree_of old.schema (table_of v)) (at old new k v) k.further.1.0.0)

  beside_pack : beside_in new ≡ beside_in old
  beside_pack = λ i. record {
    schema = keeps.schema i;
    rows = (ap (λ (s : Schema). rows_beside new.trees (trees_of s) s.tables) keeps.schema
        ∙ same_beside old.trees new.trees (trees_of old.schema) old.schema.tables
        (all_both (λ (t : Table). t.tree ≢ tree_of old.schema pack_table → new.trees t.tree ≡ old.trees t.tree)
        (λ (t : Table). is_beside (trees_of old.schema) t ≡ true → t.tree ≢ tree_of old.schema pack_table) (λ (t : Table). is_beside (trees_of old.schema) t ≡ true → new.trees t.tree ≡ old.trees t.tree)
        (λ t keep none is. keep (none is)) old.schema.tables keeps.tables k.further.1.0.1)) i;
  }

  same_bytes : (id : ℤ) → contents_in (InPack file) new id ≡ contents_in (InPack file) old id
  same_bytes id =
      ap (λ (rows : List Row). option_map (λ _. joined file (places_of (place_rows new) id)) (find (has_rowid id) rows)) contents
      ∙ ap (λ (rows : List Row). option_map (λ _. joined file (places_of rows id)) (find (has_rowid id) (content_rows old))) places

  pub only_pack : tables_in (InPack file) new ≡ record (tables_in (InPack file) old) { packs = pack_rows new }
  only_pack = λ i. with_rows (InPack file) (λ v. left_by_pack v i)
      (record { contents = λ id. same_bytes id i; places = places i; packs = pack_rows new }) (beside_pack i)
