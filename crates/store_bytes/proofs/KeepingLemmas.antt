-- What holds of a connection under one layout holds under another that has the same contents.
use Rattle.std.proofs.Common.{◌≡◌, ◌∙◌, ℕ, ℤ, ◌+◌, List, [], ◌∷◌, ◌++◌, map, slice_range, refl, sym, ap, subst}
use Rattle.std.specs.Prelude.{filter, find, option_map}
use Rattle.std.specs.List.{AllByRecursion}
use Rattle.std.proofs.lemmas.List.Sorted.{IsPermutation-sym}
use Rattle.sqlite.specs.Order.{Row}
use Rattle.sqlite.specs.Schema.{Schema}
use Rattle.sqlite.specs.State.{State}
use Rattle.sqlite.specs.Tree.{has_rowid}
use Rattle.sqlite.specs.Effect.{Database}
use Rattle.sqlite_keyed.specs.Lists.{sort_by}
use Rattle.sqlite_keyed.proofs.SortLemmas.{IsPermutation-sort_by}
use Rattle.sqlite_trees.proofs.ListLemmas.{all-filter, all-permutation}
use Rattle.store_schema.specs.Rows.{natural_at}
use Rattle.store_contents.specs.Contents as contents
use Rattle.store_contents.specs.Layouts.{InPack, InTables, Layout}
use Rattle.store_contents.specs.Places.{by_start, bytes_of, content_rows, joined, of_content, place_rows, places_of, runs_of}
use Rattle.store_places.proofs.Sorting.{starts_total}
use Rattle.store_statements.specs.Held.{IsSettled, held, tables_in}
use Rattle.store_statements.specs.Known.{KnowsRegistry}
use Rattle.store_statements.specs.Tables.{AreTables}
use Rattle.store_statements.specs.Registry.{Agree}
use Rattle.store_bytes.specs.Keeping.{AllPlaces, AreOfKind, KeepsBytes}

-- ---- the places of a content are among all

all_mapped : {A B : Type 0} (P : B → Type 0) (f : A → B) (xs : List A) → AllByRecursion (λ x. P (f x)) xs → AllByRecursion P (map f xs)
all_mapped P f [] all = tt
all_mapped P f (x ∷ xs) all = (all.0, all_mapped P f xs all.1)

all_from_mapped : {A B : Type 0} (P : B → Type 0) (f : A → B) (xs : List A) → AllByRecursion P (map f xs) → AllByRecursion (λ x. P (f x)) xs
all_from_mapped P f [] all = tt
all_from_mapped P f (x ∷ xs) all = (all.0, all_from_mapped P f xs all.1)

abbrev pub run_of : Row → ℕ × ℕ
run_of r = (natural_at r 4, natural_at r 3)

-- what holds of each place holds of those of a content
pub runs_of_content : (P : ℕ × ℕ → Type 0) (rows : List Row) (id : ℤ) → AllByRecursion P (runs_of rows) → AllByRecursion P (runs_of (places_of rows id))
runs_of_content P rows id all =
    let Q : Row → Type 0 = λ r. P (run_of r) in
    let some = filter (of_content id) rows in
    all_mapped P run_of (sort_by by_start some)
    (all-permutation Q some (sort_by by_start some) (IsPermutation-sym _ _ (IsPermutation-sort_by by_start starts_total some)) (all-filter Q (of_content id) rows (all_from_mapped P run_of rows all)))

-- ---- a file that has the same bytes at each place has the same contents

abbrev pub IsSameAt : List ℕ → List ℕ → ℕ × ℕ → Type 0
IsSameAt file other run = slice_range other run.0 (run.0 + run.1) ≡ slice_range file run.0 (run.0 + run.1)

joined_same : (file other : List ℕ) (rows : List Row) → AllByRecursion (IsSameAt file other) (runs_of rows) → joined other rows ≡ joined file rows
joined_same file other [] all = refl
joined_same file other (r ∷ rs) all = ap (λ (l : List ℕ). l ++ joined other rs) all.0 ∙ ap (λ l. bytes_of file r ++ l) (joined_same file other rs all.1)

pub keeps_bytes : (file other : List ℕ) (db : Database) → AllPlaces (IsSameAt file other) (InPack file) db → KeepsBytes (InPack file) (InPack other) db
keeps_bytes file other db all = record {
  kind = tt;
  contents = λ id. ap (λ l. option_map (λ _. l) (find (has_rowid id) (content_rows db))) (same id);
  holds = λ it. record { rows = it.rows; hashed = λ id row there. it.hashed id row there ∙ ap contents.sha256_text (sym (same id)) };
}
  where
    same : (id : ℤ) → joined other (places_of (place_rows db) id) ≡ joined file (places_of (place_rows db) id)
    same id = joined_same file other (places_of (place_rows db) id) (runs_of_content (IsSameAt file other) (place_rows db) id all)

-- ---- a connection

knows_too : (l m : Layout) → AreOfKind l m → (schema : Schema) → KnowsRegistry l schema → KnowsRegistry m schema
knows_too InTables InTables kind schema k = k
knows_too (InPack file) (InPack other) kind schema k = record {
  contents = k.contents;
  further = k.further;
  repos = k.repos;
  grants = k.grants;
  tags = k.tags;
  blobs = k.blobs;
  manifests = k.manifests;
  uploads = k.uploads;
  pieces = k.pieces;
  version = k.version;
  grants_alone = k.grants_alone;
  tags_alone = k.tags_alone;
  blobs_alone = k.blobs_alone;
  manifests_alone = k.manifests_alone;
  uploads_alone = k.uploads_alone;
  pieces_alone = k.pieces_alone;
  apart = k.apart;
  children = k.children;
  still = k.still;
  repo_texts = k.repo_texts;
  grant_texts = k.grant_texts;
  tag_texts = k.tag_texts;
  blob_texts = k.blob_texts;
  manifest_texts = k.manifest_texts;
  upload_texts = k.upload_texts;
  piece_texts = k.piece_texts;
  version_texts = k.version_texts;
}
knows_too InTables (InPack other) kind schema k = absurd kind
knows_too (InPack file) InTables kind schema k = absurd kind

tables_too : (l m : Layout) (db : Database) → KeepsBytes l m db → tables_in m db ≡ tables_in l db
tables_too InTables InTables db keeps = refl
tables_too (InPack file) (InPack other) db keeps = λ i. record (tables_in (InPack file) db) { contents = λ id. keeps.contents id i }
tables_too InTables (InPack other) db keeps = absurd keeps.kind
tables_too (InPack file) InTables db keeps = absurd keeps.kind

-- THE CONNECTION is settled under both, with the same tables
pub settled_too : (l m : Layout) (s : State) → KeepsBytes l m s.now → IsSettled l s → IsSettled m s × (held m s ≡ held l s)
settled_too l m s keeps is =
    let same = tables_too l m s.now keeps in (
      record {
        is_open = is.is_open;
        autocommit = is.autocommit;
        committed = is.committed;
        holds = record {
          known = knows_too l m keeps.kind s.now.schema is.holds.known;
          contents = keeps.holds is.holds.contents;
          tables = subst AreTables (sym same) is.holds.tables;
        };
        agree = subst Agree (sym same) is.agree;
      },
      same,
    )
