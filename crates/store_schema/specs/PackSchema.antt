-- The schema of a registry whose contents stand in a pack, as a registry makes it in an empty database.
use Rattle.std.specs.Prelude.{false, [], ◌∷◌, ◌++◌, codes, List, ℕ}
use Rattle.sqlite.specs.Table.{Table}
use Rattle.sqlite.specs.Schema.{Schema}
use Rattle.sqlite.specs.Change.{created, indexed}
use Rattle.sqlite_schema.specs.declared.schema.Index.{Index}
use Rattle.sqlite_value.specs.Keys.{plain}
use Rattle.store_schema.specs.Schema.{blob_links_table, manifest_links_table, uploads_table, pieces_table, subject_index, sha256_index}
use Rattle.store_schema.specs.Making.{shared_tables}
use Rattle.store_schema.specs.Beside.{shared_names, shared_ones}
use Rattle.store_schema.specs.PlaceTables.{pack_table, contents_table, places_table}

-- ---- the indexes that only this schema has: what names a content, by its id

-- on the column at this place
abbrev pub index_on : List ℕ → ℕ → Index
index_on name place = record {
  name = name;
  tree = 0;
  table = 0;
  columns = place ∷ [];
  order = plain;
  is_unique = false;
}

abbrev pub blob_content_index : Index
blob_content_index = index_on (codes "registry_blob_links_content") 4

abbrev pub manifest_content_index : Index
manifest_content_index = index_on (codes "registry_manifest_links_content") 6

abbrev pub piece_content_index : Index
piece_content_index = index_on (codes "registry_pieces_content") 5

abbrev pub blob_content_text : List ℕ
blob_content_text = codes "CREATE INDEX registry_blob_links_content ON registry_blob_links (content)"

abbrev pub manifest_content_text : List ℕ
manifest_content_text =
    codes "CREATE INDEX registry_manifest_links_content ON registry_manifest_links (content)"

abbrev pub piece_content_text : List ℕ
piece_content_text = codes "CREATE INDEX registry_pieces_content ON registry_pieces (content)"

-- ---- the whole, its tables in the order in which they are made

abbrev pub placed_tables : Schema
placed_tables = created (created (created shared_tables pack_table) contents_table) places_table

abbrev pub pack_tables : Schema
pack_tables =
    created (created (created (created placed_tables blob_links_table) manifest_links_table) uploads_table)
    pieces_table

-- with the two indexes that the other schema has too
abbrev pub pack_indexed : Schema
pack_indexed =
    indexed (indexed pack_tables (record contents_table { tree = 8 }) sha256_index)
    (record manifest_links_table { tree = 13 }) subject_index

abbrev pub pack_schema : Schema
pack_schema =
    indexed (indexed (indexed pack_indexed (record blob_links_table { tree = 11 }) blob_content_index)
    (record manifest_links_table { tree = 13 }) manifest_content_index)
    (record pieces_table { tree = 17 }) piece_content_index

-- ---- its names

abbrev pub pack_names : List (List ℕ)
pack_names =
    shared_names ++ pack_table.name ∷ contents_table.name ∷ places_table.name ∷ blob_links_table.name
    ∷ manifest_links_table.name ∷ uploads_table.name ∷ pieces_table.name ∷ sha256_index.name
    ∷ subject_index.name ∷ blob_content_index.name ∷ manifest_content_index.name ∷ piece_content_index.name
    ∷ []

abbrev pub pack_ones : List Table
pack_ones =
    shared_ones ++ pack_table ∷ contents_table ∷ places_table ∷ blob_links_table ∷ manifest_links_table
    ∷ uploads_table ∷ pieces_table ∷ []
