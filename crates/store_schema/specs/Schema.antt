-- The tables of a registry (profile). All are STRICT; each column is NOT NULL but `subject`, and `id`, which
-- stands for the rowid. A row that names a repository goes with it.
use Rattle.std.specs.Prelude.{true, false, [], ◌∷◌, ◌++◌, Some, None, codes, List, ℕ}
use Rattle.sqlite.specs.Collation.TheVariants.{Binary}
use Rattle.sqlite.specs.declared.types.Value.TheVariants.{Null}
use Rattle.sqlite.specs.Table.{Table}
use Rattle.sqlite.specs.Schema.{Schema}
use Rattle.sqlite.specs.Kind.{Kind}
use Rattle.sqlite.specs.Kind.TheVariants.{Integer, Text, Blob}
use Rattle.sqlite_schema.specs.declared.schema.Column.{Column}
use Rattle.sqlite_schema.specs.declared.schema.Index.{Index}
use Rattle.sqlite_schema.specs.declared.schema.Reference.{Reference}
use Rattle.sqlite_schema.specs.declared.schema.Action.TheVariants.{NoAction, Cascade}
use Rattle.sqlite_value.specs.Keys.{plain}
use Rattle.sqlite.specs.Change.{created, indexed}

-- ---- the parts of a table

-- a column that takes no NULL
abbrev pub required : List ℕ → Kind → Column
required name kind = record {
  name = name;
  kind = kind;
  is_strict = true;
  not_null = true;
  default = Null;
  collation = Binary;
}

abbrev pub optional : List ℕ → Kind → Column
optional name kind = record (required name kind) { not_null = false }

abbrev pub repos_name : List ℕ
repos_name = codes "registry_repos"

-- the column at this place names a repository, and the row goes with it
abbrev pub to_repos : ℕ → Reference
to_repos place = record {
  columns = place ∷ [];
  parent = repos_name;
  parent_columns = codes "name" ∷ [];
  on_delete = Cascade;
  on_update = NoAction;
  is_deferred = false;
}

-- a table with no key of its own but the rowid
abbrev pub unkeyed : List ℕ → List Column → Table
unkeyed name columns = record {
  name = name;
  tree = 0;
  columns = columns;
  key = None;
  primary = [];
  uniques = [];
  orders = [];
  checks = [];
  references = [];
  computed = [];
  stamps = record { places = []; terms = []; formats = [] };
  is_counted = false;
}

-- with the columns at these places as its key
abbrev pub keyed : List ℕ → List Column → List ℕ → List Reference → Table
keyed name columns places references = record (unkeyed name columns) {
  primary = places;
  uniques = places ∷ [];
  orders = plain ∷ [];
  references = references;
}

-- ---- the tables

-- which schema this is; one row
abbrev pub version_table : Table
version_table = unkeyed (codes "registry_schema") (required (codes "version") Integer ∷ [])

abbrev pub repos_table : Table
repos_table =
    keyed repos_name
    (required (codes "name") Text ∷ required (codes "quota") Integer ∷ required (codes "last_session") Integer
    ∷ [])
    (1 ∷ []) []

abbrev pub grants_table : Table
grants_table =
    keyed (codes "registry_grants")
    (required (codes "token") Text ∷ required (codes "repo") Text ∷ required (codes "level") Integer ∷ [])
    (1 ∷ 2 ∷ []) (to_repos 2 ∷ [])

abbrev pub tags_table : Table
tags_table =
    keyed (codes "registry_tags")
    (required (codes "repo") Text ∷ required (codes "tag") Text ∷ required (codes "digest") Text ∷ [])
    (1 ∷ 2 ∷ []) (to_repos 1 ∷ [])

-- bytes, each once; `sha256` is 64 lower-case hexadecimal digits
abbrev pub contents_table : Table
contents_table =
    record (unkeyed (codes "registry_contents")
    (optional (codes "id") Integer ∷ required (codes "sha256") Text ∷ required (codes "size") Integer
    ∷ required (codes "bytes") Blob ∷ []))
    { key = Some 0; primary = 0 ∷ [] }

abbrev pub blob_links_table : Table
blob_links_table =
    keyed (codes "registry_blob_links")
    (required (codes "repo") Text ∷ required (codes "digest") Text ∷ required (codes "size") Integer
    ∷ required (codes "content") Integer ∷ [])
    (1 ∷ 2 ∷ []) (to_repos 1 ∷ [])

abbrev pub manifest_links_table : Table
manifest_links_table =
    keyed (codes "registry_manifest_links")
    (required (codes "repo") Text ∷ required (codes "digest") Text ∷ required (codes "size") Integer
    ∷ required (codes "kind") Integer ∷ optional (codes "subject") Text ∷ required (codes "content") Integer
    ∷ [])
    (1 ∷ 2 ∷ []) (to_repos 1 ∷ [])

-- upload sessions
abbrev pub uploads_table : Table
uploads_table =
    keyed (codes "registry_uploads")
    (required (codes "repo") Text ∷ required (codes "number") Integer ∷ required (codes "size") Integer ∷ [])
    (1 ∷ 2 ∷ []) (to_repos 1 ∷ [])

-- what was appended to them
abbrev pub pieces_table : Table
pieces_table =
    keyed (codes "registry_pieces")
    (required (codes "repo") Text ∷ required (codes "number") Integer ∷ required (codes "start") Integer
    ∷ required (codes "size") Integer ∷ required (codes "content") Integer ∷ [])
    (1 ∷ 2 ∷ 3 ∷ []) (to_repos 1 ∷ [])

abbrev pub subject_index : Index
subject_index = record {
  name = codes "registry_manifest_links_subject";
  tree = 0;
  table = 0;
  columns = 1 ∷ 5 ∷ [];
  order = plain;
  is_unique = false;
}

abbrev pub sha256_index : Index
sha256_index = record {
  name = codes "registry_contents_sha256";
  tree = 0;
  table = 0;
  columns = 2 ∷ [];
  order = plain;
  is_unique = false;
}

-- ---- what makes them

abbrev pub version_text : List ℕ
version_text = codes "CREATE TABLE registry_schema (version INTEGER NOT NULL) STRICT"

abbrev pub repos_text : List ℕ
repos_text =
    codes "CREATE TABLE registry_repos (name TEXT NOT NULL PRIMARY KEY, quota INTEGER NOT NULL, "
    ++ codes "last_session INTEGER NOT NULL) STRICT"

abbrev pub grants_text : List ℕ
grants_text =
    codes "CREATE TABLE registry_grants (token TEXT NOT NULL, repo TEXT NOT NULL "
    ++ codes "REFERENCES registry_repos (name) ON DELETE CASCADE, level INTEGER NOT NULL, "
    ++ codes "PRIMARY KEY (token, repo)) STRICT"

abbrev pub tags_text : List ℕ
tags_text =
    codes "CREATE TABLE registry_tags (repo TEXT NOT NULL "
    ++ codes "REFERENCES registry_repos (name) ON DELETE CASCADE, tag TEXT NOT NULL, digest TEXT NOT NULL, "
    ++ codes "PRIMARY KEY (repo, tag)) STRICT"

abbrev pub contents_text : List ℕ
contents_text =
    codes "CREATE TABLE registry_contents (id INTEGER PRIMARY KEY, sha256 TEXT NOT NULL, "
    ++ codes "size INTEGER NOT NULL, bytes BLOB NOT NULL) STRICT"

abbrev pub blob_links_text : List ℕ
blob_links_text =
    codes "CREATE TABLE registry_blob_links (repo TEXT NOT NULL "
    ++ codes "REFERENCES registry_repos (name) ON DELETE CASCADE, digest TEXT NOT NULL, "
    ++ codes "size INTEGER NOT NULL, content INTEGER NOT NULL, PRIMARY KEY (repo, digest)) STRICT"

abbrev pub manifest_links_text : List ℕ
manifest_links_text =
    codes "CREATE TABLE registry_manifest_links (repo TEXT NOT NULL "
    ++ codes "REFERENCES registry_repos (name) ON DELETE CASCADE, digest TEXT NOT NULL, "
    ++ codes "size INTEGER NOT NULL, kind INTEGER NOT NULL, subject TEXT, content INTEGER NOT NULL, "
    ++ codes "PRIMARY KEY (repo, digest)) STRICT"

abbrev pub uploads_text : List ℕ
uploads_text =
    codes "CREATE TABLE registry_uploads (repo TEXT NOT NULL "
    ++ codes "REFERENCES registry_repos (name) ON DELETE CASCADE, number INTEGER NOT NULL, "
    ++ codes "size INTEGER NOT NULL, PRIMARY KEY (repo, number)) STRICT"

abbrev pub pieces_text : List ℕ
pieces_text =
    codes "CREATE TABLE registry_pieces (repo TEXT NOT NULL "
    ++ codes "REFERENCES registry_repos (name) ON DELETE CASCADE, number INTEGER NOT NULL, "
    ++ codes "start INTEGER NOT NULL, size INTEGER NOT NULL, content INTEGER NOT NULL, "
    ++ codes "PRIMARY KEY (repo, number, start)) STRICT"

abbrev pub subject_index_text : List ℕ
subject_index_text =
    codes "CREATE INDEX registry_manifest_links_subject ON registry_manifest_links (repo, subject)"

abbrev pub sha256_index_text : List ℕ
sha256_index_text = codes "CREATE INDEX registry_contents_sha256 ON registry_contents (sha256)"

-- ---- the whole, as a registry makes it in an empty database

abbrev pub no_schema : Schema
no_schema = record { tables = []; indexes = []; views = [] }

abbrev pub fresh_tables : Schema
fresh_tables =
    created (created (created (created (created (created (created (created (created no_schema version_table)
    repos_table) grants_table) tags_table) contents_table) blob_links_table) manifest_links_table)
    uploads_table) pieces_table

abbrev pub fresh_schema : Schema
fresh_schema =
    indexed (indexed fresh_tables (record contents_table { tree = 7 }) sha256_index)
    (record manifest_links_table { tree = 10 }) subject_index
