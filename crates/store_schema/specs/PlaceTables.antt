-- The tables of contents whose bytes stand in a pack, with the texts that make them. They go with the other
-- tables of a registry; `registry_contents` has no bytes here. All are STRICT; each column is NOT NULL but
-- `id`, which stands for the rowid.
use Rattle.std.specs.Prelude.{[], ◌∷◌, ◌++◌, Some, codes, List, ℕ}
use Rattle.sqlite.specs.Table.{Table}
use Rattle.sqlite.specs.Kind.TheVariants.{Integer, Text, Blob}
use Rattle.store_schema.specs.Schema.{required, optional, unkeyed, keyed}

-- which pack belongs to the registry, and the age of its rows; one row
abbrev pub pack_table : Table
pack_table =
    unkeyed (codes "registry_pack") (required (codes "mark") Blob ∷ required (codes "age") Integer ∷ [])

-- contents, each once; `sha256` is 64 lower-case hexadecimal digits
abbrev pub contents_table : Table
contents_table =
    record (unkeyed (codes "registry_contents")
    (optional (codes "id") Integer ∷ required (codes "sha256") Text ∷ required (codes "size") Integer ∷ []))
    { key = Some 0; primary = 0 ∷ [] }

-- where they stand: so many bytes of the content, from `start` on, are at `at` of the pack
abbrev pub places_table : Table
places_table =
    keyed (codes "registry_places")
    (required (codes "content") Integer ∷ required (codes "start") Integer ∷ required (codes "size") Integer
    ∷ required (codes "at") Integer ∷ [])
    (1 ∷ 2 ∷ []) []

abbrev pub pack_text : List ℕ
pack_text = codes "CREATE TABLE registry_pack (mark BLOB NOT NULL, age INTEGER NOT NULL) STRICT"

abbrev pub contents_text : List ℕ
contents_text =
    codes "CREATE TABLE registry_contents (id INTEGER PRIMARY KEY, sha256 TEXT NOT NULL, "
    ++ codes "size INTEGER NOT NULL) STRICT"

abbrev pub places_text : List ℕ
places_text =
    codes "CREATE TABLE registry_places (content INTEGER NOT NULL, start INTEGER NOT NULL, "
    ++ codes "size INTEGER NOT NULL, at INTEGER NOT NULL, PRIMARY KEY (content, start)) STRICT"
