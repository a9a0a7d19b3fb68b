-- The schema of a registry file of schema 1, and that of such a file once the tables of schema 2 are made in
-- it. In schema 1 each row of a blob, a manifest or an upload session has its whole bytes.
use Rattle.std.specs.Prelude.{[], ◌∷◌, codes}
use Rattle.sqlite.specs.Table.{Table}
use Rattle.sqlite.specs.Schema.{Schema}
use Rattle.sqlite.specs.Kind.TheVariants.{Integer, Text, Blob}
use Rattle.sqlite.specs.Change.{created, indexed}
use Rattle.sqlite_schema.specs.declared.schema.Index.{Index}
use Rattle.store_schema.specs.Schema.{required, optional, keyed, to_repos, contents_table, blob_links_table, manifest_links_table, uploads_table, pieces_table, subject_index, sha256_index}
use Rattle.store_schema.specs.Making.{shared_tables}

abbrev pub old_blobs_table : Table
old_blobs_table =
    keyed (codes "registry_blobs")
    (required (codes "repo") Text ∷ required (codes "digest") Text ∷ required (codes "size") Integer
    ∷ required (codes "bytes") Blob ∷ [])
    (1 ∷ 2 ∷ []) (to_repos 1 ∷ [])

abbrev pub old_manifests_table : Table
old_manifests_table =
    keyed (codes "registry_manifests")
    (required (codes "repo") Text ∷ required (codes "digest") Text ∷ required (codes "size") Integer
    ∷ required (codes "kind") Integer ∷ optional (codes "subject") Text ∷ required (codes "bytes") Blob ∷ [])
    (1 ∷ 2 ∷ []) (to_repos 1 ∷ [])

abbrev pub old_sessions_table : Table
old_sessions_table =
    keyed (codes "registry_sessions")
    (required (codes "repo") Text ∷ required (codes "number") Integer ∷ required (codes "size") Integer
    ∷ required (codes "bytes") Blob ∷ [])
    (1 ∷ 2 ∷ []) (to_repos 1 ∷ [])

abbrev pub old_subject_index : Index
old_subject_index = record subject_index { name = codes "registry_manifests_subject" }

-- ---- schema 1, its tables in the order in which they are made

abbrev pub old_schema : Schema
old_schema =
    indexed (created (created (created shared_tables old_blobs_table) old_manifests_table) old_sessions_table)
    (record old_manifests_table { tree = 9 }) old_subject_index

-- ---- with those of schema 2 behind them

abbrev pub old_linked : Schema
old_linked = created (created (created old_schema contents_table) blob_links_table) manifest_links_table

abbrev pub both_tables : Schema
both_tables = created (created old_linked uploads_table) pieces_table

abbrev pub both_schema : Schema
both_schema =
    indexed (indexed both_tables (record contents_table { tree = 14 }) sha256_index)
    (record manifest_links_table { tree = 17 }) subject_index
