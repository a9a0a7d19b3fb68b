-- The world that tables of schema 1 stand for: a blob, a manifest or an upload session is the bytes of its
-- row.
use Rattle.std.specs.Prelude.{ℕ, List, map, filter}
use Rattle.std.specs.FinMap.{from_entries}
use Rattle.sqlite.specs.Order.{Row}
use Rattle.oci_types.specs.Text.{Text}
use Rattle.registry_model.specs.World.{Repo, World}
use Rattle.store_schema.specs.Rows.{bytes_at, natural_at}
use Rattle.store_statements.specs.Keys.{of_first}
use Rattle.store_statements.specs.Tables.{Tables}
use Rattle.store_statements.specs.World.{tags_of, grants_of}
use Rattle.store_migration.specs.OldTables.{OldTables}

abbrev pub old_blob_entry : Row → Text × Text
old_blob_entry r = (bytes_at r 2, bytes_at r 4)

abbrev pub old_manifest_entry : Row → Text × Text
old_manifest_entry r = (bytes_at r 2, bytes_at r 6)

abbrev pub old_session_entry : Row → ℕ × Text
old_session_entry r = (natural_at r 2, bytes_at r 4)

-- ---- what the rows of a repository say, by its name

abbrev pub old_blobs : OldTables → Text → List (Text × Text)
old_blobs old name = map old_blob_entry (filter (of_first name) old.blobs)

abbrev pub old_manifests : OldTables → Text → List (Text × Text)
old_manifests old name = map old_manifest_entry (filter (of_first name) old.manifests)

abbrev pub old_sessions : OldTables → Text → List (ℕ × Text)
old_sessions old name = map old_session_entry (filter (of_first name) old.sessions)

-- ---- the world

-- the repository of this row
abbrev pub old_repo_in : OldTables → Tables → Row → Repo
old_repo_in old t r = record {
  blobs = from_entries (old_blobs old (bytes_at r 1));
  manifests = from_entries (old_manifests old (bytes_at r 1));
  tags = tags_of t.tags (bytes_at r 1);
  sessions = from_entries (old_sessions old (bytes_at r 1));
  last = natural_at r 3;
  quota = natural_at r 2;
}

abbrev pub old_repo_entry : OldTables → Tables → Row → Text × Repo
old_repo_entry old t r = (bytes_at r 1, old_repo_in old t r)

abbrev pub old_world : OldTables → Tables → World
old_world old t = record {
  repos = from_entries (map (old_repo_entry old t) t.repos);
  grants = grants_of t.grants;
}
