-- The world that the rows of both schemas stand for together, while rows are moved one by one from the tables
-- of schema 1 to those of schema 2: what either has is there.
use Rattle.std.specs.Prelude.{◌≡◌, Bool, List, [], ◌++◌, map, filter, find, None}
use Rattle.std.specs.List.{AllByRecursion}
use Rattle.std.specs.Ordering.{nat_cmp}
use Rattle.std.specs.FinMap.{FinMap, from_entries}
use Rattle.sqlite.specs.Order.{Row}
use Rattle.oci_types.specs.Text.{Text}
use Rattle.registry_model.specs.World.{text_cmp, Repo, World}
use Rattle.store_schema.specs.Rows.{bytes_at, natural_at}
use Rattle.store_statements.specs.Keys.{of_first, same_key, same_session}
use Rattle.store_statements.specs.Tables.{Tables, Beside, IsEmptyBeside}
use Rattle.store_statements.specs.World.{blob_entry, manifest_entry, session_entry, tags_of, grants_of}
use Rattle.store_statements.specs.Registry.{IsOfSchemaTwo, IsRegistry}
use Rattle.store_migration.specs.OldTables.{OldTables, AreOldTables, IsOfSchemaOne}
use Rattle.store_migration.specs.OldWorld.{old_blobs, old_manifests, old_sessions}

-- ---- what a repository has, by its name

abbrev pub both_blobs : OldTables → Tables → Text → FinMap text_cmp Text
both_blobs old t name =
    from_entries (old_blobs old name ++ map (blob_entry t.contents) (filter (of_first name) t.blobs))

abbrev pub both_manifests : OldTables → Tables → Text → FinMap text_cmp Text
both_manifests old t name =
    from_entries
    (old_manifests old name ++ map (manifest_entry t.contents) (filter (of_first name) t.manifests))

abbrev pub both_sessions : OldTables → Tables → Text → FinMap nat_cmp Text
both_sessions old t name =
    from_entries
    (old_sessions old name ++ map (session_entry t.contents t.pieces) (filter (of_first name) t.uploads))

-- ---- the world

-- the repository of this row
abbrev pub both_repo_in : OldTables → Tables → Row → Repo
both_repo_in old t r = record {
  blobs = both_blobs old t (bytes_at r 1);
  manifests = both_manifests old t (bytes_at r 1);
  tags = tags_of t.tags (bytes_at r 1);
  sessions = both_sessions old t (bytes_at r 1);
  last = natural_at r 3;
  quota = natural_at r 2;
}

abbrev pub both_repo_entry : OldTables → Tables → Row → Text × Repo
both_repo_entry old t r = (bytes_at r 1, both_repo_in old t r)

abbrev pub world_of_both : OldTables → Tables → World
world_of_both old t = record {
  repos = from_entries (map (both_repo_entry old t) t.repos);
  grants = grants_of t.grants;
}

-- ---- what is kept true while rows are moved

-- the tables of schema 2 are a registry's as soon as the further ones are empty and the version says so,
-- which is written last
abbrev pub IsRegistryOnceTwo : Tables → Type 0
IsRegistryOnceTwo t =
    (version : List Row) (beside : Beside) → IsOfSchemaTwo version → IsEmptyBeside beside
    → IsRegistry (record t { version = version; beside = beside })

-- no row of schema 2 has the key of one of schema 1
abbrev pub AreUnmoved : (Row → Row → Bool) → List Row → List Row → Type 0
AreUnmoved same olds news = AllByRecursion (λ r. find (same r) news ≡ None) olds

pub record AreBoth (old : OldTables) (t : Tables) : Type 0 where
  pub version : IsOfSchemaOne t.version
  pub olds : AreOldTables t.repos old
  pub news : IsRegistryOnceTwo t
  pub blobs : AreUnmoved same_key old.blobs t.blobs
  pub manifests : AreUnmoved same_key old.manifests t.manifests
  pub sessions : AreUnmoved same_session old.sessions t.uploads

-- ---- where it begins

-- the tables that only schema 2 has were just made: all are taken as tables of that schema
abbrev pub emptied : Tables → Tables
emptied t = record t {
  number = 2;
  contents = λ id. None;
  blobs = [];
  manifests = [];
  uploads = [];
  pieces = [];
}
