-- What moving a row leaves of the tables of both schemas.
use Rattle.std.specs.Prelude.{◌≡◌, ◌⊎◌, ℕ, ℤ, List, length, Some, Result, OnOk, IfOk, [], map}
use Rattle.sqlite_trees.specs.declared.store.Store.{Ghosts}
use Rattle.sqlite.specs.Order.{Row}
use Rattle.sqlite.specs.State.{HasCleanDisk, KeepsCommit}
use Rattle.sqlite.specs.Held.{Held, state}
use Rattle.oci_types.specs.Text.{Text}
use Rattle.oci_types.specs.Manifest.{manifest_in}
use Rattle.registry_model.specs.Manifests.{kind_in}
use Rattle.registry_model.specs.Referrers.{subject_or_none}
use Rattle.store_contents.specs.Layouts.{InTables}
use Rattle.store_statements.specs.Keys.{has_key, of_session}
use Rattle.store_statements.specs.Tables.{Tables}
use Rattle.store_statements.specs.Changes.{without, manifest_columns, upload_columns, Comes, Grow}
use Rattle.store_statements.specs.Held.{IsReady, held}
use Rattle.store_migration.specs.OldTables.{OldTables}
use Rattle.store_migration.specs.Both.{world_of_both, AreBoth}
use Rattle.store_migration.specs.Moves.{LeftEmpty, Filled}
use Rattle.store_migration.specs.Listed.{left_by_keys, left_by_sessions}
use Rattle.store_migration.specs.declared.old_keys.Key.{Key}
use Rattle.store_migration.specs.declared.old_keys.SessionKey.{SessionKey}
use Rattle.store_migration.specs.Olds.{HasOlds, old_of}
use Rattle.store_migration.specs.Shown.{key_shown, session_shown}

-- rows of both schemas, as they are while rows are moved
pub record IsUnderway (t : Tables) : Type 0 where
  pub olds : HasOlds t
  pub both : AreBoth (old_of t) t

-- the old tables are this of those before, and the rows of both schemas stand for the same world
pub record Moves (f : OldTables → OldTables) (t u : Tables) : Type 0 where
  pub underway : IsUnderway u
  pub world : world_of_both (old_of u) u ≡ world_of_both (old_of t) t
  pub left : old_of u ≡ f (old_of t)

abbrev pub without_blob : Text → Text → OldTables → OldTables
without_blob name digest old = record old { blobs = without (has_key name digest) old.blobs }

abbrev pub without_manifest : Text → Text → OldTables → OldTables
without_manifest name digest old = record old { manifests = without (has_key name digest) old.manifests }

-- those of each of these keys go in turn
abbrev pub without_listed_blobs : List Key → OldTables → OldTables
without_listed_blobs keys old = record old { blobs = left_by_keys (map key_shown keys) old.blobs }

abbrev pub without_blobs : OldTables → OldTables
without_blobs old = record old { blobs = [] }

abbrev pub without_listed_manifests : List Key → OldTables → OldTables
without_listed_manifests keys old = record old { manifests = left_by_keys (map key_shown keys) old.manifests }

abbrev pub without_manifests : OldTables → OldTables
without_manifests old = record old { manifests = [] }

abbrev pub without_listed_sessions : List SessionKey → OldTables → OldTables
without_listed_sessions keys old =
    record old { sessions = left_by_sessions (map session_shown keys) old.sessions }

abbrev pub without_sessions : OldTables → OldTables
without_sessions old = record old { sessions = [] }

-- a manifest came, under the kind and the subject as which its bytes read
pub record ManifestStored (t u : Tables) (name digest bytes : Text) : Type 0 where
  pub id : ℤ
  pub grow : Grow t.contents u.contents
  pub there : u.contents id ≡ Some bytes
  pub comes : Comes t.manifests u.manifests
      (manifest_columns name digest (length bytes) (kind_in bytes) (subject_or_none (manifest_in bytes)) id)
  pub others : u ≡ record t { contents = u.contents; manifests = u.manifests }

abbrev pub without_session : Text → ℕ → OldTables → OldTables
without_session name number old = record old { sessions = without (of_session name number) old.sessions }

-- a session was opened under this number, with these bytes
pub record SessionStored (t u : Tables) (name : Text) (number : ℕ) (bytes : Text) : Type 0 where
  pub uploads : List Row
  pub opens : Comes t.uploads uploads (upload_columns name number)
  pub filled : LeftEmpty t u bytes uploads ⊎ Filled t u name number bytes uploads
  pub beside : u.beside ≡ t.beside

-- ---- what the clauses say, of a connection before a call and after it
module _ {S : Type 0} (g : Ghosts S) (old new : Held S) where
  abbrev pub MovesOn : {A E : Type 0} → Result A E → (OldTables → OldTables) → Type 0
  MovesOn r f =
      HasCleanDisk (state g new) → IsReady InTables (state g old) → IsUnderway (held InTables (state g old))
      → OnOk r (IsReady InTables (state g new)
      × Moves f (held InTables (state g old)) (held InTables (state g new)))

  -- the value is how many of these rows there were
  abbrev pub CountsOld : {E : Type 0} → Result ℕ E → (OldTables → List Row) → Type 0
  CountsOld r rows =
      HasCleanDisk (state g new) → IsReady InTables (state g old) → IsUnderway (held InTables (state g old))
      → IfOk r (λ n. n ≡ length (rows (old_of (held InTables (state g old)))))

  -- nothing was committed
  abbrev pub KeepsUnderway : Type 0
  KeepsUnderway =
      HasCleanDisk (state g new) → IsReady InTables (state g old) → IsUnderway (held InTables (state g old))
      → KeepsCommit (state g old) (state g new)
