-- What is known of what repositories hold and may hold, and what it is after a write.
use Rattle.std.specs.Prelude.{◌≡◌, ℕ, ◌+◌, ◌<◌, false, Option, Some, None, Result}
use Rattle.std.specs.BTreeMap.{get}
use Rattle.sqlite_trees.specs.declared.store.Store.{Ghosts}
use Rattle.sqlite.specs.State.{HasCleanDisk}
use Rattle.sqlite.specs.Held.{Held, state}
use Rattle.oci_types.specs.Text.{Text}
use Rattle.oci_types.specs.declared.fault.Fault.{Fault}
use Rattle.registry_model.specs.declared.quota.Usage.{Usage}
use Rattle.registry_model.specs.World.{World, text_cmp}
use Rattle.registry_model.specs.Lookups.{usage_at}
use Rattle.store_contents.specs.Layouts.{Layout}
use Rattle.store_statements.specs.Held.{IsSettled, world_in, is_storage}
use Rattle.store_reads.specs.declared.usage_change.Change.{Change}
use Rattle.registry_store.specs.declared.known_usages.KnownUsages.{KnownUsages}

abbrev pub known_at : KnownUsages → Text → Option Usage
known_at known name = get text_cmp known.usages name

-- each known usage is the world's own
abbrev pub Knows : KnownUsages → World → Type 0
Knows known w = (name : Text) (u : Usage) → known_at known name ≡ Some u → u ≡ usage_at w name

-- each known usage is that of the tables' world
abbrev pub IsKnown : {S : Type 0} → Ghosts S → Layout → Held S → KnownUsages → Type 0
IsKnown g l conn known = HasCleanDisk (state g conn) → Knows known (world_in l (state g conn))

-- and so it is after a call over tables that were settled, unless the storage failed
abbrev pub StaysKnown : {S A : Type 0} → Ghosts S → Layout → Held S → Held S → KnownUsages → Result A Fault
    → Type 0
StaysKnown g l old new known r =
    HasCleanDisk (state g new) → IsSettled l (state g old) → is_storage r ≡ false
    → Knows known (world_in l (state g new))

-- what is known of the one name is so, and what is known of any other was known before
pub record Sets (old new : KnownUsages) (name : Text) (IsSo : Usage → Type 0) : Type 0 where
  pub here : (u : Usage) → known_at new name ≡ Some u → IsSo u
  pub others : (other : Text) (u : Usage) → (other ≡ name → ⊥) → known_at new other ≡ Some u
      → known_at old other ≡ Some u

-- the change leads from the one usage to the other, and both tell all bytes
pub record Applies (c : Change) (u v : Usage) : Type 0 where
  pub exact : u.used < 18446744073709551615
  pub bytes : v.used + c.gone ≡ u.used + c.added
  pub fits : v.used < 18446744073709551616
  pub quota : v.quota ≡ u.quota
  pub blobs : v.blobs + c.blobs_gone ≡ u.blobs + c.blobs
  pub manifests : v.manifests + c.manifests_gone ≡ u.manifests + c.manifests
  pub tags : v.tags + c.tags_gone ≡ u.tags + c.tags
  pub sessions : v.sessions + c.ended ≡ u.sessions + c.opened

-- the usage was known, and so was its change
abbrev pub IsNext : Option Usage → Option Change → Usage → Type 0
IsNext None change v = ⊥
IsNext (Some u) None v = ⊥
IsNext (Some u) (Some c) v = Applies c u v

-- the usage was known, and but for the quota it is so still
abbrev pub HasQuota : ℕ → Option Usage → Usage → Type 0
HasQuota quota None v = ⊥
HasQuota quota (Some u) v = v ≡ record u { quota = quota }
