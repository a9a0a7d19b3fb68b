-- What a step inside a transaction makes of the world.
use Rattle.std.specs.Prelude.{◌≡◌, ℕ, true, List, Option, None, Result, OnOk, find}
use Rattle.sqlite_trees.specs.declared.store.Store.{Ghosts}
use Rattle.sqlite.specs.State.{State, HasCleanDisk, KeepsCommit}
use Rattle.sqlite.specs.Held.{Held, state}
use Rattle.oci_types.specs.Text.{Text}
use Rattle.registry_model.specs.World.{World, repo_at, update_repo}
use Rattle.registry_model.specs.Manifests.{with_tag}
use Rattle.store_contents.specs.Layouts.{Layout}
use Rattle.store_places.specs.declared.source.Source.{Source}
use Rattle.store_places.specs.Source.{runs_in, text_in}
use Rattle.store_statements.specs.Keys.{has_key}
use Rattle.store_statements.specs.Changes.{Grow}
use Rattle.store_statements.specs.PlaceChanges.{AddsContent, AddsRuns, KeepsPlaces}
use Rattle.store_statements.specs.Tables.{Tables}
use Rattle.store_statements.specs.Registry.{Agree, is_repo}
use Rattle.store_statements.specs.World.{world_of}
use Rattle.store_statements.specs.Held.{IsReady, held}

-- inside a transaction, and the tables stand for a world
pub record IsWhole (l : Layout) (s : State) : Type 0 where
  pub ready : IsReady l s
  pub agree : Agree (held l s)

-- contents and places are as they were
abbrev pub KeepsRows : Tables → Tables → Type 0
KeepsRows t u = KeepsPlaces t u × (u.contents ≡ t.contents)

-- a content comes or was there, and of places those of these runs come
abbrev pub AddsRows : Text → List (ℕ × ℕ) → Tables → Tables → Type 0
AddsRows bytes runs t u = AddsRuns runs t u × AddsContent bytes t u

-- They still do, for this one. The same repositories are there, and each content that was; this is so of
-- contents and places.
pub record Turns (l : Layout) (old new : State) (w : World) (R : Tables → Tables → Type 0) : Type 0 where
  pub whole : IsWhole l new
  pub world : world_of (held l new) ≡ w
  pub repos : (held l new).repos ≡ (held l old).repos
  pub beside : (held l new).beside ≡ (held l old).beside
  pub grow : Grow (held l old).contents (held l new).contents
  pub rows : R (held l old) (held l new)

-- tables that agree stand for this world
abbrev pub StandsFor : Tables → World → Type 0
StandsFor t w = Agree t × (world_of t ≡ w)

-- the tag, if there is one, names the digest
abbrev pub tagged : World → Text → Option Text → Text → World
tagged w name tag digest = update_repo w name (λ r. with_tag r tag digest) (repo_at w name)

-- ---- what the clauses of these steps say, where the disk has returned what was written
module _ {S : Type 0} (g : Ghosts S) (l : Layout) (old new : Held S) where
  -- nothing was committed
  abbrev pub KeepsWhole : Type 0
  KeepsWhole = HasCleanDisk (state g new) → IsWhole l (state g old) → KeepsCommit (state g old) (state g new)

  -- where the repository is there, the world is this of the one before, and contents are as they were
  abbrev pub TurnsThere : {A E : Type 0} → Result A E → Text → (World → World) → Type 0
  TurnsThere r name f =
      HasCleanDisk (state g new) → IsWhole l (state g old) → is_repo (held l (state g old)).repos name ≡ true
      → OnOk r (Turns l (state g old) (state g new) (f (world_of (held l (state g old)))) KeepsRows)

  -- where it is there, without a manifest of the digest, and the bytes of a source come
  abbrev pub TurnsFresh : {A E : Type 0} → Result A E → Text → Text → Source → (World → World) → Type 0
  TurnsFresh r name digest source f =
      HasCleanDisk (state g new) → IsWhole l (state g old) → is_repo (held l (state g old)).repos name ≡ true
      → find (has_key name digest) (held l (state g old)).manifests ≡ None
      → OnOk r (Turns l (state g old) (state g new) (f (world_of (held l (state g old))))
      (AddsRows (text_in l source) (runs_in source)))
