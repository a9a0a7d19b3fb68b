-- Writes whose bytes come from a source, and writes that are handed none.
use Rattle.std.proofs.Common.{◌≡◌, ◌<◌, ◌^◌, false, Ok, Err, Result, length, sym, subst}
use Rattle.std.specs.Prelude.{Bool, MatchResult}
use Rattle.sqlite_trees.specs.declared.store.Store.{Ghosts}
use Rattle.sqlite.specs.Held.{Held, state}
use Rattle.oci_types.specs.Text.{Text}
use Rattle.oci_types.specs.declared.fault.Fault.{Fault}
use Rattle.registry_model.specs.World.{World}
use Rattle.store_contents.specs.Layouts.{Layout}
use Rattle.store_places.specs.Source.{IfBytes, size_in}
use Rattle.store_places.specs.declared.source.Source.{Source}
use Rattle.store_places.specs.declared.source.Source.TheVariants.{Bytes, Extents}
use Rattle.store_statements.specs.Held.{held}
use Rattle.store_statements.specs.Between.{CrashLeaves, MakesWorld, Relates, RelatesBy, StaysOnMemory}
use Rattle.store_statements.specs.PlaceChanges.{KeepsPlaces}
use Rattle.store_writes.proofs.KnownEnds.{came_by, came_memory, came_so}
use Rattle.registry_store.specs.Writes.{AreOf}

-- ---- a source of bytes

-- what is so of the bytes is so of those that it has in memory
pub of_source : (P : Text → Type 0) (source : Source) (bytes : Text) → AreOf source bytes → P bytes → IfBytes P source
of_source P (Bytes they) bytes is p = subst P (sym is.same) p
of_source P (Extents extents hash) bytes is p = tt

-- their number fits where that of the bytes does
pub size_fits : (source : Source) (bytes : Text) → AreOf source bytes → length bytes < 2 ^ 63 → size_in source < 2 ^ 63
size_fits source bytes is fits = subst (λ n. n < 2 ^ 63) (sym is.size) fits

module _ {S A : Type 0} (g : Ghosts S) (l : Layout) (old new : Held S) (r : Result A Fault) (f : Text → World → World) (text bytes : Text) (same : text ≡ bytes) where
  -- the world is that of the bytes
  pub of_bytes : MakesWorld g l old new r (f text) → MakesWorld g l old new r (f bytes)
  of_bytes = subst (λ b. MakesWorld g l old new r (f b)) same

  pub leaves_bytes : CrashLeaves g l old new r (f text) → CrashLeaves g l old new r (f bytes)
  leaves_bytes = subst (λ b. CrashLeaves g l old new r (f b)) same

-- ---- no bytes

module _ {S A : Type 0} (g : Ghosts S) (l : Layout) (old new : Held S) (made : Result A Fault) (r : Result Bool Fault) (told : MatchResult made (λ _. r ≡ Ok false) (λ fault. r ≡ Err fault)) where
  pub none_made : (f : World → World) → MakesWorld g l old new made f → MakesWorld g l old new r f
  none_made f makes clean is = came_so made false r told (λ it. it) (makes clean is)

  pub none_places : Relates g l old new made KeepsPlaces → RelatesBy g l old new r (λ came. KeepsPlaces)
  none_places keeps clean is = came_by (λ came. KeepsPlaces (held l (state g old)) (held l (state g new))) made false r told (λ it. it) (keeps clean is)

  pub none_memory : StaysOnMemory g l old new made → StaysOnMemory g l old new r
  none_memory stays clean is wanting = stays clean is (came_memory made false r told wanting)

  pub none_left : (f : World → World) → CrashLeaves g l old new made f → CrashLeaves g l old new r f
  none_left f leaves clean is db may = let it = leaves clean is db may in (came_so made false r told (λ x. x) it.0, it.1)
