-- Writes that bring no bytes.
use Rattle.std.proofs.Common.{◌≡◌, Bool, false, Err, Result, refl, ap}
use Rattle.std.specs.Prelude.{⊤}
use Rattle.oci_types.specs.declared.fault.Fault.{Fault}
use Rattle.oci_types.specs.declared.fault.Fault.TheVariants.{Memory, Storage}
use Rattle.store_contents.specs.Layouts.{Layout}
use Rattle.store_statements.specs.Held.{is_storage}
use Rattle.store_statements.specs.PlaceChanges.{KeepsPlaces}
use Rattle.store_statements.specs.Tables.{Tables}
use Rattle.registry_store.specs.Writes.{BringsNone, Places, Suits}
use Rattle.registry_store.specs.declared.write.Write.{Write}
use Rattle.registry_store.specs.declared.write.Write.TheVariants.{Mount, PutManifest, Finish, DeleteBlob, DeleteBlobs, DeleteManifest, DeleteTag, DropSessions}

-- every layout suits them
pub rows_suit : (write : Write) → BringsNone write → (l : Layout) → Suits l write
rows_suit (Mount from digest) none l = tt
rows_suit (PutManifest digest bytes source manifest tag) none l = absurd none
rows_suit (Finish number digest bytes source) none l = absurd none
rows_suit (DeleteBlob digest) none l = tt
rows_suit (DeleteBlobs digests) none l = tt
rows_suit (DeleteManifest digest) none l = tt
rows_suit (DeleteTag tag) none l = tt
rows_suit DropSessions none l = tt

-- and no place comes
pub rows_places : (write : Write) → BringsNone write → (came : Bool) (t u : Tables) → Places write came t u → KeepsPlaces t u
rows_places (Mount from digest) none came t u it = it
rows_places (PutManifest digest bytes source manifest tag) none came t u it = absurd none
rows_places (Finish number digest bytes source) none came t u it = absurd none
rows_places (DeleteBlob digest) none came t u it = it
rows_places (DeleteBlobs digests) none came t u it = it
rows_places (DeleteManifest digest) none came t u it = it
rows_places (DeleteTag tag) none came t u it = it
rows_places DropSessions none came t u it = it

-- a fault, whatever would have been answered
pub same_fault : (f h : Fault) → ◌≡◌ {A = Result ⊤ Fault} (Err f) (Err h) → ◌≡◌ {A = Result Bool Fault} (Err f) (Err h)
same_fault f h is = let same : f ≡ h = cc in ap Err same

pub not_storage : (f : Fault) → is_storage {A = ⊤} (Err f) ≡ false → is_storage {A = Bool} (Err f) ≡ false
not_storage Memory off = refl
not_storage Storage off = off
