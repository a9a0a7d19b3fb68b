-- A blob is mounted: what was found before, and what the transaction did.
use Rattle.std.proofs.Common.{◌≡◌, ◌∙◌, ℕ, List, true, false, None, Some, Err, Result, OnOk, sym, ap, subst, refl}
use Rattle.std.specs.Prelude.{find, option_map, Option}
use Rattle.sqlite.specs.Order.{Row}
use Rattle.sqlite.specs.State.{State}
use Rattle.oci_types.specs.declared.fault.Fault.{Fault}
use Rattle.oci_types.specs.declared.fault.Fault.TheVariants.{Memory}
use Rattle.registry_model.specs.World.{World, has_repo}
use Rattle.registry_model.specs.Lookups.{mount}
use Rattle.store_contents.specs.Layouts.{Layout}
use Rattle.store_statements.specs.Keys.{has_key}
use Rattle.store_statements.specs.Tables.{Tables}
use Rattle.store_statements.proofs.BlobWorlds.{mount_there}
use Rattle.store_statements.proofs.RepoWorlds.{has_repo_found}
use Rattle.store_statements.specs.Held.{IsSettled, StaysSettled, Commits, SettlesOn, held, world_in, tables_in, is_storage}
use Rattle.store_statements.specs.Shown.{blob_link}
use Rattle.store_statements.specs.StepsFrom.{LinkIsPut}
use Rattle.store_statements.specs.declared.blobs.BlobLink.{BlobLink}
use Rattle.store_statements.proofs.Transactions.{registry, makes}
use Rattle.store_statements.proofs.WritesAfterReads.{same_world}
use Rattle.store_writes.proofs.PutLemmas.{link_mounted}

-- ---- what was read is still so

pub same_tables : {l : Layout} → (a b : State) → StaysSettled l a b → held l b ≡ held l a
same_tables {l} a b s = ap (tables_in l) s.1

pub no_storage : (X Y : Type 0) (f : Fault) → ◌≡◌ {A = Result X Fault} (Err f) (Err Memory) → is_storage {A = Y} (Err f) ≡ false
no_storage X Y f e = let same : f ≡ Memory = cc in ap (λ (x : Fault). is_storage {A = Y} (Err x)) same

-- ---- the link that was found

pub found_row : (o : Option Row) (link : BlobLink) → Some link ≡ option_map blob_link o → (r : Row) × (o ≡ Some r) × (link ≡ blob_link r)
found_row None link e = absurd cc
found_row (Some r) link e = (r, refl, cc)

-- the link came into a transaction's tables
pub mounts : {l : Layout} → (first read end : State) (from to digest : List ℕ) (link : BlobLink) → IsSettled l first → StaysSettled l first read → has_repo (world_in l first) to ≡ true → Some link ≡ option_map blob_link (find (has_key from digest) (held l first).blobs)
    → find (has_key to digest) (held l first).blobs ≡ None → Commits l end (held l end) → LinkIsPut (held l read) (held l end) to digest link.size link.content.id → SettlesOn l end (mount (world_in l first) from to digest)
mounts {l} first read end from to digest link s stays there found none committed put =
    let row = found_row (find (has_key from digest) (held l first).blobs) link found in
    let put_here : LinkIsPut (held l first) (held l end) to digest link.size link.content.id = subst (λ (t : Tables). LinkIsPut t (held l end) to digest link.size link.content.id) (same_tables first read stays) put in
    makes end (held l end) (mount (world_in l first) from to digest) committed (link_mounted (held l first) (held l end) from to digest row.0 (registry first s) (sym (has_repo_found (held l first) to) ∙ there) row.1 none
    (subst (λ (k : BlobLink). LinkIsPut (held l first) (held l end) to digest k.size k.content.id) row.2 put_here))

-- it was there, and nothing changes
pub mounts_nothing : {l : Layout} → (first read : State) (from to digest : List ℕ) (link : BlobLink) → StaysSettled l first read → Some link ≡ option_map blob_link (find (has_key to digest) (held l first).blobs) → SettlesOn l read (mount (world_in l first) from to digest)
mounts_nothing {l} first read from to digest link stays found =
    let row = found_row (find (has_key to digest) (held l first).blobs) link found in
    (stays.0, same_world first read stays ∙ sym (mount_there (held l first) from to digest row.0 row.1))

pub same_mount : (l : Layout) → (first : State) (from to digest : List ℕ) (link : BlobLink) → Some link ≡ option_map blob_link (find (has_key to digest) (held l first).blobs) → world_in l first ≡ mount (world_in l first) from to digest
same_mount l first from to digest link found =
    let row = found_row (find (has_key to digest) (held l first).blobs) link found in
    sym (mount_there (held l first) from to digest row.0 row.1)

pub makes_from : {l : Layout} → {A E : Type 0} (first read end : State) (f : World → World) (r : Result A E) → StaysSettled l first read → OnOk r (SettlesOn l end (f (world_in l read))) → OnOk r (SettlesOn l end (f (world_in l first)))
makes_from {l} first read end f r stays h = subst (λ (w : World). OnOk r (SettlesOn l end (f w))) (same_world first read stays) h
