-- What the writes of blobs make of the world.
use Rattle.std.proofs.Common.{◌≡◌, ◌∙◌, ℕ, List, true, false, None, Some, sym, ap, subst}
use Rattle.std.specs.Prelude.{find, option_map, is_none}
use Rattle.sqlite.specs.State.{State}
use Rattle.oci_types.specs.Text.{Text}
use Rattle.registry_model.specs.World.{has_repo}
use Rattle.registry_model.specs.Lookups.{blob_at, put_blob}
use Rattle.store_contents.specs.Layouts.{Layout}
use Rattle.store_statements.specs.Keys.{has_key}
use Rattle.store_statements.specs.Tables.{Tables}
use Rattle.store_statements.proofs.BlobWorlds.{blob_there, blob_at_found, blob_bytes}
use Rattle.store_statements.proofs.RepoWorlds.{has_repo_found}
use Rattle.store_statements.proofs.Stored.{blob_stored}
use Rattle.store_statements.specs.Held.{IsSettled, StaysSettled, Commits, SettlesOn, held, world_in}
use Rattle.store_statements.specs.declared.blobs.BlobLink.{BlobLink}
use Rattle.store_statements.specs.Shown.{blob_link}
use Rattle.store_statements.specs.Steps.{BlobStored}
use Rattle.store_statements.proofs.Transactions.{registry, makes}
use Rattle.store_statements.proofs.WritesAfterReads.{some_found, same_held, makes_same}
use Rattle.store_statements.proofs.Alone.{commits_as}

pub puts_new : {l : Layout} → (old mid end : State) (name digest bytes : Text) {runs : List (ℕ × ℕ)} → IsSettled l old → has_repo (world_in l old) name ≡ true → StaysSettled l old mid → find (has_key name digest) (held l old).blobs ≡ None
    → Commits l end (held l end) × BlobStored (held l mid) (held l end) name digest bytes runs → SettlesOn l end (put_blob (world_in l old) name digest bytes)
puts_new {l} old mid end name digest bytes {runs} settled there stays fresh it =
    let stored = subst (λ (t : Tables). BlobStored t (held l end) name digest bytes runs) (same_held old mid stays) it.1 in
    makes end _ _ (commits_as end _ it.0 stored.others)
    (blob_stored (held l old) (held l end).contents (held l end).places name digest bytes stored.id (held l end).blobs (registry old settled) (sym (has_repo_found (held l old) name) ∙ there) stored.grow stored.there fresh stored.comes)

pub puts_there : {l : Layout} → (old mid : State) (name digest bytes : Text) (link : BlobLink) → StaysSettled l old mid → Some link ≡ option_map blob_link (find (has_key name digest) (held l old).blobs) → SettlesOn l mid (put_blob (world_in l old) name digest bytes)
puts_there {l} old mid name digest bytes link stays e =
    let found = some_found blob_link (find (has_key name digest) (held l old).blobs) link e in
    makes_same old mid _ stays (sym (blob_there (held l old) name digest bytes found.0 found.1))

pub same_blob : (l : Layout) → (old : State) (name digest bytes : Text) (link : BlobLink) → Some link ≡ option_map blob_link (find (has_key name digest) (held l old).blobs) → world_in l old ≡ put_blob (world_in l old) name digest bytes
same_blob l old name digest bytes link e =
    let found = some_found blob_link (find (has_key name digest) (held l old).blobs) link e in
    sym (blob_there (held l old) name digest bytes found.0 found.1)

-- ---- whether the blob comes

pub comes : {l : Layout} → (old : State) (name digest : Text) → IsSettled l old → find (has_key name digest) (held l old).blobs ≡ None → true ≡ is_none (blob_at (world_in l old) name digest)
comes {l} old name digest settled fresh = sym (ap is_none (blob_at_found (held l old) name digest (registry old settled) ∙ ap (option_map (blob_bytes (held l old))) fresh))

pub is_there : {l : Layout} → (old : State) (name digest : Text) (link : BlobLink) → IsSettled l old → Some link ≡ option_map blob_link (find (has_key name digest) (held l old).blobs) → false ≡ is_none (blob_at (world_in l old) name digest)
is_there {l} old name digest link settled e =
    let found = some_found blob_link (find (has_key name digest) (held l old).blobs) link e in
    sym (ap is_none (blob_at_found (held l old) name digest (registry old settled) ∙ ap (option_map (blob_bytes (held l old))) found.1))
