-- What each change asks of its values and of the tables, and what it makes of them.
use Rattle.std.specs.Prelude.{◌≡◌, ◌<◌, ◌^◌, ⊤, true, find, None, Ok}
use Rattle.oci_types.specs.Manifest.{shown, manifest_in}
use Rattle.oci_types.specs.Digest.{matches}
use Rattle.registry_model.specs.Ask as ask
use Rattle.registry_model.specs.Lookups.{put_manifest}
use Rattle.store_contents.specs.Layouts.{Layout, InTables, InPack}
use Rattle.store_places.specs.Source.{IfBytes, runs_in, size_in, text_in}
use Rattle.store_places.specs.Source as source-specs
use Rattle.store_statements.specs.Changes.{Grow, with_last}
use Rattle.store_statements.specs.Keys.{of_first, has_key}
use Rattle.store_statements.specs.Tables.{Tables, IsEmptyBeside}
use Rattle.store_statements.specs.Registry.{Agree, is_repo}
use Rattle.store_statements.specs.World.{world_of}
use Rattle.store_statements.specs.Drops.{dropped}
use Rattle.store_statements.specs.Steps.{repos_changed, tags_without, grants_without, blobs_without, without_manifest, BlobStored}
use Rattle.store_statements.specs.StepsFrom.{LinkIsPut}
use Rattle.store_writes.specs.declared.change.Change.{Change}
use Rattle.store_writes.specs.declared.change.Change.TheVariants.{AddBlob, AddLink, TakeBlob, TakeBlobs, AddManifest, SetTag, TakeManifest, TakeTag, SetLevel, TakeLevel, TakeLevels, SetRepo, SetLast, DropRepo, Session, Clear, ClearPack}
use Rattle.store_writes.specs.Deleting.{without_blob_links}
use Rattle.store_writes.specs.Naming.{Cleared, FreesPlaces}
use Rattle.store_writes.specs.Puts.{LevelIsPut, QuotaIsPut}
use Rattle.store_writes.specs.SessionChanging.{SessionAsks, SessionFits, SessionMakes, SessionSuits}
use Rattle.store_writes.specs.Worlds.{AddsRows, KeepsRows, StandsFor, tagged}

-- numbers fit a column, and bytes are what is said of them
abbrev pub Fits : Change → Type 0
Fits (AddBlob alloc repo digest source) =
    source-specs.Fits source × (size_in source < 2 ^ 63)
    × IfBytes (λ bytes. matches digest.now bytes ≡ true) source
Fits (AddLink repo digest link) = link.size < 2 ^ 63
Fits (AddManifest alloc repo digest source manifest tag) =
    source-specs.Fits source × (size_in source < 2 ^ 63)
    × IfBytes (λ bytes. matches digest.now bytes ≡ true) source
Fits (SetRepo repo quota) = quota < 2 ^ 63
Fits (SetLast repo number) = number < 2 ^ 63
Fits (Session change) = SessionFits change
Fits _ = ⊤

-- bytes are in the tables
abbrev pub IsInTables : Layout → Type 0
IsInTables InTables = ⊤
IsInTables (InPack file) = ⊥

-- they are in a pack
abbrev pub IsInPack : Layout → Type 0
IsInPack InTables = ⊥
IsInPack (InPack file) = ⊤

-- the bytes that come are where the layout has bytes, and a manifest reads as what is said of it
abbrev pub Suits : Layout → Change → Type 0
Suits l (AddBlob alloc repo digest source) = source-specs.Suits l source
Suits l (AddManifest alloc repo digest source manifest tag) =
    source-specs.Suits l source × (manifest_in (text_in l source) ≡ Ok (shown manifest.now))
Suits l (Session change) = SessionSuits l change
Suits l (Clear alloc) = IsInTables l
Suits l (ClearPack alloc) = IsInPack l
Suits l _ = ⊤

-- what comes is not there, and what is needed for it is
abbrev pub Asks : Change → Tables → Type 0
Asks (AddBlob alloc repo digest source) t = find (has_key repo.now digest.now) t.blobs ≡ None
Asks (AddLink repo digest link) t = find (has_key repo.now digest.now) t.blobs ≡ None
Asks (AddManifest alloc repo digest source manifest tag) t =
    Agree t × (is_repo t.repos repo.now ≡ true) × (find (has_key repo.now digest.now) t.manifests ≡ None)
Asks (SetTag repo tag digest) t = Agree t × (is_repo t.repos repo.now ≡ true)
Asks (DropRepo repo) t = IsEmptyBeside t.beside
Asks (Session change) t = SessionAsks change t
Asks _ t = ⊤

-- of the tables before and after
abbrev pub Makes : Layout → Change → Tables → Tables → Type 0
Makes l (AddBlob alloc repo digest source) t u =
    BlobStored t u repo.now digest.now (text_in l source) (runs_in source)
Makes l (AddLink repo digest link) t u = LinkIsPut t u repo.now digest.now link.size link.content.id
Makes l (TakeBlob repo digest) t u = u ≡ blobs_without (has_key repo.now digest.now) t
Makes l (TakeBlobs repo digests) t u = u ≡ without_blob_links repo.now digests.now t
Makes l (AddManifest alloc repo digest source manifest tag) t u =
    StandsFor u (put_manifest (world_of t) repo.now digest.now (text_in l source) (ask.text_in tag))
    × (u.beside ≡ t.beside) × Grow t.contents u.contents × AddsRows (text_in l source) (runs_in source) t u
Makes l (SetTag repo tag digest) t u =
    StandsFor u (tagged (world_of t) repo.now (ask.text_in tag) digest.now) × (u.beside ≡ t.beside)
    × Grow t.contents u.contents × KeepsRows t u
Makes l (TakeManifest repo digest) t u = u ≡ without_manifest repo.now digest.now t
Makes l (TakeTag repo tag) t u = u ≡ tags_without (has_key repo.now tag.now) t
Makes l (SetLevel token repo level) t u = LevelIsPut t u token.now repo.now level
Makes l (TakeLevel token repo) t u = u ≡ grants_without (has_key token.now repo.now) t
Makes l (TakeLevels token) t u = u ≡ grants_without (of_first token.now) t
Makes l (SetRepo repo quota) t u = QuotaIsPut t u repo.now quota
Makes l (SetLast repo number) t u = u ≡ repos_changed (of_first repo.now) (with_last number) t
Makes l (DropRepo repo) t u = u ≡ dropped repo.now t
Makes l (Session change) t u = SessionMakes l change t u
Makes l (Clear alloc) t u = Cleared t u
Makes l (ClearPack alloc) t u = Cleared t u × FreesPlaces t u
