-- What each write asks of its values and of the world, what it makes of its repository, and which places of
-- the pack come by it.
use Rattle.std.specs.Prelude.{◌≡◌, ◌≤◌, ⊤, Bool, true, is_some, length, Ok}
use Rattle.oci_types.specs.Text.{Text}
use Rattle.oci_types.specs.Digest.{matches}
use Rattle.oci_types.specs.Manifest.{shown, manifest_in}
use Rattle.registry_model.specs.Limits.{largest_blob, largest_manifest}
use Rattle.registry_model.specs.World.{Repo, World, has_repo, repo_at, update_repo}
use Rattle.registry_model.specs.Ask.{text_in}
use Rattle.registry_model.specs.Blobs.{without_blob}
use Rattle.registry_model.specs.Pruning.{without_blobs}
use Rattle.registry_model.specs.Manifests.{with_manifest, without_manifest, without_tag}
use Rattle.registry_model.specs.Sessions.{finished}
use Rattle.registry_model.specs.Command.{without_sessions}
use Rattle.registry_model.specs.Lookups.{blob_at, session_at, with_mounted}
use Rattle.store_contents.specs.Layouts.{Layout}
use Rattle.store_places.specs.Source as sources
use Rattle.store_places.specs.Source.{IfBytes, size_in}
use Rattle.store_places.specs.declared.source.Source.{Source}
use Rattle.store_statements.specs.Tables.{Tables}
use Rattle.store_statements.specs.PlaceChanges.{KeepsPlaces, PutsPlaces}
use Rattle.registry_store.specs.declared.write.Write.{Write}
use Rattle.registry_store.specs.declared.write.Write.TheVariants.{Mount, PutManifest, Finish, DeleteBlob, DeleteBlobs, DeleteManifest, DeleteTag, DropSessions}

-- of the repository of the name, in the world
abbrev pub becomes : Write → Text → World → Repo → Repo
becomes (Mount from digest) name w r = with_mounted digest.now (blob_at w from.now digest.now) r
becomes (PutManifest digest bytes source manifest tag) name w r =
    with_manifest r digest.now bytes.now (text_in tag)
becomes (Finish number digest bytes source) name w r = finished r number digest.now bytes.now
becomes (DeleteBlob digest) name w r = without_blob r digest.now
becomes (DeleteBlobs digests) name w r = without_blobs r digests.now
becomes (DeleteManifest digest) name w r = without_manifest r digest.now
becomes (DeleteTag tag) name w r = without_tag r tag.now
becomes DropSessions name w r = without_sessions r

-- of the world
abbrev pub makes : Write → Text → World → World
makes write name w = update_repo w name (becomes write name w) (repo_at w name)

-- the source is whole, it has as many bytes, and those that it has in memory are these
pub record AreOf (source : Source) (bytes : Text) : Type 0 where
  pub right : sources.Fits source
  pub size : size_in source ≡ length bytes
  pub same : IfBytes (λ they. they ≡ bytes) source

-- bytes are what is said of them, and so is their source
abbrev pub Fits : Write → Type 0
Fits (PutManifest digest bytes source manifest tag) =
    (matches digest.now bytes.now ≡ true) × (manifest_in bytes.now ≡ Ok (shown manifest.now))
    × (length bytes.now ≤ largest_manifest) × AreOf source bytes.now
Fits (Finish number digest bytes source) =
    (matches digest.now bytes.now ≡ true) × (length bytes.now ≤ largest_blob) × AreOf source bytes.now
Fits _ = ⊤

-- what is needed for it is there
abbrev pub Asks : Write → Text → World → Type 0
Asks (Mount from digest) name w = has_repo w name ≡ true
Asks (PutManifest digest bytes source manifest tag) name w = has_repo w name ≡ true
Asks (Finish number digest bytes source) name w = is_some (session_at w name number) ≡ true
Asks _ name w = ⊤

-- the layout has the bytes where they are said to be
abbrev pub Suits : Layout → Write → Type 0
Suits l (PutManifest digest bytes source manifest tag) =
    sources.Suits l source × (sources.text_in l source ≡ bytes.now)
Suits l (Finish number digest bytes source) =
    sources.Suits l source × (sources.text_in l source ≡ bytes.now)
Suits l _ = ⊤

-- which places of the pack come, where the bytes that were handed came or not
abbrev pub Places : Write → Bool → Tables → Tables → Type 0
Places (PutManifest digest bytes source manifest tag) came t u = PutsPlaces source came t u
Places (Finish number digest bytes source) came t u = PutsPlaces source came t u
Places _ came t u = KeepsPlaces t u

-- no bytes are handed
abbrev pub BringsNone : Write → Type 0
BringsNone (PutManifest digest bytes source manifest tag) = ⊥
BringsNone (Finish number digest bytes source) = ⊥
BringsNone _ = ⊤
