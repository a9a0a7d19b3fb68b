-- What a write makes of what a repository holds.
use Rattle.std.specs.Prelude.{◌≡◌, ℕ, ◌+◌, Option, Some, None, is_some, if◌then◌else◌, Result, Ok, Err}
use Rattle.std.specs.FinMap.{len}
use Rattle.oci_types.specs.Text.{Text}
use Rattle.oci_types.specs.declared.fault.Fault.{Fault}
use Rattle.oci_types.specs.declared.fault.Fault.TheVariants.{Memory, Storage}
use Rattle.registry_model.specs.World.{Repo, World, repo_at}
use Rattle.registry_model.specs.Usage.{used}
use Rattle.registry_model.specs.Lookups.{tag_at}
use Rattle.registry_model.specs.Manifests.{without_manifest}
use Rattle.store_reads.specs.declared.usage_change.Change.{Change}

-- the change leads from the one repository to the other
pub record Turns (c : Change) (r s : Repo) : Type 0 where
  pub bytes : used s + c.gone ≡ used r + c.added
  pub quota : s.quota ≡ r.quota
  pub blobs : len s.blobs + c.blobs_gone ≡ len r.blobs + c.blobs
  pub manifests : len s.manifests + c.manifests_gone ≡ len r.manifests + c.manifests
  pub tags : len s.tags + c.tags_gone ≡ len r.tags + c.tags
  pub sessions : len s.sessions + c.ended ≡ len r.sessions + c.opened

-- it does so wherever the repository is there
abbrev pub Foretells : World → Text → (Repo → Repo) → Change → Type 0
Foretells w name f c = (r : Repo) → repo_at w name ≡ Some r → Turns c r (f r)

-- how many tags more where one is set
abbrev pub new_tags : World → Text → Option Text → ℕ
new_tags w name None = 0
new_tags w name (Some tag) = if is_some (tag_at w name tag) then 0 else 1

-- how many tags name the digest: so many go with its manifest
abbrev pub AreNaming : World → Text → Text → ℕ → Type 0
AreNaming w name digest n =
    (r : Repo) → repo_at w name ≡ Some r → len (without_manifest r digest).tags + n ≡ len r.tags

-- the change, where a blob of this size goes too
abbrev pub gone_too : Option ℕ → Change → Change
gone_too None c = c
gone_too (Some size) c = record c { gone = c.gone + size; blobs_gone = c.blobs_gone + 1 }

-- want of memory leaves a change untold, and is no failure
abbrev pub or_untold : Result (Option Change) Fault → Result (Option Change) Fault
or_untold (Ok change) = Ok change
or_untold (Err Memory) = Ok None
or_untold (Err Storage) = Err Storage
