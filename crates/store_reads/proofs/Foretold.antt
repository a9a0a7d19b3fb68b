-- What look-ups tell of a write's change.
use Rattle.std.proofs.Common.{◌≡◌, ◌∙◌, ◌+◌, ◌++◌, ℕ, length, true, false, cond, None, Some, Ok, Err, Result, IfOk, IfErr, refl, sym, ap, subst}
use Rattle.std.specs.Prelude.{Option, option_map, is_some, is_none, IfSome}
use Rattle.std.specs.Option.{option_and_then, option_map_or, unwrap_or}
use Rattle.std.specs.FinMap.{get}
use Rattle.oci_types.specs.Text.{Text}
use Rattle.oci_types.specs.declared.kind.Kind.{Kind}
use Rattle.oci_types.specs.declared.fault.Fault.{Fault}
use Rattle.oci_types.specs.declared.fault.Fault.TheVariants.{Memory, Storage}
use Rattle.sqlite.specs.State.{State}
use Rattle.registry_model.specs.World.{Repo, World, repo_at, has_repo}
use Rattle.registry_model.specs.Blobs.{with_blob}
use Rattle.registry_model.specs.Sessions.{opened, appended, finished}
use Rattle.registry_model.specs.Manifests.{with_manifest, kind_in}
use Rattle.registry_model.specs.Lookups.{blob_at, blob_size_at, session_size_at, manifest_size_at, tag_at, session_at, last_number_at, bytes_or_none, with_mounted}
use Rattle.store_statements.specs.World.{world_of}
use Rattle.store_contents.specs.Layouts.{Layout}
use Rattle.store_statements.specs.Held.{tables_in, world_in, is_storage}
use Rattle.store_reads.specs.declared.usage_change.Change.{Change}
use Rattle.store_reads.specs.Usages.{Foretells, Turns, new_tags, or_untold}
use Rattle.store_reads.proofs.UsageTurns.{change, tags_more, put_there, put_new, mount_there, open_new, append_there, end_there, end_new, manifest_there, manifest_new}

-- of a database that stays
pub earlier : (l : Layout) (P : World → Type 0) (old mid : State) → mid.now ≡ old.now → P (world_in l mid) → P (world_in l old)
earlier l P old mid same = subst (λ db. P (world_of (tables_in l db))) same

pub later : (l : Layout) (P : World → Type 0) (old mid : State) → mid.now ≡ old.now → P (world_in l old) → P (world_in l mid)
later l P old mid same = subst (λ db. P (world_of (tables_in l db))) (sym same)

-- ---- what a length tells

has : {A B : Type 0} (f : A → B) (o : Option A) (v : B) → Some v ≡ option_map f o → is_some o ≡ true
has f None v e = absurd cc
has f (Some x) v e = refl

pub lacks : {A B : Type 0} (f : A → B) (o : Option A) → ◌≡◌ {A = Option B} None (option_map f o) → o ≡ None
lacks f None e = refl
lacks f (Some x) e = absurd cc

pub sized : (o : Option Text) (size : ℕ) → Some size ≡ option_map length o → (bytes : Text) × (o ≡ Some bytes) × (length bytes ≡ size)
sized None size e = absurd cc
sized (Some bytes) size e = (bytes, refl, sym (ap (λ x. unwrap_or x size) e))

-- a session's own bytes
pub session_length : (o : Option Text) (size : ℕ) → Some size ≡ option_map length o → length (bytes_or_none o) ≡ size
session_length None size e = absurd cc
session_length (Some bytes) size e = sym (ap (λ x. unwrap_or x size) e)

-- what is there, or not
there : {A : Type 0} (o : Option A) → false ≡ is_none o → is_some o ≡ true
there None e = absurd cc
there (Some x) e = refl

not_there : {A : Type 0} (o : Option A) → true ≡ is_none o → o ≡ None
not_there None e = refl
not_there (Some x) e = absurd cc

held_size : (o : Option Text) → false ≡ is_none o → (n : ℕ) × (Some n ≡ option_map length o)
held_size None e = absurd cc
held_size (Some bytes) e = (length bytes, refl)

no_size : (o : Option Text) → true ≡ is_none o → ◌≡◌ {A = Option ℕ} None (option_map length o)
no_size None e = refl
no_size (Some bytes) e = absurd cc

module _ (w : World) (name : Text) (r : Repo) (at : repo_at w name ≡ Some r) where
  blob_held : (digest : Text) → blob_at w name digest ≡ get r.blobs digest
  blob_held digest = ap (option_and_then (λ (x : Repo). get x.blobs digest)) at

  pub blob_shown : (digest : Text) → blob_size_at w name digest ≡ option_map length (get r.blobs digest)
  blob_shown digest = ap (λ o. option_map length (option_and_then (λ (x : Repo). get x.blobs digest) o)) at

  session_shown : (number : ℕ) → session_size_at w name number ≡ option_map length (get r.sessions number)
  session_shown number = ap (λ o. option_map length (option_and_then (λ (x : Repo). get x.sessions number) o)) at

  pub manifest_shown : (digest : Text) → manifest_size_at w name digest ≡ option_map {U = Kind × ℕ} (λ bytes. (kind_in bytes, length bytes)) (get r.manifests digest)
  manifest_shown digest = ap (λ o. option_map {U = Kind × ℕ} (λ bytes. (kind_in bytes, length bytes)) (option_and_then (λ (x : Repo). get x.manifests digest) o)) at

  pub tag_shown : (tag : Text) → tag_at w name tag ≡ get r.tags tag
  tag_shown tag = ap (option_and_then (λ (x : Repo). get x.tags tag)) at

  tags_shown : (tag : Option Text) → new_tags w name tag ≡ tags_more r tag
  tags_shown None = refl
  tags_shown (Some tag) = ap (λ o. cond (is_some (option_and_then (λ (x : Repo). get x.tags tag) o)) 0 1) at

-- ---- a whole push, and a mount

module _ (w : World) (name digest : Text) where
  pub put_kept : (bytes : Text) → false ≡ is_none (blob_at w name digest) → Foretells w name (λ r. with_blob r digest bytes) (change 0 0 0 0 0 0 0)
  put_kept bytes e r at = put_there r digest bytes (there (get r.blobs digest) (e ∙ ap is_none (blob_held w name r at digest)))

  pub put_added : (bytes : Text) → true ≡ is_none (blob_at w name digest) → Foretells w name (λ r. with_blob r digest bytes) (change (length bytes) 0 1 0 0 0 0)
  put_added bytes e r at = put_new r digest bytes (not_there (get r.blobs digest) (e ∙ ap is_none (blob_held w name r at digest)))

  pub mount_kept : (source : Option Text) (size : ℕ) → Some size ≡ blob_size_at w name digest → Foretells w name (with_mounted digest source) (change 0 0 0 0 0 0 0)
  mount_kept source size e r at = mount_there r digest source (has length (get r.blobs digest) size (e ∙ blob_shown w name r at digest))

  pub mount_added : (source : Option Text) (size : ℕ) → ◌≡◌ {A = Option ℕ} None (blob_size_at w name digest) → Some size ≡ option_map length source → Foretells w name (with_mounted digest source) (change size 0 1 0 0 0 0)
  mount_added None size e s r at = absurd cc
  mount_added (Some bytes) size e s r at =
      subst (λ n. Foretells w name (with_mounted digest (Some bytes)) (change n 0 1 0 0 0 0)) (sym (ap (λ x. unwrap_or x size) s)) (put_added bytes (sym (ap is_none (lacks length (blob_at w name digest) e)))) r at

-- ---- the end of a session

module _ (w : World) (name digest bytes : Text) (number size : ℕ) (sized_so : session_size_at w name number ≡ Some size) where
  pub end_kept : (held : ℕ) → Some held ≡ blob_size_at w name digest → Foretells w name (λ r. finished r number digest bytes) (change 0 size 0 0 0 0 1)
  end_kept held e r at =
      let s = sized (get r.sessions number) size (sym sized_so ∙ session_shown w name r at number) in
      subst (λ n. Turns (change 0 n 0 0 0 0 1) r (finished r number digest bytes)) s.2
      (end_there r number s.0 digest bytes s.1 (has length (get r.blobs digest) held (e ∙ blob_shown w name r at digest)))

  pub end_added : ◌≡◌ {A = Option ℕ} None (blob_size_at w name digest) → Foretells w name (λ r. finished r number digest bytes) (change (length bytes) size 1 0 0 0 1)
  end_added e r at =
      let s = sized (get r.sessions number) size (sym sized_so ∙ session_shown w name r at number) in
      subst (λ n. Turns (change (length bytes) n 1 0 0 0 1) r (finished r number digest bytes)) s.2
      (end_new r number s.0 digest bytes s.1 (lacks length (get r.blobs digest) (e ∙ blob_shown w name r at digest)))

-- of one whose own bytes are the blob
module _ (w : World) (name digest : Text) (number size : ℕ) (sized_so : session_size_at w name number ≡ Some size) where
  abbrev own : Text
  own = bytes_or_none (session_at w name number)

  pub known_kept : false ≡ is_none (blob_at w name digest) → Foretells w name (λ r. finished r number digest own) (change 0 size 0 0 0 0 1)
  known_kept e = let held = held_size (blob_at w name digest) e in end_kept w name digest own number size sized_so held.0 held.1

  pub known_added : true ≡ is_none (blob_at w name digest) → Foretells w name (λ r. finished r number digest own) (change size size 1 0 0 0 1)
  known_added e =
      subst (λ n. Foretells w name (λ r. finished r number digest own) (change n size 1 0 0 0 1)) (session_length (session_at w name number) size (sym sized_so))
      (end_added w name digest own number size sized_so (no_size (blob_at w name digest) e))

-- ---- a manifest

module _ (w : World) (name digest bytes : Text) (tag : Option Text) (tags : ℕ) (counted : tags ≡ new_tags w name tag) where
  pub manifest_kept : (held : Kind × ℕ) → Some held ≡ manifest_size_at w name digest → Foretells w name (λ r. with_manifest r digest bytes tag) (change 0 0 0 0 tags 0 0)
  manifest_kept held e r at =
      subst (λ n. Turns (change 0 0 0 0 n 0 0) r (with_manifest r digest bytes tag)) (sym (counted ∙ tags_shown w name r at tag))
      (manifest_there r digest bytes tag (has {B = Kind × ℕ} _ (get r.manifests digest) held (e ∙ manifest_shown w name r at digest)))

  pub manifest_added : ◌≡◌ {A = Option (Kind × ℕ)} None (manifest_size_at w name digest) → Foretells w name (λ r. with_manifest r digest bytes tag) (change (length bytes) 0 0 1 tags 0 0)
  manifest_added e r at =
      subst (λ n. Turns (change (length bytes) 0 0 1 n 0 0) r (with_manifest r digest bytes tag)) (sym (counted ∙ tags_shown w name r at tag))
      (manifest_new r digest bytes tag (lacks {B = Kind × ℕ} _ (get r.manifests digest) (e ∙ manifest_shown w name r at digest)))

-- ---- tags

pub tag_there : (w : World) (name tag : Text) (held : Text) → Some held ≡ tag_at w name tag → 0 ≡ new_tags w name (Some tag)
tag_there w name tag held e = ap (λ o. cond (is_some o) 0 1) e

pub tag_new : (w : World) (name tag : Text) → ◌≡◌ {A = Option Text} None (tag_at w name tag) → 1 ≡ new_tags w name (Some tag)
tag_new w name tag e = ap (λ o. cond (is_some o) 0 1) e

-- ---- a change that may be untold

pub untold_settled : (q : Result (Option Change) Fault) → is_storage (or_untold q) ≡ false → is_storage q ≡ false
untold_settled (Ok change) sound = refl
untold_settled (Err Memory) sound = refl
untold_settled (Err Storage) sound = sound

pub if_told : (q : Result (Option Change) Fault) (P : Change → Type 0) → IfOk q (λ change. IfSome change P) → IfOk (or_untold q) (λ change. IfSome change P)
if_told (Ok change) P told = told
if_told (Err Memory) P told = tt
if_told (Err Storage) P told = tt

pub untold_fails : (q : Result (Option Change) Fault) → IfErr (or_untold q) (λ fault. fault ≡ Storage)
untold_fails (Ok change) = tt
untold_fails (Err Memory) = tt
untold_fails (Err Storage) = refl

-- ---- sessions

module _ (w : World) (name : Text) where
  pub open_foretold : session_at w name (last_number_at w name + 1) ≡ None → Foretells w name opened (change 0 0 0 0 0 1 0)
  open_foretold none r at = open_new r (sym (ap (λ o. option_and_then (λ (x : Repo). get x.sessions (option_map_or (λ (y : Repo). y.last) o 0 + 1)) o) at) ∙ none)

  pub append_foretold : (number : ℕ) (more : Text) → is_some (session_at w name number) ≡ true
      → Foretells w name (λ r. appended r number (bytes_or_none (get r.sessions number) ++ more)) (change (length more) 0 0 0 0 0 0)
  append_foretold number more there r at =
      by (get r.sessions number) refl (sym (ap (λ o. is_some (option_and_then (λ (x : Repo). get x.sessions number) o)) at) ∙ there)
    where
      by : (o : Option Text) → get r.sessions number ≡ o → is_some o ≡ true → Turns (change (length more) 0 0 0 0 0 0) r (appended r number (bytes_or_none o ++ more))
      by None e h = absurd cc
      by (Some before) e h = append_there r number before more e

  -- a session is in a repository that is there
  pub session_has_repo : (number : ℕ) → is_some (session_at w name number) ≡ true → has_repo w name ≡ true
  session_has_repo number there = by (repo_at w name) there
    where
      by : (o : Option Repo) → is_some (option_and_then (λ (x : Repo). get x.sessions number) o) ≡ true → is_some o ≡ true
      by None h = h
      by (Some r) h = refl
