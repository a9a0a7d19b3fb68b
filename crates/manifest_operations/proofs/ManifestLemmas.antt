-- Manifests in a repository that is there.
use Rattle.std.proofs.Common.{◌≡◌, ◌∙◌, ℕ, true, false, cond, ◌||◌, None, Some, ◌⊎◌, inl, inr, refl, sym, ap, subst}
use Rattle.std.proofs.lemmas.Bool.{false≢true, false_from_ne_true}
use Rattle.std.specs.Prelude.{Bool, Option, option_map, is_some, length, Result}
use Rattle.std.specs.Option.{option_and_then}
use Rattle.std.specs.FinMap.{get}
use Rattle.oci_types.specs.Text.{Text}
use Rattle.oci_types.specs.Tag.{is_tag}
use Rattle.oci_types.specs.Digest.{is_digest}
use Rattle.oci_types.specs.Reference.{is_reference}
use Rattle.oci_types.specs.declared.fault.Fault.{Fault}
use Rattle.oci_types.specs.declared.fault.NameFault.{NameFault}
use Rattle.oci_types.specs.declared.fault.NameFault.TheVariants.{Memory, Reference as NoReference}
use Rattle.oci_types.proofs.ReferenceLaw.{no_tag_is_digest}
use Rattle.oci_types.specs.declared.kind.Kind.{Kind}
use Rattle.registry_model.specs.declared.refusal.Refusal.TheVariants.{ManifestUnknown}
use Rattle.registry_model.specs.declared.reply.Reply.{Reply}
use Rattle.registry_model.specs.declared.reply.Status.TheVariants.{OK, Accepted}
use Rattle.oci_types.specs.Kind.{media_type_of}
use Rattle.registry_model.specs.World.{Repo, repo_at, has_repo}
use Rattle.registry_model.specs.Answer.{Answer, Content, bare_answer, refused, sent, unsent}
use Rattle.registry_model.specs.Decision.{Decision, refuses, tells, makes}
use Rattle.registry_model.specs.Manifests.{reference_digest, kind_in, manifest_reply, manifest_of_digest, found_manifest, read_manifest, found_manifest_size, size_manifest, delete_tag, delete_digest, delete_manifest, without_tag, without_manifest}
use Rattle.registry_model.specs.Lookups.{manifest_at, manifest_bytes_at, manifest_size_at, tag_at}
use Rattle.registry_model.specs.Lookups as lookups
use Rattle.registry_model.specs.Keeping.{Kept, goes_on}
use Rattle.operation_parts.proofs.RepoOutcomes.{there_is, Done, told, made}
use Rattle.operation_parts.specs.Operating.{Operates}

-- ---- references

pub digest_is_no_tag : (t : Text) → is_digest t ≡ true → is_tag t ≡ false
digest_is_no_tag t d = false_from_ne_true (is_tag t) (λ h. false≢true (sym (no_tag_is_digest t h) ∙ d))

no_left : (a b : Bool) → (a || b) ≡ false → a ≡ false
no_left false b h = refl
no_left true b h = absurd (cc)

no_right : (a b : Bool) → (a || b) ≡ false → b ≡ false
no_right false b h = h
no_right true b h = absurd (cc)

pub no_reference_is_no_tag : (t : Text) → is_reference t ≡ false → is_tag t ≡ false
no_reference_is_no_tag t h = no_left (is_tag t) (is_digest t) h

pub no_reference_is_no_digest : (t : Text) → is_reference t ≡ false → is_digest t ≡ false
no_reference_is_no_digest t h = no_right (is_tag t) (is_digest t) h

-- a fault that is no want of memory says that the text is no reference
pub no_reference : (e : NameFault) (t : Text) → (e ≡ Memory → ⊥) → ((e ≡ Memory) × (is_reference t ≡ true)) ⊎ ((e ≡ NoReference) × (is_reference t ≡ false))
    → is_reference t ≡ false
no_reference e t n (inl m) = absurd (n m.0)
no_reference e t n (inr r) = r.1

-- a digest names itself
pub names_itself : (o : Option Repo) → is_some o ≡ true → (reference digest : Text) → digest ≡ reference → is_digest reference ≡ true
    → Some digest ≡ option_and_then (λ r. reference_digest r reference) o
names_itself None h reference digest same d = absurd (cc)
names_itself (Some r) h reference digest same d =
    ap Some same ∙ sym (ap (λ b. cond b (get r.tags reference) (cond (is_digest reference) (Some reference) None)) (digest_is_no_tag reference d)
    ∙ ap (λ b. cond b (Some reference) None) d)

-- a tag names what it was set to
pub names_tagged : (o : Option Repo) (reference tag : Text) → tag ≡ reference → is_tag reference ≡ true
    → option_and_then (λ (r : Repo). get r.tags tag) o ≡ option_and_then (λ r. reference_digest r reference) o
names_tagged None reference tag same t = refl
names_tagged (Some r) reference tag same t = ap (get r.tags) same ∙ sym (ap (λ b. cond b (get r.tags reference) (cond (is_digest reference) (Some reference) None)) t)

-- what is neither a tag nor a digest names nothing
pub names_nothing : (o : Option Repo) → is_some o ≡ true → (reference : Text) → is_reference reference ≡ false
    → None ≡ option_and_then (λ r. reference_digest r reference) o
names_nothing None h reference n = absurd (cc)
names_nothing (Some r) h reference n =
    sym (ap (λ b. cond b (get r.tags reference) (cond (is_digest reference) (Some reference) None)) (no_reference_is_no_tag reference n)
    ∙ ap (λ b. cond b (Some reference) None) (no_reference_is_no_digest reference n))

-- ---- deletion

by_digest : (reference digest : Text) → digest ≡ reference → is_digest reference ≡ true → (r : Repo) → delete_digest r digest ≡ delete_manifest r reference
by_digest reference digest same d r =
    ap (delete_digest r) same ∙ sym (ap (λ b. cond b (delete_tag r reference) (cond (is_digest reference) (delete_digest r reference) (refuses ManifestUnknown))) (digest_is_no_tag reference d)
    ∙ ap (λ b. cond b (delete_digest r reference) (refuses ManifestUnknown)) d)

sized : (o : Option Text) (size : Kind × ℕ) → Some size ≡ option_map (λ bytes. (kind_in bytes, length bytes)) o → is_some o ≡ true
sized None size e = absurd (cc)
sized (Some bytes) size e = refl

-- deletion by a digest is that of the digest
pub deletes_digest : (result : Result Reply Fault) (name reference digest : Text) (s s' : Kept) → digest ≡ reference → is_digest reference ≡ true
    → Operates result name (λ r. delete_digest r digest) s s' → Operates result name (λ r. delete_manifest r reference) s s'
deletes_digest result name reference digest s s' same d h =
    subst (λ (act : Repo → Decision). Operates result name act s s') (λ i r. by_digest reference digest same d r i) h

-- what is neither a tag nor a digest is unknown
pub deletes_nothing : (s : Kept) (name reference : Text) → has_repo s.world name ≡ true → s.spent ≡ false → is_reference reference ≡ false
    → (a : Answer) → a ≡ refused ManifestUnknown → Done a name (λ r. delete_manifest r reference) s s
deletes_nothing s name reference there unspent n a e =
    let r = there_is (repo_at s.world name) there in
    told s s name (λ r. delete_manifest r reference) r.0 r.1 a _ e unspent refl
    (ap (λ b. cond b (delete_tag r.0 reference) (cond (is_digest reference) (delete_digest r.0 reference) (refuses ManifestUnknown))) (no_reference_is_no_tag reference n)
    ∙ ap (λ b. cond b (delete_digest r.0 reference) (refuses ManifestUnknown)) (no_reference_is_no_digest reference n))

-- and deletion by a tag that of the tag
pub deletes_tag : (result : Result Reply Fault) (name reference tag : Text) (s s' : Kept) → tag ≡ reference → is_tag reference ≡ true
    → Operates result name (λ r. delete_tag r tag) s s' → Operates result name (λ r. delete_manifest r reference) s s'
deletes_tag result name reference tag s s' same t h =
    subst (λ (act : Repo → Decision). Operates result name act s s')
    (λ i r. (ap (delete_tag r) same ∙ sym (ap (λ b. cond b (delete_tag r reference) (cond (is_digest reference) (delete_digest r reference) (refuses ManifestUnknown))) t)) i) h

module _ (s s' : Kept) (name : Text) (there : has_repo s.world name ≡ true) (unspent : s.spent ≡ false) (a : Answer) where
  pub tag_unknown : (tag : Text) → s' ≡ s → None ≡ tag_at s.world name tag → a ≡ refused ManifestUnknown → Done a name (λ r. delete_tag r tag) s s'
  tag_unknown tag stays none e =
      let r = there_is (repo_at s.world name) there in
      let here : get r.0.tags tag ≡ None = sym (none ∙ ap (λ o. option_and_then (λ (r : Repo). get r.tags tag) o) r.1) in
      told s s' name (λ r. delete_tag r tag) r.0 r.1 a _ e unspent stays (ap (λ o. cond (is_some o) (makes (bare_answer Accepted) (without_tag r.0 tag)) (refuses ManifestUnknown)) here)

  pub tag_taken : (tag digest : Text) → Some digest ≡ tag_at s.world name tag → s' ≡ goes_on s (lookups.delete_tag s.world name tag) → a ≡ bare_answer Accepted
      → Done a name (λ r. delete_tag r tag) s s'
  tag_taken tag digest some after e =
      let r = there_is (repo_at s.world name) there in
      let here : get r.0.tags tag ≡ Some digest = sym (some ∙ ap (λ o. option_and_then (λ (r : Repo). get r.tags tag) o) r.1) in
      made s s' name (λ r. delete_tag r tag) r.0 r.1 a _ e (λ r. without_tag r tag) after
      (ap (λ o. cond (is_some o) (makes (bare_answer Accepted) (without_tag r.0 tag)) (refuses ManifestUnknown)) here)

  pub digest_unknown : (digest : Text) → s' ≡ s → None ≡ manifest_size_at s.world name digest → a ≡ refused ManifestUnknown → Done a name (λ r. delete_digest r digest) s s'
  digest_unknown digest stays none e =
      let r = there_is (repo_at s.world name) there in
      let here : is_some (get r.0.manifests digest) ≡ false =
      unsized (get r.0.manifests digest) (none ∙ ap (λ o. option_map (λ bytes. (kind_in bytes, length bytes)) (option_and_then (λ (r : Repo). get r.manifests digest) o)) r.1) in
      told s s' name (λ r. delete_digest r digest) r.0 r.1 a _ e unspent stays (ap (λ b. cond b (makes (bare_answer Accepted) (without_manifest r.0 digest)) (refuses ManifestUnknown)) here)
    where
      unsized : (o : Option Text) → None ≡ option_map {U = Kind × ℕ} (λ bytes. (kind_in bytes, length bytes)) o → is_some o ≡ false
      unsized None e = refl
      unsized (Some bytes) e = absurd (cc)

  pub digest_taken : (digest : Text) (size : Kind × ℕ) → Some size ≡ manifest_size_at s.world name digest → s' ≡ goes_on s (lookups.delete_manifest s.world name digest)
      → a ≡ bare_answer Accepted → Done a name (λ r. delete_digest r digest) s s'
  digest_taken digest size some after e =
      let r = there_is (repo_at s.world name) there in
      let here : is_some (get r.0.manifests digest) ≡ true =
      sized (get r.0.manifests digest) size (some ∙ ap (λ o. option_map (λ bytes. (kind_in bytes, length bytes)) (option_and_then (λ (r : Repo). get r.manifests digest) o)) r.1) in
      made s s' name (λ r. delete_digest r digest) r.0 r.1 a _ e (λ r. without_manifest r digest) after
      (ap (λ b. cond b (makes (bare_answer Accepted) (without_manifest r.0 digest)) (refuses ManifestUnknown)) here)

pub tag_there : (s mid : Kept) (name tag digest : Text) → mid ≡ s → Some digest ≡ tag_at s.world name tag → is_some (tag_at mid.world name tag) ≡ true
tag_there s mid name tag digest same some = subst (λ (x : Kept). is_some (tag_at x.world name tag) ≡ true) (sym same) (ap is_some (sym some))

pub digest_there : (s mid : Kept) (name digest : Text) (size : Kind × ℕ) → mid ≡ s → Some size ≡ manifest_size_at s.world name digest → is_some (manifest_at mid.world name digest) ≡ true
digest_there s mid name digest size same some =
    subst (λ (x : Kept). is_some (manifest_at x.world name digest) ≡ true) (sym same) (shown (manifest_bytes_at s.world name digest) (sized (manifest_bytes_at s.world name digest) size some))
  where
    shown : (o : Option Text) → is_some o ≡ true → is_some (option_map {U = Kind × Text} (λ bytes. (kind_in bytes, bytes)) o) ≡ true
    shown None e = absurd (cc)
    shown (Some bytes) e = refl

-- ---- GET and HEAD

abbrev pub read_reply : Text → Option (Kind × Text) → Answer
read_reply digest None = refused ManifestUnknown
read_reply digest (Some p) = manifest_reply digest p.0 (sent p.1)

abbrev pub size_reply : Text → Option (Kind × ℕ) → Answer
size_reply digest None = refused ManifestUnknown
size_reply digest (Some p) = manifest_reply digest p.0 (unsent p.1)

reads_bytes : (digest : Text) (o : Option Text)
    → found_manifest (option_map (λ bytes. record { digest = digest; bytes = bytes }) o) ≡ tells (read_reply digest (option_map (λ bytes. (kind_in bytes, bytes)) o))
reads_bytes digest None = refl
reads_bytes digest (Some bytes) = refl

sizes_bytes : (digest : Text) (o : Option Text)
    → found_manifest_size (option_map (λ bytes. record { digest = digest; bytes = bytes }) o) ≡ tells (size_reply digest (option_map (λ bytes. (kind_in bytes, length bytes)) o))
sizes_bytes digest None = refl
sizes_bytes digest (Some bytes) = refl

module _ (s : Kept) (name reference : Text) (there : has_repo s.world name ≡ true) (unspent : s.spent ≡ false) where
  module _ (mid s' : Kept) (digest : Text) (names : Some digest ≡ option_and_then (λ r. reference_digest r reference) (repo_at s.world name))
      (first : mid ≡ s) (second : s' ≡ mid) where
    -- the reply of what was found, and nothing changed
    pub reads : (found : Option (Kind × Text)) → found ≡ manifest_at mid.world name digest → (a : Answer) → a ≡ read_reply digest found
        → Done a name (λ r. read_manifest r reference) s s'
    reads found at a e =
        let r = there_is (repo_at s.world name) there in
        let named : reference_digest r.0 reference ≡ Some digest = sym (names ∙ ap (λ o. option_and_then (λ r. reference_digest r reference) o) r.1) in
        let here : found ≡ option_map (λ bytes. (kind_in bytes, bytes)) (get r.0.manifests digest) =
        at ∙ ap {A = Kept} (λ m. manifest_at m.world name digest) first
        ∙ ap (λ o. option_map (λ bytes. (kind_in bytes, bytes)) (option_and_then (λ (r : Repo). get r.manifests digest) o)) r.1 in
        told s s' name (λ r. read_manifest r reference) r.0 r.1 a _ e unspent (second ∙ first)
        (ap (λ o. found_manifest (option_and_then (manifest_of_digest r.0) o)) named ∙ reads_bytes digest (get r.0.manifests digest)
        ∙ ap (λ f. tells (read_reply digest f)) (sym here))

    pub sizes : (found : Option (Kind × ℕ)) → found ≡ manifest_size_at mid.world name digest → (a : Answer) → a ≡ size_reply digest found
        → Done a name (λ r. size_manifest r reference) s s'
    sizes found at a e =
        let r = there_is (repo_at s.world name) there in
        let named : reference_digest r.0 reference ≡ Some digest = sym (names ∙ ap (λ o. option_and_then (λ r. reference_digest r reference) o) r.1) in
        let here : found ≡ option_map (λ bytes. (kind_in bytes, length bytes)) (get r.0.manifests digest) =
        at ∙ ap {A = Kept} (λ m. manifest_size_at m.world name digest) first
        ∙ ap (λ o. option_map (λ bytes. (kind_in bytes, length bytes)) (option_and_then (λ (r : Repo). get r.manifests digest) o)) r.1 in
        told s s' name (λ r. size_manifest r reference) r.0 r.1 a _ e unspent (second ∙ first)
        (ap (λ o. found_manifest_size (option_and_then (manifest_of_digest r.0) o)) named ∙ sizes_bytes digest (get r.0.manifests digest)
        ∙ ap (λ f. tells (size_reply digest f)) (sym here))

  -- the reference names nothing
  pub reads_unnamed : (s' : Kept) → None ≡ option_and_then (λ r. reference_digest r reference) (repo_at s.world name) → s' ≡ s → (a : Answer) → a ≡ refused ManifestUnknown
      → Done a name (λ r. read_manifest r reference) s s'
  reads_unnamed s' none stays a e =
      let r = there_is (repo_at s.world name) there in
      let nothing : reference_digest r.0 reference ≡ None = sym (none ∙ ap (λ o. option_and_then (λ r. reference_digest r reference) o) r.1) in
      told s s' name (λ r. read_manifest r reference) r.0 r.1 a _ e unspent stays (ap (λ o. found_manifest (option_and_then (manifest_of_digest r.0) o)) nothing)

  pub sizes_unnamed : (s' : Kept) → None ≡ option_and_then (λ r. reference_digest r reference) (repo_at s.world name) → s' ≡ s → (a : Answer) → a ≡ refused ManifestUnknown
      → Done a name (λ r. size_manifest r reference) s s'
  sizes_unnamed s' none stays a e =
      let r = there_is (repo_at s.world name) there in
      let nothing : reference_digest r.0 reference ≡ None = sym (none ∙ ap (λ o. option_and_then (λ r. reference_digest r reference) o) r.1) in
      told s s' name (λ r. size_manifest r reference) r.0 r.1 a _ e unspent stays (ap (λ o. found_manifest_size (option_and_then (manifest_of_digest r.0) o)) nothing)

-- the reply by its parts
pub shows_manifest : (a : Answer) (digest type : Text) (kind : Kind) (body : Content) → a ≡ record (bare_answer OK) { digest = Some digest; content_type = Some type; body = body }
    → type ≡ media_type_of kind → a ≡ manifest_reply digest kind body
shows_manifest a digest type kind body shown e =
    shown ∙ ap {B = Answer} (λ t. record (bare_answer OK) { digest = Some digest; content_type = Some t; body = body }) e
