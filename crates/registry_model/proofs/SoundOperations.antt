-- Each operation on a sound repository leaves it, or makes a sound one.
use Rattle.std.proofs.Common.{◌≡◌, ◌∙◌, ℕ, ◌+◌, ◌≤◌, ◌++◌, length, Bool, true, false, cond, not, ◌||◌, nat_lt, Option, Some, None, Result, Ok, Err, IfSome, refl, sym, ap, subst, arith, length-append}
use Rattle.std.specs.Prelude.{is_some, bytes_eq, option_map, IsOk}
use Rattle.std.specs.Option.{option_and_then}
use Rattle.std.specs.FinMap.{get}
use Rattle.std.proofs.lemmas.Bool.Decides.{nat_tests}
use Rattle.oci_types.specs.Text.{Text}
use Rattle.oci_types.specs.Digest.{is_digest, is_verified, matches, sha256_digest, sha512_digest}
use Rattle.oci_types.specs.Tag.{is_tag}
use Rattle.oci_types.specs.Reference.{is_reference}
use Rattle.oci_types.specs.SessionNumber.{session_number_of}
use Rattle.oci_types.specs.declared.manifest_fault.ManifestFault.{ManifestFault}
use Rattle.oci_types.specs.Manifest.{ManifestShown, manifest_in}
use Rattle.registry_model.specs.declared.refusal.Refusal.TheVariants.{QuotaExceeded}
use Rattle.registry_model.specs.declared.range.RangeVerdict.{RangeVerdict}
use Rattle.registry_model.specs.declared.range.RangeVerdict.TheVariants.{Fits, Malformed, OutOfOrder, Unequal}
use Rattle.registry_model.specs.World.{Repo, Grants}
use Rattle.registry_model.specs.Limits.{largest, largest_blob, largest_manifest}
use Rattle.registry_model.specs.Usage.{used, goes_over}
use Rattle.registry_model.specs.Answer.{Answer}
use Rattle.registry_model.specs.Soundness.{IsSoundRepo}
use Rattle.registry_model.specs.Decision.{Decision, refuses, makes, within_quota}
use Rattle.registry_model.specs.Range.{range_verdict}
use Rattle.registry_model.specs.Blobs as blobs
use Rattle.registry_model.specs.Blobs.{with_blob, created_blob}
use Rattle.registry_model.specs.Sessions as sessions
use Rattle.registry_model.specs.Sessions.{Session, session_numbered, session_named, is_full, appended, finished, range_checked, last_range_verdict, session_reply}
use Rattle.registry_model.specs.Mount.{may_read, source, mounted, mount_blob}
use Rattle.registry_model.specs.Manifests as manifests
use Rattle.registry_model.specs.Manifests.{pushed_digest, pushed_tag, with_bytes, with_manifest, content_type_fits, has_needs}
use Rattle.registry_model.specs.TagPage as page
use Rattle.registry_model.specs.Referrers as subjects
use Rattle.registry_model.specs.Operation.{Operation, reads_blob, sizes_blob, deletes_blob, pushes_blob, opens_session, mounts_blob, reads_session, appends_chunk, closes_session, reads_manifest, sizes_manifest, deletes_manifest, pushes_manifest, lists_tags, lists_referrers, sizes_referrers}
use Rattle.registry_model.specs.Judging.{operate}
use Rattle.registry_model.proofs.ChangedMaps.{bytes_eq-itself}
use Rattle.registry_model.proofs.SoundRepositories.{fits, sound_with_blob, sound_without_blob, sound_opened, sound_appended, sound_without_session, sound_with_bytes, sound_with_tag, sound_without_tag, sound_without_manifest, with_bytes_there, used_with_tag}

-- what an outcome makes is sound
abbrev pub IsSoundDecision : Decision → Type 0
IsSoundDecision o = IfSome o.change IsSoundRepo

-- by a test
pub by_test : (b : Bool) (x y : Decision) → (b ≡ true → IsSoundDecision x) → (b ≡ false → IsSoundDecision y) → IsSoundDecision (cond b x y)
by_test true x y f g = f refl
by_test false x y f g = g refl

-- past a refusal
past : (b : Bool) (x y : Decision) → IsSoundDecision x → (b ≡ false → IsSoundDecision y) → IsSoundDecision (cond b x y)
past b x y f g = by_test b x y (λ _. f) g

sound_within : (old new : Repo) (a : Answer) → IsSoundRepo old → (used new ≤ largest → IsSoundRepo new) → IsSoundDecision (within_quota old new a)
sound_within old new a s f = past (goes_over old new) (refuses QuotaExceeded) (makes a new) tt (λ e. f (fits largest (used old) (used new) old.quota e s.used_fits s.quota_fits))

is_not : (b : Bool) → not b ≡ false → b ≡ true
is_not true e = refl
is_not false e = absurd (cc)

not_more : (m n : ℕ) → nat_lt m n ≡ false → n ≤ m
not_more m n e = grind (arith, nat_tests)

module _ (r : Repo) (s : IsSoundRepo r) where
  -- ---- blobs

  sound_found_blob : (digest : Text) (o : Option Text) → IsSoundDecision (blobs.found_blob digest o)
  sound_found_blob digest None = tt
  sound_found_blob digest (Some bytes) = tt

  sound_found_size : (digest : Text) (o : Option ℕ) → IsSoundDecision (blobs.found_size digest o)
  sound_found_size digest None = tt
  sound_found_size digest (Some size) = tt

  sound_delete_blob : (digest : Text) → IsSoundDecision (blobs.delete_blob r digest)
  sound_delete_blob digest = by_test (is_some (blobs.blob_named r digest)) _ _ (λ _. sound_without_blob r s digest) (λ _. tt)

  sound_push_blob : (name digest body : Text) → IsSoundDecision (blobs.push_blob r name digest body)
  sound_push_blob name digest body =
      past (not (blobs.can_verify digest)) _ _ tt (λ _.
      past (nat_lt largest_blob (length body)) _ _ tt (λ _.
      past (not (matches digest body)) _ _ tt (λ e.
      sound_within r (with_blob r digest body) (created_blob name digest) s (sound_with_blob r s digest body (is_not (matches digest body) e)))))

  -- ---- sessions

  sound_open : (name : Text) → IsSoundDecision (sessions.open_session r name)
  sound_open name = past (is_full r) _ _ tt (sound_opened r s)

  sound_show : (name : Text) (o : Option Session) → IsSoundDecision (sessions.show_session name o)
  sound_show name None = tt
  sound_show name (Some session) = tt

  -- the session that is named is there
  session_there : (reference : Text) → IfSome (session_named r reference) (λ x. get r.sessions x.number ≡ Some x.bytes)
  session_there reference = by (session_number_of reference)
    where
      from : (n : ℕ) (o : Option Text) → get r.sessions n ≡ o → IfSome (option_map (λ (bytes : Text). let x : Session = record { number = n; bytes = bytes } in x) o) (λ x. get r.sessions x.number ≡ Some x.bytes)
      from n None e = tt
      from n (Some bytes) e = e

      by : (o : Option ℕ) → IfSome (option_and_then (session_numbered r) o) (λ x. get r.sessions x.number ≡ Some x.bytes)
      by None = tt
      by (Some n) = from n (get r.sessions n) refl

  sound_ranged : (v : RangeVerdict) (name : Text) (number size : ℕ) (next : Decision) → IsSoundDecision next → IsSoundDecision (range_checked v name number size next)
  sound_ranged Fits name number size next h = h
  sound_ranged Malformed name number size next h = tt
  sound_ranged OutOfOrder name number size next h = tt
  sound_ranged Unequal name number size next h = tt

  sound_append : (name : Text) (range : Option Text) (body : Text) (o : Option Session) → IfSome o (λ x. get r.sessions x.number ≡ Some x.bytes)
      → IsSoundDecision (sessions.append_to r name range body o)
  sound_append name range body None h = tt
  sound_append name range body (Some x) h =
      sound_ranged (range_verdict range (length x.bytes) (length body)) name x.number (length x.bytes) _ (
      past (nat_lt largest_blob (length x.bytes + length body)) _ _ tt (λ e.
      sound_within r (appended r x.number (x.bytes ++ body)) (session_reply _ name x.number (length x.bytes + length body)) s
      (sound_appended r s x.number x.bytes (x.bytes ++ body) h (omega (arith, not_more largest_blob (length x.bytes + length body) e, length-append x.bytes body)))))

  sound_close_with : (name digest : Text) (range : Option Text) (body : Text) (x : Session) → IsSoundDecision (sessions.close_with r name digest range body x)
  sound_close_with name digest range body x =
      past (not (blobs.can_verify digest)) _ _ tt (λ _.
      sound_ranged (last_range_verdict range (length x.bytes) body) name x.number (length x.bytes) _ (
      past (nat_lt largest_blob (length x.bytes + length body)) _ _ tt (λ _.
      past (not (matches digest (x.bytes ++ body))) _ _ tt (λ e.
      sound_within r (finished r x.number digest (x.bytes ++ body)) (created_blob name digest) s
      (sound_with_blob _ (sound_without_session r s x.number) digest (x.bytes ++ body) (is_not (matches digest (x.bytes ++ body)) e))))))

  sound_close : (name : Text) (digest range : Option Text) (body : Text) (o : Option Session) → IsSoundDecision (sessions.close_to r name digest range body o)
  sound_close name digest range body None = tt
  sound_close name None range body (Some x) = tt
  sound_close name (Some digest) range body (Some x) = sound_close_with name digest range body x

  -- ---- mounts

  module _ (grants : Grants) (repos : Text → Option Repo) (all : (name : Text) (other : Repo) → repos name ≡ Some other → IsSoundRepo other) where
    source_matches : (from_name : Option Text) (digest : Text) → IfSome (source grants repos from_name digest) (λ bytes. matches digest bytes ≡ true)
    source_matches None digest = tt
    source_matches (Some name) digest = by (may_read grants name) (repos name) refl
      where
        held : (other : Repo) → repos name ≡ Some other → (o : Option Text) → get other.blobs digest ≡ o → IfSome o (λ bytes. matches digest bytes ≡ true)
        held other e None k = tt
        held other e (Some bytes) k = (all name other e).blobs digest bytes k

        by : (b : Bool) (o : Option Repo) → repos name ≡ o → IfSome (cond b (option_and_then (λ other. get other.blobs digest) o) None) (λ bytes. matches digest bytes ≡ true)
        by true None e = tt
        by true (Some other) e = held other e (get other.blobs digest) refl
        by false o e = tt

    sound_mounted : (name digest : Text) (o : Option Text) → IfSome o (λ bytes. matches digest bytes ≡ true) → IsSoundDecision (mounted r name digest o)
    sound_mounted name digest None h = sound_open name
    sound_mounted name digest (Some bytes) h = sound_within r (with_blob r digest bytes) (created_blob name digest) s (sound_with_blob r s digest bytes h)

    sound_mount : (name digest : Text) (from_name : Option Text) → IsSoundDecision (mount_blob grants repos r name digest from_name)
    sound_mount name digest from_name =
        past (not (is_digest digest)) _ _ tt (λ _. sound_mounted name digest (source grants repos from_name digest) (source_matches from_name digest))

  -- ---- manifests

  sound_found_manifest : (o : Option manifests.Found) → IsSoundDecision (manifests.found_manifest o)
  sound_found_manifest None = tt
  sound_found_manifest (Some m) = tt

  sound_found_manifest_size : (o : Option manifests.Found) → IsSoundDecision (manifests.found_manifest_size o)
  sound_found_manifest_size None = tt
  sound_found_manifest_size (Some m) = tt

  sound_delete_manifest : (reference : Text) → IsSoundDecision (manifests.delete_manifest r reference)
  sound_delete_manifest reference =
      by_test (is_tag reference) _ _
      (λ _. by_test (is_some (get r.tags reference)) _ _ (λ _. sound_without_tag r s reference) (λ _. tt))
      (λ _. by_test (is_digest reference) _ _
      (λ _. by_test (is_some (get r.manifests reference)) _ _ (λ _. sound_without_manifest r s reference) (λ _. tt))
      (λ _. tt))

  sound_with_manifest : (digest bytes : Text) (tag : Option Text) → matches digest bytes ≡ true → IsOk (manifest_in bytes) → used (with_manifest r digest bytes tag) ≤ largest
      → IsSoundRepo (with_manifest r digest bytes tag)
  sound_with_manifest digest bytes tag ok reads u =
      sound_with_tag (with_bytes r digest bytes)
      (sound_with_bytes r s digest bytes ok reads (omega (arith, used_with_tag (with_bytes r digest bytes) tag digest, u)))
      tag digest (with_bytes_there r digest bytes)

  -- what is pushed by tag has its own digest, and what is pushed by digest was compared
  pushed_matches : (reference body : Text) → not (is_tag reference || matches reference body) ≡ false → matches (pushed_digest reference body) body ≡ true
  pushed_matches reference body e = by (is_tag reference) (matches reference body) refl e
    where
      own : matches (sha256_digest body) body ≡ true
      own = ap (λ b. b || bytes_eq (sha256_digest body) (sha512_digest body)) (bytes_eq-itself (sha256_digest body))

      by : (t m : Bool) → matches reference body ≡ m → not (t || m) ≡ false → matches (cond t (sha256_digest body) reference) body ≡ true
      by true m k h = own
      by false true k h = k
      by false false k h = absurd (cc)

  is_read : (body : Text) (o : Result ManifestShown ManifestFault) (m : ManifestShown) → manifest_in body ≡ o → o ≡ Ok m → IsOk (manifest_in body)
  is_read body o m e k = subst (λ x. IsOk x) (sym (e ∙ k)) refl

  sound_push_read : (name reference : Text) (content_type : Option Text) (body : Text) (o : Result ManifestShown ManifestFault)
      → manifest_in body ≡ o → matches (pushed_digest reference body) body ≡ true → IsSoundDecision (manifests.push_read r name reference content_type body o)
  sound_push_read name reference content_type body (Err e) is ok = tt
  sound_push_read name reference content_type body (Ok m) is ok =
      past (not (content_type_fits content_type m.kind)) _ _ tt (λ _.
      past (not (has_needs r m.needs)) _ _ tt (λ _.
      sound_within r (with_manifest r (pushed_digest reference body) body (pushed_tag reference)) _ s
      (sound_with_manifest (pushed_digest reference body) body (pushed_tag reference) ok (is_read body (Ok m) m is refl))))

  sound_push_manifest : (name reference : Text) (content_type : Option Text) (body : Text) → IsSoundDecision (manifests.push_manifest r name reference content_type body)
  sound_push_manifest name reference content_type body =
      past (not (is_reference reference)) _ _ tt (λ _.
      past (nat_lt largest_manifest (length body)) _ _ tt (λ _.
      past (not (is_tag reference || is_verified reference)) _ _ tt (λ _.
      past (not (is_tag reference || matches reference body)) _ _ tt (λ e.
      sound_push_read name reference content_type body (manifest_in body) refl (pushed_matches reference body e)))))

  -- ---- lists

  sound_page : (name : Text) (last : Option Text) (n : Option (Option ℕ)) → IsSoundDecision (page.list_page r name last n)
  sound_page name last None = tt
  sound_page name last (Some n) = tt

  sound_referrers : (digest : Text) (artifact_type : Option Text) → IsSoundDecision (subjects.list_referrers r digest artifact_type)
  sound_referrers digest artifact_type = past (not (is_digest digest)) _ _ tt (λ _. tt)

  sound_referrers_size : (digest : Text) (artifact_type : Option Text) → IsSoundDecision (subjects.size_referrers r digest artifact_type)
  sound_referrers_size digest artifact_type = past (not (is_digest digest)) _ _ tt (λ _. tt)

  -- ---- all

  pub sound_operation : (grants : Grants) (repos : Text → Option Repo) → ((name : Text) (other : Repo) → repos name ≡ Some other → IsSoundRepo other)
      → (name : Text) (op : Operation) (body : Text) → IsSoundDecision (operate grants repos r name op body)
  sound_operation grants repos all name (reads_blob digest) body = sound_found_blob digest (blobs.blob_named r digest)
  sound_operation grants repos all name (sizes_blob digest) body = sound_found_size digest (option_map length (blobs.blob_named r digest))
  sound_operation grants repos all name (deletes_blob digest) body = sound_delete_blob digest
  sound_operation grants repos all name (pushes_blob digest) body = sound_push_blob name digest body
  sound_operation grants repos all name opens_session body = sound_open name
  sound_operation grants repos all name (mounts_blob digest from_name) body = sound_mount grants repos all name digest from_name
  sound_operation grants repos all name (reads_session reference) body = sound_show name (session_named r reference)
  sound_operation grants repos all name (appends_chunk reference range) body = sound_append name range body (session_named r reference) (session_there reference)
  sound_operation grants repos all name (closes_session reference digest range) body = sound_close name digest range body (session_named r reference)
  sound_operation grants repos all name (reads_manifest reference) body = sound_found_manifest (manifests.manifest_named r reference)
  sound_operation grants repos all name (sizes_manifest reference) body = sound_found_manifest_size (manifests.manifest_named r reference)
  sound_operation grants repos all name (deletes_manifest reference) body = sound_delete_manifest reference
  sound_operation grants repos all name (pushes_manifest reference content_type) body = sound_push_manifest name reference content_type body
  sound_operation grants repos all name (lists_tags n last) body = sound_page name last (page.size_in n)
  sound_operation grants repos all name (lists_referrers digest artifact_type) body = sound_referrers digest artifact_type
  sound_operation grants repos all name (sizes_referrers digest artifact_type) body = sound_referrers_size digest artifact_type
