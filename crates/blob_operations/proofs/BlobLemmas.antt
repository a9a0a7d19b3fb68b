-- Blobs in a repository that is there.
use Rattle.std.proofs.Common.{◌≡◌, ◌∙◌, ℕ, ◌≤◌, arith, Bool, true, false, not, cond, None, Some, refl, sym, ap, subst}
use Rattle.std.proofs.lemmas.Bool.Decides.{nat_tests}
use Rattle.std.specs.Prelude.{Result, Option, option_map, is_some, length, nat_lt, ◌&&◌}
use Rattle.std.specs.Option.{option_and_then}
use Rattle.std.specs.FinMap.{get}
use Rattle.oci_types.specs.Text.{Text}
use Rattle.oci_types.specs.Digest.{is_digest, is_verified, matches, verdict_of}
use Rattle.oci_types.specs.declared.digest.Verdict.TheVariants.{Matches, Differs, Unsupported}
use Rattle.oci_types.specs.declared.digest.Verdict.{Verdict}
use Rattle.registry_model.specs.declared.refusal.Refusal.{Refusal}
use Rattle.registry_model.specs.declared.refusal.Refusal.TheVariants.{BlobUnknown, InvalidDigest, DigestMismatch, ContentTooLarge, QuotaExceeded}
use Rattle.registry_model.specs.declared.reply.Status.TheVariants.{Accepted}
use Rattle.oci_types.specs.declared.fault.Fault.{Fault}
use Rattle.registry_model.specs.declared.reply.Reply.{Reply}
use Rattle.operation_parts.specs.Operating.{Operates}
use Rattle.registry_model.specs.World.{Repo, World, repo_at, has_repo, update_repo}
use Rattle.std.specs.Option.{option_map_or}
use Rattle.registry_model.specs.Answer.{Answer, refused, bare_answer}
use Rattle.registry_model.specs.Decision.{Decision, refuses, tells, makes, within_quota}
use Rattle.registry_model.specs.Blobs.{blob_named, found_blob, found_size, read_blob, size_blob, delete_blob, without_blob, with_blob, created_blob, push_blob}
use Rattle.registry_model.specs.Lookups.{blob_at, blob_size_at}
use Rattle.registry_model.specs.Lookups as lookups
use Rattle.registry_model.specs.Keeping.{Kept, goes_on}
use Rattle.registry_model.specs.Limits.{largest_blob}
use Rattle.registry_model.specs.Usage.{goes_over}
use Rattle.registry_model.specs.Doing.{course_of_answer, answered}
use Rattle.operation_parts.specs.Quota.{blob_grows_over, grows_over, new_length}
use Rattle.operation_parts.proofs.QuotaLemmas.{push_over}
use Rattle.std.proofs.lemmas.Option.{same_Some}
use Rattle.blob_operations.specs.Pushing.{push_refusal}
use Rattle.operation_parts.proofs.RepoOutcomes.{there_is, Done, told, made}

blob_told : (digest : Text) (o : Option Text) → found_blob digest o ≡ tells (found_blob digest o).reply
blob_told digest None = refl
blob_told digest (Some bytes) = refl

size_told : (digest : Text) (o : Option ℕ) → found_size digest o ≡ tells (found_size digest o).reply
size_told digest None = refl
size_told digest (Some size) = refl

module _ (s s' : Kept) (name : Text) (unspent : s.spent ≡ false) (there : has_repo s.world name ≡ true) (act : Repo → Decision) (a b : Answer) where
  tells_it : ((r : Repo) → repo_at s.world name ≡ Some r → act r ≡ tells b) → s' ≡ s → a ≡ b → Done a name act s s'
  tells_it here stays e =
      let r = there_is (repo_at s.world name) there in told s s' name act r.0 r.1 a b e unspent stays (here r.0 r.1)

  makes_it : (change : Repo → Repo) → ((r : Repo) → repo_at s.world name ≡ Some r → act r ≡ makes b (change r))
      → s' ≡ goes_on s (update_repo s.world name change (repo_at s.world name)) → a ≡ b → Done a name act s s'
  makes_it change here after e =
      let r = there_is (repo_at s.world name) there in made s s' name act r.0 r.1 a b e change after (here r.0 r.1)

-- the blob of a digest, in the repository that the world has
named_there : (w : World) (name text : Text) → is_digest text ≡ true → (r : Repo) → repo_at w name ≡ Some r → blob_named r text ≡ blob_at w name text
named_there w name text valid r at = ap (λ b. cond b (get r.blobs text) None) valid ∙ sym (ap (λ o. option_and_then (λ r. get r.blobs text) o) at)

named_nothing : (text : Text) → is_digest text ≡ false → (r : Repo) → blob_named r text ≡ None
named_nothing text invalid r = ap (λ b. cond b (get r.blobs text) None) invalid

module _ (s s' : Kept) (name : Text) (unspent : s.spent ≡ false) (there : has_repo s.world name ≡ true) (text : Text) (a : Answer) where
  module _ (stays : s' ≡ s) where
    pub reads : is_digest text ≡ true → (found : Option Text) → found ≡ blob_at s.world name text → a ≡ (found_blob text found).reply → Done a name (λ r. read_blob r text) s s'
    reads valid found at e =
        tells_it s s' name unspent there (λ r. read_blob r text) a (found_blob text found).reply
        (λ r here. ap (found_blob text) (named_there s.world name text valid r here ∙ sym at) ∙ blob_told text found) stays e

    pub reads_nothing : is_digest text ≡ false → a ≡ refused BlobUnknown → Done a name (λ r. read_blob r text) s s'
    reads_nothing invalid e =
        tells_it s s' name unspent there (λ r. read_blob r text) a (refused BlobUnknown) (λ r here. ap (found_blob text) (named_nothing text invalid r)) stays e

    pub sizes : is_digest text ≡ true → (found : Option ℕ) → found ≡ blob_size_at s.world name text → a ≡ (found_size text found).reply → Done a name (λ r. size_blob r text) s s'
    sizes valid found at e =
        tells_it s s' name unspent there (λ r. size_blob r text) a (found_size text found).reply
        (λ r here. ap (found_size text) (ap (option_map length) (named_there s.world name text valid r here) ∙ sym at) ∙ size_told text found) stays e

    pub sizes_nothing : is_digest text ≡ false → a ≡ refused BlobUnknown → Done a name (λ r. size_blob r text) s s'
    sizes_nothing invalid e =
        tells_it s s' name unspent there (λ r. size_blob r text) a (refused BlobUnknown) (λ r here. ap (λ o. found_size text (option_map length o)) (named_nothing text invalid r)) stays e

    pub deletes_nothing : ((r : Repo) → repo_at s.world name ≡ Some r → blob_named r text ≡ None) → a ≡ refused BlobUnknown → Done a name (λ r. delete_blob r text) s s'
    deletes_nothing none e =
        tells_it s s' name unspent there (λ r. delete_blob r text) a (refused BlobUnknown)
        (λ r here. ap (λ o. cond (is_some o) (makes (bare_answer Accepted) (without_blob r text)) (refuses BlobUnknown)) (none r here)) stays e

    pub deletes_invalid : is_digest text ≡ false → a ≡ refused BlobUnknown → Done a name (λ r. delete_blob r text) s s'
    deletes_invalid invalid e = deletes_nothing (λ r here. named_nothing text invalid r) e

    size_absent : (o : Option Text) → option_map length o ≡ None → o ≡ None
    size_absent None e = refl
    size_absent (Some bytes) e = absurd (cc)

    pub deletes_absent : is_digest text ≡ true → None ≡ blob_size_at s.world name text → a ≡ refused BlobUnknown → Done a name (λ r. delete_blob r text) s s'
    deletes_absent valid at e = deletes_nothing (λ r here. named_there s.world name text valid r here ∙ size_absent (blob_at s.world name text) (sym at)) e

  some_size : (o : Option Text) → is_some (option_map length o) ≡ true → is_some o ≡ true
  some_size None e = e
  some_size (Some bytes) e = refl

  pub deletes : is_digest text ≡ true → is_some (blob_size_at s.world name text) ≡ true
      → s' ≡ goes_on s (lookups.delete_blob s.world name text) → a ≡ bare_answer Accepted → Done a name (λ r. delete_blob r text) s s'
  deletes valid some after e =
      makes_it s s' name unspent there (λ r. delete_blob r text) a (bare_answer Accepted) (λ r. without_blob r text)
      (λ r here. ap (λ b. cond b (makes (bare_answer Accepted) (without_blob r text)) (refuses BlobUnknown))
      (ap is_some (named_there s.world name text valid r here) ∙ some_size (blob_at s.world name text) some)) after e

-- a blob of which there is a length is there
pub sized_there : (s mid : Kept) (name digest : Text) (size : ℕ) → mid ≡ s → Some size ≡ blob_size_at s.world name digest → is_some (blob_at mid.world name digest) ≡ true
sized_there s mid name digest size same at = subst (λ (x : Kept). is_some (blob_at x.world name digest) ≡ true) (sym same) (by_bytes (blob_at s.world name digest) at)
  where
    by_bytes : (o : Option Text) → Some size ≡ option_map length o → is_some o ≡ true
    by_bytes None e = absurd (cc)
    by_bytes (Some bytes) e = refl

-- ---- pushes

is_small : (n : ℕ) → nat_lt largest_blob n ≡ false → n ≤ largest_blob
is_small n h = grind (arith, nat_tests)

-- what comes of a push, by why it is refused
module _ (r : Repo) (name text body : Text) where
  abbrev by_refusal : Option Refusal → Decision
  by_refusal None = within_quota r (with_blob r text body) (created_blob name text)
  by_refusal (Some refusal) = refuses refusal

  by_tests : (v m large : Bool)
      → cond (not v) (refuses InvalidDigest) (cond large (refuses ContentTooLarge) (cond (not m) (refuses DigestMismatch) (within_quota r (with_blob r text body) (created_blob name text))))
      ≡ by_refusal (push_refusal (cond v (cond m Matches Differs) Unsupported) large)
  by_tests true true true = refl
  by_tests true true false = refl
  by_tests true false true = refl
  by_tests true false false = refl
  by_tests false m large = refl

  push_is : is_digest text ≡ true → push_blob r name text body ≡ by_refusal (push_refusal (verdict_of text body) (nat_lt largest_blob (length body)))
  push_is d =
      ap (λ b. cond (not (b && is_verified text)) (refuses InvalidDigest) (cond (nat_lt largest_blob (length body)) (refuses ContentTooLarge)
      (cond (not (matches text body)) (refuses DigestMismatch) (within_quota r (with_blob r text body) (created_blob name text))))) d
      ∙ by_tests (is_verified text) (matches text body) (nat_lt largest_blob (length body))

  push_invalid : is_digest text ≡ false → push_blob r name text body ≡ refuses InvalidDigest
  push_invalid d =
      ap (λ b. cond (not (b && is_verified text)) (refuses InvalidDigest) (cond (nat_lt largest_blob (length body)) (refuses ContentTooLarge)
      (cond (not (matches text body)) (refuses DigestMismatch) (within_quota r (with_blob r text body) (created_blob name text))))) d

module _ (s s' : Kept) (name : Text) (unspent : s.spent ≡ false) (there : has_repo s.world name ≡ true) (text body : Text) (a : Answer) where
  module _ (stays : s' ≡ s) where
    pub pushes_invalid : is_digest text ≡ false → a ≡ refused InvalidDigest → Done a name (λ r. push_blob r name text body) s s'
    pushes_invalid d e =
        tells_it s s' name unspent there (λ r. push_blob r name text body) a (refused InvalidDigest)
        (λ r here. push_invalid r name text body d) stays e

    -- a digest that is not verified, or a body that is too large or does not match
    pub pushes_refused : (refusal : Refusal) → is_digest text ≡ true → Some refusal ≡ push_refusal (verdict_of text body) (nat_lt largest_blob (length body)) → a ≡ refused refusal
        → Done a name (λ r. push_blob r name text body) s s'
    pushes_refused refusal d why e =
        tells_it s s' name unspent there (λ r. push_blob r name text body) a (refused refusal)
        (λ r here. push_is r name text body d ∙ sym (ap (by_refusal r name text body) why)) stays e

  -- the quota's verdict is that of the repository which is there
  over_there : (r : Repo) → repo_at s.world name ≡ Some r → (b : Bool) → b ≡ blob_grows_over s.world name text (length body) 0 → goes_over r (with_blob r text body) ≡ b
  over_there r here b e =
      push_over r text body
      ∙ sym (e ∙ ap (λ o. option_map_or (λ x. grows_over x (new_length (option_and_then (λ y. get y.blobs text) o) (length body)) 0) o (nat_lt 0 (new_length (option_and_then (λ y. get y.blobs text) o) (length body)))) here)

  pub adds_over : s' ≡ s → true ≡ blob_grows_over s.world name text (length body) 0 → a ≡ refused QuotaExceeded
      → Done a name (λ r. within_quota r (with_blob r text body) (created_blob name text)) s s'
  adds_over stays over e =
      tells_it s s' name unspent there (λ r. within_quota r (with_blob r text body) (created_blob name text)) a (refused QuotaExceeded)
      (λ r here. ap (λ b. cond b (refuses QuotaExceeded) (makes (created_blob name text) (with_blob r text body))) (over_there r here true over)) stays e

  pub adds : false ≡ blob_grows_over s.world name text (length body) 0 → s' ≡ goes_on s (lookups.put_blob s.world name text body) → a ≡ created_blob name text
      → Done a name (λ r. within_quota r (with_blob r text body) (created_blob name text)) s s'
  adds within after e =
      makes_it s s' name unspent there (λ r. within_quota r (with_blob r text body) (created_blob name text)) a (created_blob name text) (λ r. with_blob r text body)
      (λ r here. ap (λ b. cond b (refuses QuotaExceeded) (makes (created_blob name text) (with_blob r text body))) (over_there r here false within)) after e

no_refusal : (v m large : Bool) → None ≡ push_refusal (cond v (cond m Matches Differs) Unsupported) large → (v ≡ true) × (m ≡ true) × (large ≡ false)
no_refusal true true true e = absurd (cc)
no_refusal true true false e = (refl, refl, refl)
no_refusal true false true e = absurd (cc)
no_refusal true false false e = absurd (cc)
no_refusal false m large e = absurd (cc)

-- what is not refused matches, and fits
pub may_push : (digest body : Text) → None ≡ push_refusal (verdict_of digest body) (nat_lt largest_blob (length body)) → (matches digest body ≡ true) × (length body ≤ largest_blob)
may_push digest body e =
    let h = no_refusal (is_verified digest) (matches digest body) (nat_lt largest_blob (length body)) e in
    (h.1, is_small (length body) h.2)

-- a refusal is an answer
pub refusal_answers : (refusal : Refusal) (v : Verdict) (large : Bool) → Some refusal ≡ push_refusal v large → course_of_answer (refused refusal) ≡ answered
refusal_answers refusal Unsupported large e = ap (λ r. course_of_answer (refused r)) (same_Some refusal InvalidDigest e)
refusal_answers refusal Differs true e = ap (λ r. course_of_answer (refused r)) (same_Some refusal ContentTooLarge e)
refusal_answers refusal Differs false e = ap (λ r. course_of_answer (refused r)) (same_Some refusal DigestMismatch e)
refusal_answers refusal Matches true e = ap (λ r. course_of_answer (refused r)) (same_Some refusal ContentTooLarge e)
refusal_answers refusal Matches false e = absurd (cc)

-- a body that is not refused, added under the digest of the text
pub push_added : (r : Result Reply Fault) (s s' : Kept) (name text body digest : Text) → digest ≡ text → is_digest text ≡ true
    → None ≡ push_refusal (verdict_of digest body) (nat_lt largest_blob (length body))
    → Operates r name (λ x. within_quota x (with_blob x digest body) (created_blob name digest)) s s' → Operates r name (λ x. push_blob x name text body) s s'
push_added r s s' name text body digest same valid why h =
    let taken : None ≡ push_refusal (verdict_of text body) (nat_lt largest_blob (length body)) = why ∙ ap (λ d. push_refusal (verdict_of d body) (nat_lt largest_blob (length body))) same in
    subst (λ (act : Repo → Decision). Operates r name act s s') (λ i x. (ap (by_refusal x name text body) taken ∙ sym (push_is x name text body valid)) i)
    (subst (λ d. Operates r name (λ x. within_quota x (with_blob x d body) (created_blob name d)) s s') same h)
