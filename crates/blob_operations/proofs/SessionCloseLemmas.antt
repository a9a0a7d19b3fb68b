-- The end of an upload session in a repository that is there.
use Rattle.std.proofs.Common.{◌≡◌, ◌∙◌, ℕ, ◌+◌, [], ◌∷◌, ◌++◌, length, Bool, true, false, cond, not, None, Some, Ok, Err, refl, sym, ap, arith}
use Rattle.std.specs.Prelude.{Option, Result, nat_lt}
use Rattle.std.specs.Option.{option_and_then, option_map_or}
use Rattle.std.specs.FinMap.{get}
use Rattle.oci_types.specs.Text.{Text}
use Rattle.oci_types.specs.Digest.{matches}
use Rattle.oci_types.specs.declared.fault.Fault.{Fault}
use Rattle.oci_types.specs.declared.fault.Fault.TheVariants.{Memory, Storage}
use Rattle.registry_model.specs.declared.range.RangeVerdict.{RangeVerdict}
use Rattle.registry_model.specs.declared.refusal.Refusal.TheVariants.{UploadUnknown, InvalidDigest, DigestMismatch, ContentTooLarge, QuotaExceeded}
use Rattle.std.proofs.lemmas.Bool.Decides.{nat_tests}
use Rattle.registry_model.specs.World.{World, Repo, repo_at, has_repo}
use Rattle.registry_model.specs.Limits.{largest_blob}
use Rattle.registry_model.specs.declared.reply.Reply.{Reply}
use Rattle.registry_model.specs.Answer.{Answer, refused}
use Rattle.registry_model.specs.Decision.{refuses, tells, makes, within_quota}
use Rattle.registry_model.specs.Blobs.{can_verify, created_blob}
use Rattle.registry_model.specs.Sessions.{finished, range_checked, last_range_verdict, close_to, close_session}
use Rattle.registry_model.specs.Keeping.{Kept, goes_on, Writes}
use Rattle.registry_model.specs.Closing.{session_matches, WritesWhereSo}
use Rattle.registry_model.specs.Lookups.{bytes_or_none, session_at}
use Rattle.operation_parts.specs.Quota.{grows_over, new_length, blob_grows_over}
use Rattle.blob_operations.specs.Uploads.{upload_at, chunk_refusal, bytes_so_far, finish_with, given_digest}
use Rattle.blob_operations.specs.declared.uploads.Upload.{Upload}
use Rattle.operation_parts.specs.Digests.{verifiable_in}
use Rattle.operation_parts.proofs.DigestLemmas.{some_by, none_by}
use Rattle.operation_parts.proofs.QuotaLemmas.{finish_over}
use Rattle.operation_parts.specs.Operating.{Operates}
use Rattle.operation_parts.proofs.RepoOutcomes.{Done, there_is, told, same_act}
use Rattle.blob_operations.proofs.UploadLemmas.{Found, found_session, upload_is, named, unnamed, chunk_refused, chunk_taken}

-- ---- the end

module _ (w : World) (name : Text) (number size : ℕ) (f : Found w name number size) (digest bytes : Text) where
  over : (b : Bool) → b ≡ blob_grows_over w name digest (length bytes) size → grows_over f.repo (new_length (get f.repo.blobs digest) (length bytes)) (length f.bytes) ≡ b
  over b e =
      ap (grows_over f.repo (new_length (get f.repo.blobs digest) (length bytes))) f.long
      ∙ sym (e ∙ ap (λ o. option_map_or (λ r. grows_over r (new_length (option_and_then (λ r. get r.blobs digest) o) (length bytes)) size) o (nat_lt size (new_length (option_and_then (λ r. get r.blobs digest) o) (length bytes)))) f.at)

  finishes : matches digest bytes ≡ true → finish_with f.repo name number digest bytes
      ≡ cond (grows_over f.repo (new_length (get f.repo.blobs digest) (length bytes)) (length f.bytes)) (refuses QuotaExceeded) (makes (created_blob name digest) (finished f.repo number digest bytes))
  finishes m =
      ap (λ b. cond (not b) (refuses DigestMismatch) (within_quota f.repo (finished f.repo number digest bytes) (created_blob name digest))) m
      ∙ ap (λ b. cond b (refuses QuotaExceeded) (makes (created_blob name digest) (finished f.repo number digest bytes))) (finish_over f.repo number digest bytes f.bytes f.there)

  pub finish_refused : matches digest bytes ≡ true → (b : Bool) → b ≡ blob_grows_over w name digest (length bytes) size → b ≡ true
      → finish_with f.repo name number digest bytes ≡ refuses QuotaExceeded
  finish_refused m b e t = finishes m ∙ ap (λ x. cond x (refuses QuotaExceeded) (makes (created_blob name digest) (finished f.repo number digest bytes))) (over b e ∙ t)

  pub finish_taken : matches digest bytes ≡ true → (b : Bool) → b ≡ blob_grows_over w name digest (length bytes) size → b ≡ false
      → finish_with f.repo name number digest bytes ≡ makes (created_blob name digest) (finished f.repo number digest bytes)
  finish_taken m b e t = finishes m ∙ ap (λ x. cond x (refuses QuotaExceeded) (makes (created_blob name digest) (finished f.repo number digest bytes))) (over b e ∙ t)

no_bytes : (t : Text) → length t ≡ 0 → t ≡ []
no_bytes [] e = refl
no_bytes (b ∷ t) e = absurd (omega arith)

module _ (w : World) (name : Text) (number size : ℕ) (f : Found w name number size) where
  -- what is so far in the session
  pub so_far : bytes_so_far f.repo number ≡ f.bytes
  so_far = ap bytes_or_none f.there

  -- a session with no bytes: the chunk is all
  pub none_so_far : (digest body : Text) → size ≡ 0 → finish_with f.repo name number digest (bytes_so_far f.repo number ++ body) ≡ finish_with f.repo name number digest body
  none_so_far digest body e = ap (λ t. finish_with f.repo name number digest (t ++ body)) (so_far ∙ no_bytes f.bytes (f.long ∙ e))

-- the bytes of a session that were read, and a chunk behind them
pub held_so_far : (w : World) (name : Text) (number size : ℕ) (f : Found w name number size) (bytes body : Text) → Some bytes ≡ session_at w name number → bytes_so_far f.repo number ++ body ≡ bytes ++ body
held_so_far w name number size f bytes body at =
    ap (λ o. bytes_or_none o ++ body) (sym (at ∙ ap (λ o. option_and_then (λ r. get r.sessions number) o) f.at))

-- ---- an end without the bytes

-- a blob takes no more room than the bytes that it was
no_growth : (r : Repo) (o : Option Text) (n : ℕ) → grows_over r (new_length o n) n ≡ false
no_growth r None n = grind (arith, nat_tests)
no_growth r (Some t) n = grind (arith, nat_tests)

nothing_behind : (t body : Text) → length body ≡ 0 → t ++ body ≡ t
nothing_behind t body e = ap (λ b. t ++ b) (no_bytes body e) ∙ go t
  where
    go : (t : Text) → t ++ [] ≡ t
    go [] = refl
    go (b ∷ bs) = ap (λ l. b ∷ l) (go bs)

module _ (w : World) (name : Text) (number size : ℕ) (f : Found w name number size) (digest : Text) where
  -- the bytes that it has are all
  all_bytes : session_at w name number ≡ Some f.bytes
  all_bytes = ap (λ o. option_and_then (λ r. get r.sessions number) o) f.at ∙ f.there

  pub finish_unread : session_matches w name number digest ≡ true → (body : Text) → length body ≡ 0
      → finish_with f.repo name number digest (bytes_so_far f.repo number ++ body) ≡ makes (created_blob name digest) (finished f.repo number digest (bytes_or_none (session_at w name number)))
  finish_unread so body none =
      let match : matches digest f.bytes ≡ true = sym (ap (λ o. option_map_or (λ b. matches digest b) o false) all_bytes) ∙ so in
      ap (finish_with f.repo name number digest) (nothing_behind (bytes_so_far f.repo number) body none ∙ so_far w name number size f)
      ∙ finishes w name number size f digest f.bytes match
      ∙ ap (λ b. cond b (refuses QuotaExceeded) (makes (created_blob name digest) (finished f.repo number digest f.bytes))) (no_growth f.repo (get f.repo.blobs digest) (length f.bytes))
      ∙ ap (λ o. makes (created_blob name digest) (finished f.repo number digest (bytes_or_none o))) (sym all_bytes)

-- what a keeper tells that knew, or did not
pub unmade : (e : Fault) (so : Bool) (made : World) (s s' : Kept) → WritesWhereSo (Err e) so made s s' → Writes {A = Reply} (Err e) made s s'
unmade Memory so made s s' h = h
unmade Storage so made s s' h = tt

pub known : (b so : Bool) (made : World) (s s' : Kept) → b ≡ true → WritesWhereSo (Ok b) so made s s' → (so ≡ true) × (s' ≡ goes_on s made)
known true so made s s' e h = h
known false so made s s' e h = absurd cc

pub unknown : (b so : Bool) (made : World) (s s' : Kept) → b ≡ false → WritesWhereSo (Ok b) so made s s' → s' ≡ s
unknown true so made s s' e h = absurd cc
unknown false so made s s' e h = h

module _ (w : World) (name reference : Text) (u : Upload) (f : Found w name u.number u.size) (e : Some u ≡ upload_at w name reference) (range : Option Text) (body : Text) where
  closing : (digest : Text) → close_session f.repo name reference (Some digest) range body
      ≡ cond (not (can_verify digest)) (refuses InvalidDigest) (range_checked (last_range_verdict range u.size body) name u.number u.size
      (cond (nat_lt largest_blob (u.size + length body)) (refuses ContentTooLarge) (finish_with f.repo name u.number digest (bytes_so_far f.repo u.number ++ body))))
  closing digest =
      ap (close_to f.repo name (Some digest) range body) (named w name reference u f e)
      ∙ ap (λ n. cond (not (can_verify digest)) (refuses InvalidDigest) (range_checked (last_range_verdict range n body) name u.number n
      (cond (nat_lt largest_blob (n + length body)) (refuses ContentTooLarge) (finish_with f.repo name u.number digest (f.bytes ++ body))))) f.long
      ∙ ap (λ t. cond (not (can_verify digest)) (refuses InvalidDigest) (range_checked (last_range_verdict range u.size body) name u.number u.size
      (cond (nat_lt largest_blob (u.size + length body)) (refuses ContentTooLarge) (finish_with f.repo name u.number digest (t ++ body))))) (sym (so_far w name u.number u.size f))

  pub bad_digest : (text : Text) → None ≡ verifiable_in text → close_session f.repo name reference (Some text) range body ≡ refuses InvalidDigest
  bad_digest text none =
      closing text ∙ ap (λ b. cond (not b) (refuses InvalidDigest) (range_checked (last_range_verdict range u.size body) name u.number u.size
      (cond (nat_lt largest_blob (u.size + length body)) (refuses ContentTooLarge) (finish_with f.repo name u.number text (bytes_so_far f.repo u.number ++ body))))) (none_by text (can_verify text) none)

  module _ (digest text : Text) (read : Some digest ≡ verifiable_in text) (v : RangeVerdict) (is : v ≡ last_range_verdict range u.size body) where
    verified : close_session f.repo name reference (Some text) range body
        ≡ range_checked v name u.number u.size (cond (nat_lt largest_blob (u.size + length body)) (refuses ContentTooLarge) (finish_with f.repo name u.number digest (bytes_so_far f.repo u.number ++ body)))
    verified =
        let h = some_by digest text (can_verify text) read in
        closing text
        ∙ ap (λ b. cond (not b) (refuses InvalidDigest) (range_checked (last_range_verdict range u.size body) name u.number u.size
        (cond (nat_lt largest_blob (u.size + length body)) (refuses ContentTooLarge) (finish_with f.repo name u.number text (bytes_so_far f.repo u.number ++ body))))) h.0
        ∙ ap (λ x. range_checked x name u.number u.size (cond (nat_lt largest_blob (u.size + length body)) (refuses ContentTooLarge) (finish_with f.repo name u.number text (bytes_so_far f.repo u.number ++ body)))) (sym is)
        ∙ ap (λ t. range_checked v name u.number u.size (cond (nat_lt largest_blob (u.size + length body)) (refuses ContentTooLarge) (finish_with f.repo name u.number t (bytes_so_far f.repo u.number ++ body)))) (sym h.1)

    pub put_refused : (a : Answer) → Some a ≡ chunk_refusal v name u (length body) → close_session f.repo name reference (Some text) range body ≡ tells a
    put_refused a h = verified ∙ chunk_refused v name u (length body) (finish_with f.repo name u.number digest (bytes_so_far f.repo u.number ++ body)) a h

    pub put_taken : None ≡ chunk_refusal v name u (length body) → close_session f.repo name reference (Some text) range body ≡ finish_with f.repo name u.number digest (bytes_so_far f.repo u.number ++ body)
    put_taken h = verified ∙ chunk_taken v name u (length body) (finish_with f.repo name u.number digest (bytes_so_far f.repo u.number ++ body)) h

-- ---- what comes of an end

-- no such session
pub ends_unknown : (s s' : Kept) (name reference : Text) (given range : Option Text) (body : Text) → has_repo s.world name ≡ true → None ≡ upload_at s.world name reference → (a : Answer) → a ≡ refused UploadUnknown
    → s.spent ≡ false → s' ≡ s → Done a name (λ r. close_session r name reference given range body) s s'
ends_unknown s s' name reference given range body there none a is unspent stays =
    let here = there_is (repo_at s.world name) there in
    told s s' name (λ r. close_session r name reference given range body) here.0 here.1 a (refused UploadUnknown) is unspent stays
    (ap (close_to here.0 name given range body) (unnamed s.world name reference here.0 here.1 none))

-- no digest
ends_undigested : (s s' : Kept) (name reference : Text) (u : Upload) → Some u ≡ upload_at s.world name reference → (given range : Option Text) (body : Text) → given ≡ None → (a : Answer) → a ≡ refused InvalidDigest
    → s.spent ≡ false → s' ≡ s → Done a name (λ r. close_session r name reference given range body) s s'
ends_undigested s s' name reference u e given range body none a is unspent stays = by_session (found_session s.world name u.number u.size (upload_is s.world name reference u e).1)
  where
    by_session : Found s.world name u.number u.size → Done a name (λ r. close_session r name reference given range body) s s'
    by_session f =
        told s s' name (λ r. close_session r name reference given range body) f.repo f.at a (refused InvalidDigest) is unspent stays
        (ap (λ o. close_session f.repo name reference o range body) none ∙ ap (close_to f.repo name None range body) (named s.world name reference u f e))

module _ (s s' : Kept) (name reference : Text) (u : Upload) (e : Some u ≡ upload_at s.world name reference) (given range : Option Text) (body text : Text) (said : given ≡ Some text) where
  f : Found s.world name u.number u.size
  f = found_session s.world name u.number u.size (upload_is s.world name reference u e).1

  ends_unverified : (a : Answer) → a ≡ refused InvalidDigest → s.spent ≡ false → s' ≡ s → None ≡ verifiable_in text → Done a name (λ r. close_session r name reference given range body) s s'
  ends_unverified a is unspent stays none =
      told s s' name (λ r. close_session r name reference given range body) f.repo f.at a (refused InvalidDigest) is unspent stays
      (ap (λ o. close_session f.repo name reference o range body) said ∙ bad_digest s.world name reference u f e range body text none)

  module _ (digest : Text) (read : Some digest ≡ verifiable_in text) (v : RangeVerdict) (is : v ≡ last_range_verdict range u.size body) where
    pub ends_refused : (a : Answer) → s.spent ≡ false → s' ≡ s → Some a ≡ chunk_refusal v name u (length body) → Done a name (λ r. close_session r name reference given range body) s s'
    ends_refused a unspent stays h =
        told s s' name (λ r. close_session r name reference given range body) f.repo f.at a a refl unspent stays
        (ap (λ o. close_session f.repo name reference o range body) said ∙ put_refused s.world name reference u f e range body digest text read v is a h)

    pub ends_taken : (result : Result Reply Fault) (s1 : Kept) → s1 ≡ s → None ≡ chunk_refusal v name u (length body)
        → Operates result name (λ r. finish_with r name u.number digest (bytes_so_far r u.number ++ body)) s1 s' → Operates result name (λ r. close_session r name reference given range body) s s'
    ends_taken result s1 stays h comes =
        same_act result name (λ r. finish_with r name u.number digest (bytes_so_far r u.number ++ body)) (λ r. close_session r name reference given range body) s s1 s' f.repo stays f.at
        (ap (λ o. close_session f.repo name reference o range body) said ∙ put_taken s.world name reference u f e range body digest text read v is h) comes

-- no digest is given, or one against which nothing can be verified
pub ends_ungiven : (s s' : Kept) (name reference : Text) (u : Upload) → Some u ≡ upload_at s.world name reference → (given range : Option Text) (body : Text) → None ≡ given_digest given → (a : Answer) → a ≡ refused InvalidDigest
    → s.spent ≡ false → s' ≡ s → Done a name (λ r. close_session r name reference given range body) s s'
ends_ungiven s s' name reference u e None range body none a is unspent stays = ends_undigested s s' name reference u e None range body refl a is unspent stays
ends_ungiven s s' name reference u e (Some text) range body none a is unspent stays = ends_unverified s s' name reference u e (Some text) range body text refl a is unspent stays none

-- the text of one that is given
pub given_is : (given : Option Text) (d : Text) → Some d ≡ given_digest given → (text : Text) × (given ≡ Some text) × (Some d ≡ verifiable_in text)
given_is None d e = absurd (cc)
given_is (Some text) d e = (text, refl, e)
