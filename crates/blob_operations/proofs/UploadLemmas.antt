-- Upload sessions in a repository that is there.
use Rattle.std.proofs.Common.{◌≡◌, ◌∙◌, ℕ, ◌+◌, ◌<◌, ◌≤◌, ◌++◌, length, length-append, arith, Bool, true, false, cond, None, Some, refl, sym, ap, subst}
use Rattle.std.specs.Prelude.{Option, option_map, is_some, nat_lt, nat_le, ◌||◌}
use Rattle.std.specs.Option.{option_and_then, option_map_or}
use Rattle.std.specs.FinMap.{get, len}
use Rattle.std.proofs.lemmas.Bool.Decides.{nat_tests}
use Rattle.std.proofs.lemmas.Option.{same_Some}
use Rattle.oci_types.specs.Text.{Text}
use Rattle.oci_types.specs.SessionNumber.{session_number_of}
use Rattle.registry_model.specs.declared.range.RangeVerdict.{RangeVerdict}
use Rattle.registry_model.specs.declared.range.RangeVerdict.TheVariants.{Fits, Malformed, OutOfOrder, Unequal}
use Rattle.registry_model.specs.declared.refusal.Refusal.TheVariants.{ContentTooLarge, QuotaExceeded, UploadUnknown, TooManyUploads}
use Rattle.registry_model.specs.declared.reply.Status.TheVariants.{NoContent, Accepted}
use Rattle.registry_model.specs.World.{Repo, World, repo_at, has_repo}
use Rattle.registry_model.specs.Limits.{largest, largest_blob, most_sessions}
use Rattle.registry_model.specs.Answer.{Answer, refused}
use Rattle.registry_model.specs.Heads.{is_sent}
use Rattle.registry_model.specs.Range.{range_verdict}
use Rattle.registry_model.specs.Decision.{Decision, refuses, tells, makes, within_quota}
use Rattle.registry_model.specs.Sessions.{is_full, opened, open_session, read_session, show_session, Session, session_numbered, session_named, session_reply, range_checked, appended, append_to, append_chunk}
use Rattle.registry_model.specs.Lookups.{session_at, session_size_at, sessions_open_at, last_number_at, bytes_or_none}
use Rattle.registry_model.specs.Lookups as lookups
use Rattle.operation_parts.specs.Quota.{grows_over, grows_over_at}
use Rattle.blob_operations.specs.Uploads.{IsOpen, upload_at, next_number_at, chunk_refusal, bytes_so_far, append_more}
use Rattle.blob_operations.specs.declared.uploads.Upload.{Upload}
use Rattle.registry_model.specs.Keeping.{Kept, goes_on}
use Rattle.operation_parts.proofs.QuotaLemmas.{append_over}
use Rattle.operation_parts.proofs.RepoOutcomes.{Done, there_is, told, made}

-- ---- the session of a number

-- what is known of a session that is found: the repository, its bytes, and their length
pub record Found (w : World) (name : Text) (number size : ℕ) : Type 0 where
  pub repo : Repo
  pub bytes : Text
  pub at : repo_at w name ≡ Some repo
  pub there : get repo.sessions number ≡ Some bytes
  pub long : length bytes ≡ size

found_in : (w : World) (name : Text) (number size : ℕ) (o : Option Repo) → repo_at w name ≡ o → option_map length (option_and_then (λ r. get r.sessions number) o) ≡ Some size → Found w name number size
found_in w name number size None at e = absurd (cc)
found_in w name number size (Some r) at e = by_bytes (get r.sessions number) refl e
  where
    by_bytes : (x : Option Text) → get r.sessions number ≡ x → option_map length x ≡ Some size → Found w name number size
    by_bytes None there e = absurd (cc)
    by_bytes (Some bytes) there e = record { repo = r; bytes = bytes; at = at; there = there; long = same_Some (length bytes) size e }

pub found_session : (w : World) (name : Text) (number size : ℕ) → session_size_at w name number ≡ Some size → Found w name number size
found_session w name number size e = found_in w name number size (repo_at w name) refl e

-- the session of an upload is open still
pub open_there : (s mid : Kept) (name : Text) (u : Upload) → mid ≡ s → IsOpen s name u → is_some (session_at mid.world name u.number) ≡ true
open_there s mid name u same is_open = subst (λ (x : Kept). is_some (session_at x.world name u.number) ≡ true) (sym same) (by_length (session_at s.world name u.number) is_open)
  where
    by_length : (o : Option Text) → option_map length o ≡ Some u.size → is_some o ≡ true
    by_length None e = absurd (cc)
    by_length (Some bytes) e = refl

-- so there are bytes of it
pub open_held : (s : Kept) (name : Text) (u : Upload) → IsOpen s name u → None ≡ session_at s.world name u.number → ⊥
open_held s name u is_open none = absurd (let gone = ap (option_map length) none in cc)

-- and a chunk behind them that fits
pub held_fits : (s : Kept) (name : Text) (u : Upload) (bytes body all : Text) → IsOpen s name u → Some bytes ≡ session_at s.world name u.number → all ≡ bytes ++ body → u.size + length body ≤ largest_blob
    → length all ≤ largest_blob
held_fits s name u bytes body all is_open held is fits =
    let long : length bytes ≡ u.size = same_Some (length bytes) u.size (ap (option_map length) held ∙ is_open) in
    subst (λ t. length t ≤ largest_blob) (sym is) (omega (arith, length-append bytes body, long))

-- and has as many bytes
pub open_fits : (s mid : Kept) (name : Text) (u : Upload) (more : ℕ) → mid ≡ s → IsOpen s name u → u.size + more ≤ largest_blob
    → length (bytes_or_none (session_at mid.world name u.number)) + more ≤ largest_blob
open_fits s mid name u more same is_open fits =
    subst (λ (x : Kept). length (bytes_or_none (session_at x.world name u.number)) + more ≤ largest_blob) (sym same)
    (subst (λ n. n + more ≤ largest_blob) (sym (by_length (session_at s.world name u.number) is_open)) fits)
  where
    by_length : (o : Option Text) → option_map length o ≡ Some u.size → length (bytes_or_none o) ≡ u.size
    by_length None e = absurd (cc)
    by_length (Some bytes) e = same_Some (length bytes) u.size e

by_number : (u : Upload) (n : ℕ) (o : Option ℕ) → Some u ≡ option_map (λ size. record { number = n; size = size }) o → (n ≡ u.number) × (o ≡ Some u.size)
by_number u n None e = absurd (cc)
by_number u n (Some size) e =
    let same : u ≡ record { number = n; size = size } = same_Some u (record { number = n; size = size }) e in
    (ap (λ x. x.number) (sym same), ap (λ x. Some x.size) (sym same))

by_reference : (w : World) (name : Text) (u : Upload) (o : Option ℕ) → Some u ≡ option_and_then (λ n. option_map (λ size. record { number = n; size = size }) (session_size_at w name n)) o
    → (o ≡ Some u.number) × (session_size_at w name u.number ≡ Some u.size)
by_reference w name u None e = absurd (cc)
by_reference w name u (Some n) e =
    let h = by_number u n (session_size_at w name n) e in
    (ap Some h.0, subst (λ m. session_size_at w name m ≡ Some u.size) h.0 h.1)

-- the number and the length of the session whose number the text is
pub upload_is : (w : World) (name reference : Text) (u : Upload) → Some u ≡ upload_at w name reference
    → (session_number_of reference ≡ Some u.number) × (session_size_at w name u.number ≡ Some u.size)
upload_is w name reference u e = by_reference w name u (session_number_of reference) e

pub named : (w : World) (name reference : Text) (u : Upload) (f : Found w name u.number u.size) → Some u ≡ upload_at w name reference
    → session_named f.repo reference ≡ Some (record { number = u.number; bytes = f.bytes })
named w name reference u f e =
    ap (option_and_then (session_numbered f.repo)) (upload_is w name reference u e).0
    ∙ ap (option_map (λ bytes. record { number = u.number; bytes = bytes })) f.there

-- there is none
pub none_in : {A : Type 0} (o : Option A) → ((x : A) → o ≡ Some x → ⊥) → o ≡ None
none_in None h = refl
none_in (Some x) h = absurd (h x refl)

abbrev uploaded : ℕ → ℕ → Upload
uploaded n size = record { number = n; size = size }

abbrev held_in : ℕ → Text → Session
held_in n bytes = record { number = n; bytes = bytes }

-- no session of that number is open
pub unnamed : (w : World) (name reference : Text) (r : Repo) → repo_at w name ≡ Some r → None ≡ upload_at w name reference → session_named r reference ≡ None
unnamed w name reference r at e =
    by_number_of (session_number_of reference)
    (e ∙ ap (λ x. option_and_then (λ n. option_map (λ size. uploaded n size) (option_map length (option_and_then (λ r. get r.sessions n) x))) (session_number_of reference)) at)
  where
    by_bytes : (n : ℕ) (b : Option Text) → None ≡ option_map (λ size. uploaded n size) (option_map length b) → option_map (λ bytes. held_in n bytes) b ≡ None
    by_bytes n None e = refl
    by_bytes n (Some b) e = absurd (cc)

    by_number_of : (o : Option ℕ) → None ≡ option_and_then (λ n. option_map (λ size. uploaded n size) (option_map length (get r.sessions n))) o → option_and_then (session_numbered r) o ≡ None
    by_number_of None e = refl
    by_number_of (Some n) e = by_bytes n (get r.sessions n) e

pub no_upload : (w : World) (name reference : Text) → session_number_of reference ≡ None → None ≡ upload_at w name reference
no_upload w name reference none = sym (ap (λ o. option_and_then (λ n. option_map (λ size. uploaded n size) (session_size_at w name n)) o) none)

pub upload_by : (w : World) (name reference : Text) (n : ℕ) → session_number_of reference ≡ Some n → (o : Option ℕ) → o ≡ session_size_at w name n
    → option_map (λ size. uploaded n size) o ≡ upload_at w name reference
upload_by w name reference n some o e =
    ap (λ x. option_map (λ size. uploaded n size) x) e ∙ sym (ap (λ o. option_and_then (λ n. option_map (λ size. uploaded n size) (session_size_at w name n)) o) some)

-- ---- chunks

-- a chunk that is refused
pub chunk_refused : (v : RangeVerdict) (name : Text) (u : Upload) (more : ℕ) (next : Decision) (a : Answer) → Some a ≡ chunk_refusal v name u more
    → range_checked v name u.number u.size (cond (nat_lt largest_blob (u.size + more)) (refuses ContentTooLarge) next) ≡ tells a
chunk_refused Fits name u more next a e = by_size (nat_lt largest_blob (u.size + more)) e
  where
    by_size : (b : Bool) → Some a ≡ cond b (Some (refused ContentTooLarge)) None → cond b (refuses ContentTooLarge) next ≡ tells a
    by_size true e = ap tells (sym (same_Some a (refused ContentTooLarge) e))
    by_size false e = absurd (cc)
chunk_refused Malformed name u more next a e = ap tells (sym (same_Some a _ e))
chunk_refused OutOfOrder name u more next a e = ap tells (sym (same_Some a _ e))
chunk_refused Unequal name u more next a e = ap tells (sym (same_Some a _ e))

-- what it is answered with has its content itself
pub refusal_sent : (v : RangeVerdict) (name : Text) (u : Upload) (more : ℕ) (a : Answer) → Some a ≡ chunk_refusal v name u more → is_sent a.body ≡ true
refusal_sent Fits name u more a e = by_size (nat_lt largest_blob (u.size + more)) e
  where
    by_size : (b : Bool) → Some a ≡ cond b (Some (refused ContentTooLarge)) None → is_sent a.body ≡ true
    by_size true e = ap (λ x. is_sent x.body) (same_Some a (refused ContentTooLarge) e)
    by_size false e = absurd (cc)
refusal_sent Malformed name u more a e = ap (λ x. is_sent x.body) (same_Some a _ e)
refusal_sent OutOfOrder name u more a e = ap (λ x. is_sent x.body) (same_Some a _ e)
refusal_sent Unequal name u more a e = ap (λ x. is_sent x.body) (same_Some a _ e)

-- a chunk that is not
pub chunk_taken : (v : RangeVerdict) (name : Text) (u : Upload) (more : ℕ) (next : Decision) → None ≡ chunk_refusal v name u more
    → range_checked v name u.number u.size (cond (nat_lt largest_blob (u.size + more)) (refuses ContentTooLarge) next) ≡ next
chunk_taken Fits name u more next e = by_size (nat_lt largest_blob (u.size + more)) e
  where
    by_size : (b : Bool) → None ≡ cond b (Some (refused ContentTooLarge)) None → cond b (refuses ContentTooLarge) next ≡ next
    by_size true e = absurd (cc)
    by_size false e = refl
chunk_taken Malformed name u more next e = absurd (cc)
chunk_taken OutOfOrder name u more next e = absurd (cc)
chunk_taken Unequal name u more next e = absurd (cc)

-- and it fits
pub chunk_fits : (v : RangeVerdict) (name : Text) (u : Upload) (more : ℕ) → None ≡ chunk_refusal v name u more → u.size + more ≤ largest_blob
chunk_fits Fits name u more e = by_size (nat_lt largest_blob (u.size + more)) refl e
  where
    by_size : (b : Bool) → nat_lt largest_blob (u.size + more) ≡ b → None ≡ cond b (Some (refused ContentTooLarge)) None → u.size + more ≤ largest_blob
    by_size true is e = absurd (cc)
    by_size false is e = grind (arith, nat_tests)
chunk_fits Malformed name u more e = absurd (cc)
chunk_fits OutOfOrder name u more e = absurd (cc)
chunk_fits Unequal name u more e = absurd (cc)

module _ (w : World) (name : Text) (number size : ℕ) (f : Found w name number size) (body : Text) where
  so_far : bytes_so_far f.repo number ≡ f.bytes
  so_far = ap bytes_or_none f.there

  appends : append_more f.repo name number body
      ≡ cond (grows_over f.repo (length body) 0) (refuses QuotaExceeded) (makes (session_reply Accepted name number (size + length body)) (appended f.repo number (bytes_so_far f.repo number ++ body)))
  appends =
      ap (λ x. within_quota f.repo (appended f.repo number (x ++ body)) (session_reply Accepted name number (length x + length body))) so_far
      ∙ ap (λ b. cond b (refuses QuotaExceeded) (makes (session_reply Accepted name number (length f.bytes + length body)) (appended f.repo number (f.bytes ++ body)))) (append_over f.repo number f.bytes body f.there)
      ∙ ap (λ n. cond (grows_over f.repo (length body) 0) (refuses QuotaExceeded) (makes (session_reply Accepted name number (n + length body)) (appended f.repo number (f.bytes ++ body)))) f.long
      ∙ ap (λ x. cond (grows_over f.repo (length body) 0) (refuses QuotaExceeded) (makes (session_reply Accepted name number (size + length body)) (appended f.repo number (x ++ body)))) (sym so_far)

  over : (b : Bool) → b ≡ grows_over_at w name (length body) 0 → grows_over f.repo (length body) 0 ≡ b
  over b e = sym (e ∙ ap (λ o. option_map_or (λ r. grows_over r (length body) 0) o (nat_lt 0 (length body))) f.at)

  pub append_refused : (b : Bool) → b ≡ grows_over_at w name (length body) 0 → b ≡ true → append_more f.repo name number body ≡ refuses QuotaExceeded
  append_refused b e t = appends ∙ ap (λ x. cond x (refuses QuotaExceeded) (makes (session_reply Accepted name number (size + length body)) (appended f.repo number (bytes_so_far f.repo number ++ body)))) (over b e ∙ t)

  pub append_taken : (b : Bool) → b ≡ grows_over_at w name (length body) 0 → b ≡ false
      → append_more f.repo name number body ≡ makes (session_reply Accepted name number (size + length body)) (appended f.repo number (bytes_so_far f.repo number ++ body))
  append_taken b e t = appends ∙ ap (λ x. cond x (refuses QuotaExceeded) (makes (session_reply Accepted name number (size + length body)) (appended f.repo number (bytes_so_far f.repo number ++ body)))) (over b e ∙ t)

module _ (w : World) (name reference : Text) (u : Upload) (f : Found w name u.number u.size) (e : Some u ≡ upload_at w name reference) (range : Option Text) (body : Text) where
  chunk : append_chunk f.repo name reference range body
      ≡ range_checked (range_verdict range u.size (length body)) name u.number u.size (cond (nat_lt largest_blob (u.size + length body)) (refuses ContentTooLarge) (append_more f.repo name u.number body))
  chunk =
      ap (append_to f.repo name range body) (named w name reference u f e)
      ∙ ap (λ n. range_checked (range_verdict range n (length body)) name u.number n (cond (nat_lt largest_blob (n + length body)) (refuses ContentTooLarge)
      (within_quota f.repo (appended f.repo u.number (f.bytes ++ body)) (session_reply Accepted name u.number (length f.bytes + length body))))) f.long
      ∙ ap (λ x. range_checked (range_verdict range u.size (length body)) name u.number u.size (cond (nat_lt largest_blob (u.size + length body)) (refuses ContentTooLarge)
      (within_quota f.repo (appended f.repo u.number (x ++ body)) (session_reply Accepted name u.number (length x + length body))))) (sym (so_far w name u.number u.size f body))

  pub patch_refused : (v : RangeVerdict) (a : Answer) → v ≡ range_verdict range u.size (length body) → Some a ≡ chunk_refusal v name u (length body) → append_chunk f.repo name reference range body ≡ tells a
  patch_refused v a is h =
      chunk ∙ ap (λ x. range_checked x name u.number u.size (cond (nat_lt largest_blob (u.size + length body)) (refuses ContentTooLarge) (append_more f.repo name u.number body))) (sym is)
      ∙ chunk_refused v name u (length body) (append_more f.repo name u.number body) a h

  pub patch_taken : (v : RangeVerdict) → v ≡ range_verdict range u.size (length body) → None ≡ chunk_refusal v name u (length body)
      → append_chunk f.repo name reference range body ≡ append_more f.repo name u.number body
  patch_taken v is h =
      chunk ∙ ap (λ x. range_checked x name u.number u.size (cond (nat_lt largest_blob (u.size + length body)) (refuses ContentTooLarge) (append_more f.repo name u.number body))) (sym is)
      ∙ chunk_taken v name u (length body) (append_more f.repo name u.number body) h

-- a chunk for no such session
pub patch_unknown : (s s' : Kept) (name reference : Text) (range : Option Text) (body : Text) → has_repo s.world name ≡ true → None ≡ upload_at s.world name reference → (a : Answer) → a ≡ refused UploadUnknown
    → s.spent ≡ false → s' ≡ s → Done a name (λ r. append_chunk r name reference range body) s s'
patch_unknown s s' name reference range body there none a is unspent stays =
    let here = there_is (repo_at s.world name) there in
    told s s' name (λ r. append_chunk r name reference range body) here.0 here.1 a (refused UploadUnknown) is unspent stays
    (ap (append_to here.0 name range body) (unnamed s.world name reference here.0 here.1 none))

-- ---- the next session

next_is : (w : World) (name : Text) (r : Repo) → repo_at w name ≡ Some r → next_number_at w name ≡ cond (is_full r) None (Some (r.last + 1))
next_is w name r at =
    ap (λ o. cond (nat_le most_sessions (option_map_or (λ (r : Repo). len r.sessions) o 0) || nat_le largest (option_map_or (λ (r : Repo). r.last) o 0)) None (Some (option_map_or (λ (r : Repo). r.last) o 0 + 1))) at

none_next : (b : Bool) (n : ℕ) → None ≡ cond b None (Some n) → b ≡ true
none_next true n e = refl
none_next false n e = absurd (cc)

some_next : (b : Bool) (k n : ℕ) → Some k ≡ cond b None (Some n) → (b ≡ false) × (k ≡ n)
some_next true k n e = absurd (cc)
some_next false k n e = (refl, same_Some k n e)

-- where there is a next number, fewer are open than may be, and the last is not the largest
not_full : (many last k n : ℕ) → Some k ≡ cond (nat_le most_sessions many || nat_le largest last) None (Some n) → (many < most_sessions) × (last < largest)
not_full many last k n e = by_tests (nat_le most_sessions many) (nat_le largest last) refl refl e
  where
    by_tests : (few below : Bool) → nat_le most_sessions many ≡ few → nat_le largest last ≡ below → Some k ≡ cond (few || below) None (Some n) → (many < most_sessions) × (last < largest)
    by_tests true below few_is below_is e = absurd (cc)
    by_tests false true few_is below_is e = absurd (cc)
    by_tests false false few_is below_is e = (grind (arith, nat_tests), grind (arith, nat_tests))

pub next_fits : (s mid : Kept) (name : Text) (number : ℕ) → mid ≡ s → Some number ≡ next_number_at s.world name → (sessions_open_at mid.world name < most_sessions) × (last_number_at mid.world name < largest)
next_fits s mid name number same e =
    subst (λ (x : Kept). (sessions_open_at x.world name < most_sessions) × (last_number_at x.world name < largest)) (sym same)
    (not_full (sessions_open_at s.world name) (last_number_at s.world name) number (last_number_at s.world name + 1) e)

module _ (s mid : Kept) (name : Text) (there : has_repo s.world name ≡ true) (unspent : s.spent ≡ false) (first : mid ≡ s) (a : Answer) where
  -- no more can be opened
  pub opens_none : None ≡ next_number_at s.world name → a ≡ refused TooManyUploads → Done a name (λ r. open_session r name) s mid
  opens_none none e =
      let r = there_is (repo_at s.world name) there in
      told s mid name (λ r. open_session r name) r.0 r.1 a _ e unspent first
      (ap (λ b. cond b (refuses TooManyUploads) (makes (session_reply Accepted name (r.0.last + 1) 0) (opened r.0))) (none_next (is_full r.0) (r.0.last + 1) (none ∙ next_is s.world name r.0 r.1)))

  -- one more is
  pub opens_next : (s' : Kept) (number : ℕ) → Some number ≡ next_number_at s.world name → s' ≡ goes_on mid (lookups.open_session mid.world name)
      → a ≡ session_reply Accepted name number 0 → Done a name (λ r. open_session r name) s s'
  opens_next s' number some after e =
      let r = there_is (repo_at s.world name) there in
      let next = some_next (is_full r.0) number (r.0.last + 1) (some ∙ next_is s.world name r.0 r.1) in
      made s s' name (λ r. open_session r name) r.0 r.1 a _ (e ∙ ap (λ n. session_reply Accepted name n 0) next.1) opened
      (after ∙ ap {A = Kept} {B = Kept} (λ m. goes_on m (lookups.open_session m.world name)) first)
      (ap (λ b. cond b (refuses TooManyUploads) (makes (session_reply Accepted name (r.0.last + 1) 0) (opened r.0))) next.0)

-- ---- how far a session is

module _ (s s' : Kept) (name reference : Text) (unspent : s.spent ≡ false) (stays : s' ≡ s) (a : Answer) where
  pub status_unknown : has_repo s.world name ≡ true → None ≡ upload_at s.world name reference → a ≡ refused UploadUnknown → Done a name (λ r. read_session r name reference) s s'
  status_unknown there none is =
      let here = there_is (repo_at s.world name) there in
      told s s' name (λ r. read_session r name reference) here.0 here.1 a (refused UploadUnknown) is unspent stays
      (ap (show_session name) (unnamed s.world name reference here.0 here.1 none))

  pub status_of : (u : Upload) → Some u ≡ upload_at s.world name reference → a ≡ session_reply NoContent name u.number u.size → Done a name (λ r. read_session r name reference) s s'
  status_of u e is =
      let f = found_session s.world name u.number u.size (upload_is s.world name reference u e).1 in
      told s s' name (λ r. read_session r name reference) f.repo f.at a (session_reply NoContent name u.number u.size) is unspent stays
      (ap (show_session name) (named s.world name reference u f e) ∙ ap (λ n. tells (session_reply NoContent name u.number n)) f.long)
