-- Worked answers: maps that are written out, and requests of the setting.
use Rattle.std.proofs.Common.{◌≡◌, ◌∙◌, ℕ, ◌+◌, ◌-◌, Bool, true, false, cond, not, ◌||◌, nat_lt, nat_le, List, [], ◌∷◌, map, length, Option, Some, None, refl, sym, ap, arith}
use Rattle.std.specs.Prelude.{is_some, codes, sum_by, option_map, filter}
use Rattle.std.specs.Ordering.{nat_cmp, is_lt}
use Rattle.std.specs.declared.cmp.Ordering.{Ordering}
use Rattle.std.specs.Cmp.{IsTotalOrder, nat_cmp_total}
use Rattle.std.specs.FinMap.{FinMap, get, insert, empty, len, entries, from_entries, entries-insert, get-from_entries, get-empty, len-empty, len-entries, empty_of_len, get-retain_keys, remove, len-insert, len-remove}
use Rattle.std.specs.FinMap.Entries.{put}
use Rattle.oci_types.specs.Text.{Text}
use Rattle.oci_types.specs.Digest.{matches}
use Rattle.registry_model.specs.declared.level.Level.{Level}
use Rattle.registry_model.specs.declared.level.Level.TheVariants.{Delete}
use Rattle.registry_model.specs.declared.refusal.Refusal.TheVariants.{TokenRequired, AccessDenied, QuotaExceeded, DigestMismatch, TooManyUploads}
use Rattle.registry_model.specs.declared.reply.Status.TheVariants.{Accepted}
use Rattle.registry_model.specs.World.{text_cmp, Repo, Grants, World, repo_at, level_at, is_known, new_repo}
use Rattle.registry_model.specs.Usage.{used, is_over}
use Rattle.registry_model.specs.Answer.{Answer}
use Rattle.registry_model.specs.Decision.{Decision, refuses, makes, within_quota, in_repo}
use Rattle.registry_model.specs.Blobs.{with_blob, created_blob}
use Rattle.registry_model.specs.Sessions.{Session, is_full, open_session, opened, appended, append_to, close_to, finished, session_reply}
use Rattle.registry_model.specs.Manifests.{is_text, without_manifest}
use Rattle.registry_model.specs.TagPage.{Page, first_of, more_than, page_behind}
use Rattle.registry_model.specs.Operation.{Operation, rank, rank_of, needed_level}
use Rattle.registry_model.specs.Judging.{operate}
use Rattle.registry_model.specs.Worked.{app, t1, Setting, abc_digest, hello_digest, holding_abc, in_session, four_tags, two_tags}
use Rattle.registry_model.proofs.TextOrder.{text_total, exact_texts}

-- ---- maps that are written out

abbrev pub puts : {K X : Type 0} → (K → K → Ordering) → List (K × X) → List (K × X)
puts R [] = []
puts R (e ∷ es) = put R e.0 e.1 (puts R es)

no_items : {A : Type 0} (xs : List A) → length xs ≡ 0 → xs ≡ []
no_items [] e = refl
no_items (x ∷ xs) e = absurd (omega arith)

module _ {K X : Type 0} {R : K → K → Ordering} (o : IsTotalOrder R) where
  pub entries_of : (es : List (K × X)) → entries (from_entries {R = R} es) ≡ puts R es
  entries_of [] = no_items (entries (empty {X = X} {R = R})) (sym (len-entries (empty {X = X} {R = R})) ∙ len-empty R X)
  entries_of (e ∷ es) = entries-insert o (from_entries es) e.0 e.1 ∙ ap (put R e.0 e.1) (entries_of es)

abbrev pub total : {K : Type 0} → List (K × Text) → ℕ
total es = sum_by length (map (λ e. e.1) es)

abbrev pub sized : List (Text × Text) → List (Text × Text) → FinMap text_cmp Text → List (ℕ × Text) → ℕ → ℕ → Repo
sized blobs manifests tags sessions last quota = record {
  blobs = from_entries blobs;
  manifests = from_entries manifests;
  tags = tags;
  sessions = from_entries sessions;
  last = last;
  quota = quota;
}

pub used_of : (blobs manifests : List (Text × Text)) (tags : FinMap text_cmp Text) (sessions : List (ℕ × Text)) (last quota : ℕ)
    → used (sized blobs manifests tags sessions last quota) ≡ total (puts text_cmp blobs) + total (puts text_cmp manifests) + total (puts nat_cmp sessions)
used_of blobs manifests tags sessions last quota =
    λ i. total (entries_of text_total blobs i) + total (entries_of text_total manifests i) + total (entries_of nat_cmp_total sessions i)

-- ---- quotas

module _ (old new : Repo) (a : Answer) (n m : ℕ) (before : used old ≡ n) (after : used new ≡ m) where
  pub fits_quota : is_over n m old.quota ≡ false → within_quota old new a ≡ makes a new
  fits_quota h = ap (λ b. cond b (refuses QuotaExceeded) (makes a new)) ((λ i. is_over (before i) (after i) old.quota) ∙ h)

  pub past_quota : is_over n m old.quota ≡ true → within_quota old new a ≡ refuses QuotaExceeded
  past_quota h = ap (λ b. cond b (refuses QuotaExceeded) (makes a new)) ((λ i. is_over (before i) (after i) old.quota) ∙ h)

-- ---- pushes

-- the bytes are the digest's
pub matched : (r : Repo) (name digest body : Text) → matches digest body ≡ true
    → cond (not (matches digest body)) (refuses DigestMismatch) (within_quota r (with_blob r digest body) (created_blob name digest)) ≡ within_quota r (with_blob r digest body) (created_blob name digest)
matched r name digest body ok = ap (λ b. cond (not b) (refuses DigestMismatch) (within_quota r (with_blob r digest body) (created_blob name digest))) ok

pub unmatched : (r : Repo) (name digest body : Text) → matches digest body ≡ false
    → cond (not (matches digest body)) (refuses DigestMismatch) (within_quota r (with_blob r digest body) (created_blob name digest)) ≡ refuses DigestMismatch
unmatched r name digest body differs = ap (λ b. cond (not b) (refuses DigestMismatch) (within_quota r (with_blob r digest body) (created_blob name digest))) differs

-- a new digest, and one that is there
pub added : (r : Repo) (digest bytes : Text) (o : Option Text) → get r.blobs digest ≡ o → with_blob r digest bytes ≡ cond (is_some o) r (record r { blobs = insert r.blobs digest bytes })
added r digest bytes o e = ap (λ x. cond (is_some x) r (record r { blobs = insert r.blobs digest bytes })) e

-- ---- opening

pub opens : (r : Repo) (name : Text) → is_full r ≡ false → open_session r name ≡ makes (session_reply Accepted name (r.last + 1) 0) (opened r)
opens r name e = ap (λ b. cond b (refuses TooManyUploads) (makes (session_reply Accepted name (r.last + 1) 0) (opened r))) e

pub opens_none : (r : Repo) (name : Text) → is_full r ≡ true → open_session r name ≡ refuses TooManyUploads
opens_none r name e = ap (λ b. cond b (refuses TooManyUploads) (makes (session_reply Accepted name (r.last + 1) 0) (opened r))) e

or_true : (b : Bool) → (b || true) ≡ true
or_true true = refl
or_true false = refl

pub many_full : (r : Repo) → len r.sessions ≡ 1000 → is_full r ≡ true
many_full r e = ap (λ n. nat_le 1000 n || nat_le 9223372036854775807 r.last) e

pub last_full : (r : Repo) → r.last ≡ 9223372036854775807 → is_full r ≡ true
last_full r e = ap (λ n. nat_le 1000 (len r.sessions) || nat_le 9223372036854775807 n) e ∙ or_true (nat_le 1000 (len r.sessions))

pub new_open : (r : Repo) → len r.sessions ≡ 0 → r.last ≡ 0 → is_full r ≡ false
new_open r e f = λ i. nat_le 1000 (e i) || nat_le 9223372036854775807 (f i)

-- ---- the setting

lt_true : (n : ℕ) → (n ≡ 0 → ⊥) → nat_lt 0 n ≡ true
lt_true n h = grind arith

pub some_len : (m : Grants) (k : Text) (l : Level) → get m k ≡ Some l → nat_lt 0 (len m) ≡ true
some_len m k l h = lt_true (len m) (λ z. let e = sym h ∙ ap (λ x. get x k) (empty_of_len m z) ∙ get-empty text_cmp k in absurd (cc))

pub unknown : (g : Grants) → g ≡ empty → is_known g ≡ false
unknown g e = ap is_known e ∙ ap (λ n. nat_lt 0 n) (len-empty text_cmp Level)

module _ (w : World) (r : Repo) (s : Setting w r) where
  pub known : is_known (w.grants t1) ≡ true
  known = some_len (w.grants t1) app Delete s.level

  -- a request that is answered without a look at the repository
  pub apart : (x : Decision) → cond (is_known (w.grants t1)) x (refuses TokenRequired) ≡ x
  apart x = ap (λ b. cond b x (refuses TokenRequired)) known

  -- an operation on team/app
  abbrev pub at_app : Operation → Text → Decision
  at_app op body = cond (is_known (w.grants t1)) (
      cond (nat_le (rank (needed_level op)) (rank_of (level_at w t1 app))) (in_repo (repo_at w app) (λ x. operate (w.grants t1) (repo_at w) x app op body)) (refuses AccessDenied))
      (refuses TokenRequired)

  pub in_app : (op : Operation) (body : Text) → at_app op body ≡ cond (nat_le (rank (needed_level op)) 3) (operate (w.grants t1) (repo_at w) r app op body) (refuses AccessDenied)
  in_app op body = λ i. cond (known i) (
      cond (nat_le (rank (needed_level op)) (rank_of (s.level i))) (in_repo (s.repo i) (λ x. operate (w.grants t1) (repo_at w) x app op body)) (refuses AccessDenied))
      (refuses TokenRequired)

-- ---- the blob `abc`

abbrev pub abc : Text
abc = codes "abc"

pub found_abc : (quota : ℕ) → get (holding_abc quota).blobs abc_digest ≡ Some abc
found_abc quota = get-from_entries text_total ((abc_digest, abc) ∷ []) abc_digest

module _ (quota : ℕ) where
  new_abc : within_quota (new_repo quota) (with_blob (new_repo quota) abc_digest abc) (created_blob app abc_digest) ≡ within_quota (new_repo quota) (holding_abc quota) (created_blob app abc_digest)
  new_abc = ap (λ x. within_quota (new_repo quota) x (created_blob app abc_digest)) (added (new_repo quota) abc_digest abc None (get-empty text_cmp abc_digest))

  pub takes_abc : is_over 0 3 quota ≡ false
      → within_quota (new_repo quota) (with_blob (new_repo quota) abc_digest abc) (created_blob app abc_digest) ≡ makes (created_blob app abc_digest) (holding_abc quota)
  takes_abc h = new_abc ∙ fits_quota (new_repo quota) (holding_abc quota) (created_blob app abc_digest) 0 3
      (used_of [] [] empty [] 0 quota) (used_of ((abc_digest, abc) ∷ []) [] empty [] 0 quota) h

  pub refuses_abc : is_over 0 3 quota ≡ true
      → within_quota (new_repo quota) (with_blob (new_repo quota) abc_digest abc) (created_blob app abc_digest) ≡ refuses QuotaExceeded
  refuses_abc h = new_abc ∙ past_quota (new_repo quota) (holding_abc quota) (created_blob app abc_digest) 0 3
      (used_of [] [] empty [] 0 quota) (used_of ((abc_digest, abc) ∷ []) [] empty [] 0 quota) h

  pub keeps_abc : is_over 3 3 quota ≡ false
      → within_quota (holding_abc quota) (with_blob (holding_abc quota) abc_digest abc) (created_blob app abc_digest) ≡ makes (created_blob app abc_digest) (holding_abc quota)
  keeps_abc h = ap (λ x. within_quota (holding_abc quota) x (created_blob app abc_digest)) (added (holding_abc quota) abc_digest abc (Some abc) (found_abc quota))
      ∙ fits_quota (holding_abc quota) (holding_abc quota) (created_blob app abc_digest) 3 3
      (used_of ((abc_digest, abc) ∷ []) [] empty [] 0 quota) (used_of ((abc_digest, abc) ∷ []) [] empty [] 0 quota) h

-- a manifest's digest is compared as a blob's is
pub unequal : (digest body : Text) (x : Decision) → matches digest body ≡ false → cond (not (matches digest body)) (refuses DigestMismatch) x ≡ refuses DigestMismatch
unequal digest body x differs = ap (λ b. cond (not b) (refuses DigestMismatch) x) differs

-- ---- session 1

abbrev pub numbered : ℕ → Option Text → Option Session
numbered n o = option_map (λ bytes. record { number = n; bytes = bytes }) o

pub held : (bytes : Text) → get (in_session bytes).sessions 1 ≡ Some bytes
held bytes = get-from_entries nat_cmp_total ((1, bytes) ∷ []) 1

pub at_session : (old : Text) (range : Option Text) (body : Text)
    → append_to (in_session old) app range body (numbered 1 (get (in_session old).sessions 1)) ≡ append_to (in_session old) app range body (numbered 1 (Some old))
at_session old range body = ap (λ o. append_to (in_session old) app range body (numbered 1 o)) (held old)

pub keeps_chunk : (old new : Text) (a : Answer)
    → is_over (total {K = Text} [] + total {K = Text} [] + total (puts nat_cmp ((1, old) ∷ []))) (total {K = Text} [] + total {K = Text} [] + total (puts nat_cmp ((1, new) ∷ (1, old) ∷ []))) 1000 ≡ false
    → within_quota (in_session old) (appended (in_session old) 1 new) a ≡ makes a (appended (in_session old) 1 new)
keeps_chunk old new a h = fits_quota (in_session old) (appended (in_session old) 1 new) a _ _ (used_of [] [] empty ((1, old) ∷ []) 1 1000) (used_of [] [] empty ((1, new) ∷ (1, old) ∷ []) 1 1000) h

-- ---- tags

abbrev pub listed : List (Text × Text)
listed = (codes "v1", abc_digest) ∷ (codes "b", abc_digest) ∷ (codes "B", abc_digest) ∷ (codes "a", abc_digest) ∷ []

abbrev pub page_of : List (Text × Text) → Text → Option ℕ → Page
page_of es last n = let tags = filter (λ tag. is_lt (text_cmp last tag)) (map (λ e. e.0) es) in record { tags = first_of n tags; more = more_than n tags }

pub paged : (last : Text) (n : Option ℕ) → page_behind four_tags last n ≡ page_of (puts text_cmp listed) last n
paged last n = ap (λ es. page_of es last n) (entries_of text_total listed)

-- ---- a manifest with two tags

abbrev pub both_tags : FinMap text_cmp Text
both_tags = from_entries ((codes "v1", abc_digest) ∷ (codes "v2", abc_digest) ∷ [])

-- a tag that stays when the manifest goes
abbrev pub is_kept : Text → Bool
is_kept tag = not (is_text abc_digest (get both_tags tag))

pub tag_goes : (bytes : Text) → get (without_manifest (two_tags bytes) abc_digest).tags (codes "v2") ≡ None
tag_goes bytes =
    get-retain_keys both_tags is_kept (codes "v2") (λ x k. ap is_kept (sym (exact_texts (codes "v2") x k)))
    ∙ ap (λ o. cond (not (is_text abc_digest o)) (get both_tags (codes "v2")) None) (get-from_entries text_total ((codes "v1", abc_digest) ∷ (codes "v2", abc_digest) ∷ []) (codes "v2"))

-- ---- the session `hello`, closed

abbrev pub hello : Text
hello = codes "hello"

abbrev no_sessions : FinMap nat_cmp Text
no_sessions = empty

one_held : len (in_session hello).sessions ≡ 1
one_held = len-insert nat_cmp_total no_sessions 1 hello
    ∙ ap (λ (o : Option Text). cond (is_some o) (len no_sessions) (len no_sessions + 1)) (get-empty nat_cmp 1)
    ∙ ap (λ n. n + 1) (len-empty nat_cmp Text)

none_left : remove (in_session hello).sessions 1 ≡ empty
none_left = empty_of_len (remove (in_session hello).sessions 1)
    (len-remove nat_cmp_total (in_session hello).sessions 1 ∙ (λ i. cond (is_some (held hello i)) (one_held i - 1) (one_held i)))

pub closes_hello : within_quota (in_session hello) (finished (in_session hello) 1 hello_digest hello) (created_blob app hello_digest)
    ≡ makes (created_blob app hello_digest) (record (new_repo 1000) { blobs = insert empty hello_digest hello; last = 1 })
closes_hello =
    ap (λ m. within_quota (in_session hello) (with_blob (record (in_session hello) { sessions = m }) hello_digest hello) (created_blob app hello_digest)) none_left
    ∙ ap (λ x. within_quota (in_session hello) x (created_blob app hello_digest)) (added (record (in_session hello) { sessions = empty }) hello_digest hello None (get-empty text_cmp hello_digest))
    ∙ fits_quota (in_session hello) (record (new_repo 1000) { blobs = insert empty hello_digest hello; last = 1 }) (created_blob app hello_digest) 5 5
    (used_of [] [] empty ((1, hello) ∷ []) 1 1000) (used_of ((hello_digest, hello) ∷ []) [] empty [] 1 1000) refl

-- a closing with no further bytes
pub to_match : (digest : Text) → matches digest hello ≡ true
    → cond (not (matches digest hello)) (refuses DigestMismatch) (within_quota (in_session hello) (finished (in_session hello) 1 digest hello) (created_blob app digest))
    ≡ within_quota (in_session hello) (finished (in_session hello) 1 digest hello) (created_blob app digest)
to_match digest ok = ap (λ b. cond (not b) (refuses DigestMismatch) (within_quota (in_session hello) (finished (in_session hello) 1 digest hello) (created_blob app digest))) ok

pub to_differ : (digest : Text) → matches digest hello ≡ false
    → cond (not (matches digest hello)) (refuses DigestMismatch) (within_quota (in_session hello) (finished (in_session hello) 1 digest hello) (created_blob app digest)) ≡ refuses DigestMismatch
to_differ digest differs = ap (λ b. cond (not b) (refuses DigestMismatch) (within_quota (in_session hello) (finished (in_session hello) 1 digest hello) (created_blob app digest))) differs

pub at_closing : (digest : Option Text)
    → close_to (in_session hello) app digest None [] (numbered 1 (get (in_session hello).sessions 1)) ≡ close_to (in_session hello) app digest None [] (numbered 1 (Some hello))
at_closing digest = ap (λ o. close_to (in_session hello) app digest None [] (numbered 1 o)) (held hello)
