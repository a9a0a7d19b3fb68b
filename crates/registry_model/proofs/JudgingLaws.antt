-- What a decision looks at, and when it changes something.
use Rattle.std.proofs.Common.{◌≡◌, ◌∙◌, ℕ, Bool, true, false, cond, ◌&&◌, not, nat_le, Option, Some, None, IfSome, OnSome, refl, ap, subst}
use Rattle.std.specs.Prelude.{is_some, option_map, length}
use Rattle.std.specs.Option.{option_and_then}
use Rattle.std.specs.FinMap.{get}
use Rattle.oci_types.specs.Text.{Text}
use Rattle.oci_types.specs.Digest.{is_digest}
use Rattle.oci_types.specs.RepoName.{is_repo_name}
use Rattle.registry_model.specs.declared.level.Level.{Level}
use Rattle.registry_model.specs.declared.level.Level.TheVariants.{Pull, Push, Delete}
use Rattle.registry_model.specs.declared.refusal.Refusal.TheVariants.{InvalidName, AccessDenied, InvalidDigest}
use Rattle.registry_model.specs.declared.request.Verb.{Verb}
use Rattle.registry_model.specs.declared.request.Verb.TheVariants as verb
use Rattle.registry_model.specs.World.{Repo, Grants, is_known}
use Rattle.registry_model.specs.Form.{Form, no_form, base, blob, uploads, session, manifest, tags, referrers}
use Rattle.registry_model.specs.Ask.{Keys, Ask}
use Rattle.registry_model.specs.Answer.{Answer}
use Rattle.registry_model.specs.Decision.{Decision, refuses, tells, in_repo}
use Rattle.registry_model.specs.Operation.{Operation, reads_blob, sizes_blob, deletes_blob, pushes_blob, opens_session, mounts_blob, reads_session, appends_chunk, closes_session, reads_manifest, sizes_manifest, deletes_manifest, pushes_manifest, lists_tags, lists_referrers, sizes_referrers, operation_on, operation_of, addressed, valid_name, rank, rank_of, needed_level}
use Rattle.registry_model.specs.Blobs.{found_blob, blob_named, found_size}
use Rattle.registry_model.specs.Sessions.{Session, show_session, session_named}
use Rattle.registry_model.specs.Mount.{may_read, source, mounted}
use Rattle.registry_model.specs.Manifests.{Found, found_manifest, found_manifest_size, manifest_named}
use Rattle.registry_model.specs.TagPage.{size_in, list_page}
use Rattle.registry_model.specs.Referrers.{list_referrers, size_referrers}
use Rattle.registry_model.specs.Judging.{operate, allows, granted, decide, at_base, served_on, served, decision, unnamed}
use Rattle.registry_model.specs.Team.{is_reading}

-- what is allowed needs a level
allowed_some : (l : Level) (o : Option Level) → nat_le (rank l) (rank_of o) ≡ true → is_some o ≡ true
allowed_some Pull None e = absurd (cc)
allowed_some Push None e = absurd (cc)
allowed_some Delete None e = absurd (cc)
allowed_some l (Some level) e = refl

both_right : (a b : Bool) → (a && b) ≡ true → b ≡ true
both_right true b e = e
both_right false b e = absurd (cc)

module _ (g : Grants) (f f' : Text → Option Repo) (agree : (name : Text) → is_some (get g name) ≡ true → f name ≡ f' name) where
  source_same : (o : Option Text) (digest : Text) → source g f o digest ≡ source g f' o digest
  source_same None digest = refl
  source_same (Some name) digest = by (may_read g name) refl
    where
      by : (b : Bool) → may_read g name ≡ b
          → cond b (option_and_then (λ r. get r.blobs digest) (f name)) None ≡ cond b (option_and_then (λ r. get r.blobs digest) (f' name)) None
      by true e = ap (λ o. option_and_then (λ r. get r.blobs digest) o) (agree name (both_right (is_repo_name name) (is_some (get g name)) e))
      by false e = refl

  operate_same : (r : Repo) (name : Text) (op : Operation) (body : Text) → operate g f r name op body ≡ operate g f' r name op body
  operate_same r name (mounts_blob digest from_name) body = ap (λ o. cond (not (is_digest digest)) (refuses InvalidDigest) (mounted r name digest o)) (source_same from_name digest)
  operate_same r name (reads_blob digest) body = refl
  operate_same r name (sizes_blob digest) body = refl
  operate_same r name (deletes_blob digest) body = refl
  operate_same r name (pushes_blob digest) body = refl
  operate_same r name opens_session body = refl
  operate_same r name (reads_session reference) body = refl
  operate_same r name (appends_chunk reference range) body = refl
  operate_same r name (closes_session reference digest range) body = refl
  operate_same r name (reads_manifest reference) body = refl
  operate_same r name (sizes_manifest reference) body = refl
  operate_same r name (deletes_manifest reference) body = refl
  operate_same r name (pushes_manifest reference content_type) body = refl
  operate_same r name (lists_tags n last) body = refl
  operate_same r name (lists_referrers digest artifact_type) body = refl
  operate_same r name (sizes_referrers digest artifact_type) body = refl

  in_repo_same : (o : Option Repo) (name : Text) (op : Operation) (body : Text) → in_repo o (λ r. operate g f r name op body) ≡ in_repo o (λ r. operate g f' r name op body)
  in_repo_same None name op body = refl
  in_repo_same (Some r) name op body = operate_same r name op body

  granted_same : (name : Text) (form : Form) (o : Option Operation) (body : Text) → granted g f name form o body ≡ granted g f' name form o body
  granted_same name form None body = refl
  granted_same name form (Some op) body = by (allows g name op) refl
    where
      by : (b : Bool) → allows g name op ≡ b
          → cond b (in_repo (f name) (λ r. operate g f r name op body)) (refuses AccessDenied) ≡ cond b (in_repo (f' name) (λ r. operate g f' r name op body)) (refuses AccessDenied)
      by true e = ap (λ o. in_repo o (λ r. operate g f r name op body)) (agree name (allowed_some (needed_level op) (get g name) e)) ∙ in_repo_same (f' name) name op body
      by false e = refl

  decide_same : (name : Text) (q : Ask) → decide g f name q ≡ decide g f' name q
  decide_same name q = ap (λ x. cond (is_repo_name name) x (refuses InvalidName)) (granted_same name q.form (operation_of q) q.body)

  served_same : (form : Form) (q : Ask) → served_on g f form q ≡ served_on g f' form q
  served_same no_form q = refl
  served_same base q = refl
  served_same (blob name digest) q = decide_same name q
  served_same (uploads name) q = decide_same name q
  served_same (session name reference) q = decide_same name q
  served_same (manifest name reference) q = decide_same name q
  served_same (tags name) q = decide_same name q
  served_same (referrers name digest) q = decide_same name q

  pub decision_same : (q : Ask) → decision g f q ≡ decision g f' q
  decision_same q = ap (λ x. cond (is_known g) x (unnamed q)) (served_same q.form q)

-- ---- operations that change nothing

abbrev pub ChangesNothing : Operation → Type 0
ChangesNothing op = (g : Grants) (f : Text → Option Repo) (r : Repo) (name body : Text) → (operate g f r name op body).change ≡ None

found_none : (digest : Text) (o : Option Text) → (found_blob digest o).change ≡ None
found_none digest None = refl
found_none digest (Some bytes) = refl

size_none : (digest : Text) (o : Option ℕ) → (found_size digest o).change ≡ None
size_none digest None = refl
size_none digest (Some size) = refl

show_none : (name : Text) (o : Option Session) → (show_session name o).change ≡ None
show_none name None = refl
show_none name (Some s) = refl

manifest_none : (o : Option Found) → (found_manifest o).change ≡ None
manifest_none None = refl
manifest_none (Some m) = refl

manifest_size_none : (o : Option Found) → (found_manifest_size o).change ≡ None
manifest_size_none None = refl
manifest_size_none (Some m) = refl

page_none : (r : Repo) (name : Text) (last : Option Text) (o : Option (Option ℕ)) → (list_page r name last o).change ≡ None
page_none r name last None = refl
page_none r name last (Some n) = refl

told_none : (b : Bool) (a : Answer) → (cond b (refuses InvalidDigest) (tells a)).change ≡ None
told_none true a = refl
told_none false a = refl

referrers_none : (r : Repo) (digest : Text) (artifact_type : Option Text) → (list_referrers r digest artifact_type).change ≡ None
referrers_none r digest artifact_type = told_none (not (is_digest digest)) _

referrers_size_none : (r : Repo) (digest : Text) (artifact_type : Option Text) → (size_referrers r digest artifact_type).change ≡ None
referrers_size_none r digest artifact_type = told_none (not (is_digest digest)) _

read_blob_reads : (digest : Text) → ChangesNothing (reads_blob digest)
read_blob_reads digest g f r name body = found_none digest (blob_named r digest)

size_blob_reads : (digest : Text) → ChangesNothing (sizes_blob digest)
size_blob_reads digest g f r name body = size_none digest (option_map length (blob_named r digest))

session_reads : (reference : Text) → ChangesNothing (reads_session reference)
session_reads reference g f r name body = show_none name (session_named r reference)

manifest_reads : (reference : Text) → ChangesNothing (reads_manifest reference)
manifest_reads reference g f r name body = manifest_none (manifest_named r reference)

manifest_size_reads : (reference : Text) → ChangesNothing (sizes_manifest reference)
manifest_size_reads reference g f r name body = manifest_size_none (manifest_named r reference)

tags_read : (n last : Option Text) → ChangesNothing (lists_tags n last)
tags_read n last g f r name body = page_none r name last (size_in n)

referrers_read : (digest : Text) (artifact_type : Option Text) → ChangesNothing (lists_referrers digest artifact_type)
referrers_read digest artifact_type g f r name body = referrers_none r digest artifact_type

referrers_size_reads : (digest : Text) (artifact_type : Option Text) → ChangesNothing (sizes_referrers digest artifact_type)
referrers_size_reads digest artifact_type g f r name body = referrers_size_none r digest artifact_type

-- what GET and HEAD ask for changes nothing
reading_operation : (form : Form) (v : Verb) (keys : Keys) (content_type range : Option Text) → is_reading v ≡ true → IfSome (operation_on form v keys content_type range) ChangesNothing
reading_operation no_form v keys t range h = tt
reading_operation base v keys t range h = tt
reading_operation (blob name digest) verb.Get keys t range h = read_blob_reads digest
reading_operation (blob name digest) verb.Head keys t range h = size_blob_reads digest
reading_operation (uploads name) verb.Get keys t range h = tt
reading_operation (uploads name) verb.Head keys t range h = tt
reading_operation (session name reference) verb.Get keys t range h = session_reads reference
reading_operation (session name reference) verb.Head keys t range h = session_reads reference
reading_operation (manifest name reference) verb.Get keys t range h = manifest_reads reference
reading_operation (manifest name reference) verb.Head keys t range h = manifest_size_reads reference
reading_operation (tags name) verb.Get keys t range h = tags_read keys.n keys.last
reading_operation (tags name) verb.Head keys t range h = tags_read keys.n keys.last
reading_operation (referrers name digest) verb.Get keys t range h = referrers_read digest keys.artifact_type
reading_operation (referrers name digest) verb.Head keys t range h = referrers_size_reads digest keys.artifact_type
reading_operation _ verb.Post keys t range h = absurd (cc)
reading_operation _ verb.Patch keys t range h = absurd (cc)
reading_operation _ verb.Put keys t range h = absurd (cc)
reading_operation _ verb.Delete keys t range h = absurd (cc)
reading_operation _ verb.Other keys t range h = absurd (cc)

at_base_none : (v : Verb) → (at_base v).change ≡ None
at_base_none verb.Get = refl
at_base_none verb.Head = refl
at_base_none verb.Post = refl
at_base_none verb.Patch = refl
at_base_none verb.Put = refl
at_base_none verb.Delete = refl
at_base_none verb.Other = refl

in_repo_none : (o : Option Repo) (act : Repo → Decision) → ((r : Repo) → (act r).change ≡ None) → (in_repo o act).change ≡ None
in_repo_none None act h = refl
in_repo_none (Some r) act h = h r

-- ---- changes

-- the token may push where an operation changes something
abbrev pub MayPush : Grants → Text → Type 0
MayPush g name = nat_le 2 (rank_of (get g name)) ≡ true

deletes_pushes : (o : Option Level) → nat_le 3 (rank_of o) ≡ true → nat_le 2 (rank_of o) ≡ true
deletes_pushes None e = absurd (cc)
deletes_pushes (Some Pull) e = absurd (cc)
deletes_pushes (Some Push) e = absurd (cc)
deletes_pushes (Some Delete) e = refl

always : (P : Type 0) (c : Option Repo) → P → OnSome c P
always P None h = tt
always P (Some r) h = h

never : (P : Type 0) (c : Option Repo) → c ≡ None → OnSome c P
never P None h = tt
never P (Some r) h = absurd (cc)

module _ (g : Grants) (f : Text → Option Repo) where
  none_granted : (name : Text) (form : Form) (o : Option Operation) (body : Text) → IfSome o ChangesNothing → (granted g f name form o body).change ≡ None
  none_granted name form None body h = refl
  none_granted name form (Some op) body h = by (allows g name op)
    where
      by : (b : Bool) → (cond b (in_repo (f name) (λ r. operate g f r name op body)) (refuses AccessDenied)).change ≡ None
      by true = in_repo_none (f name) (λ r. operate g f r name op body) (λ r. h g f r name body)
      by false = refl

  none_decided : (name : Text) (q : Ask) → IfSome (operation_of q) ChangesNothing → (decide g f name q).change ≡ None
  none_decided name q h = by (is_repo_name name)
    where
      by : (b : Bool) → (cond b (granted g f name q.form (operation_of q) q.body) (refuses InvalidName)).change ≡ None
      by true = none_granted name q.form (operation_of q) q.body h
      by false = refl

  none_served : (form : Form) (q : Ask) → IfSome (operation_of q) ChangesNothing → (served_on g f form q).change ≡ None
  none_served no_form q h = refl
  none_served base q h = at_base_none q.verb
  none_served (blob name digest) q h = none_decided name q h
  none_served (uploads name) q h = none_decided name q h
  none_served (session name reference) q h = none_decided name q h
  none_served (manifest name reference) q h = none_decided name q h
  none_served (tags name) q h = none_decided name q h
  none_served (referrers name digest) q h = none_decided name q h

  -- a reading does nothing but read
  pub reading_changes : (q : Ask) → is_reading q.verb ≡ true → (decision g f q).change ≡ None
  reading_changes q h = by (is_known g)
    where
      by : (b : Bool) → (cond b (served g f q) (unnamed q)).change ≡ None
      by true = none_served q.form q (reading_operation q.form q.verb q.keys q.content_type q.content_range h)
      by false = refl

  reads_never : (name : Text) (op : Operation) (body : Text) → ChangesNothing op → OnSome (in_repo (f name) (λ r. operate g f r name op body)).change (MayPush g name)
  reads_never name op body h = never _ (in_repo (f name) (λ r. operate g f r name op body)).change (in_repo_none (f name) (λ r. operate g f r name op body) (λ r. h g f r name body))

  pushed : (name : Text) (op : Operation) (body : Text) → MayPush g name → OnSome (in_repo (f name) (λ r. operate g f r name op body)).change (MayPush g name)
  pushed name op body h = always _ (in_repo (f name) (λ r. operate g f r name op body)).change h

  operation_changes : (name : Text) (op : Operation) (body : Text) → allows g name op ≡ true → OnSome (in_repo (f name) (λ r. operate g f r name op body)).change (MayPush g name)
  operation_changes name (reads_blob digest) body e = reads_never name (reads_blob digest) body (read_blob_reads digest)
  operation_changes name (sizes_blob digest) body e = reads_never name (sizes_blob digest) body (size_blob_reads digest)
  operation_changes name (deletes_blob digest) body e = pushed name (deletes_blob digest) body (deletes_pushes (get g name) e)
  operation_changes name (pushes_blob digest) body e = pushed name (pushes_blob digest) body e
  operation_changes name opens_session body e = pushed name opens_session body e
  operation_changes name (mounts_blob digest from_name) body e = pushed name (mounts_blob digest from_name) body e
  operation_changes name (reads_session reference) body e = pushed name (reads_session reference) body e
  operation_changes name (appends_chunk reference range) body e = pushed name (appends_chunk reference range) body e
  operation_changes name (closes_session reference digest range) body e = pushed name (closes_session reference digest range) body e
  operation_changes name (reads_manifest reference) body e = reads_never name (reads_manifest reference) body (manifest_reads reference)
  operation_changes name (sizes_manifest reference) body e = reads_never name (sizes_manifest reference) body (manifest_size_reads reference)
  operation_changes name (deletes_manifest reference) body e = pushed name (deletes_manifest reference) body (deletes_pushes (get g name) e)
  operation_changes name (pushes_manifest reference content_type) body e = pushed name (pushes_manifest reference content_type) body e
  operation_changes name (lists_tags n last) body e = reads_never name (lists_tags n last) body (tags_read n last)
  operation_changes name (lists_referrers digest artifact_type) body e = reads_never name (lists_referrers digest artifact_type) body (referrers_read digest artifact_type)
  operation_changes name (sizes_referrers digest artifact_type) body e = reads_never name (sizes_referrers digest artifact_type) body (referrers_size_reads digest artifact_type)

  granted_changes : (name : Text) (form : Form) (o : Option Operation) (body : Text) → OnSome (granted g f name form o body).change (MayPush g name)
  granted_changes name form None body = tt
  granted_changes name form (Some op) body = by (allows g name op) refl
    where
      by : (b : Bool) → allows g name op ≡ b → OnSome (cond b (in_repo (f name) (λ r. operate g f r name op body)) (refuses AccessDenied)).change (MayPush g name)
      by true e = operation_changes name op body e
      by false e = tt

  decide_changes : (name : Text) (q : Ask) → OnSome (decide g f name q).change (IfSome (valid_name name) (λ n. MayPush g n))
  decide_changes name q = by (is_repo_name name)
    where
      by : (b : Bool) → OnSome (cond b (granted g f name q.form (operation_of q) q.body) (refuses InvalidName)).change (IfSome (cond b (Some name) None) (λ n. MayPush g n))
      by true = granted_changes name q.form (operation_of q) q.body
      by false = tt

  served_changes : (form : Form) (q : Ask) → OnSome (served_on g f form q).change (IfSome (addressed form) (λ name. MayPush g name))
  served_changes no_form q = tt
  served_changes base q = never _ (at_base q.verb).change (at_base_none q.verb)
  served_changes (blob name digest) q = decide_changes name q
  served_changes (uploads name) q = decide_changes name q
  served_changes (session name reference) q = decide_changes name q
  served_changes (manifest name reference) q = decide_changes name q
  served_changes (tags name) q = decide_changes name q
  served_changes (referrers name digest) q = decide_changes name q

  -- a decision changes something where the token may push to the addressed name alone
  pub decision_changes : (q : Ask) (name : Text) → addressed q.form ≡ Some name → OnSome (decision g f q).change (MayPush g name)
  decision_changes q name e = subst (λ o. OnSome (decision g f q).change (IfSome o (λ n. MayPush g n))) e (by (is_known g))
    where
      by : (b : Bool) → OnSome (cond b (served g f q) (unnamed q)).change (IfSome (addressed q.form) (λ n. MayPush g n))
      by true = served_changes q.form q
      by false = tt
