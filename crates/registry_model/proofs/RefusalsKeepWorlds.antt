-- What is answered with a refusal changes nothing.
use Rattle.std.proofs.Common.{◌≡◌, ◌∙◌, ℕ, ◌+◌, ◌≤◌, ◌++◌, length, Bool, true, false, cond, not, ◌||◌, nat_lt, Option, Some, None, Result, Ok, Err, refl, ap, arith}
use Rattle.std.specs.Prelude.{is_some, option_map}
use Rattle.std.specs.FinMap.{get}
use Rattle.oci_types.specs.Text.{Text}
use Rattle.oci_types.specs.Digest.{is_digest, is_verified, matches}
use Rattle.oci_types.specs.Tag.{is_tag}
use Rattle.oci_types.specs.RepoName.{is_repo_name}
use Rattle.oci_types.specs.Token.{is_token}
use Rattle.oci_types.specs.Reference.{is_reference}
use Rattle.oci_types.specs.declared.manifest_fault.ManifestFault.{ManifestFault}
use Rattle.oci_types.specs.Manifest.{ManifestShown, manifest_in}
use Rattle.registry_model.specs.declared.range.RangeVerdict.{RangeVerdict}
use Rattle.registry_model.specs.declared.range.RangeVerdict.TheVariants.{Fits, Malformed, OutOfOrder, Unequal}
use Rattle.registry_model.specs.declared.request.Verb.{Verb}
use Rattle.registry_model.specs.declared.request.Verb.TheVariants as verb
use Rattle.registry_model.specs.declared.request.Resource.{Resource}
use Rattle.registry_model.specs.declared.request.Resource.TheVariants as resource
use Rattle.registry_model.specs.declared.admin.AdminCommand.{AdminCommand}
use Rattle.registry_model.specs.declared.admin.AdminFault.{AdminFault}
use Rattle.registry_model.specs.World.{Repo, Grants, World, repo_at, is_known}
use Rattle.registry_model.specs.Limits.{largest_blob, largest_manifest}
use Rattle.registry_model.specs.Usage.{goes_over}
use Rattle.registry_model.specs.Answer.{Answer, code_of}
use Rattle.registry_model.specs.Form.{Form, no_form, base, blob, uploads, session, manifest, tags, referrers}
use Rattle.registry_model.specs.Login.{login_answer, health_answer}
use Rattle.registry_model.specs.Ask.{Ask}
use Rattle.registry_model.specs.Decision.{Decision, makes, in_repo, within_quota}
use Rattle.registry_model.specs.Range.{range_verdict}
use Rattle.registry_model.specs.Blobs as blobs
use Rattle.registry_model.specs.Sessions as sessions
use Rattle.registry_model.specs.Sessions.{Session, session_named, is_full, range_checked, last_range_verdict}
use Rattle.registry_model.specs.Mount.{source, mounted}
use Rattle.registry_model.specs.Manifests as manifests
use Rattle.registry_model.specs.TagPage as page
use Rattle.registry_model.specs.Operation.{Operation, reads_blob, sizes_blob, deletes_blob, pushes_blob, opens_session, mounts_blob, reads_session, appends_chunk, closes_session, reads_manifest, sizes_manifest, deletes_manifest, pushes_manifest, lists_tags, lists_referrers, sizes_referrers, operation_of, addressed}
use Rattle.registry_model.specs.Judging.{operate, allows, granted, decide, at_base, served_on, judged, read_alone, decided_at, changed, reply_to, after_request}
use Rattle.registry_model.specs.Command.{refusal_of, carried_out, after_command}
use Rattle.registry_model.proofs.ResourceLaws.{reads_none, unchanged}

-- an outcome with a refusal's status changes nothing
abbrev IsIdle : Decision → Type 0
IsIdle o = 400 ≤ code_of o.reply.status → o.change ≡ None

either : (b : Bool) (x y : Decision) → IsIdle x → IsIdle y → IsIdle (cond b x y)
either true x y f g = f
either false x y f g = g

idle_within : (old new : Repo) (a : Answer) → (400 ≤ code_of a.status → ⊥) → IsIdle (within_quota old new a)
idle_within old new a h = either (goes_over old new) _ (makes a new) (λ _. refl) (λ bad. absurd (h bad))

idle_found_blob : (digest : Text) (o : Option Text) → IsIdle (blobs.found_blob digest o)
idle_found_blob digest None = λ _. refl
idle_found_blob digest (Some bytes) = λ _. refl

idle_found_size : (digest : Text) (o : Option ℕ) → IsIdle (blobs.found_size digest o)
idle_found_size digest None = λ _. refl
idle_found_size digest (Some size) = λ _. refl

idle_open : (r : Repo) (name : Text) → IsIdle (sessions.open_session r name)
idle_open r name = either (is_full r) _ _ (λ _. refl) (λ bad. absurd (omega (arith, bad)))

idle_show : (name : Text) (o : Option Session) → IsIdle (sessions.show_session name o)
idle_show name None = λ _. refl
idle_show name (Some x) = λ _. refl

idle_ranged : (v : RangeVerdict) (name : Text) (number size : ℕ) (next : Decision) → IsIdle next → IsIdle (range_checked v name number size next)
idle_ranged Fits name number size next h = h
idle_ranged Malformed name number size next h = λ _. refl
idle_ranged OutOfOrder name number size next h = λ _. refl
idle_ranged Unequal name number size next h = λ _. refl

idle_append : (r : Repo) (name : Text) (range : Option Text) (body : Text) (o : Option Session) → IsIdle (sessions.append_to r name range body o)
idle_append r name range body None = λ _. refl
idle_append r name range body (Some x) =
    idle_ranged (range_verdict range (length x.bytes) (length body)) name x.number (length x.bytes) _
    (either (nat_lt largest_blob (length x.bytes + length body)) _ _ (λ _. refl) (idle_within r _ _ (λ bad. omega (arith, bad))))

idle_close : (r : Repo) (name : Text) (digest range : Option Text) (body : Text) (o : Option Session) → IsIdle (sessions.close_to r name digest range body o)
idle_close r name digest range body None = λ _. refl
idle_close r name None range body (Some x) = λ _. refl
idle_close r name (Some digest) range body (Some x) =
    either (not (blobs.can_verify digest)) _ _ (λ _. refl)
    (idle_ranged (last_range_verdict range (length x.bytes) body) name x.number (length x.bytes) _
    (either (nat_lt largest_blob (length x.bytes + length body)) _ _ (λ _. refl)
    (either (not (matches digest (x.bytes ++ body))) _ _ (λ _. refl) (idle_within r _ _ (λ bad. omega (arith, bad))))))

idle_mounted : (r : Repo) (name digest : Text) (o : Option Text) → IsIdle (mounted r name digest o)
idle_mounted r name digest None = idle_open r name
idle_mounted r name digest (Some bytes) = idle_within r _ _ (λ bad. omega (arith, bad))

idle_found_manifest : (o : Option manifests.Found) → IsIdle (manifests.found_manifest o)
idle_found_manifest None = λ _. refl
idle_found_manifest (Some m) = λ _. refl

idle_found_manifest_size : (o : Option manifests.Found) → IsIdle (manifests.found_manifest_size o)
idle_found_manifest_size None = λ _. refl
idle_found_manifest_size (Some m) = λ _. refl

idle_push_read : (r : Repo) (name reference : Text) (content_type : Option Text) (body : Text) (o : Result ManifestShown ManifestFault)
    → IsIdle (manifests.push_read r name reference content_type body o)
idle_push_read r name reference content_type body (Err e) = λ _. refl
idle_push_read r name reference content_type body (Ok m) =
    either (not (manifests.content_type_fits content_type m.kind)) _ _ (λ _. refl)
    (either (not (manifests.has_needs r m.needs)) _ _ (λ _. refl) (idle_within r _ _ (λ bad. omega (arith, bad))))

idle_page : (r : Repo) (name : Text) (last : Option Text) (n : Option (Option ℕ)) → IsIdle (page.list_page r name last n)
idle_page r name last None = λ _. refl
idle_page r name last (Some n) = λ _. refl

idle_operation : (grants : Grants) (repos : Text → Option Repo) (r : Repo) (name : Text) (op : Operation) (body : Text) → IsIdle (operate grants repos r name op body)
idle_operation grants repos r name (reads_blob digest) body = idle_found_blob digest (blobs.blob_named r digest)
idle_operation grants repos r name (sizes_blob digest) body = idle_found_size digest (option_map length (blobs.blob_named r digest))
idle_operation grants repos r name (deletes_blob digest) body = either (is_some (blobs.blob_named r digest)) _ _ (λ bad. absurd (omega (arith, bad))) (λ _. refl)
idle_operation grants repos r name (pushes_blob digest) body =
    either (not (blobs.can_verify digest)) _ _ (λ _. refl)
    (either (nat_lt largest_blob (length body)) _ _ (λ _. refl)
    (either (not (matches digest body)) _ _ (λ _. refl) (idle_within r _ _ (λ bad. omega (arith, bad)))))
idle_operation grants repos r name opens_session body = idle_open r name
idle_operation grants repos r name (mounts_blob digest from_name) body =
    either (not (is_digest digest)) _ _ (λ _. refl) (idle_mounted r name digest (source grants repos from_name digest))
idle_operation grants repos r name (reads_session reference) body = idle_show name (session_named r reference)
idle_operation grants repos r name (appends_chunk reference range) body = idle_append r name range body (session_named r reference)
idle_operation grants repos r name (closes_session reference digest range) body = idle_close r name digest range body (session_named r reference)
idle_operation grants repos r name (reads_manifest reference) body = idle_found_manifest (manifests.manifest_named r reference)
idle_operation grants repos r name (sizes_manifest reference) body = idle_found_manifest_size (manifests.manifest_named r reference)
idle_operation grants repos r name (deletes_manifest reference) body =
    either (is_tag reference) _ _
    (either (is_some (get r.tags reference)) _ _ (λ bad. absurd (omega (arith, bad))) (λ _. refl))
    (either (is_digest reference) _ _ (either (is_some (get r.manifests reference)) _ _ (λ bad. absurd (omega (arith, bad))) (λ _. refl)) (λ _. refl))
idle_operation grants repos r name (pushes_manifest reference content_type) body =
    either (not (is_reference reference)) _ _ (λ _. refl)
    (either (nat_lt largest_manifest (length body)) _ _ (λ _. refl)
    (either (not (is_tag reference || is_verified reference)) _ _ (λ _. refl)
    (either (not (is_tag reference || matches reference body)) _ _ (λ _. refl)
    (idle_push_read r name reference content_type body (manifest_in body)))))
idle_operation grants repos r name (lists_tags n last) body = idle_page r name last (page.size_in n)
idle_operation grants repos r name (lists_referrers digest artifact_type) body = either (not (is_digest digest)) _ _ (λ _. refl) (λ _. refl)
idle_operation grants repos r name (sizes_referrers digest artifact_type) body = either (not (is_digest digest)) _ _ (λ _. refl) (λ _. refl)

-- ---- the order of refusals

module _ (grants : Grants) (repos : Text → Option Repo) where
  idle_in : (name : Text) (op : Operation) (body : Text) (o : Option Repo) → IsIdle (in_repo o (λ r. operate grants repos r name op body))
  idle_in name op body None = λ _. refl
  idle_in name op body (Some r) = idle_operation grants repos r name op body

  idle_granted : (name : Text) (form : Form) (op : Option Operation) (body : Text) → IsIdle (granted grants repos name form op body)
  idle_granted name form None body = λ _. refl
  idle_granted name form (Some op) body = either (allows grants name op) _ _ (idle_in name op body (repos name)) (λ _. refl)

  idle_decided : (name : Text) (q : Ask) → IsIdle (decide grants repos name q)
  idle_decided name q = either (is_repo_name name) _ _ (idle_granted name q.form (operation_of q) q.body) (λ _. refl)

  idle_base : (v : Verb) → IsIdle (at_base v)
  idle_base verb.Get = λ _. refl
  idle_base verb.Head = λ _. refl
  idle_base verb.Post = λ _. refl
  idle_base verb.Patch = λ _. refl
  idle_base verb.Put = λ _. refl
  idle_base verb.Delete = λ _. refl
  idle_base verb.Other = λ _. refl

  idle_served : (form : Form) (q : Ask) → IsIdle (served_on grants repos form q)
  idle_served no_form q = λ _. refl
  idle_served base q = idle_base q.verb
  idle_served (blob name digest) q = idle_decided name q
  idle_served (uploads name) q = idle_decided name q
  idle_served (session name reference) q = idle_decided name q
  idle_served (manifest name reference) q = idle_decided name q
  idle_served (tags name) q = idle_decided name q
  idle_served (referrers name digest) q = idle_decided name q

idle_judged : (w : World) (token : Option Text) (q : Ask) → IsIdle (judged w token q)
idle_judged w None q = λ _. refl
idle_judged w (Some token) q =
    either (is_token token) _ _ (either (is_known (w.grants token)) _ _ (idle_served (w.grants token) (repo_at w) q.form q) (λ _. refl)) (λ _. refl)

idle_alone : (v : Verb) (a : Answer) → IsIdle (read_alone v a)
idle_alone v a = λ _. reads_none v a

idle_at : (r : Resource) (q : Ask) (d : Decision) → IsIdle d → IsIdle (decided_at r q d)
idle_at resource.Registry q d h = h
idle_at resource.Tokens q d h = idle_alone q.verb (login_answer q.basic)
idle_at resource.Health q d h = idle_alone q.verb health_answer

pub same_world : (w : World) (q : Ask) → 400 ≤ code_of (reply_to w q).status → after_request w q ≡ w
same_world w q h =
    ap (changed w (addressed q.form)) (idle_at q.resource q (judged w q.token q) (idle_judged w q.token q) h) ∙ unchanged w (addressed q.form)

-- ---- commands

pub same_after_refusal : (w : World) (a : AdminCommand) (e : AdminFault) → refusal_of w a ≡ Some e → after_command w a ≡ w
same_after_refusal w a e h = ap (λ o. elim o as (λ _. World) [ None ↦ carried_out w a | Some x ↦ w ]) h
