-- HEAD is answered as GET, without the content.
use Rattle.std.proofs.Common.{◌≡◌, Bool, true, false, not, Option, None, Some, refl, ap, if◌then◌else◌}
use Rattle.std.specs.Prelude.{option_map, length}
use Rattle.oci_types.specs.Text.{Text}
use Rattle.oci_types.specs.Digest.{is_digest}
use Rattle.oci_types.specs.RepoName.{is_repo_name}
use Rattle.oci_types.specs.Token.{is_token}
use Rattle.registry_model.specs.declared.request.Verb.{Verb}
use Rattle.registry_model.specs.declared.request.Verb.TheVariants.{Get, Head}
use Rattle.registry_model.specs.World.{World, Grants, Repo, repo_at, is_known}
use Rattle.registry_model.specs.declared.request.Resource.{Resource}
use Rattle.registry_model.specs.declared.request.Resource.TheVariants as resource
use Rattle.registry_model.specs.Answer.{sent, unsent}
use Rattle.registry_model.specs.Ask.{Ask}
use Rattle.registry_model.specs.Form.{Form, no_form, base, blob, uploads, session, manifest, tags, referrers}
use Rattle.registry_model.specs.Heads.{as_head, as_get, without_content}
use Rattle.registry_model.specs.Decision.{Decision, refuses, tells, in_repo}
use Rattle.registry_model.specs.Blobs.{found_blob, found_size, read_blob, size_blob, blob_named}
use Rattle.registry_model.specs.Manifests.{Found, found_manifest, found_manifest_size, read_manifest, size_manifest, manifest_named}
use Rattle.registry_model.specs.Referrers.{filter_in, referrers_body, referrers_reply, list_referrers, size_referrers}
use Rattle.registry_model.specs.Operation.{reads_blob, reads_manifest, lists_referrers, operation_of, addressed}
use Rattle.registry_model.specs.Judging.{allows, granted, decide, served, judged, decided_at, changed, reply_to, after_request, unnamed}
use Rattle.registry_model.specs.declared.refusal.Refusal.TheVariants.{AccessDenied, InvalidName, InvalidDigest}

record Alike (a b : Decision) : Type 0 where
  reply : without_content a.reply ≡ without_content b.reply
  change : a.change ≡ b.change

same : (a : Decision) → Alike a a
same a = record { reply = refl; change = refl }

if_alike : (b : Bool) (x y z : Decision) → Alike x y → Alike (if b then x else z) (if b then y else z)
if_alike true x y z h = h
if_alike false x y z h = same z

else_alike : (b : Bool) (x y z : Decision) → Alike x y → Alike (if b then z else x) (if b then z else y)
else_alike true x y z h = same z
else_alike false x y z h = h

in_repo_alike : (o : Option Repo) (f g : Repo → Decision) → ((r : Repo) → Alike (f r) (g r)) → Alike (in_repo o f) (in_repo o g)
in_repo_alike None f g h = same (in_repo None f)
in_repo_alike (Some r) f g h = h r

blob_alike : (r : Repo) (digest : Text) → Alike (size_blob r digest) (read_blob r digest)
blob_alike r digest = go (blob_named r digest)
  where
    go : (o : Option Text) → Alike (found_size digest (option_map length o)) (found_blob digest o)
    go None = record { reply = refl; change = refl }
    go (Some bytes) = record { reply = refl; change = refl }

manifest_alike : (r : Repo) (reference : Text) → Alike (size_manifest r reference) (read_manifest r reference)
manifest_alike r reference = go (manifest_named r reference)
  where
    go : (o : Option Found) → Alike (found_manifest_size o) (found_manifest o)
    go None = record { reply = refl; change = refl }
    go (Some m) = record { reply = refl; change = refl }

referrers_alike : (r : Repo) (digest : Text) (artifact_type : Option Text) → Alike (size_referrers r digest artifact_type) (list_referrers r digest artifact_type)
referrers_alike r digest artifact_type =
    let wanted = filter_in artifact_type in
    let body = referrers_body r digest wanted in
    else_alike (not (is_digest digest)) (tells (referrers_reply wanted (unsent (length body)))) (tells (referrers_reply wanted (sent body))) (refuses InvalidDigest)
    (record { reply = refl; change = refl })

module _ (grants : Grants) (repos : Text → Option Repo) (q : Ask) where
  abbrev asked : Verb → Form → Ask
  asked verb form = record q { verb = verb; form = form }

  alike_decide : (name : Text) (form : Form) → Alike (granted grants repos name form (operation_of (asked Head form)) q.body) (granted grants repos name form (operation_of (asked Get form)) q.body)
      → Alike (decide grants repos name (asked Head form)) (decide grants repos name (asked Get form))
  alike_decide name form h = if_alike (is_repo_name name) _ _ (refuses InvalidName) h

  served_alike : (form : Form) → Alike (served grants repos (asked Head form)) (served grants repos (asked Get form))
  served_alike no_form = same _
  served_alike base = same _
  served_alike (blob name digest) =
      alike_decide name (blob name digest)
      (if_alike (allows grants name (reads_blob digest)) _ _ (refuses AccessDenied) (in_repo_alike (repos name) _ _ (λ r. blob_alike r digest)))
  served_alike (uploads name) = same _
  served_alike (session name reference) = same _
  served_alike (manifest name reference) =
      alike_decide name (manifest name reference)
      (if_alike (allows grants name (reads_manifest reference)) _ _ (refuses AccessDenied) (in_repo_alike (repos name) _ _ (λ r. manifest_alike r reference)))
  served_alike (tags name) = same _
  served_alike (referrers name digest) =
      alike_decide name (referrers name digest)
      (if_alike (allows grants name (lists_referrers digest q.keys.artifact_type)) _ _ (refuses AccessDenied)
      (in_repo_alike (repos name) _ _ (λ r. referrers_alike r digest q.keys.artifact_type)))

judged_alike : (w : World) (token : Option Text) (q : Ask) → Alike (judged w token (as_head q)) (judged w token (as_get q))
judged_alike w None q = same _
judged_alike w (Some token) q =
    if_alike (is_token token) _ _ (unnamed q)
    (if_alike (is_known (w.grants token)) _ _ (unnamed q)
    (served_alike (w.grants token) (repo_at w) q q.form))

decided_alike : (r : Resource) (q : Ask) (a b : Decision) → Alike a b → Alike (decided_at r (as_head q) a) (decided_at r (as_get q) b)
decided_alike resource.Registry q a b h = h
decided_alike resource.Tokens q a b h = same _
decided_alike resource.Health q a b h = same _

pub reply_alike : (w : World) (q : Ask) → without_content (reply_to w (as_head q)) ≡ without_content (reply_to w (as_get q))
reply_alike w q = (decided_alike q.resource q _ _ (judged_alike w q.token q)).reply

pub world_alike : (w : World) (q : Ask) → after_request w (as_head q) ≡ after_request w (as_get q)
world_alike w q = ap (changed w (addressed q.form)) (decided_alike q.resource q _ _ (judged_alike w q.token q)).change
