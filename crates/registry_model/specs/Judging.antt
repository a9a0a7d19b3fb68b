-- What a request is answered: the order of refusals, and then the operation's own answer (OCI Distribution
-- Specification 1.1; the order and the levels are the profile's). One function of the token's grants and of
-- look-ups of repositories gives it, so that two worlds in which these agree give one answer.
use Rattle.std.specs.Prelude.{Bool, codes, Option, Some, None, nat_le, if◌then◌else◌}
use Rattle.std.specs.FinMap.{get}
use Rattle.oci_types.specs.Text.{Text}
use Rattle.oci_types.specs.RepoName.{is_repo_name}
use Rattle.oci_types.specs.Token.{is_token}
use Rattle.registry_model.specs.declared.refusal.Refusal.TheVariants.{NoEndpoint, InvalidName, MethodNotAllowed, AccessDenied}
use Rattle.registry_model.specs.declared.request.Resource.{Resource}
use Rattle.registry_model.specs.declared.request.Resource.TheVariants as resource
use Rattle.registry_model.specs.declared.request.Verb.{Verb}
use Rattle.registry_model.specs.declared.request.Verb.TheVariants.{Get, Head}
use Rattle.registry_model.specs.declared.reply.Status.TheVariants.{OK}
use Rattle.registry_model.specs.World.{Repo, Grants, World, repo_at, is_known, with_repo}
use Rattle.registry_model.specs.Answer.{Answer, bare_answer, refused, sent}
use Rattle.registry_model.specs.Form.{Form, no_form, base, blob, uploads, session, manifest, tags, referrers}
use Rattle.registry_model.specs.Login.{unnamed_answer, login_answer, health_answer}
use Rattle.registry_model.specs.Ask.{Ask}
use Rattle.registry_model.specs.Operation.{Operation, reads_blob, sizes_blob, deletes_blob, pushes_blob, opens_session, mounts_blob, reads_session, appends_chunk, closes_session, reads_manifest, sizes_manifest, deletes_manifest, pushes_manifest, lists_tags, lists_referrers, sizes_referrers, operation_of, allow_of, addressed, rank, rank_of, needed_level}
use Rattle.registry_model.specs.Decision.{Decision, refuses, tells, in_repo}
use Rattle.registry_model.specs.Blobs as blobs
use Rattle.registry_model.specs.Sessions as sessions
use Rattle.registry_model.specs.Mount.{mount_blob}
use Rattle.registry_model.specs.Manifests as manifests
use Rattle.registry_model.specs.TagPage as page
use Rattle.registry_model.specs.Referrers as subjects

-- ---- the operation, in a repository that is there

abbrev pub operate : Grants → (Text → Option Repo) → Repo → Text → Operation → Text → Decision
operate grants repos r name (reads_blob digest) body = blobs.read_blob r digest
operate grants repos r name (sizes_blob digest) body = blobs.size_blob r digest
operate grants repos r name (deletes_blob digest) body = blobs.delete_blob r digest
operate grants repos r name (pushes_blob digest) body = blobs.push_blob r name digest body
operate grants repos r name opens_session body = sessions.open_session r name
operate grants repos r name (mounts_blob digest source) body = mount_blob grants repos r name digest source
operate grants repos r name (reads_session reference) body = sessions.read_session r name reference
operate grants repos r name (appends_chunk reference range) body =
    sessions.append_chunk r name reference range body
operate grants repos r name (closes_session reference digest range) body =
    sessions.close_session r name reference digest range body
operate grants repos r name (reads_manifest reference) body = manifests.read_manifest r reference
operate grants repos r name (sizes_manifest reference) body = manifests.size_manifest r reference
operate grants repos r name (deletes_manifest reference) body = manifests.delete_manifest r reference
operate grants repos r name (pushes_manifest reference content_type) body =
    manifests.push_manifest r name reference content_type body
operate grants repos r name (lists_tags n last) body = page.list_tags r name n last
operate grants repos r name (lists_referrers digest artifact_type) body =
    subjects.list_referrers r digest artifact_type
operate grants repos r name (sizes_referrers digest artifact_type) body =
    subjects.size_referrers r digest artifact_type

-- ---- the order of refusals

-- the refusal that names the methods which the form has
abbrev pub not_allowed : Form → Decision
not_allowed form = tells (record (refused MethodNotAllowed) { allow = Some (allow_of form) })

abbrev pub allows : Grants → Text → Operation → Bool
allows grants name operation = nat_le (rank (needed_level operation)) (rank_of (get grants name))

abbrev pub granted : Grants → (Text → Option Repo) → Text → Form → Option Operation → Text → Decision
granted grants repos name form None body = not_allowed form
granted grants repos name form (Some operation) body =
    if allows grants name operation
    then in_repo (repos name) (λ r. operate grants repos r name operation body) else refuses AccessDenied

-- a request on the repository of a name
abbrev pub decide : Grants → (Text → Option Repo) → Text → Ask → Decision
decide grants repos name q =
    if is_repo_name name then granted grants repos name q.form (operation_of q) q.body
    else refuses InvalidName

-- whether the registry is there for the token (OCI Distribution Specification 1.1, Determining Support)
abbrev pub base_decision : Decision
base_decision =
    tells (record (bare_answer OK)
    { content_type = Some (codes "application/json"); body = sent (codes "{}") })

abbrev pub at_base : Verb → Decision
at_base Get = base_decision
at_base Head = base_decision
at_base _ = not_allowed base

-- by the path's form
abbrev pub served_on : Grants → (Text → Option Repo) → Form → Ask → Decision
served_on grants repos no_form q = refuses NoEndpoint
served_on grants repos base q = at_base q.verb
served_on grants repos (blob name digest) q = decide grants repos name q
served_on grants repos (uploads name) q = decide grants repos name q
served_on grants repos (session name reference) q = decide grants repos name q
served_on grants repos (manifest name reference) q = decide grants repos name q
served_on grants repos (tags name) q = decide grants repos name q
served_on grants repos (referrers name digest) q = decide grants repos name q

abbrev pub served : Grants → (Text → Option Repo) → Ask → Decision
served grants repos q = served_on grants repos q.form q

-- what a request without a known token is answered
abbrev pub unnamed : Ask → Decision
unnamed q = tells (unnamed_answer q.settings.login q.host)

-- what a token with these grants is answered, where the repositories are looked up so
abbrev pub decision : Grants → (Text → Option Repo) → Ask → Decision
decision grants repos q = if is_known grants then served grants repos q else unnamed q

-- a text that is no token counts as none
abbrev pub judged : World → Option Text → Ask → Decision
judged w None q = unnamed q
judged w (Some token) q =
    if is_token token then decision (w.grants token) (repo_at w) q else unnamed q

-- ---- what is answered beside the registry's endpoints

-- what is read by GET and HEAD alone
abbrev pub read_alone : Verb → Answer → Decision
read_alone Get a = tells a
read_alone Head a = tells a
read_alone _ a = not_allowed base

-- by what the path names; d is the registry's decision
abbrev pub decided_at : Resource → Ask → Decision → Decision
decided_at resource.Registry q d = d
decided_at resource.Tokens q d = read_alone q.verb (login_answer q.basic)
decided_at resource.Health q d = read_alone q.verb health_answer

abbrev pub decided : World → Ask → Decision
decided w q = decided_at q.resource q (judged w q.token q)

-- ---- the answer, and the world after it: only the path's repository may change

abbrev pub changed : World → Option Text → Option Repo → World
changed w name None = w
changed w None (Some r) = w
changed w (Some name) (Some r) = with_repo w name r

abbrev pub reply_to : World → Ask → Answer
reply_to w q = (decided w q).reply

abbrev pub after_request : World → Ask → World
after_request w q = changed w (addressed q.form) (decided w q).change
