-- What a request asks of the repository of its path (OCI Distribution Specification 1.1, Endpoints; the
-- levels are the profile's).
use Rattle.std.specs.Prelude.{ℕ, Option, Some, None, codes, if◌then◌else◌}
use Rattle.oci_types.specs.Text.{Text}
use Rattle.oci_types.specs.RepoName.{is_repo_name}
use Rattle.registry_model.specs.declared.level.Level.{Level}
use Rattle.registry_model.specs.declared.level.Level.TheVariants.{Pull, Push, Delete}
use Rattle.registry_model.specs.declared.request.Verb.{Verb}
use Rattle.registry_model.specs.declared.request.Verb.TheVariants as verb
use Rattle.registry_model.specs.Form.{Form, no_form, base, blob, uploads, session, manifest, tags, referrers}
use Rattle.registry_model.specs.Ask.{Keys, Ask}

pub data Operation : Type 0 where
  -- by a digest
  reads_blob sizes_blob deletes_blob pushes_blob : Text → Operation
  opens_session : Operation
  -- a digest, and the repository that it is to come from
  mounts_blob : Text → Option Text → Operation
  -- by a session number
  reads_session : Text → Operation
  -- with the range
  appends_chunk : Text → Option Text → Operation
  -- with the digest and the range
  closes_session : Text → Option Text → Option Text → Operation
  -- by a reference
  reads_manifest sizes_manifest deletes_manifest : Text → Operation
  -- with the content type
  pushes_manifest : Text → Option Text → Operation
  -- the page's size, and what it begins behind
  lists_tags : Option Text → Option Text → Operation
  -- a subject, and an artifact type
  lists_referrers sizes_referrers : Text → Option Text → Operation

-- ---- by the path's form and the method, compared byte for byte

abbrev pub on_blob : Verb → Text → Option Operation
on_blob verb.Get digest = Some (reads_blob digest)
on_blob verb.Head digest = Some (sizes_blob digest)
on_blob verb.Delete digest = Some (deletes_blob digest)
on_blob _ digest = None

-- a POST mounts, pushes a whole blob, or opens a session
abbrev pub post_by : Option Text → Option Text → Option Text → Operation
post_by (Some mount) source digest = mounts_blob mount source
post_by None source (Some digest) = pushes_blob digest
post_by None source None = opens_session

abbrev pub on_uploads : Verb → Keys → Option Operation
on_uploads verb.Post keys = Some (post_by keys.mount keys.«from» keys.digest)
on_uploads _ keys = None

abbrev pub on_session : Verb → Text → Option Text → Option Text → Option Operation
on_session verb.Get reference digest range = Some (reads_session reference)
on_session verb.Head reference digest range = Some (reads_session reference)
on_session verb.Patch reference digest range = Some (appends_chunk reference range)
on_session verb.Put reference digest range = Some (closes_session reference digest range)
on_session _ reference digest range = None

abbrev pub on_manifest : Verb → Text → Option Text → Option Operation
on_manifest verb.Get reference content_type = Some (reads_manifest reference)
on_manifest verb.Head reference content_type = Some (sizes_manifest reference)
on_manifest verb.Put reference content_type = Some (pushes_manifest reference content_type)
on_manifest verb.Delete reference content_type = Some (deletes_manifest reference)
on_manifest _ reference content_type = None

abbrev pub on_tags : Verb → Keys → Option Operation
on_tags verb.Get keys = Some (lists_tags keys.n keys.last)
on_tags verb.Head keys = Some (lists_tags keys.n keys.last)
on_tags _ keys = None

abbrev pub on_referrers : Verb → Text → Keys → Option Operation
on_referrers verb.Get digest keys = Some (lists_referrers digest keys.artifact_type)
on_referrers verb.Head digest keys = Some (sizes_referrers digest keys.artifact_type)
on_referrers _ digest keys = None

-- None where the form has not the method
abbrev pub operation_on : Form → Verb → Keys → Option Text → Option Text → Option Operation
operation_on no_form verb keys content_type range = None
operation_on base verb keys content_type range = None
operation_on (blob name digest) verb keys content_type range = on_blob verb digest
operation_on (uploads name) verb keys content_type range = on_uploads verb keys
operation_on (session name reference) verb keys content_type range =
    on_session verb reference keys.digest range
operation_on (manifest name reference) verb keys content_type range = on_manifest verb reference content_type
operation_on (tags name) verb keys content_type range = on_tags verb keys
operation_on (referrers name digest) verb keys content_type range = on_referrers verb digest keys

abbrev pub operation_of : Ask → Option Operation
operation_of q = operation_on q.form q.verb q.keys q.content_type q.content_range

-- the methods of a form (RFC 9110, section 10.2.1)
abbrev pub allow_of : Form → Text
allow_of no_form = codes ""
allow_of base = codes "GET, HEAD"
allow_of (blob name digest) = codes "DELETE, GET, HEAD"
allow_of (uploads name) = codes "POST"
allow_of (session name reference) = codes "GET, HEAD, PATCH, PUT"
allow_of (manifest name reference) = codes "DELETE, GET, HEAD, PUT"
allow_of (tags name) = codes "GET, HEAD"
allow_of (referrers name digest) = codes "GET, HEAD"

-- the text, where it is a repository's name
abbrev pub valid_name : Text → Option Text
valid_name t = if is_repo_name t then Some t else None

-- the name that a path addresses
abbrev pub addressed : Form → Option Text
addressed no_form = None
addressed base = None
addressed (blob name digest) = valid_name name
addressed (uploads name) = valid_name name
addressed (session name reference) = valid_name name
addressed (manifest name reference) = valid_name name
addressed (tags name) = valid_name name
addressed (referrers name digest) = valid_name name

-- ---- levels

-- the number of a level; each allows what the lower ones do
abbrev pub rank : Level → ℕ
rank Pull = 1
rank Push = 2
rank Delete = 3

abbrev pub rank_of : Option Level → ℕ
rank_of None = 0
rank_of (Some level) = rank level

abbrev pub needed_level : Operation → Level
needed_level (reads_blob digest) = Pull
needed_level (sizes_blob digest) = Pull
needed_level (deletes_blob digest) = Delete
needed_level (pushes_blob digest) = Push
needed_level opens_session = Push
needed_level (mounts_blob digest source) = Push
needed_level (reads_session reference) = Push
needed_level (appends_chunk reference range) = Push
needed_level (closes_session reference digest range) = Push
needed_level (reads_manifest reference) = Pull
needed_level (sizes_manifest reference) = Pull
needed_level (deletes_manifest reference) = Delete
needed_level (pushes_manifest reference content_type) = Push
needed_level (lists_tags n last) = Pull
needed_level (lists_referrers digest artifact_type) = Pull
needed_level (sizes_referrers digest artifact_type) = Pull
