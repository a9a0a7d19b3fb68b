-- The setting of the worked answers: what t1 asks of the repository team/app, on which it has the highest
-- level.
use Rattle.std.specs.Prelude.{◌≡◌, ℕ, [], ◌∷◌, Option, Some, None, codes}
use Rattle.std.specs.FinMap.{insert, empty, from_entries}
use Rattle.oci_types.specs.Text.{Text}
use Rattle.registry_model.specs.declared.level.Level.TheVariants.{Delete}
use Rattle.registry_model.specs.declared.reply.Status.{Status}
use Rattle.registry_model.specs.declared.reply.Status.TheVariants.{Created}
use Rattle.registry_model.specs.declared.request.Verb.{Verb}
use Rattle.registry_model.specs.declared.request.Verb.TheVariants.{Get, Post, Patch, Put}
use Rattle.registry_model.specs.declared.request.Resource.TheVariants.{Registry}
use Rattle.registry_model.specs.World.{Repo, World, repo_at, level_at, new_repo}
use Rattle.registry_model.specs.Answer.{Answer, bare_answer, sent}
use Rattle.registry_model.specs.Form.{Form, uploads, session, tags}
use Rattle.registry_model.specs.Login.{profile}
use Rattle.registry_model.specs.Ask.{Keys, Ask}

abbrev pub app : Text
app = codes "team/app"

abbrev pub t1 : Text
t1 = codes "t1"

-- t1 has level Delete on team/app, which is this repository
pub record Setting (w : World) (r : Repo) : Type 0 where
  pub level : level_at w t1 app ≡ Some Delete
  pub repo : repo_at w app ≡ Some r

-- by `printf abc | sha256sum` and `printf hello | sha256sum`
abbrev pub abc_digest : Text
abc_digest = codes "sha256:ba7816bf8f01cfea414140de5dae2223b00361a396177a9cb410ff61f20015ad"

abbrev pub hello_digest : Text
hello_digest = codes "sha256:2cf24dba5fb0a30e26e83b2ac5b9e29e1b161e5c1fa7425e73043362938b9824"

-- by `printf abc | md5sum`
abbrev pub md5_digest : Text
md5_digest = codes "md5:900150983cd24fb0d6963f7d28e17f72"

-- ---- repositories

-- with the blob `abc` alone
abbrev pub holding_abc : ℕ → Repo
holding_abc quota = record (new_repo quota) { blobs = insert empty abc_digest (codes "abc") }

-- with session 1 alone
abbrev pub in_session : Text → Repo
in_session bytes = record (new_repo 1000) { sessions = insert empty 1 bytes; last = 1 }

-- with four tags on one digest
abbrev pub four_tags : Repo
four_tags = record (new_repo 1000) {
  tags = from_entries ((codes "v1", abc_digest) ∷ (codes "b", abc_digest) ∷ (codes "B", abc_digest)
      ∷ (codes "a", abc_digest) ∷ []);
}

-- with one manifest that has two tags, whatever its bytes
abbrev pub two_tags : Text → Repo
two_tags bytes = record (new_repo 1000) {
  manifests = insert empty abc_digest bytes;
  tags = from_entries ((codes "v1", abc_digest) ∷ (codes "v2", abc_digest) ∷ []);
}

-- ---- requests of t1

abbrev pub no_keys : Keys
no_keys = record { digest = None; mount = None; «from» = None; n = None; last = None; artifact_type = None }

-- with neither `Content-Type` nor `Content-Range`
abbrev pub asks : Verb → Form → Keys → Text → Ask
asks verb form keys body = record {
  settings = profile;
  resource = Registry;
  host = None;
  basic = None;
  token = Some t1;
  verb = verb;
  form = form;
  keys = keys;
  content_type = None;
  content_range = None;
  body = body;
}

abbrev pub pushes : Text → Text → Ask
pushes digest body = asks Post (uploads app) (record no_keys { digest = Some digest }) body

abbrev pub mounts : Text → Text → Ask
mounts digest source =
    asks Post (uploads app) (record no_keys { mount = Some digest; «from» = Some source }) []

-- a chunk for session 1, with the range
abbrev pub patches : Text → Text → Ask
patches range body = record (asks Patch (session app (codes "1")) no_keys body) { content_range = Some range }

-- session 1 is to close, with no further bytes
abbrev pub closes : Option Text → Ask
closes digest = asks Put (session app (codes "1")) (record no_keys { digest = digest }) []

abbrev pub lists_tags : Option Text → Option Text → Ask
lists_tags n last = asks Get (tags app) (record no_keys { n = n; last = last }) []

-- ---- replies

-- with a body of JSON
abbrev pub json : Status → Text → Answer
json status text = record (bare_answer status) {
  content_type = Some (codes "application/json");
  body = sent text;
}

-- the blob is at the location
abbrev pub created_at : Text → Text → Answer
created_at location digest = record (bare_answer Created) { location = Some location; digest = Some digest }

-- session 1 is open, with these first and last positions
abbrev pub session_1 : Status → Text → Answer
session_1 status range = record (bare_answer status) {
  location = Some (codes "/v2/team/app/blobs/uploads/1");
  range = Some range;
}

-- where the two blobs are, and where the page behind two tags begins
abbrev pub abc_location : Text
abc_location =
    codes "/v2/team/app/blobs/sha256:ba7816bf8f01cfea414140de5dae2223b00361a396177a9cb410ff61f20015ad"

abbrev pub hello_location : Text
hello_location =
    codes "/v2/team/app/blobs/sha256:2cf24dba5fb0a30e26e83b2ac5b9e29e1b161e5c1fa7425e73043362938b9824"

abbrev pub next_page : Text
next_page = codes "</v2/team/app/tags/list?n=2&last=a>; rel=\"next\""

-- the index of no referrer, and its media type
abbrev pub index_type : Text
index_type = codes "application/vnd.oci.image.index.v1+json"

abbrev pub no_referrers : Text
no_referrers =
    codes "{\"manifests\":[],\"mediaType\":\"application/vnd.oci.image.index.v1+json\",\"schemaVersion\":2}"

-- ---- the texts of refusals

abbrev pub token_required : Text
token_required = codes "{\"errors\":[{\"code\":\"UNAUTHORIZED\",\"message\":\"token required\"}]}"

abbrev pub blob_unknown : Text
blob_unknown = codes "{\"errors\":[{\"code\":\"BLOB_UNKNOWN\",\"message\":\"blob unknown\"}]}"

abbrev pub quota_exceeded : Text
quota_exceeded = codes "{\"errors\":[{\"code\":\"DENIED\",\"message\":\"quota exceeded\"}]}"

abbrev pub digest_does_not_match : Text
digest_does_not_match =
    codes "{\"errors\":[{\"code\":\"DIGEST_INVALID\",\"message\":\"digest does not match\"}]}"

abbrev pub invalid_digest : Text
invalid_digest = codes "{\"errors\":[{\"code\":\"DIGEST_INVALID\",\"message\":\"invalid digest\"}]}"

abbrev pub range_out_of_order : Text
range_out_of_order =
    codes "{\"errors\":[{\"code\":\"BLOB_UPLOAD_INVALID\",\"message\":\"range out of order\"}]}"

abbrev pub invalid_content_range : Text
invalid_content_range =
    codes "{\"errors\":[{\"code\":\"BLOB_UPLOAD_INVALID\",\"message\":\"invalid content range\"}]}"

abbrev pub range_does_not_match_body : Text
range_does_not_match_body =
    codes "{\"errors\":[{\"code\":\"SIZE_INVALID\",\"message\":\"range does not match body\"}]}"

abbrev pub too_many_uploads : Text
too_many_uploads = codes "{\"errors\":[{\"code\":\"TOOMANYREQUESTS\",\"message\":\"too many uploads\"}]}"

abbrev pub upload_unknown : Text
upload_unknown = codes "{\"errors\":[{\"code\":\"BLOB_UPLOAD_UNKNOWN\",\"message\":\"upload unknown\"}]}"

abbrev pub invalid_page_size : Text
invalid_page_size = codes "{\"errors\":[{\"code\":\"UNSUPPORTED\",\"message\":\"invalid page size\"}]}"

abbrev pub access_denied : Text
access_denied = codes "{\"errors\":[{\"code\":\"DENIED\",\"message\":\"access denied\"}]}"

abbrev pub invalid_repository_name : Text
invalid_repository_name =
    codes "{\"errors\":[{\"code\":\"NAME_INVALID\",\"message\":\"invalid repository name\"}]}"

abbrev pub no_such_endpoint : Text
no_such_endpoint = codes "{\"errors\":[{\"code\":\"UNSUPPORTED\",\"message\":\"no such endpoint\"}]}"

abbrev pub method_not_allowed : Text
method_not_allowed = codes "{\"errors\":[{\"code\":\"UNSUPPORTED\",\"message\":\"method not allowed\"}]}"

abbrev pub invalid_reference : Text
invalid_reference = codes "{\"errors\":[{\"code\":\"MANIFEST_INVALID\",\"message\":\"invalid reference\"}]}"

abbrev pub manifest_unknown : Text
manifest_unknown = codes "{\"errors\":[{\"code\":\"MANIFEST_UNKNOWN\",\"message\":\"manifest unknown\"}]}"
