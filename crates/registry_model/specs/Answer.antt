-- A reply, as its reader sees it.
use Rattle.std.specs.Prelude.{ℕ, [], Option, Some, None, codes, String, string_bytes, option_map}
use Rattle.std.specs.Borrow.{Bor}
use Rattle.std.specs.declared.alloc.Global.{Global}
use Rattle.oci_types.specs.Text.{Text}
use Rattle.registry_model.specs.declared.refusal.Refusal.{Refusal}
use Rattle.registry_model.specs.declared.refusal.Refusal.TheVariants.{TokenRequired}
use Rattle.registry_model.specs.declared.reply.Status.{Status}
use Rattle.registry_model.specs.declared.reply.Status.TheVariants as status
use Rattle.registry_model.specs.declared.reply.Body.{Body}
use Rattle.registry_model.specs.declared.reply.Body.TheVariants.{Constant, Owned, Shared, Unsent}
use Rattle.registry_model.specs.declared.reply.Challenge.{Challenge}
use Rattle.registry_model.specs.declared.reply.Challenge.TheVariants as challenge
use Rattle.registry_model.specs.declared.reply.Reply.{Reply}
use Rattle.registry_model.specs.Refusals.{status_of, error_body, code_word, message_of}

-- the body's bytes, or, in a reply to HEAD, how many they would be
pub data Content : Type 0 where
  sent : Text → Content
  unsent : ℕ → Content

pub record Answer : Type 0 where
  pub status : Status
  pub location : Option Text
  pub range : Option Text
  pub digest : Option Text
  pub subject : Option Text
  pub filters : Option Text
  pub link : Option Text
  pub allow : Option Text
  pub challenge : Option Text
  pub content_type : Option Text
  pub caching : Option Text
  pub body : Content

-- the numbers of the statuses (RFC 9110, section 15; RFC 6585, section 4)
abbrev pub code_of : Status → ℕ
code_of status.OK = 200
code_of status.Created = 201
code_of status.Accepted = 202
code_of status.NoContent = 204
code_of status.BadRequest = 400
code_of status.Unauthorized = 401
code_of status.Forbidden = 403
code_of status.NotFound = 404
code_of status.MethodNotAllowed = 405
code_of status.PayloadTooLarge = 413
code_of status.RangeNotSatisfiable = 416
code_of status.TooManyRequests = 429
code_of status.InternalServerError = 500
code_of status.ServiceUnavailable = 503

-- no field and an empty body
abbrev pub bare_answer : Status → Answer
bare_answer s = record {
  status = s;
  location = None;
  range = None;
  digest = None;
  subject = None;
  filters = None;
  link = None;
  allow = None;
  challenge = None;
  content_type = None;
  caching = None;
  body = sent [];
}

-- the challenge of a reply that asks for a token (RFC 6750, section 3); the realm is the profile's
abbrev pub challenge_of : Refusal → Option Text
challenge_of TokenRequired = Some (codes "Bearer realm=\"registry\"")
challenge_of _ = None

-- the reply of a refusal that needs no further field
abbrev pub refused : Refusal → Answer
refused e = record (bare_answer (status_of e)) {
  challenge = challenge_of e;
  content_type = Some (codes "application/json");
  body = sent (error_body (code_word e) (message_of e));
}

-- memory is wanting (profile)
abbrev pub busy_answer : Answer
busy_answer = bare_answer status.ServiceUnavailable

-- the storage failed (profile)
abbrev pub failed_answer : Answer
failed_answer = bare_answer status.InternalServerError

-- ---- what a `Reply` shows

abbrev pub content_of : Body → Content
content_of (Constant text) = sent text.now
content_of (Owned bytes) = sent bytes.items
content_of (Shared bytes) = sent bytes.value.items
content_of (Unsent n) = unsent n

abbrev pub owned : Option (String Global) → Option Text
owned o = option_map string_bytes o

abbrev pub constant : Option (Bor Text) → Option Text
constant o = option_map (λ t. t.now) o

abbrev pub challenge_text : Challenge → Text
challenge_text (challenge.Constant text) = text.now
challenge_text (challenge.Made text) = string_bytes text

abbrev pub answer_of : Reply → Answer
answer_of r = record {
  status = r.status;
  location = owned r.location;
  range = owned r.range;
  digest = r.digest;
  subject = r.subject;
  filters = constant r.filters;
  link = owned r.link;
  allow = constant r.allow;
  challenge = option_map challenge_text r.challenge;
  content_type = constant r.content_type;
  caching = constant r.caching;
  body = content_of r.body;
}
