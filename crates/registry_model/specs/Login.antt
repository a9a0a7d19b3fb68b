-- Where clients log in, and what tells that a service goes on: what is answered beside the registry's own
-- endpoints, where the settings have it so (RFC 6750, section 3; RFC 7617; the Distribution Specification's
-- token authentication).
use Rattle.std.specs.Prelude.{ℕ, ◌==◌, ◌&&◌, ◌||◌, Bool, ◌++◌, codes, length, nat_le, bytes_eq, false, is_some, Option, Some, None, Ok, Err, Result, if◌then◌else◌}
use Rattle.std.specs.List.{after_first, list_all}
use Rattle.std.specs.Str.{is_utf8}
use Rattle.base64.specs.GeneralPurpose.{decode_of}
use Rattle.base64.specs.Engines.{standard}
use Rattle.oci_types.specs.Text.{Text}
use Rattle.oci_types.specs.Byte.{is_alphanumeric}
use Rattle.oci_types.specs.Token.{is_token}
use Rattle.registry_model.specs.declared.settings.Scheme.{Scheme}
use Rattle.registry_model.specs.declared.settings.Scheme.TheVariants.{Http, Https}
use Rattle.registry_model.specs.declared.settings.Settings.{Settings}
use Rattle.registry_model.specs.declared.request.Resource.{Resource}
use Rattle.registry_model.specs.declared.request.Resource.TheVariants.{Registry, Tokens, Health}
use Rattle.registry_model.specs.declared.reply.Status.TheVariants.{OK}
use Rattle.registry_model.specs.declared.refusal.Refusal.TheVariants.{TokenRequired}
use Rattle.registry_model.specs.Answer.{Answer, bare_answer, refused, sent}

abbrev pub profile : Settings
profile = record { login = None; health = false }

-- what a path names, percent-decoded
abbrev pub resource_at : Settings → Text → Resource
resource_at s path =
    if is_some s.login && bytes_eq path (codes "/token") then Tokens
    else (if s.health && bytes_eq path (codes "/healthz") then Health else Registry)

-- ---- the challenge of a reply that asks for a token

abbrev pub scheme_text : Scheme → Text
scheme_text Http = codes "http"
scheme_text Https = codes "https"

-- `[A-Za-z0-9.:_[]-]`: a host and a port (RFC 9110, section 7.2), and nothing that ends a quoted text
abbrev pub is_host_byte : ℕ → Bool
is_host_byte b = is_alphanumeric b || b == 46 || b == 58 || b == 45 || b == 95 || b == 91 || b == 93

abbrev pub is_host : Text → Bool
is_host t = nat_le 1 (length t) && nat_le (length t) 255 && list_all is_host_byte t

-- where a token is to be had
abbrev pub challenge_at : Scheme → Text → Text
challenge_at scheme host =
    codes "Bearer realm=\"" ++ scheme_text scheme ++ codes "://" ++ host
    ++ codes "/token\",service=\"firkhen\""

-- the profile's, and where the request has no host that could be named
abbrev pub plain_challenge : Text
plain_challenge = codes "Bearer realm=\"registry\""

-- by where clients log in, and the request's host
abbrev pub challenge_by : Option Scheme → Option Text → Text
challenge_by None host = plain_challenge
challenge_by (Some scheme) None = plain_challenge
challenge_by (Some scheme) (Some host) = if is_host host then challenge_at scheme host else plain_challenge

-- the reply to a request without a known token
abbrev pub unnamed_answer : Option Scheme → Option Text → Answer
unnamed_answer login host = record (refused TokenRequired) { challenge = Some (challenge_by login host) }

-- ---- a name and a password are changed for a token

abbrev pub is_colon : ℕ → Bool
is_colon b = b == 58

abbrev pub text_of : Text → Option Text
text_of bytes = if is_utf8 bytes then Some bytes else None

-- a text that is no token counts as none
abbrev pub token_in : Option Text → Option Text
token_in None = None
token_in (Some text) = if is_token text then Some text else None

-- what stands behind the first colon, where it is a token; the name before it may be any, and empty
abbrev pub password_in : Text → Option Text
password_in bytes = token_in (text_of (after_first is_colon bytes))

abbrev pub password_if : {E : Type 0} → Result Text E → Option Text
password_if (Err e) = None
password_if (Ok bytes) = password_in bytes

-- of credentials in base64 (RFC 4648, section 4, with padding)
abbrev pub password_of : Option Text → Option Text
password_of None = None
password_of (Some coded) = password_if (decode_of standard coded)

abbrev pub token_body : Text → Text
token_body token =
    codes "{\"access_token\":\"" ++ token ++ codes "\",\"expires_in\":300,\"token\":\"" ++ token
    ++ codes "\"}"

-- (RFC 6749, section 5.1: it is not to be stored)
abbrev pub token_answer : Text → Answer
token_answer token = record (bare_answer OK) {
  content_type = Some (codes "application/json");
  caching = Some (codes "no-store");
  body = sent (token_body token);
}

-- a name and a password are asked for (RFC 7617, section 2)
abbrev pub login_refused : Answer
login_refused = record (refused TokenRequired) { challenge = Some (codes "Basic realm=\"firkhen\"") }

abbrev pub login_by : Option Text → Answer
login_by None = login_refused
login_by (Some token) = token_answer token

-- by the credentials alone: whether the token is known, only a request with it finds out
abbrev pub login_answer : Option Text → Answer
login_answer basic = login_by (password_of basic)

-- ---- the service goes on

abbrev pub health_answer : Answer
health_answer =
    record (bare_answer OK) { content_type = Some (codes "text/plain"); body = sent (codes "ok\n") }
