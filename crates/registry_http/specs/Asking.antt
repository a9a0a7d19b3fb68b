-- What a request asks for, by its head and its body.
use Rattle.std.specs.Prelude.{ℕ, ◌==◌, Bool, not, ◌&&◌, List, [], ◌∷◌, if◌then◌else◌, length, take, drop, Option, Some, None, codes, bytes_eq}
use Rattle.std.specs.List.{before_first, after_first, position_or_len}
use Rattle.std.specs.Str.{is_utf8, str_eq_ignore_ascii_case}
use Rattle.std.specs.Str.Lossy.{utf8_lossy}
use Rattle.percent_encoding.specs.Percent.{percent_decode}
use Rattle.form_urlencoded.specs.Form.{raw_pairs, decode}
use Rattle.oci_types.specs.Text.{Text}
use Rattle.httparse.specs.Grammar.{RequestHead}
use Rattle.registry_model.specs.declared.request.Verb.{Verb}
use Rattle.registry_model.specs.declared.request.Verb.TheVariants.{Get, Head, Post, Patch, Put, Delete, Other}
use Rattle.registry_model.specs.Form.{Form, no_form, form_at}
use Rattle.registry_model.specs.declared.request.Resource.{Resource}
use Rattle.registry_model.specs.declared.request.Resource.TheVariants.{Registry}
use Rattle.registry_model.specs.declared.settings.Settings.{Settings}
use Rattle.registry_model.specs.Login.{resource_at}
use Rattle.registry_model.specs.Ask.{Keys, Ask}
use Rattle.registry_http.specs.Fields.{NamedValue, fields_of, values, first}

-- ---- the method, byte for byte (RFC 9110, section 9.1)

abbrev pub verb_of : Text → Verb
verb_of method =
    if bytes_eq method (codes "GET") then Get
    else (if bytes_eq method (codes "HEAD") then Head
    else (if bytes_eq method (codes "POST") then Post
    else (if bytes_eq method (codes "PATCH") then Patch
    else (if bytes_eq method (codes "PUT") then Put
    else (if bytes_eq method (codes "DELETE") then Delete
    else Other)))))

-- ---- the target: a path, and a query behind the first '?' (RFC 9112, section 3.2.1)

abbrev pub is_question_mark : ℕ → Bool
is_question_mark b = b == 63

abbrev pub path_in : Text → Text
path_in target = before_first is_question_mark target

abbrev pub query_in : Text → Text
query_in target = after_first is_question_mark target

abbrev pub text_if_utf8 : Text → Option Text
text_if_utf8 bytes = if is_utf8 bytes then Some bytes else None

-- the path is percent-decoded once
abbrev pub path_text : Text → Option Text
path_text target = text_if_utf8 (percent_decode (path_in target))

-- a path that is not UTF-8 has no form
abbrev pub form_if : Option Text → Form
form_if None = no_form
form_if (Some path) = form_at path

-- a name or a value of the query, decoded
abbrev pub decoded : Text → Text
decoded bytes = utf8_lossy (decode bytes)

-- the value of the first pair of a key
abbrev pub value_among : Text → List (Text × Text) → Option Text
value_among key [] = None
value_among key (pair ∷ others) =
    if bytes_eq (decoded pair.0) key then Some (decoded pair.1) else value_among key others

abbrev pub value_at : Text → Text → Option Text
value_at key query = value_among key (raw_pairs query)

abbrev pub keys_in : Text → Keys
keys_in query = record {
  digest = value_at (codes "digest") query;
  mount = value_at (codes "mount") query;
  «from» = value_at (codes "from") query;
  n = value_at (codes "n") query;
  last = value_at (codes "last") query;
  artifact_type = value_at (codes "artifactType") query;
}

-- ---- the token (RFC 6750, section 2.1)

abbrev pub is_space : ℕ → Bool
is_space b = b == 32

abbrev pub skip_spaces : Text → Text
skip_spaces bytes = drop (position_or_len (λ b. not (is_space b)) bytes) bytes

-- the value of the one Authorization field; where there are more, none counts
abbrev pub authorization : List NamedValue → Option Text
authorization fields =
    if length (values (codes "authorization") fields) == 1
    then first (values (codes "authorization") fields) else None

-- what stands behind the scheme, in any case, and one or more spaces (RFC 9110, section 11.4)
abbrev pub behind_scheme : Text → Text → Option Text
behind_scheme scheme value =
    if str_eq_ignore_ascii_case (take (length scheme) value) scheme
    && bytes_eq (take 1 (drop (length scheme) value)) (codes " ")
    then Some (skip_spaces (drop (length scheme) value)) else None

abbrev pub credentials : Text → Option Text → Option Text
credentials scheme None = None
credentials scheme (Some value) = behind_scheme scheme value

abbrev pub text_if : Option Text → Option Text
text_if None = None
text_if (Some bytes) = text_if_utf8 bytes

abbrev pub token_in : List NamedValue → Option Text
token_in fields = text_if (credentials (codes "Bearer") (authorization fields))

-- a name and a password (RFC 7617, section 2)
abbrev pub basic_in : List NamedValue → Option Text
basic_in fields = credentials (codes "Basic") (authorization fields)

-- ---- the host (RFC 9110, section 7.2)

abbrev pub host_in : List NamedValue → Option Text
host_in fields = text_if (first (values (codes "host") fields))

-- ---- what the path names

abbrev pub resource_if : Settings → Option Text → Resource
resource_if s None = Registry
resource_if s (Some path) = resource_at s path

-- ---- the request

abbrev pub ask_in : Settings → RequestHead → Text → Ask
ask_in settings h body = record {
  settings = settings;
  resource = resource_if settings (path_text h.target);
  host = host_in (fields_of h);
  basic = basic_in (fields_of h);
  token = token_in (fields_of h);
  verb = verb_of h.method;
  form = form_if (path_text h.target);
  keys = keys_in (query_in h.target);
  content_type = first (values (codes "content-type") (fields_of h));
  content_range = first (values (codes "content-range") (fields_of h));
  body = body;
}
