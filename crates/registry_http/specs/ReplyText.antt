-- The text of a reply (RFC 9112, sections 2.1 and 4; the order of the fields is the profile's).
use Rattle.std.specs.Prelude.{ℕ, ◌==◌, Bool, [], ◌∷◌, ◌++◌, if◌then◌else◌, length, Option, Some, None, codes, decimal, unwrap_or}
use Rattle.http.specs.StatusCode.{code_digits, reason_phrase}
use Rattle.oci_types.specs.Text.{Text}
use Rattle.registry_model.specs.Answer.{Answer, Content, sent, unsent, code_of}
use Rattle.registry_http.specs.Refusals.{refusal_code}
use Rattle.registry_http.specs.declared.ending.FramingRefusal.{FramingRefusal}

abbrev pub crlf : Text
crlf = 13 ∷ 10 ∷ []

unfoldable pub status_line : ℕ → Text
status_line code =
    codes "HTTP/1.1 " ++ code_digits code ++ codes " " ++ unwrap_or (reason_phrase code) [] ++ crlf

abbrev pub field : Text → Text → Text
field name value = name ++ codes ": " ++ value ++ crlf

-- the field line, where there is a value
abbrev pub field_if : Text → Option Text → Text
field_if name None = []
field_if name (Some value) = field name value

abbrev pub length_of : Content → ℕ
length_of (sent bytes) = length bytes
length_of (unsent n) = n

-- a reply without content has no length (RFC 9110, section 8.6)
abbrev pub length_field : ℕ → ℕ → Text
length_field code n = if code == 204 then [] else field (codes "Content-Length") (decimal n)

abbrev pub close_field : Bool → Text
close_field close = if close then codes "Connection: close\r\n" else []

-- a reply to HEAD has the fields of the reply to GET and no body (RFC 9110, section 9.3.2)
abbrev pub sent_text : Content → Text
sent_text (sent bytes) = bytes
sent_text (unsent n) = []

abbrev pub body_text : Bool → Content → Text
body_text head body = if head then [] else sent_text body

-- a status line, the fields that follow it, and the empty line
abbrev pub head_after : Text → Bool → Answer → Text
head_after line close a =
    line
    ++ length_field (code_of a.status) (length_of a.body)
    ++ field_if (codes "Content-Type") a.content_type
    ++ field_if (codes "Cache-Control") a.caching
    ++ field_if (codes "Docker-Content-Digest") a.digest
    ++ field_if (codes "Location") a.location
    ++ field_if (codes "Range") a.range
    ++ field_if (codes "OCI-Subject") a.subject
    ++ field_if (codes "OCI-Filters-Applied") a.filters
    ++ field_if (codes "Link") a.link
    ++ field_if (codes "Allow") a.allow
    ++ field_if (codes "WWW-Authenticate") a.challenge
    ++ close_field close
    ++ crlf

-- what stands before the body of a reply
abbrev pub head_text : Bool → Answer → Text
head_text close a = head_after (status_line (code_of a.status)) close a

abbrev pub reply_text : Bool → Bool → Answer → Text
reply_text head close a = head_text close a ++ body_text head a.body

-- the text of a framing refusal
abbrev pub refusal_text : FramingRefusal → Text
refusal_text r = status_line (refusal_code r) ++ codes "Content-Length: 0\r\nConnection: close\r\n\r\n"
