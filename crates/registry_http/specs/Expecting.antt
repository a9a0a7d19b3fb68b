-- What is written before a body is read, where the client waits for it (RFC 9110, section 10.1.1).
use Rattle.std.specs.Prelude.{◌≡◌, ℕ, ◌≤◌, ◌⊎◌, ◌==◌, Bool, true, false, ◌&&◌, nat_lt, List, [], Option, Some, None, length, codes, if◌then◌else◌}
use Rattle.std.specs.Str.{str_eq_ignore_ascii_case}
use Rattle.httparse.specs.Grammar.{RequestHead}
use Rattle.oci_types.specs.Text.{Text}
use Rattle.registry_model.specs.declared.settings.Settings.{Settings}
use Rattle.registry_http.specs.Limits.{most_fields}
use Rattle.registry_http.specs.Fields.{NamedValue, fields_of, values, first}
use Rattle.registry_http.specs.Framing.{framing}
use Rattle.registry_http.specs.Spelling.{BeginsWithHead}
use Rattle.registry_http.specs.declared.framing.Framing.{Framing}
use Rattle.registry_http.specs.declared.framing.Framing.TheVariants.{Length, Chunked, Refused}

-- a body is to come
abbrev pub has_body : Framing → Bool
has_body (Length n) = nat_lt 0 n
has_body Chunked = true
has_body (Refused r) = false

abbrev pub expects_if : Option Text → Bool
expects_if None = false
expects_if (Some value) = str_eq_ignore_ascii_case value (codes "100-continue")

-- in HTTP/1.1, by the first Expect line
abbrev pub awaits_by : ℕ → List NamedValue → Framing → Bool
awaits_by minor fields framed =
    minor == 1 && expects_if (first (values (codes "expect") fields)) && has_body framed

abbrev pub continue_text : Text
continue_text = codes "HTTP/1.1 100 Continue\r\n\r\n"

abbrev pub continue_if : Bool → Text
continue_if awaits = if awaits then continue_text else []

-- what is written before the body of a request with this head is read
abbrev pub text_before : Settings → RequestHead → Text
text_before settings h = continue_if (awaits_by h.minor (fields_of h) (framing settings h))

-- what is written for a request that is not answered: what stands before its body, where its head is whole
abbrev pub IsBefore : Settings → Text → Text → Type 0
IsBefore settings b text =
    ((h : RequestHead) × (rest : Text) × BeginsWithHead b h rest
    × (length h.fields ≤ most_fields) × (text ≡ text_before settings h))
    ⊎ (((h : RequestHead) (rest : Text) → BeginsWithHead b h rest → length h.fields ≤ most_fields → ⊥)
    × (text ≡ []))
