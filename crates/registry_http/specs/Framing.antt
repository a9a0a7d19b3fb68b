-- How a request's body is framed, by its head (RFC 9112, sections 3.2 and 6; the limit is the settings').
use Rattle.std.specs.Prelude.{ℕ, ◌≤◌, ◌==◌, List, Bool, not, ◌&&◌, ◌||◌, if◌then◌else◌, nat_le, nat_lt, length, take, Option, Some, None, codes, bytes_eq}
use Rattle.std.specs.List.{list_all}
use Rattle.std.specs.Str.{str_eq_ignore_ascii_case}
use Rattle.std.specs.Char.{is_ascii_digit}
use Rattle.std.specs.Str.Parse.{digits_value}
use Rattle.oci_types.specs.Text.{Text}
use Rattle.registry_model.specs.Limits.{most_body}
use Rattle.registry_model.specs.declared.settings.Settings.{Settings}
use Rattle.httparse.specs.Grammar.{RequestHead}
use Rattle.registry_http.specs.Fields.{NamedValue, fields_of, values, first}
use Rattle.registry_http.specs.declared.ending.FramingRefusal.TheVariants.{HostCount, TargetForm, TransferEncodingConflict, UnknownTransferEncoding, InvalidContentLength, LengthTooLarge}
use Rattle.registry_http.specs.declared.framing.Framing.{Framing}
use Rattle.registry_http.specs.declared.framing.Framing.TheVariants.{Length, Chunked, Refused}

-- one length: one to nineteen digits, and no more than the limit
abbrev pub length_of : Settings → Text → Framing
length_of settings digits =
    if nat_lt 0 (length digits) && nat_le (length digits) 19 && list_all is_ascii_digit digits then
    (if nat_le (digits_value 10 digits) (most_body settings) then Length (digits_value 10 digits)
    else Refused LengthTooLarge)
    else Refused InvalidContentLength

-- no length: no body
abbrev pub length_if : Settings → Option Text → Framing
length_if settings None = Length 0
length_if settings (Some digits) = length_of settings digits

abbrev pub length_in : Settings → List Text → Framing
length_in settings lengths =
    if nat_lt 1 (length lengths) then Refused InvalidContentLength else length_if settings (first lengths)

-- "chunked", in any case
abbrev pub chunked_if : Option Text → Framing
chunked_if None = Refused UnknownTransferEncoding
chunked_if (Some coding) =
    if str_eq_ignore_ascii_case coding (codes "chunked") then Chunked else Refused UnknownTransferEncoding

-- so many Transfer-Encoding lines stand, with the first of them, beside so many Content-Length lines
abbrev pub coding_by : ℕ → ℕ → Option Text → ℕ → Framing
coding_by minor count coding lengths =
    if minor == 0 || nat_lt 0 lengths then Refused TransferEncodingConflict
    else (if count == 1 then chunked_if coding else Refused UnknownTransferEncoding)

abbrev pub body_in : Settings → ℕ → List Text → List Text → Framing
body_in settings minor codings lengths =
    if nat_lt 0 (length codings) then coding_by minor (length codings) (first codings) (length lengths)
    else length_in settings lengths

-- one Host; HTTP/1.0 may leave it out
abbrev pub hosts_fit : ℕ → ℕ → Bool
hosts_fit minor count = count == 1 || (count == 0 && minor == 0)

abbrev pub has_slash : Text → Bool
has_slash target = bytes_eq (take 1 target) (codes "/")

-- the first refusal that holds, or the body's length
abbrev pub framing_by : Settings → ℕ → Text → List NamedValue → Framing
framing_by settings minor target fields =
    if not (hosts_fit minor (length (values (codes "host") fields))) then Refused HostCount
    else (if not (has_slash target) then Refused TargetForm
    else body_in settings minor (values (codes "transfer-encoding") fields)
    (values (codes "content-length") fields))

abbrev pub framing : Settings → RequestHead → Framing
framing settings h = framing_by settings h.minor h.target (fields_of h)

-- a stated length is within the limit
abbrev pub IsSmall : Settings → Framing → Type 0
IsSmall settings (Length n) = n ≤ most_body settings
IsSmall settings Chunked = Unit {0}
IsSmall settings (Refused r) = Unit {0}
