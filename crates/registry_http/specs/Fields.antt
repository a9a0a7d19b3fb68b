-- The fields of a head, by their names (RFC 9110, sections 5.1 to 5.3).
use Rattle.std.specs.Prelude.{ℕ, ◌==◌, Bool, ◌||◌, List, [], ◌∷◌, map, filter, Option, Some, None, codes}
use Rattle.std.specs.List.{list_any, slice_split}
use Rattle.std.specs.Str.{str_eq_ignore_ascii_case}
use Rattle.oci_types.specs.Text.{Text}
use Rattle.httparse.specs.Grammar.{RequestHead, trim_ows}
use Rattle.httparse.specs.Spans.{name_and_value}

-- a field's name, and its value without the white space around it
abbrev pub NamedValue : Type 0
NamedValue = Text × Text

abbrev pub fields_of : RequestHead → List NamedValue
fields_of h = map name_and_value h.fields

-- names are compared without regard to case
abbrev pub has_name : Text → NamedValue → Bool
has_name name field = str_eq_ignore_ascii_case field.0 name

-- the values of the fields of a name, in their order
abbrev pub values : Text → List NamedValue → List Text
values name fields = map (λ field. field.1) (filter (has_name name) fields)

abbrev pub first : List Text → Option Text
first [] = None
first (value ∷ others) = Some value

-- ---- what closes a connection (RFC 9112, section 9.6)

-- among the words between the commas is "close", in any case
abbrev pub lists_close : Text → Bool
lists_close value =
    list_any (λ word. str_eq_ignore_ascii_case (trim_ows word) (codes "close"))
    (slice_split (λ b. b == 44) value)

-- HTTP/1.0, or a Connection line with "close"
abbrev pub closes_by : ℕ → List NamedValue → Bool
closes_by minor fields = minor == 0 || list_any lists_close (values (codes "connection") fields)
