-- Members of an object, in the form that is asked for. A member that is null counts as absent where it is
-- optional (profile).
use Rattle.std.specs.Cmp.Lexicographic.{slice_cmp}
use Rattle.std.specs.Ordering.{nat_cmp}
use Rattle.std.specs.List.Sorted.{IsStrictlySortedBy}
use Rattle.std.specs.Prelude.{ℕ, ◌^◌, ◌&&◌, List, [], ◌∷◌, map, String, string_bytes, Bool, true, false, nat_lt, if◌then◌else◌, Option, Some, None, option_and_then, option_map, is_some}
use Rattle.std.specs.declared.alloc.Global.{Global}
use Rattle.serde_json.specs.Data.{Data, null, boolean, number, string, array, object, Items, no_items, item, Members, no_members, member}
use Rattle.serde_json.specs.Find.{get, as_null, as_str, as_array, as_object, as_number, as_u64}
use Rattle.serde_json.specs.View.{items_of}
use Rattle.oci_types.specs.Text.{Text}
use Rattle.oci_types.specs.Part.{◌>>=◌}

abbrev pub unless_null : Data → Option Data
unless_null d = if is_some (as_null d) then None else Some d

-- neither absent nor null
abbrev pub present_at : Text → Data → Option Data
present_at key d = option_and_then unless_null (get key d)

-- a part that need not be there
abbrev pub if_present : {A : Type 0} → (Data → Option A) → Option Data → Option (Option A)
if_present part None = Some None
if_present part (Some d) = option_map Some (part d)

abbrev pub text_at : Text → Data → Option Text
text_at key d = option_and_then as_str (get key d)

abbrev pub optional_text_at : Text → Data → Option (Option Text)
optional_text_at key d = if_present as_str (present_at key d)

abbrev pub list_of : Data → Option Items
list_of null = Some no_items
list_of (boolean b) = None
list_of (number n) = None
list_of (string s) = None
list_of (array ds) = Some ds
list_of (object ms) = None

-- a list; null is the empty list, and what is absent is none (profile)
abbrev pub list_at : Text → Data → Option Items
list_at key d = option_and_then list_of (get key d)

-- a whole number from 0 to 2 ^ 63 - 1
abbrev pub below_limit : ℕ → Option ℕ
below_limit n = if nat_lt n (2 ^ 63) then Some n else None

abbrev pub size_at : Text → Data → Option ℕ
size_at key d = option_and_then below_limit (option_and_then as_u64 (option_and_then as_number (get key d)))

-- ---- lists of texts

abbrev pub text_items : List Text → Items
text_items texts = items_of (map string texts)

abbrev pub all_texts : Items → Bool
all_texts no_items = true
all_texts (item d ds) = is_some (as_str d) && all_texts ds

abbrev pub has_items : Items → Bool
has_items no_items = false
has_items (item d ds) = true

-- whether a list of texts has one
abbrev pub some_text : Items → Option Bool
some_text ds = if all_texts ds then Some (has_items ds) else None

abbrev pub some_text_in : Option Data → Option Bool
some_text_in None = Some false
some_text_in (Some d) = option_and_then some_text (as_array d)

abbrev pub some_text_at : Text → Data → Option Bool
some_text_at key d = some_text_in (present_at key d)

-- ---- objects of texts

-- keys and texts, in byte order of the keys
abbrev pub Pairs : Type 0
Pairs = List (Text × Text)

abbrev pub pairs_of : List (String Global × String Global) → Pairs
pairs_of es = map (λ e. (string_bytes e.0, string_bytes e.1)) es

-- each key is below those after it, byte by byte
abbrev pub IsInByteOrder : Pairs → Type 0
IsInByteOrder ps = IsStrictlySortedBy (slice_cmp nat_cmp) (map (λ p. p.0) ps)

abbrev pub text_members : Pairs → Members
text_members [] = no_members
text_members (p ∷ ps) = member p.0 (string p.1) (text_members ps)

abbrev pub texts_of : Members → Option Pairs
texts_of no_members = Some []
texts_of (member key d ms) = do
  text ← as_str d
  texts ← texts_of ms
  Some ((key, text) ∷ texts)

-- what is absent or null has no texts
abbrev pub texts_in : Option Data → Option Pairs
texts_in None = Some []
texts_in (Some d) = option_and_then texts_of (as_object d)

abbrev pub texts_at : Text → Data → Option Pairs
texts_at key d = texts_in (present_at key d)
