-- Why a line is not read.
use Rattle.std.specs.Prelude.{◌≡◌, List, Bool, ◌||◌, Option, bytes_eq, codes, slice_index, ⊤}
use Rattle.oci_types.specs.Text.{Text}
use Rattle.oci_types.specs.Byte.{is_between}
use Rattle.oci_types.specs.declared.fault.NameFault.{NameFault}
use Rattle.oci_types.specs.declared.fault.NameFault.TheVariants as fault
use Rattle.order_texts.specs.declared.reading.Unread.{Unread}
use Rattle.order_texts.specs.declared.reading.Unread.TheVariants.{Malformed, Memory}
use Rattle.order_texts.specs.Lines.{or_any, SpellsNone, AreWordsOfNone}

-- why a word is no name or no token
abbrev pub unread_of : NameFault → Unread
unread_of fault.Memory = Memory
unread_of _ = Malformed

-- no order has the line; or memory was wanting
abbrev pub IsUnread : Text → Unread → Type 0
IsUnread line Malformed = SpellsNone line
IsUnread line Memory = ⊤

abbrev pub AreUnread : List Text → Unread → Type 0
AreUnread words Malformed = AreWordsOfNone words
AreUnread words Memory = ⊤

-- the word is that of a name or a token of this kind, or of none
abbrev pub IsWordOf : (Option Text → Type 0) → Text → Option Text → Type 0
IsWordOf IsProper word o = (word ≡ or_any o) × IsProper o

-- it is of neither; or memory was wanting
abbrev pub IsUnreadWord : (Option Text → Type 0) → Text → Unread → Type 0
IsUnreadWord IsProper word Malformed = (o : Option Text) → ¬ (IsWordOf IsProper word o)
IsUnreadWord IsProper word Memory = ⊤

-- `0`, or a text that begins with another digit
abbrev pub begins_plainly : Text → Bool
begins_plainly t = bytes_eq t (codes "0") || is_between 49 57 (slice_index t 0)
