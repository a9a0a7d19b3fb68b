-- A line's words are its parts between spaces.
use Rattle.std.proofs.Common.{◌≡◌, ℕ, zero, suc, get_or, ◌<◌, ◌==◌, Bool, true, [], ◌∷◌, ◌&&◌, List, Option, Some, None, sym, refl, ap, ◌∙◌, arith, decimal, subst}
use Rattle.std.specs.Prelude.{IsUtf8}
use Rattle.std.specs.List.{slice_split, join_with_byte}
use Rattle.std.proofs.lemmas.Bool.{and_parts, and_from}
use Rattle.std.proofs.lemmas.List.Splits.{slice_split_none, slice_split_at, join_with_byte-slice_split}
use Rattle.std.proofs.lemmas.Str.{IsUtf8-append, IsUtf8-nil, IsUtf8-from_ascii}
use Rattle.oci_types.specs.Text.{Text}
use Rattle.registry_model.specs.declared.level.Level.{Level}
use Rattle.registry_model.specs.declared.level.Level.TheVariants.{Pull, Push, Delete}
use Rattle.registry_model.specs.declared.quota.Quota.{Quota}
use Rattle.registry_orders.specs.declared.listing.Held.{Held}
use Rattle.registry_orders.specs.declared.listing.Held.TheVariants.{Tags, Blobs, Unnamed}
use Rattle.registry_orders.specs.declared.listing.Listing.{Listing}
use Rattle.registry_orders.specs.declared.listing.Listing.TheVariants.{Repos, InRepo, Grants}
use Rattle.registry_orders.specs.declared.listing.Shown.{Shown}
use Rattle.registry_orders.specs.declared.listing.Shown.TheVariants.{Beginning, Whole}
use Rattle.registry_orders.specs.declared.listing.Form.{Form}
use Rattle.registry_orders.specs.declared.listing.Form.TheVariants.{Lines, Json}
use Rattle.registry_orders.specs.declared.orders.Change.{Change}
use Rattle.registry_orders.specs.declared.orders.Change.TheVariants.{AddRepo, SetQuota, DropRepo, DropSessions, Prune, Grant, Revoke, RevokeAll, Clear}
use Rattle.registry_orders.specs.declared.orders.Order.{Order}
use Rattle.registry_orders.specs.declared.orders.Order.TheVariants as order
use Rattle.order_texts.specs.declared.reading.Unread.{Unread}
use Rattle.order_texts.specs.declared.reading.Unread.TheVariants.{Malformed, Memory}
use Rattle.order_texts.specs.Lines.{space, digit_of, form_word, held_word, shown_word, or_any, words_of_listing, words_of_change, words_of, line_of, IsProperName, IsProperToken, IsProperListing, IsProperChange, IsProper, AreWordsOf, Spells}
use Rattle.order_texts.specs.Reading.{IsUnread, AreUnread}
use Rattle.oci_types.proofs.PlainTokens.{plain, plain_token}
use Rattle.order_texts.proofs.PlainWords.{plain_name, plain_decimal, has_no_space, is_utf8}

abbrev pub split : Text → List Text
split t = slice_split (λ b. b == space) t

abbrev all_plain : List Text → Bool
all_plain [] = true
all_plain (w ∷ words) = plain w && all_plain words

-- plain words that are joined are parted again
split_joined : (w : Text) (words : List Text) → all_plain (w ∷ words) ≡ true → split (join_with_byte space (w ∷ words)) ≡ w ∷ words
split_joined w [] h =
    slice_split_none (λ b. b == space) w (has_no_space w (and_parts (plain w) true h).0)
split_joined w (v ∷ words) h =
    let parts = and_parts (plain w) (all_plain (v ∷ words)) h in
    slice_split_at (λ b. b == space) w space (join_with_byte space (v ∷ words)) (has_no_space w parts.0) refl
    ∙ ap (λ others. w ∷ others) (split_joined v words parts.1)

at_space : (i : ℕ) → get_or (space ∷ []) i 0 < 128
at_space zero = omega arith
at_space (suc i) = omega arith

space_is_utf8 : IsUtf8 (space ∷ [])
space_is_utf8 = IsUtf8-from_ascii (space ∷ []) (λ i. at_space i)

utf8_joined : (w : Text) (words : List Text) → all_plain (w ∷ words) ≡ true → IsUtf8 (join_with_byte space (w ∷ words))
utf8_joined w [] h = is_utf8 w (and_parts (plain w) true h).0
utf8_joined w (v ∷ words) h =
    let parts = and_parts (plain w) (all_plain (v ∷ words)) h in
    IsUtf8-append w (space ∷ join_with_byte space (v ∷ words)) (is_utf8 w parts.0)
    (IsUtf8-append (space ∷ []) (join_with_byte space (v ∷ words)) space_is_utf8 (utf8_joined v words parts.1))

-- ---- the words of an order are plain

plain_quota : (q : Quota) → plain (decimal q.bytes) ≡ true
plain_quota q = let small = q.in_range in plain_decimal q.bytes (omega arith)

plain_digit : (level : Level) → plain (digit_of level) ≡ true
plain_digit Pull = refl
plain_digit Push = refl
plain_digit Delete = refl

one_more : (a b : Bool) → a ≡ true → b ≡ true → (a && b) ≡ true
one_more a b = and_from a b

plain_change : (c : Change) → IsProperChange c → all_plain (words_of_change c) ≡ true
plain_change (AddRepo name quota) h = one_more (plain name) (plain (decimal quota.bytes) && true) (plain_name name h) (one_more (plain (decimal quota.bytes)) true (plain_quota quota) refl)
plain_change (SetQuota name quota) h = one_more (plain name) (plain (decimal quota.bytes) && true) (plain_name name h) (one_more (plain (decimal quota.bytes)) true (plain_quota quota) refl)
plain_change (DropRepo name) h = one_more (plain name) true (plain_name name h) refl
plain_change (DropSessions name) h = one_more (plain name) true (plain_name name h) refl
plain_change (Prune name) h = one_more (plain name) true (plain_name name h) refl
plain_change (Grant token name level) h =
    one_more (plain name) (plain (digit_of level) && (plain token && true)) (plain_name name h.0)
    (one_more (plain (digit_of level)) (plain token && true) (plain_digit level) (one_more (plain token) true (plain_token token h.1) refl))
plain_change (Revoke token name) h = one_more (plain name) (plain token && true) (plain_name name h.0) (one_more (plain token) true (plain_token token h.1) refl)
plain_change (RevokeAll token) h = one_more (plain token) true (plain_token token h) refl
plain_change Clear h = refl

plain_form : (form : Form) → plain (form_word form) ≡ true
plain_form Lines = refl
plain_form Json = refl

plain_held : (what : Held) → plain (held_word what) ≡ true
plain_held Tags = refl
plain_held Blobs = refl
plain_held Unnamed = refl

plain_shown : (shown : Shown) → plain (shown_word shown) ≡ true
plain_shown Beginning = refl
plain_shown Whole = refl

plain_name_or_any : (name : Option Text) → IsProperName name → plain (or_any name) ≡ true
plain_name_or_any None h = refl
plain_name_or_any (Some name) h = plain_name name h

plain_token_or_any : (token : Option Text) → IsProperToken token → plain (or_any token) ≡ true
plain_token_or_any None h = refl
plain_token_or_any (Some token) h = plain_token token h

plain_listing : (l : Listing) → IsProperListing l → all_plain (words_of_listing l) ≡ true
plain_listing Repos h = refl
plain_listing (InRepo name what) h = one_more (plain (held_word what)) (plain name && true) (plain_held what) (one_more (plain name) true (plain_name name h) refl)
plain_listing (Grants name token shown) h =
    one_more (plain (shown_word shown)) (plain (or_any name) && (plain (or_any token) && true)) (plain_shown shown)
    (one_more (plain (or_any name)) (plain (or_any token) && true) (plain_name_or_any name h.0) (one_more (plain (or_any token)) true (plain_token_or_any token h.1) refl))

plain_order : (o : Order) → IsProper o → all_plain (words_of o) ≡ true
plain_order (order.Change change) h = plain_change change h
plain_order order.Usage h = refl
plain_order (order.List listing form) h = one_more (plain (form_word form)) (all_plain (words_of_listing listing)) (plain_form form) (plain_listing listing h)

split_line_words : (words : List Text) → all_plain words ≡ true → (words ≡ [] → ⊥) → split (join_with_byte space words) ≡ words
split_line_words [] h some = absurd (some refl)
split_line_words (w ∷ words) h some = split_joined w words h

some_words : (o : Order) → words_of o ≡ [] → ⊥
some_words (order.Change (AddRepo name quota)) e = cc
some_words (order.Change (SetQuota name quota)) e = cc
some_words (order.Change (DropRepo name)) e = cc
some_words (order.Change (DropSessions name)) e = cc
some_words (order.Change (Prune name)) e = cc
some_words (order.Change (Grant token name level)) e = cc
some_words (order.Change (Revoke token name)) e = cc
some_words (order.Change (RevokeAll token)) e = cc
some_words (order.Change Clear) e = cc
some_words order.Usage e = cc
some_words (order.List listing form) e = cc

pub split_line : (o : Order) → IsProper o → split (line_of o) ≡ words_of o
split_line o h = split_line_words (words_of o) (plain_order o h) (some_words o)

utf8_words : (words : List Text) → all_plain words ≡ true → IsUtf8 (join_with_byte space words)
utf8_words [] h = IsUtf8-nil
utf8_words (w ∷ words) h = utf8_joined w words h

-- ---- what is read

pub line_is_utf8 : (t : Text) (o : Order) → Spells t o → IsUtf8 t
line_is_utf8 t o h = subst IsUtf8 (sym h.0) (utf8_words (words_of o) (plain_order o h.1))

pub spells_by_words : (t : Text) (words : List Text) (o : Order) → words ≡ split t → AreWordsOf words o → Spells t o
spells_by_words t words o is h =
    (sym (join_with_byte-slice_split space t) ∙ ap (join_with_byte space) (sym is ∙ h.0), h.1)

pub unread_by_words : (t : Text) (words : List Text) (u : Unread) → words ≡ split t → AreUnread words u → IsUnread t u
unread_by_words t words Malformed is none = λ o h. none o (is ∙ ap split h.0 ∙ split_line o h.1, h.1)
unread_by_words t words Memory is none = tt
