-- A line spells one order at most, and is short.
use Rattle.std.proofs.Common.{◌≡◌, ◌≢◌, ◌∙◌, ℕ, Bool, Option, Some, None, IfSome, codes, ◌+◌, ◌<◌, ◌≤◌, true, false, [], ◌∷◌, List, nat_le, ◌*◌, get_or, length, length-append, decimal, sym, refl, ap, arith}
use Rattle.std.proofs.lemmas.Bool.{and_parts, leb-true, false≢true}
use Rattle.std.proofs.lemmas.Fmt.{decimal_injective, length-decimal-le}
use Rattle.oci_types.specs.Text.{Text}
use Rattle.oci_types.specs.RepoName.{is_repo_name, is_path}
use Rattle.oci_types.specs.Token.{is_token, is_b64token}
use Rattle.registry_model.specs.declared.level.Level.{Level}
use Rattle.registry_model.specs.declared.level.Level.TheVariants.{Pull, Push, Delete}
use Rattle.registry_model.specs.declared.quota.Quota.{Quota}
use Rattle.registry_orders.specs.declared.listing.Held.{Held}
use Rattle.registry_orders.specs.declared.listing.Held.TheVariants.{Tags, Blobs, Unnamed}
use Rattle.registry_orders.specs.declared.listing.Listing.{Listing}
use Rattle.registry_orders.specs.declared.listing.Listing.TheVariants.{Repos, InRepo, Grants}
use Rattle.registry_orders.specs.declared.listing.Shown.{Shown}
use Rattle.registry_orders.specs.declared.listing.Shown.TheVariants.{Beginning, Whole}
use Rattle.registry_orders.specs.declared.listing.Form.{Form}
use Rattle.registry_orders.specs.declared.listing.Form.TheVariants.{Lines, Json}
use Rattle.registry_orders.specs.declared.orders.Change.{Change}
use Rattle.registry_orders.specs.declared.orders.Change.TheVariants.{AddRepo, SetQuota, DropRepo, DropSessions, Prune, Grant, Revoke, RevokeAll, Clear}
use Rattle.registry_orders.specs.declared.orders.Order.{Order}
use Rattle.registry_orders.specs.declared.orders.Order.TheVariants as order
use Rattle.order_texts.specs.Lines.{digit_of, form_word, held_word, shown_word, or_any, words_of_listing, words_of_change, words_of, line_of, IsProperName, IsProperToken, IsProperListing, IsProperChange, IsProper, Spells, SpellsNone}
use Rattle.order_texts.specs.Stopping.{stop_line}
use Rattle.order_texts.proofs.LineLemmas.{split, split_line}
use native.Mathlib.Bridge.{le_prop}
use std.HLevel.{prop→path_p}

-- ---- length

name_length : (t : Text) → is_repo_name t ≡ true → length t ≤ 255
name_length t h = leb-true (length t) 255 (and_parts (nat_le (length t) 255) (is_path t) h).0

token_length : (t : Text) → is_token t ≡ true → length t ≤ 200
token_length t h = leb-true (length t) 200 (and_parts (nat_le (length t) 200) (is_b64token t) h).0

quota_length : (q : Quota) → length (decimal q.bytes) ≤ 20
quota_length q = let small = q.in_range in length-decimal-le 20 q.bytes (omega arith) (omega arith) (omega arith)

digit_length : (level : Level) → length (digit_of level) ≡ 1
digit_length Pull = refl
digit_length Push = refl
digit_length Delete = refl

change_length : (c : Change) → IsProperChange c → length (line_of (order.Change c)) < 600
change_length (AddRepo name quota) h = omega (arith, length-append {A = ℕ}, name_length name h, quota_length quota)
change_length (SetQuota name quota) h = omega (arith, length-append {A = ℕ}, name_length name h, quota_length quota)
change_length (DropRepo name) h = omega (arith, length-append {A = ℕ}, name_length name h)
change_length (DropSessions name) h = omega (arith, length-append {A = ℕ}, name_length name h)
change_length (Prune name) h = omega (arith, length-append {A = ℕ}, name_length name h)
change_length (Grant token name level) h =
    omega (arith, length-append {A = ℕ}, name_length name h.0, digit_length level, token_length token h.1)
change_length (Revoke token name) h = omega (arith, length-append {A = ℕ}, name_length name h.0, token_length token h.1)
change_length (RevokeAll token) h = omega (arith, length-append {A = ℕ}, token_length token h)
change_length Clear h = omega arith

form_length : (form : Form) → length (form_word form) ≤ 5
form_length Lines = omega arith
form_length Json = omega arith

held_length : (what : Held) → length (held_word what) ≤ 7
held_length Tags = omega arith
held_length Blobs = omega arith
held_length Unnamed = omega arith

shown_length : (shown : Shown) → length (shown_word shown) ≤ 9
shown_length Beginning = omega arith
shown_length Whole = omega arith

name_or_any_length : (name : Option Text) → IsProperName name → length (or_any name) ≤ 255
name_or_any_length None h = omega arith
name_or_any_length (Some name) h = name_length name h

token_or_any_length : (token : Option Text) → IsProperToken token → length (or_any token) ≤ 200
token_or_any_length None h = omega arith
token_or_any_length (Some token) h = token_length token h

list_length : (l : Listing) (form : Form) → IsProperListing l → length (line_of (order.List l form)) < 600
list_length Repos form h = omega (arith, length-append {A = ℕ}, form_length form)
list_length (InRepo name what) form h = omega (arith, length-append {A = ℕ}, form_length form, held_length what, name_length name h)
list_length (Grants name token shown) form h =
    omega (arith, length-append {A = ℕ}, form_length form, shown_length shown, name_or_any_length name h.0, token_or_any_length token h.1)

line_length : (o : Order) → IsProper o → length (line_of o) < 600
line_length (order.Change c) h = change_length c h
line_length order.Usage h = omega arith
line_length (order.List listing form) h = list_length listing form h

pub long_line : (line : Text) → 600 ≤ length line → SpellsNone line
long_line line long = λ o h.
    let short = line_length o h.1 in
    let same = ap length h.0 in
    omega arith

-- ---- one order

quota_same : (q r : Quota) → q.bytes ≡ r.bytes → q ≡ r
quota_same q r e = λ i. record {
  bytes = e i;
  in_range = prop→path_p (λ j. e j < 9223372036854775808) le_prop q.in_range r.in_range i;
}

quota_from_text : (q r : Quota) → decimal q.bytes ≡ decimal r.bytes → q ≡ r
quota_from_text q r e =
    let low = q.in_range in
    let high = r.in_range in
    quota_same q r (decimal_injective q.bytes r.bytes (omega arith) (omega arith) e)

level_from_digit : (l k : Level) → digit_of l ≡ digit_of k → l ≡ k
level_from_digit Pull Pull e = refl
level_from_digit Push Push e = refl
level_from_digit Delete Delete e = refl
level_from_digit l k e = let first = ap (λ t. get_or t 0 0) e in absurd (omega arith)

-- two bytes of the first word, which tell it
abbrev key_of : List Text → ℕ
key_of [] = 0
key_of (w ∷ words) = 256 * get_or w 0 0 + get_or w 2 0

change_same : (c d : Change) → words_of_change c ≡ words_of_change d → c ≡ d
change_same (AddRepo m q) (AddRepo n r) e = let same = quota_from_text q r cc in cc
change_same (SetQuota m q) (SetQuota n r) e = let same = quota_from_text q r cc in cc
change_same (DropRepo m) (DropRepo n) e = cc
change_same (DropSessions m) (DropSessions n) e = cc
change_same (Prune m) (Prune n) e = cc
change_same (Grant t m l) (Grant u n k) e = let same = level_from_digit l k cc in cc
change_same (Revoke t m) (Revoke u n) e = cc
change_same (Revoke t m) (RevokeAll u) e = absurd (cc)
change_same (RevokeAll t) (Revoke u n) e = absurd (cc)
change_same (RevokeAll t) (RevokeAll u) e = cc
change_same Clear Clear e = refl
change_same c d e = let key = ap key_of e in absurd (omega arith)

not_usage : (c : Change) → key_of (words_of_change c) ≢ key_of (words_of order.Usage)
not_usage (AddRepo m q) e = omega arith
not_usage (SetQuota m q) e = omega arith
not_usage (DropRepo m) e = omega arith
not_usage (DropSessions m) e = omega arith
not_usage (Prune m) e = omega arith
not_usage (Grant t m l) e = omega arith
not_usage (Revoke t m) e = omega arith
not_usage (RevokeAll t) e = omega arith
not_usage Clear e = omega arith

not_list : (c : Change) → key_of (words_of_change c) ≢ key_of (codes "list" ∷ [])
not_list (AddRepo m q) e = omega arith
not_list (SetQuota m q) e = omega arith
not_list (DropRepo m) e = omega arith
not_list (DropSessions m) e = omega arith
not_list (Prune m) e = omega arith
not_list (Grant t m l) e = omega arith
not_list (Revoke t m) e = omega arith
not_list (RevokeAll t) e = omega arith
not_list Clear e = omega arith

form_from_word : (f g : Form) → form_word f ≡ form_word g → f ≡ g
form_from_word Lines Lines e = refl
form_from_word Json Json e = refl
form_from_word f g e = let first = ap (λ t. get_or t 0 0) e in absurd (omega arith)

held_from_word : (a b : Held) → held_word a ≡ held_word b → a ≡ b
held_from_word Tags Tags e = refl
held_from_word Blobs Blobs e = refl
held_from_word Unnamed Unnamed e = refl
held_from_word a b e = let first = ap (λ t. get_or t 0 0) e in absurd (omega arith)

shown_from_word : (a b : Shown) → shown_word a ≡ shown_word b → a ≡ b
shown_from_word Beginning Beginning e = refl
shown_from_word Whole Whole e = refl
shown_from_word a b e = let first = ap (λ t. get_or t 0 0) e in absurd (omega arith)

-- `*` is of none, since it is no name and no token
module _ (is_proper : Text → Bool) (no : is_proper (codes "*") ≡ false) where
  from_word_or_any : (a b : Option Text) → IfSome a (λ t. is_proper t ≡ true) → IfSome b (λ t. is_proper t ≡ true) → or_any a ≡ or_any b → a ≡ b
  from_word_or_any None None h k e = refl
  from_word_or_any (Some t) (Some u) h k e = ap Some e
  from_word_or_any (Some t) None h k e = absurd (false≢true (sym no ∙ ap is_proper (sym e) ∙ h))
  from_word_or_any None (Some u) h k e = absurd (false≢true (sym no ∙ ap is_proper e ∙ k))

listing_same : (l m : Listing) → IsProperListing l → IsProperListing m → words_of_listing l ≡ words_of_listing m → l ≡ m
listing_same Repos Repos h k e = refl
listing_same (InRepo m a) (InRepo n b) h k e = let same = held_from_word a b cc in cc
listing_same (Grants m t a) (Grants n u b) h k e =
    let same = shown_from_word a b cc in
    let names = from_word_or_any is_repo_name refl m n h.0 k.0 cc in
    let tokens = from_word_or_any is_token refl t u h.1 k.1 cc in
    cc
listing_same Repos (InRepo n b) h k e = absurd (cc)
listing_same Repos (Grants n u b) h k e = absurd (cc)
listing_same (InRepo m a) Repos h k e = absurd (cc)
listing_same (InRepo m a) (Grants n u b) h k e = absurd (cc)
listing_same (Grants m t a) Repos h k e = absurd (cc)
listing_same (Grants m t a) (InRepo n b) h k e = absurd (cc)

list_same : (l m : Listing) (f g : Form) → IsProperListing l → IsProperListing m → words_of (order.List l f) ≡ words_of (order.List m g) → order.List l f ≡ order.List m g
list_same l m f g h k e =
    let forms = form_from_word f g cc in
    let listings = listing_same l m h k cc in
    cc

words_same : (o p : Order) → IsProper o → IsProper p → words_of o ≡ words_of p → o ≡ p
words_same (order.Change c) (order.Change d) h k e = ap (λ x. order.Change x) (change_same c d e)
words_same (order.Change c) order.Usage h k e = absurd (not_usage c (ap key_of e))
words_same order.Usage (order.Change d) h k e = absurd (not_usage d (ap key_of (sym e)))
words_same order.Usage order.Usage h k e = refl
words_same (order.List l f) (order.List m g) h k e = list_same l m f g h k e
words_same (order.List l f) (order.Change d) h k e = absurd (not_list d (ap key_of (sym e)))
words_same (order.Change c) (order.List m g) h k e = absurd (not_list c (ap key_of e))
words_same (order.List l f) order.Usage h k e = let key = ap key_of e in absurd (omega arith)
words_same order.Usage (order.List m g) h k e = let key = ap key_of e in absurd (omega arith)

pub one_order : (line : Text) (o p : Order) → Spells line o → Spells line p → o ≡ p
one_order line o p h k = words_same o p h.1 k.1 (sym (split_line o h.1) ∙ ap split (sym h.0 ∙ k.0) ∙ split_line p k.1)

-- ---- the line that asks a server to stop

key_is_other : (o : Order) → key_of (words_of o) ≢ key_of (codes "stop" ∷ [])
key_is_other (order.Change (AddRepo m q)) e = omega arith
key_is_other (order.Change (SetQuota m q)) e = omega arith
key_is_other (order.Change (DropRepo m)) e = omega arith
key_is_other (order.Change (DropSessions m)) e = omega arith
key_is_other (order.Change (Prune m)) e = omega arith
key_is_other (order.Change (Grant t m l)) e = omega arith
key_is_other (order.Change (Revoke t m)) e = omega arith
key_is_other (order.Change (RevokeAll t)) e = omega arith
key_is_other (order.Change Clear) e = omega arith
key_is_other order.Usage e = omega arith
key_is_other (order.List l f) e = omega arith

split_stop : split stop_line ≡ codes "stop" ∷ []
split_stop = refl

pub stop_spells_none : SpellsNone stop_line
stop_spells_none o h = key_is_other o (ap key_of (sym (split_line o h.1) ∙ ap split (sym h.0) ∙ split_stop))
