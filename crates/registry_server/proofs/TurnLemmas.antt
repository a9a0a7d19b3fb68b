-- None takes two turns while another waits for one.
use Rattle.std.proofs.Common.{◌≡◌, ◌≢◌, ℕ, ◌+◌, ◌⊎◌, inl, inr, Bool, true, false, ◌||◌, ◌&&◌, ◌==◌, length, drop, List, [], ◌∷◌, ◌++◌, None, All, refl, sym, ap, ◌∙◌, subst, arith}
use Rattle.std.proofs.lemmas.Bool.{cases_eq}
use Rattle.std.proofs.lemmas.List.Elements.{All-head, All-tail}
use Rattle.oci_types.specs.Text.{Text}
use Rattle.registry_model.specs.Keeping.{Kept}
use Rattle.registry_conversation.specs.declared.phase.Step.{Step}
use Rattle.registry_conversation.specs.Shown.{Shown, listens}
use Rattle.registry_conversation.specs.ConversationEvents.{Event as Call, came, ended, acted, sent}
use Rattle.registry_server.specs.declared.bounds.Bounds.{Bounds}
use Rattle.registry_server.specs.Open.{Slot, Open, none, conversation_of, Changes, TakesTurn, is_told, hears, sends}
use Rattle.registry_server.specs.Events.{Event, comes, on, goes, unstages, elsewhere, HappensOn, Happens, Passes}
use Rattle.registry_server.specs.Turns.{IsStirred, HasTurn, TurnsTwice}
use Rattle.registry_server.proofs.SlotLemmas.{of_same, of_other, skip, AreNumbered, among, pushed, in_place, to_back}
use Rattle.registry_model.specs.declared.settings.Settings.{Settings}

-- ---- each number is one connection's, after any events

numbers_on : (e : Event) (u : Open) (s : Kept) (u' : Open) (s' : Kept) → Happens e u s u' s' → AreNumbered u.next u.slots → AreNumbered u'.next u'.slots
numbers_on (comes n) u s u' s' x h =
    let o = x.0 in
    subst (λ (v : Open). AreNumbered v.next v.slots) (sym o.is)
    (pushed u.next (n + 1) u.slots _ h (omega (arith, o.number)) (omega arith) o.only.was)
numbers_on (on n call) u s u' s' x h =
    subst (λ (k : ℕ). AreNumbered k u'.slots) (sym (ap (λ (v : Open). v.next) x.1)) (by_call call x.0)
  where
    changed : (P : Shown → Shown → Type 0) (stirs : Slot → Bool) → Changes n P stirs u.slots u'.slots → AreNumbered u.next u'.slots
    changed P stirs y =
        subst (AreNumbered u.next) (sym y.is) (in_place u.next y.front y.slot _ y.back (subst (AreNumbered u.next) y.was h) (sym y.numbered))

    by_call : (c : Call) → HappensOn n c u s u' s' → AreNumbered u.next u'.slots
    by_call (came bytes) y = changed _ _ y.0
    by_call ended y = changed _ _ y.0
    by_call (sent text) y = changed _ _ y.0
    by_call (acted found) y =
        subst (AreNumbered u.next) (sym y.0.is) (to_back u.next y.0.front y.0.slot _ y.0.back (subst (AreNumbered u.next) y.0.was h) (sym y.0.numbered))
numbers_on (goes n) u s u' s' x h =
    let y = x.0 in
    subst (λ (k : ℕ). AreNumbered k u'.slots) (sym (ap (λ (v : Open). v.next) x.1))
    (subst (AreNumbered u.next) (sym y.is) (among u.next y.front y.slot y.back (subst (AreNumbered u.next) y.was h)).others)
numbers_on (unstages n) u s u' s' x h = subst (λ (v : Open). AreNumbered v.next v.slots) (sym x.0) h
numbers_on (elsewhere step outcome) u s u' s' x h = subst (λ (v : Open). AreNumbered v.next v.slots) (sym x.0) h

pub numbers_after : (es : List Event) (u : Open) (s : Kept) (u' : Open) (s' : Kept) → Passes es u s u' s' → AreNumbered u.next u.slots → AreNumbered u'.next u'.slots
numbers_after [] u s u' s' x h = subst (λ (v : Open). AreNumbered v.next v.slots) (sym x.0) h
numbers_after (e ∷ es) u s u' s' x h = numbers_after es x.0 x.1 u' s' x.3 (numbers_on e u s x.0 x.1 x.2 h)

-- ---- m is to be looked at before n

abbrev Before : ℕ → ℕ → List Slot → Type 0
Before m n [] = ⊥
Before m n (c ∷ slots) = ((c.number ≡ m) × (c.stirred ≡ true)) ⊎ ((c.number ≢ n) × Before m n slots)

not_first : (m n : ℕ) (front : List Slot) (c : Slot) (back : List Slot) → m ≢ n → c.number ≡ n → All (λ (s : Slot). s.stirred ≡ false) front
    → Before m n (front ++ c ∷ back) → ⊥
not_first m n [] c back ne e idle (inl x) = ne (sym x.0 ∙ e)
not_first m n [] c back ne e idle (inr x) = x.0 e
not_first m n (y ∷ front) c back ne e idle (inl x) =
    let still = All-head (λ (s : Slot). s.stirred ≡ false) y front idle in
    let bad = sym x.1 ∙ still in cc
not_first m n (y ∷ front) c back ne e idle (inr x) = not_first m n front c back ne e (All-tail (λ (s : Slot). s.stirred ≡ false) y front idle) x.1

more_behind : (m n : ℕ) (xs ys : List Slot) → Before m n xs → Before m n (xs ++ ys)
more_behind m n [] ys x = absurd x
more_behind m n (c ∷ xs) ys (inl x) = inl x
more_behind m n (c ∷ xs) ys (inr x) = inr (x.0, more_behind m n xs ys x.1)

one_less : (m n : ℕ) (front : List Slot) (c : Slot) (back : List Slot) → c.number ≢ m → Before m n (front ++ c ∷ back) → Before m n (front ++ back)
one_less m n [] c back ne (inl x) = absurd (ne x.0)
one_less m n [] c back ne (inr x) = x.1
one_less m n (y ∷ front) c back ne (inl x) = inl x
one_less m n (y ∷ front) c back ne (inr x) = inr (x.0, one_less m n front c back ne x.1)

one_changed : (m n : ℕ) (front : List Slot) (c c' : Slot) (back : List Slot) → c'.number ≡ c.number → (c.stirred ≡ true → c'.stirred ≡ true)
    → Before m n (front ++ c ∷ back) → Before m n (front ++ c' ∷ back)
one_changed m n [] c c' back e still (inl x) = inl (e ∙ x.0, still x.1)
one_changed m n [] c c' back e still (inr x) = inr ((λ f. x.0 (sym e ∙ f)), x.1)
one_changed m n (y ∷ front) c c' back e still (inl x) = inl x
one_changed m n (y ∷ front) c c' back e still (inr x) = inr (x.0, one_changed m n front c c' back e still x.1)

-- after a turn of n
but_one : (m n : ℕ) (front : List Slot) (c : Slot) (back : List Slot) → c.number ≡ n → m ≢ n → IsStirred m (front ++ c ∷ back) → IsStirred m (front ++ back)
but_one m n [] c back e ne (inl x) = absurd (ne (sym x.0 ∙ e))
but_one m n [] c back e ne (inr x) = x
but_one m n (y ∷ front) c back e ne (inl x) = inl x
but_one m n (y ∷ front) c back e ne (inr x) = inr (but_one m n front c back e ne x)

none_of_n : (m n : ℕ) (xs : List Slot) → conversation_of n xs ≡ None → IsStirred m xs → Before m n xs
none_of_n m n [] none x = absurd x
none_of_n m n (c ∷ xs) none (inl x) = inl x
none_of_n m n (c ∷ xs) none (inr x) = elim (cases_eq c.number n) [
  | inl same ↦ let bad = sym (of_same n c xs same) ∙ none in cc
  | inr ne ↦ inr (ne, none_of_n m n xs (sym (of_other n c xs ne) ∙ none) x)
]

or_true : (a b : Bool) → b ≡ true → a || b ≡ true
or_true true b e = refl
or_true false b e = e

-- ---- the events between

module _ (m n : ℕ) (ne : m ≢ n) (second : Step) where
  abbrev Goal : List Event → Open → Type 0
  Goal es u = (s : Kept) (u' : Open) (s' : Kept) → Passes (es ++ on n (acted second) ∷ []) u s u' s' → Before m n u.slots → HasTurn m es

  at_last : (u : Open) (s : Kept) (u' : Open) (s' : Kept) → Passes (on n (acted second) ∷ []) u s u' s' → Before m n u.slots → ⊥
  at_last u s u' s' x b =
      let t = x.2.0.0 in
      not_first m n t.front t.slot t.back ne t.numbered t.waiting (subst (Before m n) t.was b)

  still : (k : ℕ) (P : Shown → Shown → Type 0) (stirs : Slot → Bool) (xs ys : List Slot) → ((c : Slot) → c.stirred ≡ true → stirs c ≡ true) → Changes k P stirs xs ys
      → Before m n xs → Before m n ys
  still k P stirs xs ys keeps y b =
      subst (Before m n) (sym y.is) (one_changed m n y.front y.slot _ y.back (sym y.numbered) (keeps y.slot) (subst (Before m n) y.was b))

  heard : (c : Slot) → c.stirred ≡ true → hears c ≡ true
  heard c e = or_true (listens c.conversation && is_told c.conversation) c.stirred e

  told : (text : Text) (c : Slot) → c.stirred ≡ true → sends (length text) c ≡ true
  told text c e = or_true (length (drop (length text) c.conversation.going) == 0) c.stirred e

  others_turn : (k : ℕ) (found : Step) (P : Shown → Shown → Type 0) (xs ys : List Slot) → k ≢ m → TakesTurn k found P xs ys → Before m n xs → Before m n ys
  others_turn k found P xs ys other y b =
      subst (Before m n) (sym y.is)
      (more_behind m n (y.front ++ y.back) _ (one_less m n y.front y.slot y.back (λ e. other (sym y.numbered ∙ e)) (subst (Before m n) y.was b)))

  between : (es : List Event) (u : Open) → Goal es u
  between [] u s u' s' x b = absurd (at_last u s u' s' x b)
  between (on k (came bytes) ∷ es) u s u' s' x b = between es x.0 x.1 u' s' x.3 (still k _ _ u.slots x.0.slots heard x.2.0.0 b)
  between (on k ended ∷ es) u s u' s' x b = between es x.0 x.1 u' s' x.3 (still k _ _ u.slots x.0.slots heard x.2.0.0 b)
  between (on k (sent text) ∷ es) u s u' s' x b = between es x.0 x.1 u' s' x.3 (still k _ _ u.slots x.0.slots (told text) x.2.0.0 b)
  between (on k (acted found) ∷ es) u s u' s' x b = elim (cases_eq k m) [
    | inl same ↦ inl same
    | inr other ↦ inr (between es x.0 x.1 u' s' x.3 (others_turn k found _ u.slots x.0.slots other x.2.0.0 b))
  ]
  between (goes k ∷ es) u s u' s' x b = elim (cases_eq k m) [
    | inl same ↦ inl same
    | inr other ↦ inr (
        between es x.0 x.1 u' s' x.3
        (subst (Before m n) (sym x.2.0.is)
        (one_less m n x.2.0.front x.2.0.slot x.2.0.back (λ e. other (sym x.2.0.numbered ∙ e)) (subst (Before m n) x.2.0.was b))))
  ]
  between (comes k ∷ es) u s u' s' x b =
      between es x.0 x.1 u' s' x.3
      (subst (λ (v : Open). Before m n v.slots) (sym x.2.0.is) (more_behind m n u.slots _ b))
  between (unstages k ∷ es) u s u' s' x b =
      between es x.0 x.1 u' s' x.3 (subst (λ (v : Open). Before m n v.slots) (sym x.2.0) b)
  between (elsewhere step outcome ∷ es) u s u' s' x b =
      between es x.0 x.1 u' s' x.3 (subst (λ (v : Open). Before m n v.slots) (sym x.2.0) b)

pub turn_between : (events : List Event) (settings : Settings) (bounds : Bounds) (s : Kept) (u : Open) (t : Kept) → Passes events (none settings bounds) s u t
    → (n m : ℕ) (es : List Event) (u' : Open) (t' : Kept) → m ≢ n → IsStirred m u.slots → TurnsTwice n es u t u' t' → HasTurn m es
turn_between events settings bounds s u t p n m es u' t' ne waits x =
    let y = x.2 in
    let f = y.2.0.0 in
    let all = numbers_after events (none settings bounds) s u t p tt in
    let r = among u.next f.front f.slot f.back (subst (AreNumbered u.next) f.was all) in
    let absent : conversation_of n (f.front ++ f.back) ≡ None =
    subst (λ (k : ℕ). conversation_of k (f.front ++ f.back) ≡ None) f.numbered (skip f.slot.number f.front f.back r.before ∙ r.behind) in
    between m n ne x.1 es y.0 y.1 u' t' y.3
    (subst (Before m n) (sym f.is)
    (more_behind m n (f.front ++ f.back) _
    (none_of_n m n (f.front ++ f.back) absent (but_one m n f.front f.slot f.back f.numbered ne (subst (IsStirred m) f.was waits)))))
