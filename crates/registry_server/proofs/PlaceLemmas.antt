-- Where a connection stands, and what a change of it comes to.
use Rattle.std.proofs.Common.{◌≡◌, ◌≢◌, ℕ, suc, ◌+◌, ◌-◌, ◌<◌, ◌≤◌, Bool, true, false, List, [], ◌∷◌, ◌++◌, length, take, drop, set, get_or, Option, Some, None, All, refl, sym, ap, ◌∙◌, subst, append-nil, drop-cons, drop_of_length-le, arith}
use Rattle.std.proofs.lemmas.List.{set_split, set-get_or, map-append, map-set, set_at, get_or_at, length-map, length-append, length-take-le, take_all, get_or-map, get_or-set_same, length-set, length-drop, take_at, take-map, drop-map}
use Rattle.std.specs.List.{remove}
use Rattle.std.specs.Prelude.{IfSome, IfNone}
use Rattle.registry_conversation.specs.declared.phase.Step.{Step}
use Rattle.registry_conversation.specs.Shown.{Shown, begun}
use Rattle.registry_server.specs.declared.bounds.Bounds.{Bounds}
use Rattle.registry_server.specs.declared.connection.Connection.{Connection}
use Rattle.registry_server.specs.Open.{Slot, conversation_of, are_numbered, Opens, Only, Changes, Closes, TakesTurn, Becomes, FoundAt, LastAt, StirredAt, goes_on}
use Rattle.registry_server.specs.Slots.{slot_of, slots_of, IsMoved}
use Rattle.registry_server.proofs.SlotLemmas.{of_same, of_other, skip, without, exchanged, AreNumbered, Among, among, fresh, pushed, in_place, to_back, opened, closed}
use Rattle.registry_model.specs.declared.settings.Settings.{Settings}

cut : (i : ℕ) (xs : List Connection) (x : Connection) → i < length xs → x ≡ get_or xs i x
    → slots_of xs ≡ slots_of (take i xs) ++ slot_of x ∷ slots_of (drop (suc i) xs)
cut i xs x lt is =
    ap slots_of (sym (set-get_or xs i x) ∙ set_split xs i (get_or xs i x) lt)
    ∙ map-append slot_of (take i xs) (get_or xs i x ∷ drop (suc i) xs)
    ∙ ap (λ (y : Connection). slots_of (take i xs) ++ slot_of y ∷ slots_of (drop (suc i) xs)) (sym is)

place : (i : ℕ) (xs : List Connection) → i < length xs → length (slots_of (take i xs)) ≡ i
place i xs lt = length-map (take i xs) slot_of ∙ length-take-le i xs (omega arith)

-- from the back: the rest is behind the one before this place
one_more : (i : ℕ) (xs : List Connection) (x : Connection) → 0 < i → i ≤ length xs → x ≡ get_or xs (i - 1) x
    → slots_of (drop (i - 1) xs) ≡ slot_of x ∷ slots_of (drop i xs)
one_more i xs x some le is =
    let back : suc (i - 1) ≡ i = omega arith in
    ap slots_of (drop-cons xs (i - 1) x (omega arith)
    ∙ ap (λ (y : Connection). y ∷ drop (suc (i - 1)) xs) (sym is)
    ∙ ap (λ (k : ℕ). x ∷ drop k xs) back)

pub found_last : (n i : ℕ) (xs : List Connection) (x : Connection) → 0 < i → i ≤ length xs → x ≡ get_or xs (i - 1) x → x.number ≡ n
    → conversation_of n (slots_of (drop i xs)) ≡ None → LastAt n (i - 1) (slots_of xs)
found_last n i xs x some le is e none =
    let lt : i - 1 < length xs = omega (arith, some, le) in
    let back : suc (i - 1) ≡ i = omega (arith, some) in
    record {
      front = slots_of (take (i - 1) xs);
      slot = slot_of x;
      back = slots_of (drop (suc (i - 1)) xs);
      was = cut (i - 1) xs x lt is;
      place = place (i - 1) xs lt;
      numbered = e;
      last = subst (λ (k : ℕ). conversation_of n (slots_of (drop k xs)) ≡ None) (sym back) none;
    }

pub not_last : (n i : ℕ) (xs : List Connection) (x : Connection) → 0 < i → i ≤ length xs → x ≡ get_or xs (i - 1) x → x.number ≢ n
    → conversation_of n (slots_of (drop i xs)) ≡ None → conversation_of n (slots_of (drop (i - 1) xs)) ≡ None
not_last n i xs x some le is ne none =
    ap (conversation_of n) (one_more i xs x some le is) ∙ of_other n (slot_of x) (slots_of (drop i xs)) ne ∙ none

pub none_at_end : (n : ℕ) (xs : List Connection) → conversation_of n (slots_of (drop (length xs) xs)) ≡ None
none_at_end n xs = ap (λ (ys : List Connection). conversation_of n (slots_of ys)) (drop_of_length-le xs {i = length xs} (omega arith))

-- where each number is one connection's, the last of it is the first
pub first_of_last : (next n at : ℕ) (slots : List Slot) → are_numbered next slots ≡ true → LastAt n at slots → FoundAt n at slots
first_of_last next n at slots h f = record {
  front = f.front;
  slot = f.slot;
  back = f.back;
  was = f.was;
  place = f.place;
  numbered = f.numbered;
  first = subst (λ (k : ℕ). conversation_of k f.front ≡ None) f.numbered
      (among next f.front f.slot f.back (subst (AreNumbered next) f.was (opened next slots h))).before;
}

pub stirred : (i : ℕ) (xs : List Connection) (x : Connection) → i < length xs → x ≡ get_or xs i x → x.stirred ≡ true
    → All (λ (s : Slot). s.stirred ≡ false) (slots_of (take i xs)) → StirredAt i (slots_of xs)
stirred i xs x lt is e all = record {
  front = slots_of (take i xs);
  slot = slot_of x;
  back = slots_of (drop (suc i) xs);
  was = cut i xs x lt is;
  place = place i xs lt;
  waiting = all;
  stirred = e;
}

pub all_idle : (i : ℕ) (xs : List Connection) → length xs ≤ i → All (λ (s : Slot). s.stirred ≡ false) (slots_of (take i xs))
    → All (λ (s : Slot). s.stirred ≡ false) (slots_of xs)
all_idle i xs le all = subst (λ (ys : List Connection). All (λ (s : Slot). s.stirred ≡ false) (slots_of ys)) (take_all i xs le) all

-- the same of the list that was searched
found_on : (next n at : ℕ) (xs ys : List Connection) → xs ≡ ys → are_numbered next (slots_of ys) ≡ true → LastAt n at (slots_of xs) → FoundAt n at (slots_of ys)
found_on next n at xs ys e h f = first_of_last next n at (slots_of ys) h (subst (λ (zs : List Connection). LastAt n at (slots_of zs)) e f)

pub found_if : (next n : ℕ) (o : Option ℕ) (xs ys : List Connection) → xs ≡ ys → are_numbered next (slots_of ys) ≡ true
    → IfSome o (λ at. LastAt n at (slots_of xs)) → IfSome o (λ at. FoundAt n at (slots_of ys))
found_if next n None xs ys e h f = tt
found_if next n (Some at) xs ys e h f = found_on next n at xs ys e h f

pub none_if : (n : ℕ) (o : Option ℕ) (xs ys : List Connection) → xs ≡ ys → IfNone o (conversation_of n (slots_of xs) ≡ None)
    → IfNone o (conversation_of n (slots_of ys) ≡ None)
none_if n o xs ys e f = subst (λ (zs : List Connection). IfNone o (conversation_of n (slots_of zs) ≡ None)) e f

pub stirred_on : (at : ℕ) (xs ys : List Connection) → xs ≡ ys → StirredAt at (slots_of xs) → StirredAt at (slots_of ys)
stirred_on at xs ys e f = subst (λ (zs : List Connection). StirredAt at (slots_of zs)) e f

pub idle_on : (xs ys : List Connection) → xs ≡ ys → All (λ (s : Slot). s.stirred ≡ false) (slots_of xs) → All (λ (s : Slot). s.stirred ≡ false) (slots_of ys)
idle_on xs ys e f = subst (λ (zs : List Connection). All (λ (s : Slot). s.stirred ≡ false) (slots_of zs)) e f

-- ---- one connection changes

pub within_found : (at : ℕ) (xs : List Connection) (front back : List Slot) (slot : Slot) → slots_of xs ≡ front ++ slot ∷ back → length front ≡ at → at < length xs
within_found at xs front back slot was place =
    omega (arith, place, length-append front (slot ∷ back), ap length was, length-map xs slot_of)

-- what the slot is
pub slot_is : (at : ℕ) (xs : List Connection) (x : Connection) (front back : List Slot) (slot : Slot) → at < length xs → x ≡ get_or xs at x
    → slots_of xs ≡ front ++ slot ∷ back → length front ≡ at → slot ≡ slot_of x
slot_is at xs x front back slot lt is was place =
    sym (get_or_at front slot back slot at place)
    ∙ ap (λ (ys : List Slot). get_or ys at slot) (sym was)
    ∙ get_or-map slot_of xs at x slot lt
    ∙ ap slot_of (sym is)

pub set_is : (at : ℕ) (xs : List Connection) (y : Connection) (front back : List Slot) (slot : Slot)
    → slots_of xs ≡ front ++ slot ∷ back → length front ≡ at → slots_of (set xs at y) ≡ front ++ slot_of y ∷ back
set_is at xs y front back slot was place =
    map-set slot_of xs at y ∙ ap (λ (ys : List Slot). set ys at (slot_of y)) was ∙ set_at front slot back (slot_of y) at place

changes_one : (n : ℕ) (front : List Slot) (c c' : Slot) (back : List Slot) → c.number ≡ n → c'.number ≡ n → conversation_of n front ≡ None
    → Only n (Some c.conversation) (Some c'.conversation) (front ++ c ∷ back) (front ++ c' ∷ back)
changes_one n front c c' back e e' none = record {
  was = skip n front (c ∷ back) none ∙ of_same n c back e;
  is = skip n front (c' ∷ back) none ∙ of_same n c' back e';
  others = λ other ne. exchanged other front c c' back (λ f. ne (sym f ∙ e)) (λ f. ne (sym f ∙ e'));
}

only_on : {n : ℕ} {a b : Option Shown} {old new old' new' : List Slot} → old ≡ old' → new ≡ new' → Only n a b old' new' → Only n a b old new
only_on {n} {a} {b} {old} {new} {old'} {new'} e f x =
    subst (λ (xs : List Slot). Only n a b xs new) (sym e) (subst (λ (ys : List Slot). Only n a b old' ys) (sym f) x)

-- after the write of a changed connection
pub changed : (n at : ℕ) (P : Shown → Shown → Type 0) (stirs : Slot → Bool) (xs : List Connection) (x y : Connection) → x ≡ get_or xs at x
    → FoundAt n at (slots_of xs) → Becomes P (stirs (slot_of x)) (slot_of x) (slot_of y) → Changes n P stirs (slots_of xs) (slots_of (set xs at y))
changed n at P stirs xs x y is f b =
    let lt = within_found at xs f.front f.back f.slot f.was f.place in
    let e = slot_is at xs x f.front f.back f.slot lt is f.was f.place in
    let w = set_is at xs y f.front f.back f.slot f.was f.place in
    let same = ap (λ (s : Slot). s.number) b.1 ∙ ap (λ (s : Slot). s.number) (sym e) ∙ f.numbered in
    let y_is = b.1 ∙ (λ i. record { number = (ap (λ (s : Slot). s.number) (sym e) ∙ f.numbered) i; conversation = (slot_of y).conversation; stirred = ap stirs (sym e) i }) in
    record {
      front = f.front;
      slot = f.slot;
      back = f.back;
      conversation = (slot_of y).conversation;
      was = f.was;
      numbered = f.numbered;
      is = w ∙ ap (λ (s : Slot). f.front ++ s ∷ f.back) y_is;
      changes = subst (λ (s : Slot). P s.conversation (slot_of y).conversation) (sym e) b.0;
      only = only_on f.was w (changes_one n f.front f.slot (slot_of y) f.back f.numbered same f.first);
    }

pub changed_numbers : (next n at : ℕ) (xs : List Connection) (x y : Connection) → x ≡ get_or xs at x
    → FoundAt n at (slots_of xs) → y.number ≡ x.number → are_numbered next (slots_of xs) ≡ true → are_numbered next (slots_of (set xs at y)) ≡ true
changed_numbers next n at xs x y is f same h =
    let lt = within_found at xs f.front f.back f.slot f.was f.place in
    let e = slot_is at xs x f.front f.back f.slot lt is f.was f.place in
    subst (λ (ys : List Slot). are_numbered next ys ≡ true) (sym (set_is at xs y f.front f.back f.slot f.was f.place))
    (closed next (f.front ++ slot_of y ∷ f.back)
    (in_place next f.front f.slot (slot_of y) f.back (subst (AreNumbered next) f.was (opened next (slots_of xs) h)) (same ∙ ap (λ (s : Slot). s.number) (sym e))))

-- a connection that shows the same makes no difference
pub unchanged : (at : ℕ) (xs : List Connection) (x y : Connection) → x ≡ get_or xs at x → slot_of y ≡ slot_of x → slots_of (set xs at y) ≡ slots_of xs
unchanged at xs x y is e =
    map-set slot_of xs at y
    ∙ ap (λ (s : Slot). set (slots_of xs) at s) (e ∙ ap slot_of is)
    ∙ sym (map-set slot_of xs at (get_or xs at x))
    ∙ ap slots_of (set-get_or xs at x)

-- what was found is what stands under the number
pub found_there : (n at : ℕ) (slots : List Slot) (f : FoundAt n at slots) → conversation_of n slots ≡ Some f.slot.conversation
found_there n at slots f = ap (conversation_of n) f.was ∙ skip n f.front (f.slot ∷ f.back) f.first ∙ of_same n f.slot f.back f.numbered

-- what is found under the number
pub found_is : (n at : ℕ) (xs : List Connection) (x : Connection) → x ≡ get_or xs at x → FoundAt n at (slots_of xs)
    → conversation_of n (slots_of xs) ≡ Some (slot_of x).conversation
found_is n at xs x is f =
    ap (conversation_of n) f.was
    ∙ skip n f.front (f.slot ∷ f.back) f.first
    ∙ of_same n f.slot f.back f.numbered
    ∙ ap (λ (s : Slot). Some s.conversation) (slot_is at xs x f.front f.back f.slot (within_found at xs f.front f.back f.slot f.was f.place) is f.was f.place)

-- what is found there after the write of a changed connection
pub changed_is : (n at : ℕ) (xs : List Connection) (x y : Connection) → x ≡ get_or xs at x → FoundAt n at (slots_of xs) → y.number ≡ x.number
    → conversation_of n (slots_of (set xs at y)) ≡ Some (slot_of y).conversation
changed_is n at xs x y is f same =
    let lt = within_found at xs f.front f.back f.slot f.was f.place in
    let e = slot_is at xs x f.front f.back f.slot lt is f.was f.place in
    ap (conversation_of n) (set_is at xs y f.front f.back f.slot f.was f.place)
    ∙ skip n f.front (slot_of y ∷ f.back) f.first
    ∙ of_same n (slot_of y) f.back (same ∙ ap (λ (s : Slot). s.number) (sym e) ∙ f.numbered)

-- ---- one connection goes, or goes behind the others

removed : (front : List Slot) (c : Slot) (back : List Slot) → remove (front ++ c ∷ back) (length front) ≡ front ++ back
removed [] c back = refl
removed (x ∷ front) c back = ap (λ (ys : List Slot). x ∷ ys) (removed front c back)

pub slots_without : (at : ℕ) (xs : List Connection) (front back : List Slot) (slot : Slot) → slots_of xs ≡ front ++ slot ∷ back → length front ≡ at
    → slots_of (remove xs at) ≡ front ++ back
slots_without at xs front back slot was place =
    map-append slot_of (take at xs) (drop (suc at) xs)
    ∙ ap (λ (ys : List Slot). ys ++ slots_of (drop (suc at) xs)) (sym (take-map slot_of at xs))
    ∙ ap (λ (ys : List Slot). take at (slots_of xs) ++ ys) (sym (drop-map slot_of (suc at) xs))
    ∙ ap (λ (ys : List Slot). remove ys at) was
    ∙ ap (λ (k : ℕ). remove (front ++ slot ∷ back) k) (sym place)
    ∙ removed front slot back

pub closes : (next n at : ℕ) (xs zs : List Connection) → FoundAt n at (slots_of xs) → are_numbered next (slots_of xs) ≡ true → zs ≡ remove xs at
    → Closes n (slots_of xs) (slots_of zs)
closes next n at xs zs f h e =
    let w = ap slots_of e ∙ slots_without at xs f.front f.back f.slot f.was f.place in
    let r = among next f.front f.slot f.back (subst (AreNumbered next) f.was (opened next (slots_of xs) h)) in
    record {
      front = f.front;
      slot = f.slot;
      back = f.back;
      was = f.was;
      numbered = f.numbered;
      is = w;
      only = only_on f.was w (record {
        was = skip n f.front (f.slot ∷ f.back) f.first ∙ of_same n f.slot f.back f.numbered;
        is = skip n f.front f.back f.first ∙ subst (λ (k : ℕ). conversation_of k f.back ≡ None) f.numbered r.behind;
        others = λ other ne. sym (without other f.front f.slot f.back (λ g. ne (sym g ∙ f.numbered)));
      });
    }

pub closed_numbers : (next n at : ℕ) (xs zs : List Connection) → FoundAt n at (slots_of xs) → are_numbered next (slots_of xs) ≡ true → zs ≡ remove xs at
    → are_numbered next (slots_of zs) ≡ true
closed_numbers next n at xs zs f h e =
    subst (λ (ys : List Slot). are_numbered next ys ≡ true) (sym (ap slots_of e ∙ slots_without at xs f.front f.back f.slot f.was f.place))
    (closed next (f.front ++ f.back) (among next f.front f.slot f.back (subst (AreNumbered next) f.was (opened next (slots_of xs) h))).others)

pub moved : (at : ℕ) (xs zs : List Connection) (y : Connection) (front back : List Slot) (slot : Slot) → slots_of xs ≡ front ++ slot ∷ back → length front ≡ at
    → IsMoved at (set xs at y) zs → slots_of zs ≡ (front ++ back) ++ slot_of y ∷ []
moved at xs zs y front back slot was place m =
    ap slots_of (m y)
    ∙ map-append slot_of (remove (set xs at y) at) (get_or (set xs at y) at y ∷ [])
    ∙ ap (λ (ys : List Slot). ys ++ slot_of (get_or (set xs at y) at y) ∷ []) (slots_without at (set xs at y) front back (slot_of y) (set_is at xs y front back slot was place) place)
    ∙ ap (λ (z : Connection). (front ++ back) ++ slot_of z ∷ []) (get_or-set_same xs at y y (within_found at xs front back slot was place))

pub moved_length : (at : ℕ) (xs zs : List Connection) (y : Connection) → at < length xs → IsMoved at xs zs → length zs ≡ length xs
moved_length at xs zs y lt m =
    ap length (m y)
    ∙ length-append (remove xs at) (get_or xs at y ∷ [])
    ∙ omega (arith, length-append (take at xs) (drop (suc at) xs), length-take-le at xs (omega arith), length-drop (suc at) xs)

-- the vector holds what its slice became
pub moved_in : (at len : ℕ) (xs slice zs : List Connection) (y : Connection) → slice ≡ set xs at y → length slice ≡ len → at < length xs → IsMoved at slice zs
    → IsMoved at (set xs at y) (take len (zs ++ drop (length zs) (set xs at y)))
moved_in at len xs slice zs y e size lt m =
    let lt' : at < length slice = omega (arith, ap length e, length-set xs at y) in
    let whole = take_at zs (drop (length zs) (set xs at y)) len (moved_length at slice zs y lt' m ∙ size) in
    λ d. whole ∙ m d ∙ ap (λ (ys : List Connection). remove ys at ++ get_or ys at d ∷ []) e

pub turned_numbers : (next at : ℕ) (xs zs : List Connection) (x y : Connection) → x ≡ get_or xs at x → StirredAt at (slots_of xs) → y.number ≡ x.number
    → are_numbered next (slots_of xs) ≡ true → IsMoved at (set xs at y) zs → are_numbered next (slots_of zs) ≡ true
turned_numbers next at xs zs x y is f same h m =
    let lt = within_found at xs f.front f.back f.slot f.was f.place in
    let e = slot_is at xs x f.front f.back f.slot lt is f.was f.place in
    subst (λ (ys : List Slot). are_numbered next ys ≡ true) (sym (moved at xs zs y f.front f.back f.slot f.was f.place m))
    (closed next ((f.front ++ f.back) ++ slot_of y ∷ [])
    (to_back next f.front f.slot (slot_of y) f.back (subst (AreNumbered next) f.was (opened next (slots_of xs) h)) (same ∙ ap (λ (s : Slot). s.number) (sym e))))

turns_one : (next n : ℕ) (front : List Slot) (c c' : Slot) (back : List Slot) → Among next front c back → c.number ≡ n → c'.number ≡ n
    → Only n (Some c.conversation) (Some c'.conversation) (front ++ c ∷ back) ((front ++ back) ++ c' ∷ [])
turns_one next n front c c' back r e e' =
    let before = subst (λ (k : ℕ). conversation_of k front ≡ None) e r.before in
    let behind = subst (λ (k : ℕ). conversation_of k back ≡ None) e r.behind in
    record {
      was = skip n front (c ∷ back) before ∙ of_same n c back e;
      is = skip n (front ++ back) (c' ∷ []) (skip n front back before ∙ behind) ∙ of_same n c' [] e';
      others = λ other ne.
          without other (front ++ back) c' [] (λ f. ne (sym f ∙ e'))
          ∙ ap (conversation_of other) (append-nil (front ++ back))
          ∙ sym (without other front c back (λ f. ne (sym f ∙ e)));
    }

pub turned : (next n at : ℕ) (step : Step) (P : Shown → Shown → Type 0) (xs zs : List Connection) (x y : Connection) → x ≡ get_or xs at x → StirredAt at (slots_of xs)
    → are_numbered next (slots_of xs) ≡ true → n ≡ x.number → Becomes P (goes_on step (slot_of y).conversation) (slot_of x) (slot_of y) → IsMoved at (set xs at y) zs
    → TakesTurn n step P (slots_of xs) (slots_of zs)
turned next n at step P xs zs x y is f h number b m =
    let lt = within_found at xs f.front f.back f.slot f.was f.place in
    let e = slot_is at xs x f.front f.back f.slot lt is f.was f.place in
    let w = moved at xs zs y f.front f.back f.slot f.was f.place m in
    let slot_number = ap (λ (s : Slot). s.number) e ∙ sym number in
    let y_number = ap (λ (s : Slot). s.number) b.1 ∙ sym number in
    record {
      front = f.front;
      slot = f.slot;
      back = f.back;
      conversation = (slot_of y).conversation;
      was = f.was;
      waiting = f.waiting;
      stirred = f.stirred;
      numbered = slot_number;
      is = w ∙ ap (λ (s : Slot). (f.front ++ f.back) ++ s ∷ []) (b.1 ∙ (λ i. record { number = sym number i; conversation = (slot_of y).conversation; stirred = goes_on step (slot_of y).conversation }));
      changes = subst (λ (s : Slot). P s.conversation (slot_of y).conversation) (sym e) b.0;
      only = only_on f.was w (turns_one next n f.front f.slot (slot_of y) f.back
          (among next f.front f.slot f.back (subst (AreNumbered next) f.was (opened next (slots_of xs) h))) slot_number y_number);
    }

-- ---- one comes

pub came_slots : (xs zs : List Connection) (x : Connection) (n : ℕ) → zs ≡ xs ++ x ∷ [] → slot_of x ≡ record { number = n; conversation = begun; stirred = false }
    → slots_of zs ≡ slots_of xs ++ record { number = n; conversation = begun; stirred = false } ∷ []
came_slots xs zs x n e is = ap slots_of e ∙ map-append slot_of xs (x ∷ []) ∙ ap (λ (s : Slot). slots_of xs ++ s ∷ []) is

pub came_numbers : (xs zs : List Connection) (x : Connection) (n : ℕ) → zs ≡ xs ++ x ∷ [] → slot_of x ≡ record { number = n; conversation = begun; stirred = false }
    → are_numbered n (slots_of xs) ≡ true → are_numbered (n + 1) (slots_of zs) ≡ true
came_numbers xs zs x n e is h =
    let all = opened n (slots_of xs) h in
    subst (λ (ys : List Slot). are_numbered (n + 1) ys ≡ true) (sym (came_slots xs zs x n e is))
    (closed (n + 1) (slots_of xs ++ record { number = n; conversation = begun; stirred = false } ∷ [])
    (pushed n (n + 1) (slots_of xs) (record { number = n; conversation = begun; stirred = false }) all (omega arith) (omega arith) (fresh n (slots_of xs) n all (omega arith))))

pub opens : (settings : Settings) (bounds : Bounds) (n : ℕ) (xs zs : List Connection) (x : Connection) → length xs < bounds.at_once → are_numbered n (slots_of xs) ≡ true → zs ≡ xs ++ x ∷ []
    → slot_of x ≡ record { number = n; conversation = begun; stirred = false }
    → Opens n (record { slots = slots_of xs; next = n; bounds = bounds; settings = settings }) (record { slots = slots_of zs; next = n + 1; bounds = bounds; settings = settings })
opens settings bounds n xs zs x room h e is =
    let all = opened n (slots_of xs) h in
    let w = came_slots xs zs x n e is in
    let absent = fresh n (slots_of xs) n all (omega arith) in
    let c : Slot = record { number = n; conversation = begun; stirred = false } in
    record {
      number = refl;
      room = subst (λ (k : ℕ). k < bounds.at_once) (sym (length-map xs slot_of)) room;
      is = ap (λ (ys : List Slot). record { slots = ys; next = n + 1; bounds = bounds; settings = settings }) w;
      only = only_on refl w (record {
        was = absent;
        is = skip n (slots_of xs) (c ∷ []) absent ∙ of_same n c [] refl;
        others = λ other ne. without other (slots_of xs) c [] (λ f. ne (sym f)) ∙ ap (conversation_of other) (append-nil (slots_of xs));
      });
    }
