-- What connections hold together, and that it stays within its bounds.
use Rattle.std.proofs.Common.{◌≡◌, ℕ, ◌+◌, ◌-◌, ◌*◌, ◌<◌, ◌≤◌, ◌⊎◌, inl, inr, suc, ◌==◌, nat_le, if◌then◌else◌, Bool, true, false, max, List, [], ◌∷◌, ◌++◌, length, Option, Some, IfSome, refl, sym, ap, ◌∙◌, subst, length-append, arith}
use Rattle.std.proofs.lemmas.Bool.Decides.{nat_tests}
use Rattle.oci_types.specs.Text.{Text}
use Rattle.registry_model.specs.Keeping.{Kept}
use Rattle.registry_conversation.specs.Shown.{Shown, begun, coming_len}
use Rattle.registry_conversation.specs.declared.phase.Step.{Step}
use Rattle.registry_conversation.specs.ConversationEvents.{Event as Call, came, ended, acted, sent}
use Rattle.registry_server.specs.declared.bounds.Bounds.{Bounds}
use Rattle.registry_server.specs.Open.{Slot, Open, none, conversation_of, Changes, Closes, TakesTurn, Opens, Finishes, Sends, hears, goes_on}
use Rattle.registry_server.specs.Room.{share, largest, pool, most_coming, over, over_sum, over_most, most_beside, room_beside, room_in, room_of, coming_sum, IsWithin, HoldsWithin}
use Rattle.registry_server.specs.Events.{Event, comes, on, goes, unstages, elsewhere, SendsText, HappensOn, Happens, Passes}
use Rattle.registry_server.proofs.SlotLemmas.{of_same, skip, AreNumbered, among}
use Rattle.registry_server.proofs.TurnLemmas.{numbers_after}
use Rattle.registry_model.specs.declared.settings.Settings.{Settings}

-- ---- one of them, and the others

pub sum_at : (front : List Slot) (c : Slot) (back : List Slot) → over_sum (front ++ c ∷ back) ≡ over_sum front + (over c.conversation + over_sum back)
sum_at [] c back = omega arith
sum_at (x ∷ front) c back = omega (arith, sum_at front c back)

pub sum_without : (front back : List Slot) → over_sum (front ++ back) ≡ over_sum front + over_sum back
sum_without [] back = omega arith
sum_without (x ∷ front) back = omega (arith, sum_without front back)

most_at : (front : List Slot) (c : Slot) (back : List Slot) → over_most (front ++ c ∷ back) ≡ max (over_most front) (max (over c.conversation) (over_most back))
most_at [] c back = omega arith
most_at (x ∷ front) c back = omega (arith, most_at front c back)

most_without : (front back : List Slot) → over_most (front ++ back) ≡ max (over_most front) (over_most back)
most_without [] back = omega arith
most_without (x ∷ front) back = omega (arith, most_without front back)

most_of_sum : (xs : List Slot) → over_most xs ≤ over_sum xs
most_of_sum [] = omega arith
most_of_sum (x ∷ xs) = omega (arith, most_of_sum xs)

-- the numbers of a list in which one has its place
record Weighed (b : Bounds) (count sum most : ℕ) : Type 0 where
  few : count ≤ b.at_once
  each : most ≤ largest
  others : sum ≤ pool b + most

weighed : (b : Bounds) (front : List Slot) (c : Slot) (back : List Slot) → IsWithin b (front ++ c ∷ back)
    → Weighed b (length front + suc (length back)) (over_sum front + (over c.conversation + over_sum back))
    (max (over_most front) (max (over c.conversation) (over_most back)))
weighed b front c back w = record {
  few = subst (λ (k : ℕ). k ≤ b.at_once) (length-append front (c ∷ back)) w.few;
  each = subst (λ (k : ℕ). k ≤ largest) (most_at front c back) w.each;
  others = subst (λ (k : ℕ). k ≤ pool b + max (over_most front) (max (over c.conversation) (over_most back))) (sum_at front c back)
      (subst (λ (k : ℕ). over_sum (front ++ c ∷ back) ≤ pool b + k) (most_at front c back) w.others);
}

within_at : (b : Bounds) (front : List Slot) (c : Slot) (back : List Slot)
    → Weighed b (length front + suc (length back)) (over_sum front + (over c.conversation + over_sum back))
    (max (over_most front) (max (over c.conversation) (over_most back)))
    → IsWithin b (front ++ c ∷ back)
within_at b front c back w = record {
  few = subst (λ (k : ℕ). k ≤ b.at_once) (sym (length-append front (c ∷ back))) w.few;
  each = subst (λ (k : ℕ). k ≤ largest) (sym (most_at front c back)) w.each;
  others = subst (λ (k : ℕ). k ≤ pool b + over_most (front ++ c ∷ back)) (sym (sum_at front c back))
      (subst (λ (k : ℕ). over_sum front + (over c.conversation + over_sum back) ≤ pool b + k) (sym (most_at front c back)) w.others);
}

-- numbers: one of them falls
fallen : (p f b x x' mf mb : ℕ) → x' ≤ x → f + (x + b) ≤ p + max mf (max x mb) → f + (x' + b) ≤ p + max mf (max x' mb)
fallen p f b x x' mf mb le h = omega arith

-- numbers: the others are no more than the pool
risen : (p f b x' mf mb : ℕ) → f + b ≤ p → f + (x' + b) ≤ p + max mf (max x' mb)
risen p f b x' mf mb h = omega arith

-- one holds no more than it held
pub fewer : (b : Bounds) (front : List Slot) (c c' : Slot) (back : List Slot) → coming_len c'.conversation ≤ coming_len c.conversation
    → IsWithin b (front ++ c ∷ back) → IsWithin b (front ++ c' ∷ back)
fewer b front c c' back le w =
    let h = weighed b front c back w in
    let x : over c'.conversation ≤ over c.conversation = omega (arith, le) in
    within_at b front c' back (record {
      few = h.few;
      each = omega (arith, h.each, x);
      others = fallen (pool b) (over_sum front) (over_sum back) (over c.conversation) (over c'.conversation) (over_most front) (over_most back) x h.others;
    })

-- what a connection may hold
beside_cases : (others p : ℕ) → ((others ≤ p) × (most_beside others p ≡ share + largest)) ⊎ ((p < others) × (most_beside others p ≡ share))
beside_cases others p = by_test (nat_le others p) refl
  where
    by_test : (t : Bool) → nat_le others p ≡ t → ((others ≤ p) × (most_beside others p ≡ share + largest)) ⊎ ((p < others) × (most_beside others p ≡ share))
    by_test true e = inl (grind (arith, nat_tests), ap (λ (t : Bool). if t then share + largest else share) e)
    by_test false e = inr (grind (arith, nat_tests), ap (λ (t : Bool). if t then share + largest else share) e)

-- one was given no more than there was room for
pub given_within : (b : Bounds) (k : ℕ) (front : List Slot) (c c' : Slot) (back : List Slot) → coming_len c'.conversation ≤ coming_len c.conversation + k
    → k ≤ room_beside (over_sum (front ++ c ∷ back)) (coming_len c.conversation) (pool b)
    → IsWithin b (front ++ c ∷ back) → IsWithin b (front ++ c' ∷ back)
given_within b k front c c' back le room w = elim (beside_cases (over_sum (front ++ c ∷ back) - over c.conversation) (pool b)) [
  | inl x ↦
      let h = weighed b front c back w in
      let there : over_sum front + over_sum back ≤ pool b = omega (arith, x.0, sum_at front c back) in
      let more : over c'.conversation ≤ max largest (over c.conversation) = omega (arith, le, room, x.1) in
      within_at b front c' back (record {
        few = h.few;
        each = omega (arith, h.each, more);
        others = risen (pool b) (over_sum front) (over_sum back) (over c'.conversation) (over_most front) (over_most back) there;
      })
  | inr x ↦
      let h = weighed b front c back w in
      let more : over c'.conversation ≤ over c.conversation = omega (arith, le, room, x.1) in
      within_at b front c' back (record {
        few = h.few;
        each = omega (arith, h.each, more);
        others = fallen (pool b) (over_sum front) (over_sum back) (over c.conversation) (over c'.conversation) (over_most front) (over_most back) more h.others;
      })
]

-- one is gone
pub without_one : (b : Bounds) (front : List Slot) (c : Slot) (back : List Slot) → IsWithin b (front ++ c ∷ back) → IsWithin b (front ++ back)
without_one b front c back w =
    let h = weighed b front c back w in
    record {
      few = omega (arith, h.few, length-append front back);
      each = omega (arith, h.each, most_without front back);
      others = omega (arith, h.others, most_without front back, sum_without front back, most_of_sum front, most_of_sum back);
    }

-- one stands behind the others
one_behind : (b : Bounds) (xs : List Slot) (c : Slot) → length xs < b.at_once → over_most xs ≤ largest → over c.conversation ≤ largest
    → over_sum xs + over c.conversation ≤ pool b + max (over_most xs) (over c.conversation) → IsWithin b (xs ++ c ∷ [])
one_behind b xs c few each small others = record {
  few = omega (arith, few, length-append xs (c ∷ []));
  each = omega (arith, small, each, most_at xs c []);
  others = omega (arith, others, most_at xs c [], sum_at xs c []);
}

pub one_comes : (b : Bounds) (xs : List Slot) (c : Slot) → length xs < b.at_once → coming_len c.conversation ≡ 0 → IsWithin b xs → IsWithin b (xs ++ c ∷ [])
one_comes b xs c few none w =
    let nothing : over c.conversation ≡ 0 = omega (arith, none) in
    one_behind b xs c few w.each (omega (arith, nothing)) (omega (arith, nothing, w.others))

pub goes_behind : (b : Bounds) (front : List Slot) (c c' : Slot) (back : List Slot) → coming_len c'.conversation ≤ coming_len c.conversation
    → IsWithin b (front ++ c ∷ back) → IsWithin b ((front ++ back) ++ c' ∷ [])
goes_behind b front c c' back le w =
    let h = weighed b front c back w in
    let x : over c'.conversation ≤ over c.conversation = omega (arith, le) in
    let f = fallen (pool b) (over_sum front) (over_sum back) (over c.conversation) (over c'.conversation) (over_most front) (over_most back) x h.others in
    one_behind b (front ++ back) c'
    (omega (arith, h.few, length-append front back))
    (omega (arith, h.each, most_without front back))
    (omega (arith, h.each, x))
    (omega (arith, f, most_without front back, sum_without front back))

-- ---- the calls

pub within_changed : (b : Bounds) (n : ℕ) (P : Shown → Shown → Type 0) (stirs : Slot → Bool) (xs ys : List Slot)
    → ((c c' : Shown) → P c c' → coming_len c' ≤ coming_len c) → Changes n P stirs xs ys → IsWithin b xs → IsWithin b ys
within_changed b n P stirs xs ys size y w =
    subst (IsWithin b) (sym y.is)
    (fewer b y.front y.slot (record { number = n; conversation = y.conversation; stirred = stirs y.slot }) y.back (size y.slot.conversation y.conversation y.changes)
    (subst (IsWithin b) y.was w))

-- what was received fits
pub within_received : (u : Open) (n : ℕ) (bytes : Text) (P : Shown → Shown → Type 0) (ys : List Slot)
    → ((c c' : Shown) → P c c' → coming_len c' ≤ coming_len c + length bytes) → Changes n P hears u.slots ys → length bytes ≤ room_of n u
    → IsWithin u.bounds u.slots → IsWithin u.bounds ys
within_received u n bytes P ys size y room w =
    subst (IsWithin u.bounds) (sym y.is)
    (given_within u.bounds (length bytes) y.front y.slot (record { number = n; conversation = y.conversation; stirred = hears y.slot }) y.back
    (size y.slot.conversation y.conversation y.changes)
    (subst (λ (k : ℕ). length bytes ≤ k) (ap (λ (xs : List Slot). room_beside (over_sum xs) (coming_len y.slot.conversation) (pool u.bounds)) y.was)
    (subst (λ (o : Option Shown). length bytes ≤ room_in o u) y.only.was room))
    (subst (IsWithin u.bounds) y.was w))

pub within_turned : (b : Bounds) (n : ℕ) (found : Step) (P : Shown → Shown → Type 0) (xs ys : List Slot)
    → ((c c' : Shown) → P c c' → coming_len c' ≤ coming_len c) → TakesTurn n found P xs ys → IsWithin b xs → IsWithin b ys
within_turned b n found P xs ys size y w =
    subst (IsWithin b) (sym y.is)
    (goes_behind b y.front y.slot (record { number = n; conversation = y.conversation; stirred = goes_on found y.conversation }) y.back
    (size y.slot.conversation y.conversation y.changes) (subst (IsWithin b) y.was w))

pub within_closed : (b : Bounds) (n : ℕ) (xs ys : List Slot) → Closes n xs ys → IsWithin b xs → IsWithin b ys
within_closed b n xs ys y w = subst (IsWithin b) (sym y.is) (without_one b y.front y.slot y.back (subst (IsWithin b) y.was w))

pub within_opened : (n : ℕ) (u u' : Open) → Opens n u u' → IsWithin u.bounds u.slots → IsWithin u'.bounds u'.slots
within_opened n u u' y w =
    subst (λ (v : Open). IsWithin v.bounds v.slots) (sym y.is)
    (one_comes u.bounds u.slots (record { number = n; conversation = begun; stirred = false }) y.room refl w)

pub none_within : (b : Bounds) → IsWithin b []
none_within b = record { few = omega arith; each = omega arith; others = omega arith }

-- ---- all events

pub as_many_ended : (c c' : Shown) → Finishes c c' → coming_len c' ≤ coming_len c
as_many_ended c c' x = omega (arith, ap coming_len x)

pub as_many_told : (count : ℕ) (c c' : Shown) → Sends count c c' → coming_len c' ≤ coming_len c
as_many_told count c c' x = omega (arith, ap coming_len x.1)

as_many_sent : (text : Text) (c c' : Shown) → SendsText text c c' → coming_len c' ≤ coming_len c
as_many_sent text c c' x = omega (arith, ap coming_len x.1)

within_call : (n : ℕ) (call : Call) (u : Open) (s : Kept) (u' : Open) (s' : Kept) → HappensOn n call u s u' s' → IsWithin u.bounds u.slots
    → IsWithin u.bounds u'.slots
within_call n (came bytes) u s u' s' x w = within_received u n bytes _ u'.slots (λ c c' h. h.2) x.0 x.1 w
within_call n ended u s u' s' x w = within_changed u.bounds n _ _ u.slots u'.slots (λ c c' h. as_many_ended c c' h) x.0 w
within_call n (acted found) u s u' s' x w = within_turned u.bounds n found _ u.slots u'.slots (λ c c' h. h.1) x.0 w
within_call n (sent text) u s u' s' x w = within_changed u.bounds n _ _ u.slots u'.slots (λ c c' h. as_many_sent text c c' h) x.0 w

within_on : (e : Event) (u : Open) (s : Kept) (u' : Open) (s' : Kept) → Happens e u s u' s' → IsWithin u.bounds u.slots
    → (u'.bounds ≡ u.bounds) × IsWithin u'.bounds u'.slots
within_on (comes n) u s u' s' x w = (ap (λ (v : Open). v.bounds) x.0.is, within_opened n u u' x.0 w)
within_on (on n call) u s u' s' x w =
    let same : u'.bounds ≡ u.bounds = ap (λ (v : Open). v.bounds) x.1 in
    (same, subst (λ (b : Bounds). IsWithin b u'.slots) (sym same) (within_call n call u s u' s' x.0 w))
within_on (goes n) u s u' s' x w =
    let same : u'.bounds ≡ u.bounds = ap (λ (v : Open). v.bounds) x.1 in
    (same, subst (λ (b : Bounds). IsWithin b u'.slots) (sym same) (within_closed u.bounds n u.slots u'.slots x.0 w))
within_on (unstages n) u s u' s' x w =
    (ap (λ (v : Open). v.bounds) x.0, subst (λ (v : Open). IsWithin v.bounds v.slots) (sym x.0) w)
within_on (elsewhere step outcome) u s u' s' x w =
    (ap (λ (v : Open). v.bounds) x.0, subst (λ (v : Open). IsWithin v.bounds v.slots) (sym x.0) w)

within_after : (es : List Event) (u : Open) (s : Kept) (u' : Open) (s' : Kept) → Passes es u s u' s' → IsWithin u.bounds u.slots
    → (u'.bounds ≡ u.bounds) × IsWithin u'.bounds u'.slots
within_after [] u s u' s' x w = (ap (λ (v : Open). v.bounds) x.0, subst (λ (v : Open). IsWithin v.bounds v.slots) (sym x.0) w)
within_after (e ∷ es) u s u' s' x w =
    let one = within_on e u s x.0 x.1 x.2 w in
    let all = within_after es x.0 x.1 u' s' x.3 one.1 in
    (all.0 ∙ one.0, all.1)

-- ---- what that comes to

sum_of_shares : (xs : List Slot) → coming_sum xs ≤ length xs * share + over_sum xs
sum_of_shares [] = omega arith
sum_of_shares (x ∷ xs) = omega (arith, sum_of_shares xs)

together : (b : Bounds) (xs : List Slot) → IsWithin b xs → coming_sum xs ≤ most_coming b
together b xs w = omega (arith, sum_of_shares xs, w.few, w.each, w.others)

each_of : (n : ℕ) (xs : List Slot) → over_most xs ≤ largest → IfSome (conversation_of n xs) (λ c. coming_len c ≤ share + largest)
each_of n [] h = tt
each_of n (x ∷ xs) h = by_test (x.number == n) (each_of n xs (omega (arith, h)))
  where
    by_test : (t : Bool) → IfSome (conversation_of n xs) (λ c. coming_len c ≤ share + largest)
        → IfSome (if t then Some x.conversation else conversation_of n xs) (λ c. coming_len c ≤ share + largest)
    by_test true r = omega (arith, h)
    by_test false r = r

-- one that holds the most above its share
record Heaviest (xs : List Slot) : Type 0 where
  front : List Slot
  slot : Slot
  back : List Slot
  is : xs ≡ front ++ slot ∷ back
  most : over slot.conversation ≡ over_most xs

heaviest : (x : Slot) (xs : List Slot) → Heaviest (x ∷ xs)
heaviest x [] = record { front = []; slot = x; back = []; is = refl; most = omega arith }
heaviest x (y ∷ xs) = by_test (heaviest y xs) (nat_le (over_most (y ∷ xs)) (over x.conversation)) refl
  where
    by_test : Heaviest (y ∷ xs) → (t : Bool) → nat_le (over_most (y ∷ xs)) (over x.conversation) ≡ t → Heaviest (x ∷ y ∷ xs)
    by_test r true e =
        let le : over_most (y ∷ xs) ≤ over x.conversation = grind (arith, nat_tests) in
        record { front = []; slot = x; back = y ∷ xs; is = refl; most = omega (arith, le) }
    by_test r false e =
        let lt : over x.conversation < over_most (y ∷ xs) = grind (arith, nat_tests) in
        record { front = x ∷ r.front; slot = r.slot; back = r.back; is = ap (λ (zs : List Slot). x ∷ zs) r.is; most = omega (arith, lt, r.most) }

one_may : (u : Open) (r : Heaviest u.slots) → AreNumbered u.next u.slots → IsWithin u.bounds u.slots
    → (n : ℕ) × (c : Shown) × (conversation_of n u.slots ≡ Some c) × (room_of n u + coming_len c ≡ share + largest)
one_may u r numbered w =
    let c = r.slot.conversation in
    let a = among u.next r.front r.slot r.back (subst (AreNumbered u.next) r.is numbered) in
    let there : conversation_of r.slot.number u.slots ≡ Some c =
    ap (conversation_of r.slot.number) r.is ∙ skip r.slot.number r.front (r.slot ∷ r.back) a.before ∙ of_same r.slot.number r.slot r.back refl in
    let few : over_sum u.slots - over c ≤ pool u.bounds = omega (arith, w.others, r.most) in
    let most : most_beside (over_sum u.slots - over c) (pool u.bounds) ≡ share + largest =
    elim (beside_cases (over_sum u.slots - over c) (pool u.bounds)) [ inl x ↦ x.1 | inr x ↦ absurd (omega (arith, few, x.0)) ] in
    let room : room_of r.slot.number u ≡ most_beside (over_sum u.slots - over c) (pool u.bounds) - coming_len c = ap (λ (o : Option Shown). room_in o u) there in
    (r.slot.number, c, there, omega (arith, room, most, w.each, r.most))

first_of_some : (u : Open) (xs : List Slot) → u.slots ≡ xs → AreNumbered u.next u.slots → IsWithin u.bounds u.slots → 0 < length u.slots
    → (n : ℕ) × (c : Shown) × (conversation_of n u.slots ≡ Some c) × (room_of n u + coming_len c ≡ share + largest)
first_of_some u [] e numbered w some = absurd (omega (arith, some, ap length e))
first_of_some u (x ∷ xs) e numbered w some = one_may u (subst Heaviest (sym e) (heaviest x xs)) numbered w

pub all_within : (events : List Event) (settings : Settings) (bounds : Bounds) (s : Kept) (u : Open) (s' : Kept) → Passes events (none settings bounds) s u s'
    → (u.bounds ≡ bounds) × HoldsWithin u
all_within events settings bounds s u s' x =
    let all = within_after events (none settings bounds) s u s' x (none_within bounds) in
    let numbered = numbers_after events (none settings bounds) s u s' x tt in (
      all.0,
      record {
        together = together u.bounds u.slots all.1;
        each = λ n. each_of n u.slots all.1.each;
        one = first_of_some u u.slots refl numbered all.1;
      },
    )
