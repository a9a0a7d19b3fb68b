-- The life under a number, as the list of connections changes.
use Rattle.std.proofs.Common.{◌≡◌, ◌≢◌, ℕ, zero, suc, ◌+◌, ◌-◌, ◌<◌, ◌≤◌, inl, inr, Bool, true, false, if◌then◌else◌, List, [], ◌∷◌, ◌++◌, ◌==◌, length, take, set, get_or, Option, Some, None, All, refl, sym, ap, ◌∙◌, subst, arith, eq-eqb}
use Rattle.std.specs.Prelude.{option_map, IfSome}
use Rattle.std.specs.List.{remove}
use Rattle.std.proofs.lemmas.Bool.{ne_eqb, cases_eq}
use Rattle.std.proofs.lemmas.List.{get_or-set_same, take_more, length-map, length-append}
use Rattle.std.proofs.lemmas.List.Elements.{All-push}
use Rattle.registry_server.specs.declared.connection.Connection.{Connection}
use Rattle.registry_server.specs.declared.connections.Connections.{Connections}
use Rattle.registry_server.specs.declared.life.Life.{Life}
use Rattle.registry_server.specs.Open.{Slot, conversation_of, Closes, IfOpen, FoundAt}
use Rattle.registry_server.specs.Slots.{slot_of, slots_of, IsMoved}
use Rattle.registry_server.specs.Showing.{connected}
use Rattle.registry_server.specs.Lives.{life_in, IsSilent}
use Rattle.registry_server.proofs.SlotLemmas.{of_same, of_other, AreNumbered, fresh}

-- ---- by the first connection

life_same : (n : ℕ) (c : Connection) (cs : List Connection) → c.number ≡ n → life_in n (c ∷ cs) ≡ Some c.life
life_same n c cs e = ap (λ (f : Bool). if f then Some c.life else life_in n cs) (eq-eqb c.number n e)

life_other : (n : ℕ) (c : Connection) (cs : List Connection) → c.number ≢ n → life_in n (c ∷ cs) ≡ life_in n cs
life_other n c cs ne = ap (λ (f : Bool). if f then Some c.life else life_in n cs) (ne_eqb c.number n ne)

life_past : (n : ℕ) (c : Connection) (a b : List Connection) → life_in n a ≡ life_in n b → life_in n (c ∷ a) ≡ life_in n (c ∷ b)
life_past n c a b e = ap (λ (x : Option Life). if c.number == n then Some c.life else x) e

-- one that is not open has none
pub no_life : (n : ℕ) (xs : List Connection) → conversation_of n (slots_of xs) ≡ None → life_in n xs ≡ None
no_life n [] e = refl
no_life n (c ∷ cs) e = elim (cases_eq c.number n) [
  | inl same ↦ let bad = sym (of_same n (slot_of c) (slots_of cs) same) ∙ e in cc
  | inr ne ↦ life_other n c cs ne ∙ no_life n cs (sym (of_other n (slot_of c) (slots_of cs) ne) ∙ e)
]

-- the first connection of the number stands at this place
abbrev IsFirst : ℕ → ℕ → List Connection → Type 0
IsFirst n i [] = ⊥
IsFirst n zero (c ∷ cs) = c.number ≡ n
IsFirst n (suc i) (c ∷ cs) = (c.number ≢ n) × IsFirst n i cs

first_in : (n : ℕ) (front : List Slot) (slot : Slot) (back : List Slot) (xs : List Connection) → slots_of xs ≡ front ++ slot ∷ back
    → slot.number ≡ n → conversation_of n front ≡ None → IsFirst n (length front) xs
first_in n [] slot back [] e number none = absurd cc
first_in n (f ∷ front) slot back [] e number none = absurd cc
first_in n [] slot back (x ∷ xs) e number none =
    let head : slot_of x ≡ slot = cc in
    ap (λ (s : Slot). s.number) head ∙ number
first_in n (f ∷ front) slot back (x ∷ xs) e number none =
    let head : slot_of x ≡ f = cc in
    let tail : slots_of xs ≡ front ++ slot ∷ back = cc in elim (cases_eq f.number n) [
      | inl same ↦ let bad = sym (of_same n f front same) ∙ none in cc
      | inr ne ↦ (
        λ g. ne (ap (λ (s : Slot). s.number) (sym head) ∙ g),
        first_in n front slot back xs tail number (sym (of_other n f front ne) ∙ none),
      )
    ]

first_found : (n at : ℕ) (xs : List Connection) → FoundAt n at (slots_of xs) → IsFirst n at xs
first_found n at xs f = subst (λ (k : ℕ). IsFirst n k xs) f.place (first_in n f.front f.slot f.back xs f.was f.numbered f.first)

first_lt : (n i : ℕ) (xs : List Connection) → IsFirst n i xs → i < length xs
first_lt n i [] f = absurd f
first_lt n zero (c ∷ cs) f = omega arith
first_lt n (suc i) (c ∷ cs) f = omega (arith, first_lt n i cs f.1)

first_number : (n i : ℕ) (xs : List Connection) (x : Connection) → IsFirst n i xs → x ≡ get_or xs i x → x.number ≡ n
first_number n i [] x f e = absurd f
first_number n zero (c ∷ cs) x f e = ap (λ (y : Connection). y.number) e ∙ f
first_number n (suc i) (c ∷ cs) x f e = first_number n i cs x f.1 e

life_first : (n i : ℕ) (xs : List Connection) (x : Connection) → IsFirst n i xs → x ≡ get_or xs i x → life_in n xs ≡ Some x.life
life_first n i [] x f e = absurd f
life_first n zero (c ∷ cs) x f e = life_same n c cs f ∙ ap (λ (y : Connection). Some y.life) (sym e)
life_first n (suc i) (c ∷ cs) x f e = life_other n c cs f.0 ∙ life_first n i cs x f.1 e

-- what is found under the number
pub life_found : (n at : ℕ) (xs : List Connection) (x : Connection) → x ≡ get_or xs at x → FoundAt n at (slots_of xs) → life_in n xs ≡ Some x.life
life_found n at xs x e f = life_first n at xs x (first_found n at xs f) e

-- where each number is one connection's, each connection is the first of its number
first_at : (next i : ℕ) (xs : List Connection) (x : Connection) → AreNumbered next (slots_of xs) → i < length xs → x ≡ get_or xs i x
    → IsFirst x.number i xs
first_at next i [] x h lt e = absurd (omega (arith, lt))
first_at next zero (c ∷ cs) x h lt e = sym (ap (λ (y : Connection). y.number) e)
first_at next (suc i) (c ∷ cs) x h lt e =
    let f = first_at next i cs x h.2 (omega (arith, lt)) e in (
      λ g.
          let there = life_first x.number i cs x f e in
          let none = no_life x.number cs (subst (λ (k : ℕ). conversation_of k (slots_of cs) ≡ None) g h.1) in
          let bad = sym there ∙ none in
          cc,
      f,
    )

-- ---- one changes

set_here : (n i : ℕ) (xs : List Connection) (y : Connection) → IsFirst n i xs → y.number ≡ n → life_in n (set xs i y) ≡ Some y.life
set_here n i [] y f e = absurd f
set_here n zero (c ∷ cs) y f e = life_same n y cs e
set_here n (suc i) (c ∷ cs) y f e = life_other n c (set cs i y) f.0 ∙ set_here n i cs y f.1 e

set_others : (n i : ℕ) (xs : List Connection) (y : Connection) → IsFirst n i xs → y.number ≡ n → (m : ℕ) → m ≢ n
    → life_in m (set xs i y) ≡ life_in m xs
set_others n i [] y f e m ne = absurd f
set_others n zero (c ∷ cs) y f e m ne = life_other m y cs (λ g. ne (sym g ∙ e)) ∙ sym (life_other m c cs (λ g. ne (sym g ∙ f)))
set_others n (suc i) (c ∷ cs) y f e m ne = life_past m c (set cs i y) cs (set_others n i cs y f.1 e m ne)

-- the life under n is another, and no other is
pub record But (n : ℕ) (life : Option Life) (xs zs : List Connection) : Type 0 where
  pub is : life_in n zs ≡ life
  pub others : (m : ℕ) → m ≢ n → life_in m zs ≡ life_in m xs

pub changed_life : (n at : ℕ) (g : Life → Life) (xs : List Connection) (x y : Connection) → x ≡ get_or xs at x → FoundAt n at (slots_of xs)
    → y.number ≡ x.number → y.life ≡ g x.life → But n (option_map g (life_in n xs)) xs (set xs at y)
changed_life n at g xs x y e f number life =
    let first = first_found n at xs f in
    let same : y.number ≡ n = number ∙ first_number n at xs x first e in
    record {
      is = set_here n at xs y first same ∙ ap (λ (l : Life). Some l) life ∙ sym (ap (option_map g) (life_first n at xs x first e));
      others = set_others n at xs y first same;
    }

-- a connection with the same number and life makes no difference
pub same_lives : (n at : ℕ) (xs : List Connection) (x y : Connection) → x ≡ get_or xs at x → FoundAt n at (slots_of xs)
    → y.number ≡ x.number → y.life ≡ x.life → (m : ℕ) → life_in m (set xs at y) ≡ life_in m xs
same_lives n at xs x y e f number life m =
    let first = first_found n at xs f in
    let same : y.number ≡ n = number ∙ first_number n at xs x first e in elim (cases_eq m n) [
      | inl here ↦ subst (λ (k : ℕ). life_in k (set xs at y) ≡ life_in k xs) (sym here)
          (set_here n at xs y first same ∙ ap (λ (l : Life). Some l) life ∙ sym (life_first n at xs x first e))
      | inr ne ↦ set_others n at xs y first same m ne
    ]

-- ---- one goes, or goes behind the others

without_here : (next n i : ℕ) (xs : List Connection) → IsFirst n i xs → AreNumbered next (slots_of xs) → life_in n (remove xs i) ≡ None
without_here next n i [] f h = absurd f
without_here next n zero (c ∷ cs) f h = no_life n cs (subst (λ (k : ℕ). conversation_of k (slots_of cs) ≡ None) f h.1)
without_here next n (suc i) (c ∷ cs) f h = life_other n c (remove cs i) f.0 ∙ without_here next n i cs f.1 h.2

without_others : (n i : ℕ) (xs : List Connection) → IsFirst n i xs → (m : ℕ) → m ≢ n → life_in m (remove xs i) ≡ life_in m xs
without_others n i [] f m ne = absurd f
without_others n zero (c ∷ cs) f m ne = sym (life_other m c cs (λ g. ne (sym g ∙ f)))
without_others n (suc i) (c ∷ cs) f m ne = life_past m c (remove cs i) cs (without_others n i cs f.1 m ne)

pub closed_life : (next n at : ℕ) (xs zs : List Connection) → FoundAt n at (slots_of xs) → AreNumbered next (slots_of xs) → zs ≡ remove xs at
    → But n None xs zs
closed_life next n at xs zs f h e =
    let first = first_found n at xs f in
    record {
      is = ap (life_in n) e ∙ without_here next n at xs first h;
      others = λ m ne. ap (life_in m) e ∙ without_others n at xs first m ne;
    }

life_skip : (n : ℕ) (xs ys : List Connection) → life_in n xs ≡ None → life_in n (xs ++ ys) ≡ life_in n ys
life_skip n [] ys e = refl
life_skip n (c ∷ cs) ys e = elim (cases_eq c.number n) [
  | inl same ↦ let bad = sym (life_same n c cs same) ∙ e in cc
  | inr ne ↦ life_other n c (cs ++ ys) ne ∙ life_skip n cs ys (sym (life_other n c cs ne) ∙ e)
]

pushed_others : (m : ℕ) (xs : List Connection) (y : Connection) → y.number ≢ m → life_in m (xs ++ y ∷ []) ≡ life_in m xs
pushed_others m [] y ne = life_other m y [] ne
pushed_others m (c ∷ cs) y ne = life_past m c (cs ++ y ∷ []) cs (pushed_others m cs y ne)

set_away : (i : ℕ) (xs : List Connection) (y : Connection) → remove (set xs i y) i ≡ remove xs i
set_away i [] y = refl
set_away zero (c ∷ cs) y = refl
set_away (suc i) (c ∷ cs) y = ap (λ (ys : List Connection). c ∷ ys) (set_away i cs y)

pub turned_lives : (next at : ℕ) (xs zs : List Connection) (x y : Connection) → x ≡ get_or xs at x → at < length xs → AreNumbered next (slots_of xs)
    → y.number ≡ x.number → y.life ≡ x.life → IsMoved at (set xs at y) zs → (m : ℕ) → life_in m zs ≡ life_in m xs
turned_lives next at xs zs x y e lt h number life moved m =
    let first = first_at next at xs x h lt e in
    let w : zs ≡ remove xs at ++ y ∷ [] = moved y ∙ (λ i. set_away at xs y i ++ get_or-set_same xs at y y lt i ∷ []) in elim (cases_eq x.number m) [
      | inl here ↦
          ap (life_in m) w
          ∙ life_skip m (remove xs at) (y ∷ []) (subst (λ (k : ℕ). life_in k (remove xs at) ≡ None) here (without_here next x.number at xs first h))
          ∙ life_same m y [] (number ∙ here)
          ∙ ap (λ (l : Life). Some l) life
          ∙ sym (subst (λ (k : ℕ). life_in k xs ≡ Some x.life) here (life_first x.number at xs x first e))
      | inr ne ↦
          ap (life_in m) w
          ∙ pushed_others m (remove xs at) y (λ g. ne (sym number ∙ g))
          ∙ without_others x.number at xs first m (λ g. ne (sym g))
    ]

-- ---- one comes

pub came_life : (n : ℕ) (xs zs : List Connection) (y : Connection) → zs ≡ xs ++ y ∷ [] → y.number ≡ n → AreNumbered n (slots_of xs)
    → But n (Some y.life) xs zs
came_life n xs zs y e number h = record {
  is = ap (life_in n) e ∙ life_skip n xs (y ∷ []) (no_life n xs (fresh n (slots_of xs) n h (omega arith))) ∙ life_same n y [] number;
  others = λ m ne. ap (life_in m) e ∙ pushed_others m xs y (λ g. ne (sym g ∙ number));
}

-- ---- all

pub all_lives : (P : Life → Type 0) (xs : List Connection) → All (λ (c : Connection). P c.life) xs → (n : ℕ) → IfSome (life_in n xs) P
all_lives P [] all n = tt
all_lives P (c ∷ cs) all n = elim (cases_eq c.number n) [
  | inl same ↦ subst (λ (o : Option Life). IfSome o P) (sym (life_same n c cs same)) (all 0 c (omega arith))
  | inr ne ↦ subst (λ (o : Option Life). IfSome o P) (sym (life_other n c cs ne)) (all_lives P cs (λ k d lt. all (suc k) d (omega (arith, lt))) n)
]

pub still_all : (P : Life → Type 0) (i : ℕ) (xs : List Connection) (x : Connection) → i < length xs → x ≡ get_or xs i x → P x.life
    → All (λ (c : Connection). P c.life) (take i xs) → All (λ (c : Connection). P c.life) (take (i + 1) xs)
still_all P i xs x lt is p all =
    subst (All (λ (c : Connection). P c.life)) (sym (take_more xs i x lt ∙ ap (λ (y : Connection). take i xs ++ y ∷ []) (sym is)))
    (All-push (λ (c : Connection). P c.life) (take i xs) x all p)

-- one place has one connection
pub same_place : (i : ℕ) (xs : List Connection) (x y : Connection) → i < length xs → x ≡ get_or xs i x → y ≡ get_or xs i y → x ≡ y
same_place i [] x y lt e f = absurd (omega (arith, lt))
same_place zero (c ∷ cs) x y lt e f = e ∙ sym f
same_place (suc i) (c ∷ cs) x y lt e f = same_place i cs x y (omega (arith, lt)) e f

-- the one at this place, by its number
pub life_at : (next at : ℕ) (xs : List Connection) (x : Connection) → AreNumbered next (slots_of xs) → at < length xs → x ≡ get_or xs at x
    → life_in x.number xs ≡ Some x.life
life_at next at xs x h lt e = life_first x.number at xs x (first_at next at xs x h lt e) e

-- what was found to be silent, in the list that was searched
pub silent_at : (limit time at : ℕ) (xs ys : List Connection) (y : Connection) → xs ≡ ys → y ≡ get_or ys at y
    → (at < length xs) × (x : Connection) × (x ≡ get_or xs at x) × (limit ≤ time - x.life.since) → (at < length ys) × (limit ≤ time - y.life.since)
silent_at limit time at xs ys y e is f =
    let lt : at < length ys = subst (λ (zs : List Connection). at < length zs) e f.0 in
    let here : f.1 ≡ get_or ys at f.1 = f.2 ∙ ap (λ (zs : List Connection). get_or zs at f.1) e in
    (lt, subst (λ (z : Connection). limit ≤ time - z.life.since) (same_place at ys f.1 y lt here is) f.3)

pub all_on : (limit time : ℕ) (xs ys : List Connection) → xs ≡ ys → All (λ (c : Connection). time - c.life.since < limit) xs
    → (n : ℕ) → IfSome (life_in n ys) (λ l. time - l.since < limit)
all_on limit time xs ys e all =
    all_lives (λ l. time - l.since < limit) ys (subst (λ (zs : List Connection). All (λ (c : Connection). time - c.life.since < limit) zs) e all)

-- where one that was silent is closed, fewer are open
pub fewer : (limit n : ℕ) (there : Bool) (c c' : Connections) → IsSilent limit n c → IfOpen there n (Closes n) (connected c) (connected c')
    → length c'.connections.items < length c.connections.items
fewer limit n true c c' silent h =
    omega (
      arith,
      length-map c.connections.items slot_of,
      length-map c'.connections.items slot_of,
      ap length h.0.was,
      ap length h.0.is,
      length-append h.0.front (h.0.slot ∷ h.0.back),
      length-append h.0.front h.0.back,
    )
fewer limit n false c c' silent h =
    let bad = sym silent.1 ∙ no_life n c.connections.items h.0 in
    absurd cc
