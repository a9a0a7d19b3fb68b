-- Connections by their numbers.
use Rattle.std.proofs.Common.{◌≡◌, ◌≢◌, ℕ, ◌<◌, ◌≤◌, inl, inr, Bool, true, false, ◌&&◌, if◌then◌else◌, List, [], ◌∷◌, ◌++◌, ◌==◌, nat_lt, is_none, Option, Some, None, refl, sym, ap, ◌∙◌, subst, arith, eq-eqb}
use Rattle.std.specs.Prelude.{⊤}
use Rattle.std.proofs.lemmas.Bool.{ne_eqb, cases_eq, ltb-true, lt-ltb}
use Rattle.registry_conversation.specs.Shown.{Shown}
use Rattle.registry_server.specs.Open.{Slot, conversation_of, are_numbered}

pub of_same : (n : ℕ) (c : Slot) (slots : List Slot) → c.number ≡ n → conversation_of n (c ∷ slots) ≡ Some c.conversation
of_same n c slots e = ap (λ (f : Bool). if f then Some c.conversation else conversation_of n slots) (eq-eqb c.number n e)

pub of_other : (n : ℕ) (c : Slot) (slots : List Slot) → c.number ≢ n → conversation_of n (c ∷ slots) ≡ conversation_of n slots
of_other n c slots ne = ap (λ (f : Bool). if f then Some c.conversation else conversation_of n slots) (ne_eqb c.number n ne)

past : (n : ℕ) (c : Slot) (a b : List Slot) → conversation_of n a ≡ conversation_of n b → conversation_of n (c ∷ a) ≡ conversation_of n (c ∷ b)
past n c a b e = ap (λ (x : Option Shown). if c.number == n then Some c.conversation else x) e

-- the front lacks the number
pub skip : (n : ℕ) (front rest : List Slot) → conversation_of n front ≡ None → conversation_of n (front ++ rest) ≡ conversation_of n rest
skip n [] rest e = refl
skip n (c ∷ front) rest e = elim (cases_eq c.number n) [
  | inl same ↦ let bad = sym (of_same n c front same) ∙ e in cc
  | inr ne ↦ of_other n c (front ++ rest) ne ∙ skip n front rest (sym (of_other n c front ne) ∙ e)
]

-- a connection of another number makes no difference
pub without : (n : ℕ) (front : List Slot) (c : Slot) (back : List Slot) → c.number ≢ n → conversation_of n (front ++ c ∷ back) ≡ conversation_of n (front ++ back)
without n [] c back ne = of_other n c back ne
without n (x ∷ front) c back ne = past n x (front ++ c ∷ back) (front ++ back) (without n front c back ne)

pub exchanged : (n : ℕ) (front : List Slot) (c c' : Slot) (back : List Slot) → c.number ≢ n → c'.number ≢ n
    → conversation_of n (front ++ c' ∷ back) ≡ conversation_of n (front ++ c ∷ back)
exchanged n front c c' back ne ne' = without n front c' back ne' ∙ sym (without n front c back ne)

-- the connection itself is not missing
there : (n : ℕ) (front : List Slot) (c : Slot) (back : List Slot) → conversation_of n (front ++ c ∷ back) ≡ None → c.number ≢ n
there n [] c back h e = let bad = sym (of_same n c back e) ∙ h in cc
there n (x ∷ front) c back h e = elim (cases_eq x.number n) [
  | inl same ↦ let bad = sym (of_same n x (front ++ c ∷ back) same) ∙ h in cc
  | inr ne ↦ there n front c back (sym (of_other n x (front ++ c ∷ back) ne) ∙ h) e
]

-- ---- each number is one connection's

abbrev pub AreNumbered : ℕ → List Slot → Type 0
AreNumbered next [] = ⊤
AreNumbered next (c ∷ slots) = (c.number < next) × (conversation_of c.number slots ≡ None) × AreNumbered next slots

both : (a b : Bool) → a && b ≡ true → (a ≡ true) × (b ≡ true)
both true b e = (refl, e)
both false b e = absurd cc

and : (a b : Bool) → a ≡ true → b ≡ true → a && b ≡ true
and a b e f = (λ i. e i && f i)

is_no : (o : Option Shown) → is_none o ≡ true → o ≡ None
is_no None e = refl
is_no (Some c) e = absurd cc

pub opened : (next : ℕ) (slots : List Slot) → are_numbered next slots ≡ true → AreNumbered next slots
opened next [] e = tt
opened next (c ∷ slots) e =
    let h = both (nat_lt c.number next) (is_none (conversation_of c.number slots) && are_numbered next slots) e in
    let g = both (is_none (conversation_of c.number slots)) (are_numbered next slots) h.1 in
    (ltb-true c.number next h.0, is_no (conversation_of c.number slots) g.0, opened next slots g.1)

pub closed : (next : ℕ) (slots : List Slot) → AreNumbered next slots → are_numbered next slots ≡ true
closed next [] h = refl
closed next (c ∷ slots) h =
    and (nat_lt c.number next) (is_none (conversation_of c.number slots) && are_numbered next slots) (lt-ltb c.number next h.0)
    (and (is_none (conversation_of c.number slots)) (are_numbered next slots) (ap is_none h.1) (closed next slots h.2))

-- one connection among the others
pub record Among (next : ℕ) (front : List Slot) (c : Slot) (back : List Slot) : Type 0 where
  pub below : c.number < next
  pub before : conversation_of c.number front ≡ None
  pub behind : conversation_of c.number back ≡ None
  pub others : AreNumbered next (front ++ back)

pub among : (next : ℕ) (front : List Slot) (c : Slot) (back : List Slot) → AreNumbered next (front ++ c ∷ back) → Among next front c back
among next [] c back h = record { below = h.0; before = refl; behind = h.1; others = h.2 }
among next (x ∷ front) c back h =
    let r = among next front c back h.2 in
    let ne = there x.number front c back h.1 in
    record {
      below = r.below;
      before = of_other c.number x front (λ e. ne (sym e)) ∙ r.before;
      behind = r.behind;
      others = (h.0, sym (without x.number front c back ne) ∙ h.1, r.others);
    }

pub fresh : (next : ℕ) (slots : List Slot) (n : ℕ) → AreNumbered next slots → next ≤ n → conversation_of n slots ≡ None
fresh next [] n h le = refl
fresh next (x ∷ slots) n h le = of_other n x slots (λ e. omega (arith, e, h.0)) ∙ fresh next slots n h.2 le

pub pushed : (next next' : ℕ) (slots : List Slot) (c : Slot) → AreNumbered next slots → next ≤ next' → c.number < next' → conversation_of c.number slots ≡ None
    → AreNumbered next' (slots ++ c ∷ [])
pushed next next' [] c h le lt none = (lt, refl, tt)
pushed next next' (x ∷ slots) c h le lt none =
    let ne = there c.number [] x slots none in
    (omega (arith, h.0), skip x.number slots (c ∷ []) h.1 ∙ of_other x.number c [] (λ e. ne (sym e)), pushed next next' slots c h.2 le lt (sym (of_other c.number x slots ne) ∙ none))

pub in_place : (next : ℕ) (front : List Slot) (c c' : Slot) (back : List Slot) → AreNumbered next (front ++ c ∷ back) → c'.number ≡ c.number
    → AreNumbered next (front ++ c' ∷ back)
in_place next [] c c' back h e =
    (subst (λ (n : ℕ). n < next) (sym e) h.0, subst (λ (n : ℕ). conversation_of n back ≡ None) (sym e) h.1, h.2)
in_place next (x ∷ front) c c' back h e =
    let ne = there x.number front c back h.1 in
    (h.0, exchanged x.number front c c' back ne (λ f. ne (sym e ∙ f)) ∙ h.1, in_place next front c c' back h.2 e)

pub to_back : (next : ℕ) (front : List Slot) (c c' : Slot) (back : List Slot) → AreNumbered next (front ++ c ∷ back) → c'.number ≡ c.number
    → AreNumbered next ((front ++ back) ++ c' ∷ [])
to_back next front c c' back h e =
    let r = among next front c back h in
    pushed next next (front ++ back) c' r.others (omega arith) (subst (λ (n : ℕ). n < next) (sym e) r.below)
    (subst (λ (n : ℕ). conversation_of n (front ++ back) ≡ None) (sym e) (skip c.number front back r.before ∙ r.behind))
