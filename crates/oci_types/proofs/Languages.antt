-- Texts put together in a language, and what a scanner finds of them.
use Rattle.std.proofs.Common.{◌≡◌, ℕ, Bool, true, false, List, [], ◌∷◌, ◌++◌, inl, inr, sym, refl, ap, subst, ◌∙◌, append_assoc}
use Rattle.std.specs.List.{All, fold, list_all}
use Rattle.std.proofs.lemmas.Bool.{and_parts, false≢true}
use Rattle.std.proofs.lemmas.List.Elements.{All-nil, All-cons, All-head, All-tail}
use Rattle.std.proofs.lemmas.List.Sums.{fold-append}
use Rattle.oci_types.specs.Text.{Text}
use Rattle.oci_types.specs.Language.{Language, IsIn, joined, one, both, either, many}

-- ---- texts put together

-- no text
abbrev pub none : Language
none = one (λ _. false)

pub not_in_none : (t : Text) → IsIn none t → ⊥
unfolding IsIn
not_in_none t (b, h, e) = false≢true h

-- a byte before a text
pub cons : (p : ℕ → Bool) (l : Language) (b : ℕ) (t : Text) → p b ≡ true → IsIn l t → IsIn (both (one p) l) (b ∷ t)
unfolding IsIn
cons p l b t h i = (b ∷ [], t, refl, (b, h, refl), i)

-- the same three texts, taken together the other way
pub regroup : (l m n : Language) (t : Text) → IsIn (both l (both m n)) t → IsIn (both (both l m) n) t
unfolding IsIn
regroup l m n t (u, v, e, i, (v1, v2, f, j, k)) =
    (u ++ v1, v2, e ∙ ap (λ x. u ++ x) f ∙ sym (append_assoc u v1 v2), (u, v1, refl, i, j), k)

pub ungroup : (l m n : Language) (t : Text) → IsIn (both (both l m) n) t → IsIn (both l (both m n)) t
unfolding IsIn
ungroup l m n t (u, v, e, (u1, u2, f, i, j), k) =
    (u1, u2 ++ v, e ∙ ap (λ x. x ++ v) f ∙ append_assoc u1 u2 v, i, (u2, v, refl, j, k))

-- none of many
pub many-none : (l : Language) → IsIn (many l) []
unfolding IsIn
many-none l = ([], refl, All-nil (IsIn l))

-- one more of many
pub many-more : (l : Language) (t : Text) → IsIn (both l (many l)) t → IsIn (many l) t
unfolding IsIn
many-more l t (u, v, e, i, (us, f, all)) = (u ∷ us, e ∙ ap (λ x. u ++ x) f, All-cons (IsIn l) u us i all)

-- many, and none of them there
pub skip : (l m : Language) (t : Text) → IsIn m t → IsIn (both (many l) m) t
unfolding IsIn
skip l m t i = ([], t, refl, many-none l, i)

-- many, and one more of them there
pub more : (l m : Language) (t : Text) → IsIn (both l (both (many l) m)) t → IsIn (both (many l) m) t
unfolding IsIn
more l m t i =
    let (u, v, e, j, k) = regroup l (many l) m t i in
    (u, v, e, many-more l u j, k)

-- ---- a test of each byte

pub many_one : (p : ℕ → Bool) (t : Text) → list_all p t ≡ true → IsIn (many (one p)) t
unfolding IsIn
many_one p [] h = many-none (one p)
many_one p (b ∷ t) h =
    let parts = and_parts (p b) (list_all p t) h in
    many-more (one p) (b ∷ t) (cons p (many (one p)) b t parts.0 (many_one p t parts.1))

joined_one : (p : ℕ → Bool) (us : List Text) → All (IsIn (one p)) us → list_all p (joined us) ≡ true
unfolding IsIn
joined_one p [] all = refl
joined_one p (u ∷ us) all =
    let (b, h, e) = All-head (IsIn (one p)) u us all in
    let rest = joined_one p us (All-tail (IsIn (one p)) u us all) in
    rw e (rw h rest)

pub list_all-many_one : (p : ℕ → Bool) (t : Text) → IsIn (many (one p)) t → list_all p t ≡ true
unfolding IsIn
list_all-many_one p t (us, e, all) = rw e (joined_one p us all)

-- ---- a scanner, which is at a place of S after each byte

module _ {S : Type 0} (step : S → ℕ → S) (is_end : S → Bool) where
  -- from the place s, each text of l leads to a place of Q
  abbrev pub Leads : Language → S → (S → Type 0) → Type 0
  Leads l s Q = (t : Text) → IsIn l t → Q (fold step s t)

  pub leads-one : (p : ℕ → Bool) (s : S) (Q : S → Type 0) → ((b : ℕ) → p b ≡ true → Q (step s b)) → Leads (one p) s Q
  unfolding IsIn
  leads-one p s Q each t (b, h, e) = subst (λ (x : Text). Q (fold step s x)) (sym e) (each b h)

  pub leads-both : (l m : Language) (s : S) (P Q : S → Type 0) → Leads l s P → ((r : S) → P r → Leads m r Q) → Leads (both l m) s Q
  unfolding IsIn
  leads-both l m s P Q first then t (u, v, e, i, j) =
      subst (λ (x : Text). Q (fold step s x)) (sym e)
      (subst Q (sym (fold-append step s u v)) (then (fold step s u) (first u i) v j))

  pub leads-either : (l m : Language) (s : S) (Q : S → Type 0) → Leads l s Q → Leads m s Q → Leads (either l m) s Q
  unfolding IsIn
  leads-either l m s Q left right t (inl i) = left t i
  leads-either l m s Q left right t (inr j) = right t j

  leads_joined : (l : Language) (Q : S → Type 0) → ((r : S) → Q r → Leads l r Q) → (us : List Text) (s : S) → Q s → All (IsIn l) us → Q (fold step s (joined us))
  unfolding IsIn
  leads_joined l Q again [] s q all = q
  leads_joined l Q again (u ∷ us) s q all =
      subst Q (sym (fold-append step s u (joined us)))
      (leads_joined l Q again us (fold step s u) (again s q u (All-head (IsIn l) u us all)) (All-tail (IsIn l) u us all))

  pub leads-many : (l : Language) (s : S) (Q : S → Type 0) → Q s → ((r : S) → Q r → Leads l r Q) → Leads (many l) s Q
  unfolding IsIn
  leads-many l s Q q again t (us, e, all) =
      subst (λ (x : Text). Q (fold step s x)) (sym e) (leads_joined l Q again us s q all)

  pub leads-weaker : (l : Language) (s : S) (P Q : S → Type 0) → ((r : S) → P r → Q r) → Leads l s P → Leads l s Q
  unfolding IsIn
  leads-weaker l s P Q weaker leads t i = weaker (fold step s t) (leads t i)

  -- What is left to read at each place is a language: where each byte leads from one to the next, a text
  -- that the scanner takes is in the language of the place that it began at.
  pub is_in_rest : (rest : S → Language) → ((s : S) → is_end s ≡ true → IsIn (rest s) [])
      → ((s : S) (b : ℕ) (t : Text) → IsIn (rest (step s b)) t → IsIn (rest s) (b ∷ t))
      → (t : Text) (s : S) → is_end (fold step s t) ≡ true → IsIn (rest s) t
  unfolding IsIn
  is_in_rest rest ends steps [] s h = ends s h
  is_in_rest rest ends steps (b ∷ t) s h = steps s b t (is_in_rest rest ends steps t (step s b) h)
