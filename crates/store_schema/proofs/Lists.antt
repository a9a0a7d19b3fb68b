-- Lists of rows: a row put between others, rows found by a test, and rows that a test keeps apart.
use Rattle.std.proofs.Common.{◌≡◌, ◌⊎◌, inl, inr, ℕ, List, [], ◌∷◌, ◌++◌, Bool, true, false, cond, not, None, Some, refl, sym, ap, ◌∙◌, arith}
use Rattle.std.specs.Prelude.{filter, find, Option, option_map, bytes_eq}
use Rattle.std.specs.List.{AllByRecursion}
use Rattle.std.specs.List.Sorted.{IsPermutation}
use Rattle.std.specs.Option.{option_to_list}
use Rattle.std.proofs.lemmas.List.Sorted.{length_permutation}
use Rattle.std.proofs.lemmas.Slice.Eq.{bytes_eq-Decides}
use Rattle.sqlite.specs.Tree.{IsAscending}
use Rattle.sqlite_rules.specs.Lists.{Has}

pub bytes_eq_true : (a b : List ℕ) → bytes_eq a b ≡ true → a ≡ b
bytes_eq_true a b e = (bytes_eq-Decides a b).0 e

pub bytes_eq_itself : (a : List ℕ) → bytes_eq a a ≡ true
bytes_eq_itself a = (bytes_eq-Decides a a).1 refl

pub bytes_eq-sym : (a b : List ℕ) → bytes_eq a b ≡ bytes_eq b a
bytes_eq-sym a b = both (bytes_eq a b) (bytes_eq b a) (λ e. (bytes_eq-Decides b a).1 (sym ((bytes_eq-Decides a b).0 e))) (λ e. (bytes_eq-Decides a b).1 (sym ((bytes_eq-Decides b a).0 e)))
  where
    both : (p q : Bool) → (p ≡ true → q ≡ true) → (q ≡ true → p ≡ true) → p ≡ q
    both true q f g = sym (f refl)
    both false true f g = g refl
    both false false f g = refl

pub no_permutation : {X : Type 0} (ys : List X) → IsPermutation [] ys → ys ≡ []
no_permutation [] h = refl
no_permutation (y ∷ ys) h = absurd (omega (arith, length_permutation [] (y ∷ ys) h))

module _ {X : Type 0} where
  pub not_first : (t : Bool) (x : X) (left : Option X) → cond t (Some x) left ≡ None → (t ≡ false) × (left ≡ None)
  not_first true x left e = absurd cc
  not_first false x left e = (refl, e)

  pub none_found : (p : X → Bool) (xs : List X) → find p xs ≡ None → AllByRecursion (λ x. p x ≡ false) xs
  none_found p [] e = tt
  none_found p (x ∷ xs) e = let out = not_first _ x _ e in (out.0, none_found p xs out.1)

  pub none_kept : (p : X → Bool) (xs : List X) → AllByRecursion (λ x. p x ≡ false) xs → filter p xs ≡ []
  none_kept p [] h = refl
  none_kept p (x ∷ xs) h = rw h.0 (none_kept p xs h.1)

  pub all_middle : (P : X → Type 0) (x : X) (xs ys : List X) → AllByRecursion P (xs ++ ys) → P x → AllByRecursion P (xs ++ x ∷ ys)
  all_middle P x [] ys h p = (p, h)
  all_middle P x (y ∷ xs) ys h p = (h.0, all_middle P x xs ys h.1 p)

  -- a row apart from all others goes between them
  pub ascending_middle : (R : X → X → Type 0) → ((a b : X) → R a b → R b a) → (x : X) (xs ys : List X) → IsAscending R (xs ++ ys) → AllByRecursion (R x) (xs ++ ys) → IsAscending R (xs ++ x ∷ ys)
  ascending_middle R turned x [] ys h away = (away, h)
  ascending_middle R turned x (y ∷ xs) ys h away = (all_middle (R y) x xs ys h.0 (turned x y away.0), ascending_middle R turned x xs ys h.1 away.1)

  -- a row between others is found by what it passes, and hides none of them
  pub find_middle : (p : X → Bool) (x : X) (xs ys : List X) → (find p (xs ++ ys) ≡ None) ⊎ (p x ≡ false) → find p (xs ++ x ∷ ys) ≡ cond (p x) (Some x) (find p (xs ++ ys))
  find_middle p x [] ys h = refl
  find_middle p x (y ∷ xs) ys (inl none) =
      let out = not_first (p y) y _ none in
      ap (λ t. cond t (Some y) (find p (xs ++ x ∷ ys))) out.0 ∙ find_middle p x xs ys (inl out.1) ∙ ap (λ t. cond (p x) (Some x) (cond t (Some y) (find p (xs ++ ys)))) (sym out.0)
  find_middle p x (y ∷ xs) ys (inr away) =
      ap (λ l. cond (p y) (Some y) l) (find_middle p x xs ys (inr away) ∙ ap (λ t. cond t (Some x) (find p (xs ++ ys))) away) ∙ ap (λ t. cond t (Some x) (cond (p y) (Some y) (find p (xs ++ ys)))) (sym away)

  -- where a row that passes is apart from each later one, at most one passes
  pub only_one : (p : X → Bool) (R : X → X → Type 0) → ((a b : X) → R a b → p a ≡ true → p b ≡ false) → (xs : List X) → IsAscending R xs → filter p xs ≡ option_to_list (find p xs)
  only_one p R parts [] h = refl
  only_one p R parts (x ∷ xs) h = step (p x) refl (only_one p R parts xs h.1)
    where
      others : p x ≡ true → (ys : List X) → AllByRecursion (R x) ys → AllByRecursion (λ y. p y ≡ false) ys
      others e [] h = tt
      others e (y ∷ ys) h = (parts x y h.0 e, others e ys h.1)

      step : (b : Bool) → p x ≡ b → filter p xs ≡ option_to_list (find p xs) → cond b (x ∷ filter p xs) (filter p xs) ≡ option_to_list (cond b (Some x) (find p xs))
      step true e more = ap (λ ys. x ∷ ys) (none_kept p xs (others e xs h.0))
      step false e more = more

pub mapped : {A B : Type 0} (f : A → B) (t : Bool) (x : A) (o : Option A) → option_map f (cond t (Some x) o) ≡ cond t (Some (f x)) (option_map f o)
mapped f true x o = refl
mapped f false x o = refl

-- what is found among the rows that stay, where the test agrees on the rows that would be found
pub find_left : {X : Type 0} (p q : X → Bool) (gone : Bool) (xs : List X) → ((x : X) → Has xs x → q x ≡ true → p x ≡ gone) → find q (filter (λ x. not (p x)) xs) ≡ cond gone None (find q xs)
find_left p q gone [] agrees = none gone
  where
    none : (g : Bool) → None ≡ cond g None (find q [])
    none true = refl
    none false = refl
find_left p q gone (x ∷ xs) agrees = step (q x) (p x) refl refl (find_left p q gone xs (λ y has. agrees y (inr has)))
  where
    step : (k t : Bool) → q x ≡ k → p x ≡ t → find q (filter (λ y. not (p y)) xs) ≡ cond gone None (find q xs)
        → find q (cond (not t) (x ∷ filter (λ y. not (p y)) xs) (filter (λ y. not (p y)) xs)) ≡ cond gone None (cond k (Some x) (find q xs))
    step false true e f more = more
    step false false e f more = rw (e, more)
    step true true e f more = let g : gone ≡ true = sym (agrees x (inl refl) e) ∙ f in more ∙ ap (λ b. cond b None (find q xs)) g ∙ ap (λ b. cond b None (Some x)) (sym g)
    step true false e f more = let g : gone ≡ false = sym (agrees x (inl refl) e) ∙ f in rw (e, g)

pub mapped_none : {A B : Type 0} (f : A → B) (t : Bool) (o : Option A) → option_map f (cond t None o) ≡ cond t None (option_map f o)
mapped_none f true o = refl
mapped_none f false o = refl
