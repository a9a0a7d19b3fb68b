-- The values of the fields of a name, one field after the other.
use Rattle.std.proofs.Common.{◌≡◌, ℕ, ◌+◌, ◌<◌, Bool, true, false, cond, List, [], ◌∷◌, ◌++◌, length, take, drop, map, filter, get_or, sym, ap, refl, ◌∙◌, append-nil, Option, Some, arith, length-append, ◌||◌}
use Rattle.std.proofs.lemmas.List.{take_more, map-append, take-append-drop}
use Rattle.std.proofs.lemmas.List.Elements.{filter-append}
use Rattle.std.proofs.lemmas.List.Folds.{list_any-append}
use Rattle.std.specs.List.{list_any}
use Rattle.oci_types.specs.Text.{Text}
use Rattle.registry_http.specs.Fields.{NamedValue, has_name, values, first}

values-append : (name : Text) (xs ys : List NamedValue) → values name (xs ++ ys) ≡ values name xs ++ values name ys
values-append name xs ys =
    ap (map (λ field. field.1)) (filter-append (has_name name) xs ys) ∙ map-append (λ field. field.1) (filter (has_name name) xs) (filter (has_name name) ys)

one : (name : Text) (x : NamedValue) (b : Bool) → has_name name x ≡ b → values name (x ∷ []) ≡ cond b (x.1 ∷ []) []
one name x true e = rw e
one name x false e = rw e

first-more : (xs ys : List Text) (x : Text) (o : Option Text) → first xs ≡ o → (length xs ≡ 0 → ⊥) → first (xs ++ ys) ≡ o
first-more [] ys x o e some = absurd (some refl)
first-more (y ∷ xs) ys x o e some = e

first-none : (xs : List Text) (y : Text) → length xs ≡ 0 → first (xs ++ y ∷ []) ≡ Some y
first-none [] y e = refl
first-none (x ∷ xs) y e = absurd (omega arith)

module _ {X : Type 0} (name : Text) (f : X → NamedValue) (hs : List X) (i : ℕ) (d : X) (lt : i < length hs) where
  pub more : (b : Bool) → has_name name (f (get_or hs i d)) ≡ b
      → values name (map f (take (i + 1) hs)) ≡ values name (map f (take i hs)) ++ cond b ((f (get_or hs i d)).1 ∷ []) []
  more b e =
      ap (λ x. values name (map f x)) (take_more hs i d lt)
      ∙ ap (values name) (map-append f (take i hs) (get_or hs i d ∷ []))
      ∙ values-append name (map f (take i hs)) (f (get_or hs i d) ∷ [])
      ∙ ap (λ x. values name (map f (take i hs)) ++ x) (one name (f (get_or hs i d)) b e)

  pub keeps : has_name name (f (get_or hs i d)) ≡ false → values name (map f (take (i + 1) hs)) ≡ values name (map f (take i hs))
  keeps e = more false e ∙ append-nil (values name (map f (take i hs)))

  pub adds : (v : Text) → has_name name (f (get_or hs i d)) ≡ true → v ≡ (f (get_or hs i d)).1
      → values name (map f (take (i + 1) hs)) ≡ values name (map f (take i hs)) ++ v ∷ []
  adds v e same = more true e ∙ ap (λ x. values name (map f (take i hs)) ++ x ∷ []) (sym same)

  pub count-adds : (v : Text) (n : ℕ) → has_name name (f (get_or hs i d)) ≡ true → v ≡ (f (get_or hs i d)).1
      → n ≡ length (values name (map f (take i hs))) → n + 1 ≡ length (values name (map f (take (i + 1) hs)))
  count-adds v n e same count = omega (arith, ap length (adds v e same), length-append (values name (map f (take i hs))) (v ∷ []))

  pub first-adds : (v : Text) → has_name name (f (get_or hs i d)) ≡ true → v ≡ (f (get_or hs i d)).1
      → length (values name (map f (take i hs))) ≡ 0 → Some v ≡ first (values name (map f (take (i + 1) hs)))
  first-adds v e same none = sym (ap first (adds v e same) ∙ first-none (values name (map f (take i hs))) v none)

  pub first-stays : (v : Text) (o : Option Text) → has_name name (f (get_or hs i d)) ≡ true → v ≡ (f (get_or hs i d)).1
      → (length (values name (map f (take i hs))) ≡ 0 → ⊥) → o ≡ first (values name (map f (take i hs)))
      → o ≡ first (values name (map f (take (i + 1) hs)))
  first-stays v o e same some now =
      sym (ap first (adds v e same) ∙ first-more (values name (map f (take i hs))) (v ∷ []) v o (sym now) some)

  -- a value so far passes the test, or none does
  pub any-found : (test : Text → Bool) (v : Text) → has_name name (f (get_or hs i d)) ≡ true → v ≡ (f (get_or hs i d)).1 → test v ≡ true
      → list_any test (values name (map f hs)) ≡ true
  any-found test v e same pass =
      ap (λ x. list_any test (values name (map f x))) (sym (take-append-drop (i + 1) hs))
      ∙ ap (λ x. list_any test (values name x)) (map-append f (take (i + 1) hs) (drop (i + 1) hs))
      ∙ ap (list_any test) (values-append name (map f (take (i + 1) hs)) (map f (drop (i + 1) hs)))
      ∙ list_any-append test (values name (map f (take (i + 1) hs))) (values name (map f (drop (i + 1) hs)))
      ∙ ap (λ b. b || list_any test (values name (map f (drop (i + 1) hs))))
      (ap (list_any test) (adds v e same) ∙ list_any-append test (values name (map f (take i hs))) (v ∷ []) ∙ found (list_any test (values name (map f (take i hs)))))
    where
      found : (b : Bool) → (b || list_any test (v ∷ [])) ≡ true
      found true = refl
      found false = rw pass

  pub any-passed : (test : Text → Bool) (v : Text) → has_name name (f (get_or hs i d)) ≡ true → v ≡ (f (get_or hs i d)).1 → test v ≡ false
      → list_any test (values name (map f (take i hs))) ≡ false → list_any test (values name (map f (take (i + 1) hs))) ≡ false
  any-passed test v e same fails before =
      ap (list_any test) (adds v e same) ∙ list_any-append test (values name (map f (take i hs))) (v ∷ []) ∙ rw (before, fails)
