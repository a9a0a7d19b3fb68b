-- Where the last slash of a path stands.
use Rattle.std.proofs.Common.{◌≡◌, ◌≢◌, ◌∙◌, ℕ, ◌+◌, ◌-◌, ◌<◌, ◌≤◌, true, not, cond, ◌&&◌, List, [], ◌∷◌, length, take, drop, get_or, refl, sym, ap, arith, length-drop, Some}
use Rattle.std.proofs.lemmas.Bool.{ne_eqb}
use Rattle.std.proofs.lemmas.List.Sums.{suffix_len_is}
use Rattle.std.proofs.lemmas.Str.Pattern.{NoCharPasses-char}
use Rattle.std.specs.List.{suffix_len}
use Rattle.std.specs.Str.{NoCharPasses}
use Rattle.std.specs.Str.Pattern.{RFindsChar}
use Rattle.std.proofs.lemmas.List.{get_or-drop}
use Rattle.registry_model.specs.Form.{is_slash, last_segment, path_before, name_in}

module _ (s : List ℕ) where
  back_len : (j : ℕ) → j ≤ length s → ((k : ℕ) → j ≤ k → k < length s → get_or s k 0 ≢ 47) → (0 < j → get_or s (j - 1) 0 ≡ 47)
      → suffix_len (λ b. not (is_slash b)) s ≡ length s - j
  back_len j le none at = suffix_len_is (λ b. not (is_slash b)) s j 0 le
      (λ k from within. ap not (ne_eqb (get_or s k 0) 47 (none k from within)))
      (λ some. ap (λ b. not (is_slash b)) (at some))

  pub split : (i j : ℕ) → i ≤ length s → RFindsChar 47 s (Some (i, j)) → j ≤ length s → (path_before s ≡ take i s) × (last_segment s ≡ drop j s)
  split i j inside found le =
      let ends : j ≡ i + 1 = found.1.ends in
      let none : (k : ℕ) → j ≤ k → k < length s → get_or s k 0 ≢ 47 = λ k from within e.
      let back : j + (k - j) ≡ k = omega arith in
      let within' : k - j < length (drop j s) = omega (arith, length-drop j s) in
      let low : 47 < 128 = omega arith in
      NoCharPasses-char 47 (drop j s) (k - j) found.0 low within' (get_or-drop j s (k - j) 0 ∙ ap (λ n. get_or s n 0) back ∙ e) in
      let low : 47 < 128 = omega arith in
      let at : get_or s (j - 1) 0 ≡ 47 = ap (λ n. get_or s n 0) (omega arith) ∙ found.1.byte low in
      let len = back_len j le none (λ some. at) in (
        ap (λ n. take n s) (let e : length s - suffix_len (λ b. not (is_slash b)) s - 1 ≡ i = omega (arith, len) in e),
        ap (λ n. drop n s) (let e : length s - suffix_len (λ b. not (is_slash b)) s ≡ j = omega (arith, len) in e),
      )

  pub whole : NoCharPasses (λ d. is_slash d) s → (path_before s ≡ []) × (last_segment s ≡ s)
  whole h =
      let low : 47 < 128 = omega arith in
      let len = back_len 0 (omega arith) (λ k from within. NoCharPasses-char 47 s k h low within) (λ some. absurd (omega arith)) in (
        ap (λ n. take n s) (let e : length s - suffix_len (λ b. not (is_slash b)) s - 1 ≡ 0 = omega (arith, len) in e),
        ap (λ n. drop n s) (let e : length s - suffix_len (λ b. not (is_slash b)) s ≡ 0 = omega (arith, len) in e),
      )

-- a text that begins with no slash stays
pub no_slash : (s : List ℕ) → ((rest : List ℕ) → s ≢ 47 ∷ rest) → name_in s ≡ s
no_slash [] h = refl
no_slash (b ∷ s) h = ap (λ t. cond (t && true) s (b ∷ s)) (ne_eqb 47 b (λ p. h s (ap (λ x. x ∷ s) (sym p))))
