-- Where bytes lie in the room of a buffer.
use Rattle.std.proofs.Common.{◌≡◌, ℕ, ◌+◌, ◌-◌, ◌≤◌, ◌<◌, zero, suc, [], ◌∷◌, ◌++◌, length, take, drop, slice_range, refl, sym, ap, ◌∙◌, arith, length-append, length-take, length-drop}
use Rattle.std.proofs.lemmas.List.{drop-take, drop-drop, drop-append-le, take_at, drop_at}
use Rattle.std.proofs.Math.Seq.{take-add}
use Rattle.oci_types.specs.Text.{Text}

pub take_take : (m n : ℕ) (xs : Text) → m ≤ n → take m (take n xs) ≡ take m xs
take_take zero n xs le = refl
take_take (suc m) zero xs le = absurd (omega (arith, le))
take_take (suc m) (suc n) [] le = refl
take_take (suc m) (suc n) (x ∷ xs) le = ap (λ l. x ∷ l) (take_take m n xs (omega (arith, le)))

slice_as : (xs : Text) (i j : ℕ) → i ≤ j → slice_range xs i j ≡ drop i (take j xs)
slice_as xs i j le =
    let parts : j ≡ i + (j - i) = omega arith in
    sym (ap (λ k. drop i (take k xs)) parts ∙ drop-take i (j - i) xs)

-- a part stays where the bytes in front of its end do
pub slice_kept : (xs ys : Text) (e i j : ℕ) → take e ys ≡ take e xs → i ≤ j → j ≤ e → slice_range ys i j ≡ slice_range xs i j
slice_kept xs ys e i j same le within =
    slice_as ys i j le ∙ ap (drop i) (sym (take_take j e ys within) ∙ ap (take j) same ∙ take_take j e xs within) ∙ sym (slice_as xs i j le)

-- a part that grows by the bytes behind it
pub slice_more : (ys : Text) (i j n : ℕ) → i ≤ j → slice_range ys i (j + n) ≡ slice_range ys i j ++ slice_range ys j (j + n)
slice_more ys i j n le =
    let sum : j + n - i ≡ (j - i) + n = omega arith in
    let rest : j + n - j ≡ n = omega arith in
    let there : i + (j - i) ≡ j = omega arith in
    ap (λ k. take k (drop i ys)) sum ∙ take-add (j - i) n (drop i ys)
    ∙ ap (λ (x : Text). take (j - i) (drop i ys) ++ take n x) (drop-drop (j - i) i ys ∙ ap (λ k. drop k ys) there)
    ∙ ap (λ k. take (j - i) (drop i ys) ++ take k (drop j ys)) (sym rest)

slice_take : (xs : Text) (u e n : ℕ) → n ≤ e - u → take n (slice_range xs u e) ≡ take n (drop u xs)
slice_take xs u e n le = take_take n (e - u) (drop u xs) le

-- the first n bytes of a part
pub slice_len : (xs : Text) (i j : ℕ) → j ≤ length xs → length (slice_range xs i j) ≡ j - i
slice_len xs i j within = omega (arith, length-take (j - i) (drop i xs), length-drop i xs)

-- a part of some bytes
pub some_read : (xs : Text) (e n : ℕ) → e + n ≤ length xs → 0 < n → 0 < length (slice_range xs e (e + n))
some_read xs e n within some = omega (arith, some, slice_len xs e (e + n) within)

-- a part to whose end n bytes came
pub slice_few : (xs ys : Text) (u e n most : ℕ) → e ≤ length xs → e + n ≤ length ys → n ≤ most
    → length (slice_range ys u (e + n)) ≤ length (slice_range xs u e) + most
slice_few xs ys u e n most within fits few = omega (arith, slice_len xs u e within, slice_len ys u (e + n) fits, few)

pub slice_drop : (xs : Text) (u e n : ℕ) → u + n ≤ e → slice_range xs (u + n) e ≡ drop n (slice_range xs u e)
slice_drop xs u e n le =
    let parts : e - u ≡ n + (e - (u + n)) = omega arith in
    sym (ap (λ k. drop n (take k (drop u xs))) parts ∙ drop-take n (e - (u + n)) (drop u xs) ∙ ap (take (e - (u + n))) (drop-drop n u xs))

-- n bytes from u on were moved down behind the part that ends at p
module _ (xs ys : Text) (s p u e n : ℕ) (started : s ≤ p) (placed : p ≤ u) (fits : u + n ≤ e) (within : e ≤ length xs)
    (front : take (p + n) ys ≡ take p xs ++ take n (drop u xs)) (behind : drop (p + n) ys ≡ drop (p + n) xs) where
  pub moved_front : slice_range ys s (p + n) ≡ slice_range xs s p ++ take n (slice_range xs u e)
  moved_front =
      let long : s ≤ length (take p xs) = omega (arith, length-take p xs) in
      slice_as ys s (p + n) (omega arith) ∙ ap (drop s) front ∙ drop-append-le s (take p xs) (take n (drop u xs)) long
      ∙ ap (λ (x : Text). x ++ take n (drop u xs)) (sym (slice_as xs s p started))
      ∙ ap (λ (x : Text). slice_range xs s p ++ x) (sym (slice_take xs u e n (omega arith)))

  -- what lies behind them stays
  stays : (k : ℕ) → p + n ≤ k → drop k ys ≡ drop k xs
  stays k le =
      let parts : (p + n) + (k - (p + n)) ≡ k = omega arith in
      ap (λ i. drop i ys) (sym parts) ∙ sym (drop-drop (k - (p + n)) (p + n) ys) ∙ ap (drop (k - (p + n))) behind
      ∙ drop-drop (k - (p + n)) (p + n) xs ∙ ap (λ i. drop i xs) parts

  pub moved_behind : slice_range ys (u + n) e ≡ drop n (slice_range xs u e)
  moved_behind = ap (take (e - (u + n))) (stays (u + n) (omega arith)) ∙ slice_drop xs u e n fits

-- both parts were moved to the front
module _ (xs ys zs : Text) (s p u e : ℕ) (started : s ≤ p) (placed : p ≤ u) (ordered : u ≤ e) (within : e ≤ length xs)
    (front : take (0 + (p - s)) ys ≡ take (p - s) (drop s xs)) (behind : drop (0 + (p - s)) ys ≡ drop (0 + (p - s)) xs)
    (all : take ((p - s) + (e - u)) zs ≡ take (p - s) ys ++ take (e - u) (drop u ys)) where
  same : 0 + (p - s) ≡ p - s
  same = omega arith

  first : take (p - s) ys ≡ slice_range xs s p
  first = ap (λ i. take i ys) (sym same) ∙ front

  later : drop (p - s) ys ≡ drop (p - s) xs
  later = ap (λ i. drop i ys) (sym same) ∙ behind ∙ ap (λ i. drop i xs) same

  size : length (take (p - s) ys) ≡ p - s
  size = ap length first ∙ slice_len xs s p (omega arith)

  others : take (e - u) (drop u ys) ≡ slice_range xs u e
  others =
      let parts : (p - s) + (u - (p - s)) ≡ u = omega arith in
      let k = u - (p - s) in
      ap (take (e - u)) (ap (λ i. drop i ys) (sym parts) ∙ sym (drop-drop k (p - s) ys) ∙ ap (drop k) later
      ∙ drop-drop k (p - s) xs ∙ ap (λ i. drop i xs) parts)

  pub compact_before : slice_range zs 0 (p - s) ≡ slice_range xs s p
  compact_before =
      slice_as zs 0 (p - s) (omega arith)
      ∙ sym (take_take (p - s) ((p - s) + (e - u)) zs (omega arith)) ∙ ap (take (p - s)) all
      ∙ take_at (take (p - s) ys) (take (e - u) (drop u ys)) (p - s) size ∙ first

  pub compact_behind : slice_range zs (p - s) ((p - s) + (e - u)) ≡ slice_range xs u e
  compact_behind =
      slice_as zs (p - s) ((p - s) + (e - u)) (omega arith) ∙ ap (drop (p - s)) all
      ∙ drop_at (take (p - s) ys) (take (e - u) (drop u ys)) (p - s) size ∙ others

-- n bytes from `from` on were copied to the place `to`
module _ (xs ys : Text) (from n to : ℕ) (down : to ≤ from) (within : from + n ≤ length xs)
    (copied : ys ≡ (take to xs ++ take (from + n - from) (drop from xs)) ++ drop (to + (from + n - from)) xs) where
  copied_part : ys ≡ (take to xs ++ take n (drop from xs)) ++ drop (to + n) xs
  copied_part =
      let part : from + n - from ≡ n = omega arith in
      copied ∙ ap (λ k. (take to xs ++ take k (drop from xs)) ++ drop (to + k) xs) part

  copied_len : length (take to xs ++ take n (drop from xs)) ≡ to + n
  copied_len = omega (arith, length-append (take to xs) (take n (drop from xs)), length-take to xs, length-take n (drop from xs), length-drop from xs)

  pub copied_front : take (to + n) ys ≡ take to xs ++ take n (drop from xs)
  copied_front = ap (take (to + n)) copied_part ∙ take_at (take to xs ++ take n (drop from xs)) (drop (to + n) xs) (to + n) copied_len

  pub copied_behind : drop (to + n) ys ≡ drop (to + n) xs
  copied_behind = ap (drop (to + n)) copied_part ∙ drop_at (take to xs ++ take n (drop from xs)) (drop (to + n) xs) (to + n) copied_len

-- nothing is moved where the bytes are at their place
pub unmoved : (xs : Text) (from n to : ℕ) → to ≡ from → take (to + n) xs ≡ take to xs ++ take n (drop from xs)
unmoved xs from n to same = take-add to n xs ∙ ap (λ k. take to xs ++ take n (drop k xs)) same

-- the place goes on by n bytes
pub passed_start : (s p n : ℕ) → s ≤ p → s ≤ p + n
passed_start s p n le = omega (arith, le)

pub passed_place : (p u n : ℕ) → p ≤ u → p + n ≤ u + n
passed_place p u n le = omega (arith, le)
