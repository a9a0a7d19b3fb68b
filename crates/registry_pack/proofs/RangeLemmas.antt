-- Ranges of lists, byte by byte.
use Rattle.std.proofs.Common.{◌≡◌, ℕ, ◌+◌, ◌-◌, ◌<◌, ◌≤◌, List, ◌++◌, length, take, drop, slice_index, slice_range, refl, sym, ◌∙◌, ap, arith, rules, ext_get_or, get_or-take, get_or-drop, length-append}
use Rattle.std.proofs.lemmas.List.{places, get_or_append_left, get_or-append_right, take-take}
use Rattle.sqlite_disk.specs.Disk.{Holds}

pub slice_index-range : (bytes : List ℕ) (from n i : ℕ) → i < n → slice_index (slice_range bytes from (from + n)) i ≡ slice_index bytes (from + i)
slice_index-range bytes from n i low =
    let inside : i < from + n - from = omega arith in
    get_or-take (from + n - from) (drop from bytes) i 0 inside ∙ get_or-drop from bytes i 0

pub length-range : (bytes : List ℕ) (from n : ℕ) → from + n ≤ length bytes → length (slice_range bytes from (from + n)) ≡ n
length-range bytes from n within = search (rules, places)

-- the file has what its range has
pub Holds-range : (file : List ℕ) (at n : ℕ) → at + n ≤ length file → Holds file at (slice_range file at (at + n))
Holds-range file at n within =
    let len = length-range file at n within in
    record { within = omega (arith, len); each = λ i low. sym (slice_index-range file at n i (omega (arith, len))) }

-- bytes that the file has are its range
pub range_is : (file bytes : List ℕ) (at n : ℕ) → length bytes ≡ n → Holds file at bytes → slice_range file at (at + n) ≡ bytes
range_is file bytes at n len there =
    let size = length-range file at n (omega (arith, there.within)) in
    ext_get_or 0 _ _ (size ∙ sym len) λ i low. slice_index-range file at n i (omega (arith, size)) ∙ there.each i (omega (arith, size))

-- two ranges with the same bytes
pub ranges_same : (one other : List ℕ) (a b n : ℕ) → a + n ≤ length one → b + n ≤ length other
    → ((i : ℕ) → i < n → slice_index one (a + i) ≡ slice_index other (b + i)) → slice_range one a (a + n) ≡ slice_range other b (b + n)
ranges_same one other a b n fits other_fits same =
    let size = length-range one a n fits in
    ext_get_or 0 _ _ (size ∙ sym (length-range other b n other_fits)) λ i low.
    let early : i < n = omega (arith, size) in
    slice_index-range one a n i early ∙ same i early ∙ sym (slice_index-range other b n i early)

-- two files that agree on a range have the same bytes there
pub range-same : (one other : List ℕ) (at n : ℕ) → at + n ≤ length one → at + n ≤ length other
    → ((i : ℕ) → at ≤ i → i < at + n → slice_index one i ≡ slice_index other i) → slice_range one at (at + n) ≡ slice_range other at (at + n)
range-same one other at n fits other_fits same = ranges_same one other at at n fits other_fits λ i low. same (at + i) (omega arith) (omega arith)

-- a range of a range
pub range-range : (file : List ℕ) (at size from n : ℕ) → at + size ≤ length file → from + n ≤ size
    → slice_range (slice_range file at (at + size)) from (from + n) ≡ slice_range file (at + from) (at + from + n)
range-range file at size from n fits inside =
    ranges_same _ file from (at + from) n (omega (arith, length-range file at size fits)) (omega arith) λ i low.
    let here : at + (from + i) ≡ at + from + i = omega arith in
    slice_index-range file at size (from + i) (omega arith) ∙ ap (slice_index file) here

pub range-append_left : (xs ys : List ℕ) (from n : ℕ) → from + n ≤ length xs → slice_range (xs ++ ys) from (from + n) ≡ slice_range xs from (from + n)
range-append_left xs ys from n fits =
    ranges_same (xs ++ ys) xs from from n (omega (arith, length-append xs ys)) fits λ i low. get_or_append_left xs ys 0 (from + i) (omega arith)

pub range-append_right : (xs ys : List ℕ) (from n : ℕ) → length xs ≤ from → from - length xs + n ≤ length ys
    → slice_range (xs ++ ys) from (from + n) ≡ slice_range ys (from - length xs) (from - length xs + n)
range-append_right xs ys from n behind fits =
    ranges_same (xs ++ ys) ys from (from - length xs) n (omega (arith, length-append xs ys)) fits λ i low.
    let here : from + i - length xs ≡ from - length xs + i = omega arith in
    get_or-append_right xs ys (length xs) (from + i) 0 refl (omega arith) ∙ ap (slice_index ys) here

-- the front of a range
pub take-range : (xs : List ℕ) (from n m : ℕ) → n ≤ m → take n (slice_range xs from (from + m)) ≡ slice_range xs from (from + n)
take-range xs from n m short = take-take n (from + m - from) (drop from xs) (omega arith) ∙ ap (λ k. take k (drop from xs)) (omega arith)
