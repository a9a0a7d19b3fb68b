-- Where the bytes of a content stand.
use Rattle.std.proofs.Common.{◌≡◌, ℕ, ◌+◌, ◌-◌, ◌<◌, ◌≤◌, List, [], ◌∷◌, ◌++◌, false, length, take, drop, slice_range, inl, inr, sym, ◌∙◌, ap, arith, length-append, append_assoc}
use Rattle.std.specs.Prelude.{bytes_eq}
use Rattle.std.proofs.Math.Seq.{take-add}
use Rattle.std.proofs.lemmas.Bool.{cases_lt, true≢false}
use Rattle.std.proofs.lemmas.List.{take-append-le, take-take, take_all}
use Rattle.std.proofs.lemmas.Slice.Eq.{bytes_eq-Decides}
use Rattle.sqlite_disk.specs.Disk.{Holds}
use Rattle.registry_pack.specs.declared.extent.Extent.{Extent}
use Rattle.registry_pack.specs.Extents.{AreWithin, bytes_at, bytes_of, size_of, starts_at, total_of}
use Rattle.registry_pack.proofs.ExtentLemmas.{bytes_at-none, bytes_at-more, total_of-none, total_of-more}
use Rattle.registry_pack.specs.Content.{IsRunFrom}
use Rattle.registry_pack.proofs.RangeLemmas.{length-range, range-range, range-append_left, range-append_right, range_is, take-range}

-- a content has as many bytes as its extents
pub length-bytes_at : (file : List ℕ) (es : List Extent) → AreWithin file es → length (bytes_at file es) ≡ total_of es
length-bytes_at file [] within = ap length (bytes_at-none file) ∙ sym total_of-none
length-bytes_at file (e ∷ es) (within, more) =
    let size = length-range file e.at e.size within in
    let rest = length-bytes_at file es more in
    let whole = ap length (bytes_at-more file e es) in
    omega (arith, size, rest, whole, total_of-more e es, length-append (bytes_of file e) (bytes_at file es))

-- the rest of the first extent
pub IsRunFrom-first : (x : Extent) (es : List Extent) (from : ℕ) (e : Extent) → from < size_of x → starts_at e ≡ starts_at x + from
    → size_of e ≡ size_of x - from → IsRunFrom (x ∷ es) from e
IsRunFrom-first x es from e inside start size =
    record {
      some = omega arith;
      within = omega (arith, total_of-more x es);
      bytes = λ file (within, more).
          let len = length-range file x.at x.size within in
          let here : from + size_of e ≤ x.size = omega arith in (
            omega arith,
            ap (λ a. slice_range file a (a + size_of e)) start
                ∙ sym (range-range file x.at x.size from (size_of e) within here)
                ∙ sym (range-append_left (bytes_of file x) (bytes_at file es) from (size_of e) (omega (arith, len)))
                ∙ ap (λ (l : List ℕ). slice_range l from (from + size_of e)) (sym (bytes_at-more file x es)),
          );
    }

-- what lies behind the first extent
pub IsRunFrom-later : (x : Extent) (es : List Extent) (from : ℕ) (e : Extent) → size_of x ≤ from → IsRunFrom es (from - size_of x) e → IsRunFrom (x ∷ es) from e
IsRunFrom-later x es from e behind run =
    record {
      some = run.some;
      within = omega (arith, run.within, total_of-more x es);
      bytes = λ file (within, more).
          let (fits, same) = run.bytes file more in
          let len = length-range file x.at x.size within in
          let rest = length-bytes_at file es more in (
            fits,
            same
                ∙ ap (λ k. slice_range (bytes_at file es) (from - k) (from - k + size_of e)) (sym len)
                ∙ sym (range-append_right (bytes_of file x) (bytes_at file es) from (size_of e) (omega (arith, len)) (omega (arith, len, rest, run.within)))
                ∙ ap (λ (l : List ℕ). slice_range l from (from + size_of e)) (sym (bytes_at-more file x es)),
          );
    }

-- what was read of a run are bytes of the content
pub piece_is : (file : List ℕ) (es : List Extent) (from : ℕ) (e : Extent) (piece : List ℕ) (n : ℕ) → IsRunFrom es from e → n ≤ size_of e → length piece ≡ n
    → Holds file (starts_at e) piece → AreWithin file es → piece ≡ slice_range (bytes_at file es) from (from + n)
piece_is file es from e piece n run short len there within =
    sym (range_is file piece e.at n len there)
    ∙ sym (take-range file e.at n e.size short)
    ∙ ap (take n) (run.bytes file within).1
    ∙ take-range (bytes_at file es) from n (size_of e) short

-- a content that has ended is another than one that goes on
pub differ_in_length : (file : List ℕ) (ones others : List Extent) (from : ℕ) → AreWithin file ones → AreWithin file others
    → total_of ones ≤ from → from < total_of others → bytes_at file ones ≡ bytes_at file others → ⊥
differ_in_length file ones others from within other_within ended more same =
    omega (arith, length-bytes_at file ones within, length-bytes_at file others other_within, ap length same)

-- contents that differ in a range are not the same
pub differ_in_range : (xs ys : List ℕ) (from n : ℕ) → bytes_eq (slice_range xs from (from + n)) (slice_range ys from (from + n)) ≡ false → xs ≡ ys → ⊥
differ_in_range xs ys from n apart same =
    let again = (bytes_eq-Decides _ _).1 (ap (λ (l : List ℕ). slice_range l from (from + n)) same) in
    true≢false (sym again ∙ apart)

-- the front of what was read
pub front_is : (xs buf : List ℕ) (from n m : ℕ) → m ≤ n → take n buf ≡ slice_range xs from (from + n) → take m buf ≡ slice_range xs from (from + m)
front_is xs buf from n m short read = sym (take-take m n buf short) ∙ ap (take m) read ∙ take-range xs from m n short

take-more : (xs : List ℕ) (from n : ℕ) → take (from + n) xs ≡ take from xs ++ slice_range xs from (from + n)
take-more xs from n =
    let size : n ≡ from + n - from = omega arith in
    take-add from n xs ∙ ap (λ k. take from xs ++ take k (drop from xs)) size

-- one more piece is the same
pub same_more : (xs ys : List ℕ) (from n : ℕ) → take from xs ≡ take from ys → slice_range xs from (from + n) ≡ slice_range ys from (from + n)
    → take (from + n) xs ≡ take (from + n) ys
same_more xs ys from n front piece =
    take-more xs from n
    ∙ ap (λ (l : List ℕ). l ++ slice_range xs from (from + n)) front
    ∙ ap (λ (l : List ℕ). take from ys ++ l) piece
    ∙ sym (take-more ys from n)

-- contents that are the same up to the end of both are the same
pub bytes_at-same_to_end : (file : List ℕ) (ones others : List Extent) (n : ℕ) → AreWithin file ones → AreWithin file others
    → total_of ones ≤ n → total_of others ≤ n → take n (bytes_at file ones) ≡ take n (bytes_at file others) → bytes_at file ones ≡ bytes_at file others
bytes_at-same_to_end file ones others n within other_within ended other_ended same =
    sym (take_all n (bytes_at file ones) (omega (arith, length-bytes_at file ones within)))
    ∙ same
    ∙ take_all n (bytes_at file others) (omega (arith, length-bytes_at file others other_within))

-- what two reads found, compared, is the two ranges compared
pub compared_pieces : (xs ys buf piece rest : List ℕ) (from n m : ℕ) → m ≤ n → m ≤ length piece → take n buf ≡ slice_range xs from (from + n)
    → take m piece ≡ slice_range ys from (from + m)
    → bytes_eq (take m buf) (take m (piece ++ rest)) ≡ bytes_eq (slice_range xs from (from + m)) (slice_range ys from (from + m))
compared_pieces xs ys buf piece rest from n m short inside read other_read =
    ap (λ (l : List ℕ). bytes_eq l (take m (piece ++ rest))) (front_is xs buf from n m short read)
    ∙ ap (bytes_eq (slice_range xs from (from + m))) (take-append-le m piece rest inside ∙ other_read)

-- where a read found bytes, the content goes on
pub goes_on : (from total n : ℕ) → (total ≤ from → n ≡ 0) → 0 < n → from < total
goes_on from total n none some = elim (cases_lt from total) [ inl more ↦ more | inr ended ↦ absurd (omega (arith, none ended)) ]

-- where it found none, the content has ended
pub has_ended : (from total n : ℕ) → (from < total → 0 < n) → n ≡ 0 → total ≤ from
has_ended from total n some none = elim (cases_lt from total) [ inl more ↦ absurd (omega (arith, some more)) | inr ended ↦ ended ]

pub total_of-append : (xs ys : List Extent) → total_of (xs ++ ys) ≡ total_of xs + total_of ys
total_of-append [] ys = omega (arith, total_of-none)
total_of-append (x ∷ xs) ys = omega (arith, total_of-more x (xs ++ ys), total_of-more x xs, total_of-append xs ys)

pub bytes_at-append : (file : List ℕ) (xs ys : List Extent) → bytes_at file (xs ++ ys) ≡ bytes_at file xs ++ bytes_at file ys
bytes_at-append file [] ys = ap (λ (l : List ℕ). l ++ bytes_at file ys) (sym (bytes_at-none file))
bytes_at-append file (x ∷ xs) ys =
    bytes_at-more file x (xs ++ ys)
    ∙ ap (λ (l : List ℕ). bytes_of file x ++ l) (bytes_at-append file xs ys)
    ∙ sym (append_assoc (bytes_of file x) (bytes_at file xs) (bytes_at file ys))
    ∙ ap (λ (l : List ℕ). l ++ bytes_at file ys) (sym (bytes_at-more file x xs))

-- what was written at an extent is what it has
pub bytes_of-written : (file : List ℕ) (e : Extent) (bytes : List ℕ) → length bytes ≡ e.size → Holds file e.at bytes → bytes_of file e ≡ bytes
bytes_of-written file e bytes size there = range_is file bytes e.at e.size size there

-- a file that is no shorter has the extents still
pub AreWithin-longer : (one other : List ℕ) (es : List Extent) → length one ≤ length other → AreWithin one es → AreWithin other es
AreWithin-longer one other [] longer within = tt
AreWithin-longer one other (e ∷ es) longer (within, more) = (omega arith, AreWithin-longer one other es longer more)
