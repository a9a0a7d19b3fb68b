-- Blocks, and space that is made of whole ones.
use Rattle.std.proofs.Common.{◌≡◌, ◌⊎◌, inl, inr, ◌↔◌, ◌+◌, ◌-◌, ◌/◌, ◌%◌, ◌≤◌, ◌<◌, ℕ, List, [], ◌∷◌, arith, sym}
use Rattle.std.proofs.lemmas.Bool.{cases_lt}
use Rattle.registry_pack.specs.declared.extent.Extent.{Extent}
use Rattle.registry_pack.specs.Extents.{Covers}
use Rattle.registry_pack.specs.Holes.{IsFree, IsRun, Takes, Gives}
use Rattle.registry_pack.specs.Blocks.{block_floor, block_ceil, IsInBlocks, AreBefore, AreWhole}

-- a byte is free or not
pub free_or_not : (es : List Extent) (p : ℕ) → IsFree es p ⊎ (IsFree es p → ⊥)
free_or_not [] p = inr (λ f. f)
free_or_not (e ∷ es) p =
    elim (free_or_not es p) [
      | inl f ↦ inl (inr f)
      | inr n ↦ elim (cases_lt p e.at) [
        | inl below ↦ inr (λ f. elim f [ inl k ↦ omega (arith, k.0) | inr x ↦ n x ])
        | inr above ↦ elim (cases_lt p (e.at + e.size)) [
          | inl within ↦ inl (inl (above, within))
          | inr behind ↦ inr (λ f. elim f [ inl k ↦ omega (arith, k.1) | inr x ↦ n x ])
        ]
      ]
    ]

-- a byte of a block is free where another is
pub free_beside : (es : List Extent) → AreWhole es → (p q : ℕ) → p / 4096 ≡ q / 4096 → IsFree es p → IsFree es q
free_beside es whole p q same f = elim (free_or_not es q) [ inl x ↦ x | inr n ↦ absurd (whole p q same f n) ]

-- one offset of a block is within whole blocks where another is
pub in_whole : (a b p q : ℕ) → a % 4096 ≡ 0 → b % 4096 ≡ 0 → p / 4096 ≡ q / 4096 → a ≤ p → p < b → (a ≤ q) × (q < b)
in_whole a b p q first last same low high = (omega arith, omega arith)

pub in_blocks : (e : Extent) (p q : ℕ) → p / 4096 ≡ q / 4096 → IsInBlocks e p → IsInBlocks e q
in_blocks e p q same k = (omega (arith, k.0), omega (arith, k.1), omega (arith, k.2))

-- ---- space is changed by whole blocks

pub AreWhole-none : (es : List Extent) → ((p : ℕ) → IsFree es p → ⊥) → AreWhole es
AreWhole-none es none p q same f n = none p f

pub AreBefore-none : (end : ℕ) (es : List Extent) → ((p : ℕ) → IsFree es p → ⊥) → AreBefore end es
AreBefore-none end es none p f = absurd (none p f)

pub AreWhole-given : (old new : List Extent) (given e : Extent) (end : ℕ) → end % 4096 ≡ 0 → ((p : ℕ) → Covers given p ↔ (IsInBlocks e p × (p < end)))
    → Gives old new given → AreWhole old → AreWhole new
AreWhole-given old new given e end last is gives whole p q same f n =
    elim ((gives p).0 f) [
      | inl x ↦ whole p q same x (λ y. n ((gives q).1 (inl y)))
      | inr k ↦ (let (there, low) = (is p).0 k in n ((gives q).1 (inr ((is q).1 (in_blocks e p q same there, omega (arith, low))))))
    ]

pub AreBefore-given : (old new : List Extent) (given e : Extent) (end : ℕ) → ((p : ℕ) → Covers given p ↔ (IsInBlocks e p × (p < end)))
    → Gives old new given → AreBefore end old → AreBefore end new
AreBefore-given old new given e end is gives before p f =
    elim ((gives p).0 f) [
      | inl x ↦ before p x
      | inr k ↦ (let (there, low) = (is p).0 k in (there.0, low))
    ]

pub AreWhole-taken : (old new : List Extent) (e : Extent) → e.at % 4096 ≡ 0 → e.size % 4096 ≡ 0 → Takes old new e → AreWhole old → AreWhole new
AreWhole-taken old new e first size takes whole p q same f n =
    let (was, out) = (takes.after p).0 f in
    whole p q same was (λ g. n ((takes.after q).1 (g, λ k. out (omega (arith, k.0), omega (arith, k.1)))))

pub AreBefore-taken : (old new : List Extent) (e : Extent) (end : ℕ) → Takes old new e → AreBefore end old → AreBefore end new
AreBefore-taken old new e end takes before p f = before p ((takes.after p).0 f).0

pub AreBefore-later : (end later : ℕ) (es : List Extent) → end ≤ later → AreBefore end es → AreBefore later es
AreBefore-later end later es le before p f = let (low, high) = before p f in (low, omega (arith, high))

pub AreWhole-both : (xs ys new : List Extent) → ((p : ℕ) → IsFree new p ↔ (IsFree xs p ⊎ IsFree ys p)) → AreWhole xs → AreWhole ys → AreWhole new
AreWhole-both xs ys new is whole other p q same f n =
    elim ((is p).0 f) [
      | inl x ↦ whole p q same x (λ y. n ((is q).1 (inl y)))
      | inr x ↦ other p q same x (λ y. n ((is q).1 (inr y)))
    ]

pub AreBefore-both : (xs ys new : List Extent) (end : ℕ) → ((p : ℕ) → IsFree new p ↔ (IsFree xs p ⊎ IsFree ys p)) → AreBefore end xs → AreBefore end ys
    → AreBefore end new
AreBefore-both xs ys new end is before other p f = elim ((is p).0 f) [ inl x ↦ before p x | inr x ↦ other p x ]

-- ---- what is taken begins with a block

pub floor_is_start : (old : List Extent) (at size : ℕ) → AreWhole old → size % 4096 ≡ 0 → 0 < size → ((p : ℕ) → at ≤ p → p < at + size → IsFree old p)
    → ((a : ℕ) → IsRun old a size → at ≤ a) → at % 4096 ≡ 0
floor_is_start old at size whole blocks some free first =
    let le : at ≤ block_floor at = first (block_floor at) (λ p low high.
    elim (cases_lt p at) [
      | inl below ↦ free_beside old whole at p (omega arith) (free at (omega arith) (omega arith))
      | inr above ↦ free p above (omega arith)
    ]) in
    omega arith

-- ---- the blocks of what is handed out from free space

module _ (old new : List Extent) (end : ℕ) (blocks : Extent) (size room : ℕ) (whole : AreWhole old) (before : AreBefore end old) (some : 0 < size)
    (ceil : room ≡ block_ceil size) (has : blocks.size ≡ room) (takes : Takes old new blocks) (first : (a : ℕ) → IsRun old a room → blocks.at ≤ a) where
  pub taken_place : (8192 ≤ blocks.at) × (blocks.at % 4096 ≡ 0)
  taken_place = (
    (before blocks.at (takes.was_free blocks.at (omega arith, omega arith))).0,
    floor_is_start old blocks.at room whole (omega arith) (omega arith) (λ p low high. takes.was_free p (low, omega (arith, high))) first,
  )

  pub taken_whole : AreWhole new
  taken_whole = AreWhole-taken old new blocks taken_place.1 (omega arith) takes whole

  pub taken_blocks : (e : Extent) → e.at ≡ blocks.at → e.size ≡ size → (p : ℕ) → IsInBlocks e p ↔ Covers blocks p
  taken_blocks e at is p = (
    λ k. (omega (arith, k.1, taken_place.1), omega (arith, k.2, taken_place.1)),
    λ k. (omega (arith, k.0, taken_place.0), omega (arith, k.0, taken_place.1), omega (arith, k.1, taken_place.1)),
  )

  pub taken_was_writable : (e : Extent) → e.at ≡ blocks.at → e.size ≡ size → (p : ℕ) → IsInBlocks e p → IsFree old p ⊎ (end ≤ p)
  taken_was_writable e at is p k = inl (takes.was_free p ((taken_blocks e at is p).0 k))

  pub taken_after : (e : Extent) → e.at ≡ blocks.at → e.size ≡ size → (p : ℕ)
      → (IsFree new p ⊎ (end ≤ p)) ↔ ((IsFree old p ⊎ (end ≤ p)) × ¬ IsInBlocks e p)
  taken_after e at is p = (
    λ w. elim w [
      | inl f ↦ (let (was, out) = (takes.after p).0 f in (inl was, λ k. out ((taken_blocks e at is p).0 k)))
      | inr behind ↦ (inr behind, λ k. omega (arith, (before p (takes.was_free p ((taken_blocks e at is p).0 k))).1))
    ],
    λ (w, n). elim w [
      | inl f ↦ inl ((takes.after p).1 (f, λ k. n ((taken_blocks e at is p).1 k)))
      | inr behind ↦ inr behind
    ],
  )

-- ---- the blocks of an extent are given

module _ (old new : List Extent) (end : ℕ) (given e : Extent) (is : (p : ℕ) → Covers given p ↔ (IsInBlocks e p × (p < end))) (gives : Gives old new given) where
  pub given_writable : (p : ℕ) → (IsFree new p ⊎ (end ≤ p)) ↔ ((IsFree old p ⊎ (end ≤ p)) ⊎ IsInBlocks e p)
  given_writable p = (
    λ w. elim w [
      | inl f ↦ elim ((gives p).0 f) [ inl x ↦ inl (inl x) | inr k ↦ inr ((is p).0 k).0 ]
      | inr behind ↦ inl (inr behind)
    ],
    λ w. elim w [
      | inl x ↦ elim x [ inl f ↦ inl ((gives p).1 (inl f)) | inr behind ↦ inr behind ]
      | inr k ↦ elim (cases_lt p end) [ inl low ↦ inl ((gives p).1 (inr ((is p).1 (k, low)))) | inr behind ↦ inr behind ]
    ],
  )

  pub given_retired : (p : ℕ) → IsFree new p ↔ (IsFree old p ⊎ (IsInBlocks e p × (p < end)))
  given_retired p = (
    λ f. elim ((gives p).0 f) [ inl x ↦ inl x | inr k ↦ inr ((is p).0 k) ],
    λ w. elim w [ inl f ↦ (gives p).1 (inl f) | inr k ↦ (gives p).1 (inr ((is p).1 k)) ],
  )

-- ---- whole blocks are cut off the end

module _ (old new : List Extent) (at end : ℕ) (whole : AreWhole old) (last : end % 4096 ≡ 0) (lt : at < end)
    (was : (p : ℕ) → at ≤ p → p < end → IsFree old p) (after : (p : ℕ) → IsFree new p ↔ (IsFree old p × ¬ ((at ≤ p) × (p < end))))
    (stop : (p : ℕ) → p + 1 ≡ at → IsFree old p → ⊥) where
  pub trimmed_start : at % 4096 ≡ 0
  trimmed_start =
      elim (cases_lt 0 (at % 4096)) [
        | inl some ↦ absurd (stop (at - 1) (omega arith) (free_beside old whole at (at - 1) (omega arith) (was at (omega arith) lt)))
        | inr none ↦ omega arith
      ]

  pub trimmed_before : AreBefore end old → AreBefore at new
  trimmed_before before p f =
      let (there, out) = (after p).0 f in
      let (low, high) = before p there in
      elim (cases_lt p at) [ inl below ↦ (low, below) | inr above ↦ absurd (out (above, high)) ]

  pub trimmed_whole : AreWhole new
  trimmed_whole p q same f n =
      let (there, out) = (after p).0 f in
      whole p q same there (λ y. n ((after q).1 (y, λ k. out (in_whole at end q p trimmed_start last (sym same) k.0 k.1))))

-- writable bytes before the end are free
pub free_run : (es : List Extent) (end at n : ℕ) → at + n ≤ end → ((p : ℕ) → at ≤ p → p < at + n → IsFree es p ⊎ (end ≤ p)) → IsRun es at n
free_run es end at n within run p low high = elim (run p low high) [ inl f ↦ f | inr behind ↦ absurd (omega arith) ]
