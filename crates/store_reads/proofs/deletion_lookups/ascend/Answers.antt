use Rattle.std.proofs.Common.{◌≡◌, ◌∙◌, ◌+◌, ◌-◌, ◌<◌, ℕ, List, [], length, get_or, true, false, sym, ap, arith, refl}
use Rattle.std.specs.List.{AllAdjacentBelow}
use Rattle.std.specs.List.Sorted.{IsStrictlySortedBy}
use Rattle.std.specs.Ordering.{is_ge}
use Rattle.std.specs.declared.cmp.Ordering.{Ordering}
use Rattle.std.specs.declared.cmp.Ordering.TheVariants.{Less, Equal, Greater}
use Rattle.std.proofs.lemmas.List.{get_or_default}
use Rattle.std.proofs.lemmas.List.Sorted.{all_adjacent_more}
use Rattle.std.proofs.lemmas.Map.Keys.{sorted_from_all_adjacent, Less-from_sorted}
use Rattle.oci_types.specs.Text.{Text}
use Rattle.registry_model.specs.World.{text_cmp}
use Rattle.registry_model.proofs.TextOrder.{text_total}
use Rattle.store_reads.proofs.deletion_lookups.ascend.Goals as goal

is_less : (o : Ordering) → is_ge o ≡ false → o ≡ Less
is_less Less e = refl
is_less Equal e = absurd cc
is_less Greater e = absurd cc

-- one more stands behind the one before it
rises_more : (ds : List Text) (i : ℕ) (a b : Text) → 0 < i → i < length ds → a ≡ get_or ds (i - 1) a → b ≡ get_or ds i b → is_ge (text_cmp a b) ≡ false
    → AllAdjacentBelow (λ x y. text_cmp x y ≡ Less) ds i → AllAdjacentBelow (λ x y. text_cmp x y ≡ Less) ds (i + 1)
rises_more ds i a b some low before here test rise =
    all_adjacent_more ds (λ x y. text_cmp x y ≡ Less) i some rise (λ d.
    let first : a ≡ get_or ds (i - 1) d = before ∙ get_or_default ds (i - 1) a d (omega arith) in
    let next : b ≡ get_or ds i d = here ∙ get_or_default ds i b d low in
    (λ j. text_cmp (sym first j) (sym next j)) ∙ is_less (text_cmp a b) test)

-- one that does not stand behind the one before it
falls : (ds : List Text) (i : ℕ) (a b : Text) → 0 < i → i < length ds → a ≡ get_or ds (i - 1) a → b ≡ get_or ds i b → is_ge (text_cmp a b) ≡ true → IsStrictlySortedBy text_cmp ds → ⊥
falls ds i a b some low before here test sorted =
    let next : b ≡ get_or ds i a = here ∙ get_or_default ds i b a low in
    let less : text_cmp a b ≡ Less = (λ j. text_cmp (before j) (next j)) ∙ Less-from_sorted text_cmp ds (i - 1) i a sorted (omega arith) low in
    let bad : true ≡ false = sym test ∙ ap is_ge less in
    absurd (cc)

pub loop-i-init : goal.loop-i-init
loop-i-init c = λ k d low. absurd (omega arith)

pub loop-i-preserved : goal.loop-i-preserved
loop-i-preserved c =
    rises_more c.args.digests.now c.loop-i.i c.index-digests-i.result c.index-digests-i-in-loop-i.result (omega arith) (omega arith) c.index-digests-i.is c.index-digests-i-in-loop-i.is
    (sym c.if-ge.ensures) c.loop-i.invariant

pub returns : goal.returns
returns c = (λ _. sorted_from_all_adjacent text_total c.args.digests.now [] (λ k low. c.loop-i.invariant k [] (omega arith)), λ _. refl)

pub returns-then-ge : goal.returns-then-ge
returns-then-ge c = (
  λ no. absurd (cc),
  λ sorted. absurd (falls c.args.digests.now c.loop-i.i c.index-digests-i.result c.index-digests-i-in-loop-i.result (omega arith) (omega arith) c.index-digests-i.is c.index-digests-i-in-loop-i.is
      (sym c.if-ge.ensures) sorted),
)
