-- The bytes of a content, a piece after the other.
use Rattle.std.proofs.Common.{◌≡◌, ◌∙◌, ◌+◌, ◌-◌, ◌++◌, ◌≤◌, ℕ, List, inl, inr, length, take, drop, slice_range, sym, ap, arith, length-append, length-take}
use Rattle.std.proofs.Math.Seq.{take-add}
use Rattle.std.proofs.lemmas.Bool.{cases_lt}
use Rattle.std.proofs.lemmas.List.{take_all}
use Rattle.registry_pack.specs.declared.extent.Extent.{Extent}
use Rattle.registry_pack.specs.Extents.{AreWithin, bytes_at, total_of}
use Rattle.registry_pack.specs.Content.{ReadsPiece}
use Rattle.registry_pack.proofs.ContentLemmas.{length-bytes_at}
use Rattle.store_pack.specs.Content.{HasMoreOf, IsFront}

-- what a later look shows to be clean was so before
pub front_later : (before after : Type 0) (file : List ℕ) (es : List Extent) (bytes : List ℕ) → (after → before) → IsFront before file es bytes → IsFront after file es bytes
front_later before after file es bytes early front = record { within = front.within; first = λ is within. front.first (early is) within }

front_more : (xs : List ℕ) (from n : ℕ) → take (from + n) xs ≡ take from xs ++ slice_range xs from (from + n)
front_more xs from n =
    let size : n ≡ from + n - from = omega arith in
    take-add from n xs ∙ ap (λ k. take from xs ++ take k (drop from xs)) size

-- one more piece stands behind them
pub more_read : (clean : Type 0) (file : List ℕ) (es : List Extent) (old new was piece : List ℕ) (n : ℕ) → ReadsPiece clean file es (length old) was piece n
    → new ≡ old ++ take n piece → HasMoreOf clean file es old new n
more_read clean file es old new was piece n read is =
    let size : length new ≡ length old + n = omega (arith, ap length is, length-append old (take n piece), length-take n piece, read.fits, read.length) in
    record {
      front = λ front. record {
        within = elim (cases_lt (length old) (total_of es)) [ inl more ↦ omega (arith, size, read.within more) | inr ended ↦ omega (arith, size, front.within, read.none ended) ];
        first = λ clean within.
            is
            ∙ ap (λ (l : List ℕ). l ++ take n piece) (front.first clean within)
            ∙ ap (λ (l : List ℕ). take (length old) (bytes_at file es) ++ l) (read.bytes clean within)
            ∙ sym (front_more (bytes_at file es) (length old) n)
            ∙ ap (λ k. take k (bytes_at file es)) (sym size);
      };
      size = size;
      some = read.some;
    }

-- where none came, they are all
pub all_read : (clean : Type 0) (file : List ℕ) (es : List Extent) (old new : List ℕ) (n : ℕ) → IsFront clean file es old → HasMoreOf clean file es old new n → n ≡ 0
    → clean → AreWithin file es → new ≡ bytes_at file es
all_read clean file es old new n front more none is within =
    let now = more.front front in
    let ended : total_of es ≤ length new = elim (cases_lt (length old) (total_of es)) [ inl early ↦ absurd (omega (arith, none, more.some early)) | inr ended ↦ omega (arith, ended, more.size) ] in
    now.first is within ∙ take_all (length new) (bytes_at file es) (omega (arith, ended, length-bytes_at file es within))
