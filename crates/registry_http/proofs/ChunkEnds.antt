-- Where a body in chunks ends, it ends in one way.
use Rattle.std.proofs.Common.{◌≡◌, ℕ, ◌+◌, ◌≤◌, inl, inr, List, [], ◌∷◌, ◌++◌, length, take, All, sym, ap, subst, ◌∙◌, append_assoc, arith}
use Rattle.std.proofs.lemmas.List.Elements.{All-head, All-tail}
use Rattle.httparse.specs.Grammar.{ChunkLine, print_chunk_line, chunk_size, ReadsChunkLine, ReadsSection}
use Rattle.httparse.proofs.ChunkLemmas.{chunk_line_unique}
use Rattle.oci_types.specs.Text.{Text}
use Rattle.registry_model.specs.Limits.{most_body}
use Rattle.registry_model.specs.declared.settings.Settings.{Settings}
use Rattle.registry_http.specs.declared.ending.FramingRefusal.{FramingRefusal}
use Rattle.registry_http.specs.Chunks.{BeginsWithLine, LineIsCut, LineIsRefused, DataIsCut, HasBadEnd, Chunk, IsChunk, IsLast, print_chunk, print_chunks, data_of, ChunkIsCut, ChunkIsRefused, BehindChunks, BehindLast, TrailerIsCut, TrailerIsRefused, ChunksAreCut, ChunksAreRefused}
use Rattle.registry_http.proofs.HeadLemmas.{take_whole}
use Rattle.registry_http.proofs.BodyUniqueness.{line_served, chunk_whole, chunk_served, last_whole, last_served, chunks_opened, data_opened, one_chunk, chunks_unique, none_behind}

-- ---- where the line of a chunk stands

line_cut_refused : (b : Text) (r : FramingRefusal) → LineIsCut b → LineIsRefused b r → ⊥
line_cut_refused b r cut (e, inl long) = omega (arith, cut.0, long.0)
line_cut_refused b r cut (e, inr never) =
    let all : b ≡ take 1024 b = sym (take_whole 1024 b (omega (arith, cut.0))) in
    let may = cut.2 in
    never may.0 may.1 [] (subst (λ x. ReadsChunkLine (x ++ may.0) may.1 []) all may.2)

module _ (b : Text) (l k : ChunkLine) (x y : Text) (p : BeginsWithLine b l x) (q : BeginsWithLine b k y) where
  same_line : (l ≡ k) × (x ≡ y)
  same_line = chunk_line_unique b l k x y p.reads q.reads

  same_size : chunk_size l ≡ chunk_size k
  same_size = ap chunk_size same_line.0

line_begun : (b : Text) (l : ChunkLine) (x : Text) (r : FramingRefusal) → BeginsWithLine b l x → LineIsRefused b r → ⊥
line_begun b l x r p bad = line_served b l x r p.reads p.short bad

-- ---- where the line end behind the data stands

end_cut_refused : (size : ℕ) (b : Text) → DataIsCut size b → HasBadEnd size b → ⊥
end_cut_refused size b cut (inl bad) = bad.1 (cut.1 bad.0)
end_cut_refused size b cut (inr bad) = omega (arith, cut.0, bad.0)

-- ---- one chunk

module _ (settings : Settings) where
  pub chunk_cut_refused : (total : ℕ) (b : Text) (r : FramingRefusal) → ChunkIsCut settings total b → ChunkIsRefused settings total b r → ⊥
  chunk_cut_refused total b r (inl cut) (inl bad) = line_cut_refused b r cut bad
  chunk_cut_refused total b r (inl cut) (inr (inl (l, rest, begins, over, e))) = cut.1 l rest begins.reads
  chunk_cut_refused total b r (inl cut) (inr (inr (l, rest, sized, bad))) = cut.1 l rest sized.begins.reads
  chunk_cut_refused total b r (inr (k, y, here, cut)) (inl bad) = line_begun b k y r here.begins bad
  chunk_cut_refused total b r (inr (k, y, here, cut)) (inr (inl (l, rest, begins, over, e))) =
      omega (arith, over, here.within, same_size b l k rest y begins here.begins)
  chunk_cut_refused total b r (inr (k, y, here, cut)) (inr (inr (l, rest, sized, bad))) =
      let same = same_line b l k rest y sized.begins here.begins in
      end_cut_refused (chunk_size k) y cut
      (subst (λ n. HasBadEnd n y) (ap chunk_size same.0) (subst (HasBadEnd (chunk_size l)) same.1 bad.1))

  pub chunk_refused_once : (total : ℕ) (b : Text) (r s : FramingRefusal) → ChunkIsRefused settings total b r → ChunkIsRefused settings total b s → r ≡ s
  chunk_refused_once total b r s (inl bad) (inl worse) = bad.0 ∙ sym worse.0
  chunk_refused_once total b r s (inl bad) (inr (inl (l, rest, begins, over, e))) = absurd (line_begun b l rest r begins bad)
  chunk_refused_once total b r s (inl bad) (inr (inr (l, rest, sized, worse))) = absurd (line_begun b l rest r sized.begins bad)
  chunk_refused_once total b r s (inr (inl (l, rest, begins, over, e))) (inl worse) = absurd (line_begun b l rest s begins worse)
  chunk_refused_once total b r s (inr (inr (l, rest, sized, bad))) (inl worse) = absurd (line_begun b l rest s sized.begins worse)
  chunk_refused_once total b r s (inr (inl (l, rest, begins, over, e))) (inr (inl (k, y, here, more, f))) = e ∙ sym f
  chunk_refused_once total b r s (inr (inl (l, rest, begins, over, e))) (inr (inr (k, y, here, worse))) =
      absurd (omega (arith, over, here.within, same_size b l k rest y begins here.begins))
  chunk_refused_once total b r s (inr (inr (l, rest, sized, bad))) (inr (inl (k, y, here, more, f))) =
      absurd (omega (arith, more, sized.within, same_size b l k rest y sized.begins here))
  chunk_refused_once total b r s (inr (inr (l, rest, sized, bad))) (inr (inr (k, y, here, worse))) = bad.0 ∙ sym worse.0

  -- ---- behind chunks

  -- what holds of no chunk at its front holds at one place
  module _ (P Q : ℕ → Text → Type 0) (R : Type 0)
      (no_P : (total : ℕ) (c : Chunk) (y : Text) → IsChunk c → total + length c.carried ≤ most_body settings → P total (print_chunk c ++ y) → ⊥)
      (no_Q : (total : ℕ) (c : Chunk) (y : Text) → IsChunk c → total + length c.carried ≤ most_body settings → Q total (print_chunk c ++ y) → ⊥)
      (meet : (total : ℕ) (y : Text) → P total y → Q total y → R) where
    same_place : (total : ℕ) (xs ys : List Chunk) (r q : Text) → All IsChunk xs → All IsChunk ys → total + length (data_of xs) ≤ most_body settings → total + length (data_of ys) ≤ most_body settings
        → print_chunks xs ++ r ≡ print_chunks ys ++ q → P (total + length (data_of xs)) r → Q (total + length (data_of ys)) q → R
    same_place total [] [] r q each others fits room e p h = meet (total + 0) q (subst (P (total + 0)) e p) h
    same_place total [] (y ∷ ys) r q each others fits room e p h =
        absurd (no_P (total + 0) y (print_chunks ys ++ q) (All-head IsChunk y ys others) (omega (arith, data_opened y ys, room))
        (subst (P (total + 0)) (e ∙ chunks_opened y ys q) p))
    same_place total (x ∷ xs) [] r q each others fits room e p h =
        absurd (no_Q (total + 0) x (print_chunks xs ++ r) (All-head IsChunk x xs each) (omega (arith, data_opened x xs, fits))
        (subst (Q (total + 0)) (sym e ∙ chunks_opened x xs r) h))
    same_place total (x ∷ xs) (y ∷ ys) r q each others fits room e p h =
        let one = one_chunk x y _ _ (All-head IsChunk x xs each) (All-head IsChunk y ys others) (sym (chunks_opened x xs r) ∙ e ∙ chunks_opened y ys q) in
        let size : length x.carried ≡ length y.carried = ap (λ (c : Chunk). length c.carried) one.0 in
        let next = total + length x.carried in
        let here : total + length (data_of (x ∷ xs)) ≡ next + length (data_of xs) = omega (arith, data_opened x xs) in
        let there : total + length (data_of (y ∷ ys)) ≡ next + length (data_of ys) = omega (arith, data_opened y ys, size) in
        same_place next xs ys r q (All-tail IsChunk x xs each) (All-tail IsChunk y ys others) (omega (arith, here, fits)) (omega (arith, there, room))
        one.1 (subst (λ n. P n r) here p) (subst (λ n. Q n q) there h)

    pub behind_chunks_meet : (b : Text) → BehindChunks settings P b → BehindChunks settings Q b → R
    behind_chunks_meet b p q =
        same_place 0 p.chunks q.chunks p.rest q.rest p.each q.each (omega (arith, p.within)) (omega (arith, q.within)) (sym p.whole ∙ q.whole)
        (subst (λ n. P n p.rest) (omega arith) p.here) (subst (λ n. Q n q.rest) (omega arith) q.here)

  -- what holds of no chunk and of no last line does not hold where the chunks are whole
  chunks_are_whole : (P : ℕ → Text → Type 0) (Q : Text → Type 0)
      → ((total : ℕ) (c : Chunk) (y : Text) → IsChunk c → total + length c.carried ≤ most_body settings → P total (print_chunk c ++ y) → ⊥)
      → ((total : ℕ) (u : ChunkLine) (y : Text) → IsLast u → total ≤ most_body settings → P total (print_chunk_line u ++ y) → ⊥)
      → (b : Text) → BehindChunks settings P b → BehindLast settings Q b → ⊥
  chunks_are_whole P Q no_chunk no_last b p q =
      none_behind settings P no_chunk no_last 0 q.chunks p.chunks q.zero q.rest p.rest q.each p.each q.is_last (omega (arith, q.within))
      (sym (append_assoc (print_chunks q.chunks) (print_chunk_line q.zero) q.rest) ∙ sym q.whole ∙ p.whole)
      (subst (λ n. P n p.rest) (omega arith) p.here)

  -- behind the line that ends the chunks stands one text
  behind_last_meet : (P Q : Text → Type 0) (R : Type 0) → ((y : Text) → P y → Q y → R) → (b : Text) → BehindLast settings P b → BehindLast settings Q b → R
  behind_last_meet P Q R meet b p q =
      let same = chunks_unique p.chunks q.chunks p.zero q.zero p.rest q.rest p.each q.each p.is_last q.is_last
      (sym (append_assoc (print_chunks p.chunks) (print_chunk_line p.zero) p.rest) ∙ sym p.whole ∙ q.whole ∙ append_assoc (print_chunks q.chunks) (print_chunk_line q.zero) q.rest) in
      meet q.rest (subst P same.2 p.here) q.here

  -- ---- the trailer

  trailer_cut_refused : (b : Text) (r : FramingRefusal) → TrailerIsCut b → TrailerIsRefused b r → ⊥
  trailer_cut_refused b r cut (e, inl (inl long)) = omega (arith, cut.0, long.0)
  trailer_cut_refused b r cut (e, inl (inr never)) =
      let all : b ≡ take 16384 b = sym (take_whole 16384 b (omega (arith, cut.0))) in
      let may = cut.2 in
      never may.0 may.1 may.2 [] (subst (λ x. ReadsSection (x ++ may.0) may.1 may.2 []) all may.3)
  trailer_cut_refused b r cut (e, inr (fields, last, rest, begins, many)) = cut.1 fields last rest begins.reads

  -- ---- the body

  pub chunks_cut_refused : (b : Text) (r : FramingRefusal) → ChunksAreCut settings b → ChunksAreRefused settings b r → ⊥
  chunks_cut_refused b r (inl cut) (inl bad) =
      behind_chunks_meet (ChunkIsCut settings) (λ total y. ChunkIsRefused settings total y r) ⊥ (λ total c y is fits h. chunk_whole settings total c y is fits h) (λ total c y is fits h. chunk_served settings total c y is fits r h)
      (λ total y h k. chunk_cut_refused total y r h k) b cut bad
  chunks_cut_refused b r (inl cut) (inr bad) =
      chunks_are_whole (ChunkIsCut settings) (λ y. TrailerIsRefused y r) (λ total c y is fits h. chunk_whole settings total c y is fits h) (λ total u y is fits h. last_whole settings total u y is fits h) b cut bad
  chunks_cut_refused b r (inr cut) (inl bad) =
      chunks_are_whole (λ total y. ChunkIsRefused settings total y r) TrailerIsCut (λ total c y is fits h. chunk_served settings total c y is fits r h)
      (λ total u y is fits h. last_served settings total u y is fits r h) b bad cut
  chunks_cut_refused b r (inr cut) (inr bad) =
      behind_last_meet TrailerIsCut (λ y. TrailerIsRefused y r) ⊥ (λ y h k. trailer_cut_refused y r h k) b cut bad

  pub chunks_refused_once : (b : Text) (r s : FramingRefusal) → ChunksAreRefused settings b r → ChunksAreRefused settings b s → r ≡ s
  chunks_refused_once b r s (inl bad) (inl worse) =
      behind_chunks_meet (λ total y. ChunkIsRefused settings total y r) (λ total y. ChunkIsRefused settings total y s) (r ≡ s) (λ total c y is fits h. chunk_served settings total c y is fits r h)
      (λ total c y is fits h. chunk_served settings total c y is fits s h) (λ total y h k. chunk_refused_once total y r s h k) b bad worse
  chunks_refused_once b r s (inl bad) (inr worse) =
      absurd (chunks_are_whole (λ total y. ChunkIsRefused settings total y r) (λ y. TrailerIsRefused y s) (λ total c y is fits h. chunk_served settings total c y is fits r h)
      (λ total u y is fits h. last_served settings total u y is fits r h) b bad worse)
  chunks_refused_once b r s (inr bad) (inl worse) =
      absurd (chunks_are_whole (λ total y. ChunkIsRefused settings total y s) (λ y. TrailerIsRefused y r) (λ total c y is fits h. chunk_served settings total c y is fits s h)
      (λ total u y is fits h. last_served settings total u y is fits s h) b worse bad)
  chunks_refused_once b r s (inr bad) (inr worse) =
      behind_last_meet (λ y. TrailerIsRefused y r) (λ y. TrailerIsRefused y s) (r ≡ s) (λ y h k. h.0 ∙ sym k.0) b bad worse
