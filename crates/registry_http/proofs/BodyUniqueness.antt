-- Bytes begin with one body, and where it stands nothing is cut or refused.
use Rattle.std.proofs.Common.{◌≡◌, ℕ, ◌+◌, ◌-◌, ◌≤◌, inl, inr, List, [], ◌∷◌, ◌++◌, length, take, drop, get_or, All, refl, sym, ap, subst, ◌∙◌, append_assoc, arith, length-append}
use Rattle.std.proofs.lemmas.List.{take-append-drop, get_or-append-add}
use Rattle.std.proofs.lemmas.List.Concat.{flat_map-cons}
use Rattle.std.proofs.lemmas.List.Elements.{All-head, All-tail}
use Rattle.std.proofs.Math.Seq.{take-append-add, get_or-append_seam}
use Rattle.httparse.specs.Grammar.{ChunkLine, print_chunk_line, chunk_size, ReadsChunkLine, Field, LineEnd, print_section, ReadsSection}
use Rattle.httparse.proofs.ChunkLemmas.{chunk_line_unique}
use Rattle.httparse.proofs.GrammarLemmas.{section_unique}
use Rattle.oci_types.specs.Text.{Text}
use Rattle.registry_model.specs.Limits.{most_body}
use Rattle.registry_model.specs.declared.settings.Settings.{Settings}
use Rattle.registry_http.specs.declared.ending.FramingRefusal.{FramingRefusal}
use Rattle.registry_http.specs.declared.framing.Framing.{Framing}
use Rattle.registry_http.specs.declared.framing.Framing.TheVariants as framed
use Rattle.registry_http.specs.Chunks.{Chunk, IsChunk, IsLast, print_chunk, print_chunks, data_of, LineIsCut, LineIsRefused, HasBadEnd, ChunkIsCut, ChunkIsRefused, TrailerIsCut, TrailerIsRefused, BehindChunks, BehindLast, ChunkedBody, IsChunkedBody, print_body}
use Rattle.registry_http.specs.Spelling.{IsBody, BodyIsCut, BodyIsRefused}

pub same_front : (a b x y : Text) → length a ≡ length b → a ++ x ≡ b ++ y → (a ≡ b) × (x ≡ y)
same_front [] [] x y n e = (refl, e)
same_front [] (c ∷ b) x y n e = absurd (omega arith)
same_front (c ∷ a) [] x y n e = absurd (omega arith)
same_front (c ∷ a) (d ∷ b) x y n e =
    let tails : a ++ x ≡ b ++ y = cc in
    let heads : c ≡ d = cc in
    let short : length a ≡ length b = omega arith in
    let others = same_front a b x y short tails in
    ((λ i. heads i ∷ others.0 i), others.1)

-- ---- where a line stands

line_whole : (b : Text) (l : ChunkLine) (rest : Text) → ReadsChunkLine b l rest → LineIsCut b → ⊥
line_whole b l rest reads cut = cut.1 l rest reads

pub line_served : (b : Text) (l : ChunkLine) (rest : Text) (r : FramingRefusal) → ReadsChunkLine b l rest → length (print_chunk_line l) ≤ 1024 → LineIsRefused b r → ⊥
line_served b l rest r reads short (e, inl x) =
    let p = print_chunk_line l in
    let n : 1024 ≡ length p + (1024 - length p) = omega arith in
    x.1 l (take (1024 - length p) rest) (reads.0, ap (take 1024) reads.1 ∙ ap (λ k. take k (p ++ rest)) n ∙ take-append-add p rest (1024 - length p))
line_served b l rest r reads short (e, inr never) = never (drop 1024 b) l rest (rw take-append-drop reads)

-- ---- where a chunk stands, and the line that ends the chunks

pub opened : (c : Chunk) (y : Text) → print_chunk c ++ y ≡ print_chunk_line c.line ++ (c.carried ++ (13 ∷ 10 ∷ y))
opened c y = simp append_assoc

module _ (settings : Settings) (total : ℕ) (c : Chunk) (y : Text) (is : IsChunk c) (fits : total + length c.carried ≤ most_body settings) where
  chunk_reads : ReadsChunkLine (print_chunk c ++ y) c.line (c.carried ++ (13 ∷ 10 ∷ y))
  chunk_reads = (is.line, opened c y)

  same_line : (l : ChunkLine) (rest : Text) → ReadsChunkLine (print_chunk c ++ y) l rest → (l ≡ c.line) × (rest ≡ c.carried ++ (13 ∷ 10 ∷ y))
  same_line l rest reads = chunk_line_unique (print_chunk c ++ y) l c.line rest (c.carried ++ (13 ∷ 10 ∷ y)) reads chunk_reads

  size_of : (l : ChunkLine) → l ≡ c.line → chunk_size l ≡ length c.carried
  size_of l e = ap chunk_size e ∙ is.sized

  first_byte : get_or (c.carried ++ (13 ∷ 10 ∷ y)) (length c.carried) 0 ≡ 13
  first_byte = get_or-append_seam c.carried 13 (10 ∷ y) 0

  second_byte : get_or (c.carried ++ (13 ∷ 10 ∷ y)) (length c.carried + 1) 0 ≡ 10
  second_byte = get_or-append-add c.carried (13 ∷ 10 ∷ y) 1 0

  pub chunk_whole : ChunkIsCut settings total (print_chunk c ++ y) → ⊥
  chunk_whole (inl cut) = line_whole (print_chunk c ++ y) c.line _ chunk_reads cut
  chunk_whole (inr (l, rest, sized, cut)) =
      let same = same_line l rest sized.begins.reads in
      omega (arith, cut.0, size_of l same.0, ap length same.1, length-append c.carried (13 ∷ 10 ∷ y))

  pub chunk_served : (r : FramingRefusal) → ChunkIsRefused settings total (print_chunk c ++ y) r → ⊥
  chunk_served r (inl bad) = line_served (print_chunk c ++ y) c.line _ r chunk_reads is.short bad
  chunk_served r (inr (inl (l, rest, begins, over, e))) = omega (arith, over, size_of l (same_line l rest begins.reads).0)
  chunk_served r (inr (inr (l, rest, sized, (e, bad)))) =
      let same = same_line l rest sized.begins.reads in
      good (subst (λ n. HasBadEnd n (c.carried ++ (13 ∷ 10 ∷ y))) (size_of l same.0) (subst (HasBadEnd (chunk_size l)) same.1 bad))
    where
      good : HasBadEnd (length c.carried) (c.carried ++ (13 ∷ 10 ∷ y)) → ⊥
      good (inl x) = x.1 first_byte
      good (inr x) = x.2 second_byte

module _ (settings : Settings) (total : ℕ) (u : ChunkLine) (y : Text) (is : IsLast u) (fits : total ≤ most_body settings) where
  last_reads : ReadsChunkLine (print_chunk_line u ++ y) u y
  last_reads = (is.line, refl)

  zero_size : (l : ChunkLine) (rest : Text) → ReadsChunkLine (print_chunk_line u ++ y) l rest → chunk_size l ≡ 0
  zero_size l rest reads = ap chunk_size (chunk_line_unique (print_chunk_line u ++ y) l u rest y reads last_reads).0 ∙ is.zero

  pub last_whole : ChunkIsCut settings total (print_chunk_line u ++ y) → ⊥
  last_whole (inl cut) = line_whole (print_chunk_line u ++ y) u y last_reads cut
  last_whole (inr (l, rest, sized, cut)) = omega (arith, sized.some, zero_size l rest sized.begins.reads)

  pub last_served : (r : FramingRefusal) → ChunkIsRefused settings total (print_chunk_line u ++ y) r → ⊥
  last_served r (inl bad) = line_served (print_chunk_line u ++ y) u y r last_reads is.short bad
  last_served r (inr (inl (l, rest, begins, over, e))) = omega (arith, over, zero_size l rest begins.reads)
  last_served r (inr (inr (l, rest, sized, bad))) = omega (arith, sized.some, zero_size l rest sized.begins.reads)

-- ---- all chunks

-- a chunk, other chunks, and what follows them
pub chunks_opened : (c : Chunk) (cs : List Chunk) (r : Text) → print_chunks (c ∷ cs) ++ r ≡ print_chunk c ++ (print_chunks cs ++ r)
chunks_opened c cs r = ap (λ (x : Text). x ++ r) (flat_map-cons print_chunk c cs) ∙ append_assoc (print_chunk c) (print_chunks cs) r

pub data_opened : (c : Chunk) (cs : List Chunk) → length (data_of (c ∷ cs)) ≡ length c.carried + length (data_of cs)
data_opened c cs = ap length (flat_map-cons (λ (x : Chunk). x.carried) c cs) ∙ length-append c.carried (data_of cs)

no_zero : (c : Chunk) (u : ChunkLine) → IsChunk c → IsLast u → u ≡ c.line → ⊥
no_zero c u x z same =
    let size : chunk_size u ≡ chunk_size c.line = ap chunk_size same in
    omega (arith, size, z.zero, x.sized, x.some)

-- two chunks at the front are one
pub one_chunk : (c d : Chunk) (x y : Text) → IsChunk c → IsChunk d → print_chunk c ++ x ≡ print_chunk d ++ y → (c ≡ d) × (x ≡ y)
one_chunk c d x y p q e =
    let line = chunk_line_unique _ c.line d.line _ _ (p.line, refl) (q.line, sym (opened c x) ∙ e ∙ opened d y) in
    let size : length c.carried ≡ length d.carried = sym p.sized ∙ ap chunk_size line.0 ∙ q.sized in
    let carried = same_front c.carried d.carried _ _ size line.1 in
    ((λ i. record { line = line.0 i; carried = carried.0 i }), behind_end x y carried.1)
  where
    behind_end : (a b : Text) → 13 ∷ 10 ∷ a ≡ 13 ∷ 10 ∷ b → a ≡ b
    behind_end a b h = cc

pub chunks_unique : (xs ys : List Chunk) (u v : ChunkLine) (r q : Text) → All IsChunk xs → All IsChunk ys → IsLast u → IsLast v
    → print_chunks xs ++ (print_chunk_line u ++ r) ≡ print_chunks ys ++ (print_chunk_line v ++ q) → (xs ≡ ys) × (u ≡ v) × (r ≡ q)
chunks_unique [] [] u v r q each others last end e =
    let same = chunk_line_unique (print_chunk_line u ++ r) u v r q (last.line, refl) (end.line, e) in
    (refl, same.0, same.1)
chunks_unique [] (y ∷ ys) u v r q each others last end e =
    let is = All-head IsChunk y ys others in
    let same = chunk_line_unique (print_chunk_line u ++ r) u y.line r _ (last.line, refl) (is.line, e ∙ chunks_opened y ys (print_chunk_line v ++ q) ∙ opened y (print_chunks ys ++ (print_chunk_line v ++ q))) in
    absurd (no_zero y u is last same.0)
chunks_unique (x ∷ xs) [] u v r q each others last end e =
    let is = All-head IsChunk x xs each in
    let same = chunk_line_unique (print_chunk_line v ++ q) v x.line q _ (end.line, refl) (is.line, sym e ∙ chunks_opened x xs (print_chunk_line u ++ r) ∙ opened x (print_chunks xs ++ (print_chunk_line u ++ r))) in
    absurd (no_zero x v is end same.0)
chunks_unique (x ∷ xs) (y ∷ ys) u v r q each others last end e =
    let one = one_chunk x y _ _ (All-head IsChunk x xs each) (All-head IsChunk y ys others)
    (sym (chunks_opened x xs (print_chunk_line u ++ r)) ∙ e ∙ chunks_opened y ys (print_chunk_line v ++ q)) in
    let rest = chunks_unique xs ys u v r q (All-tail IsChunk x xs each) (All-tail IsChunk y ys others) last end one.1 in
    ((λ i. one.0 i ∷ rest.0 i), rest.1, rest.2)

-- what holds of no chunk and of no last line does not hold behind chunks
module _ (settings : Settings) (P : ℕ → Text → Type 0)
    (no_chunk : (total : ℕ) (c : Chunk) (y : Text) → IsChunk c → total + length c.carried ≤ most_body settings → P total (print_chunk c ++ y) → ⊥)
    (no_last : (total : ℕ) (u : ChunkLine) (y : Text) → IsLast u → total ≤ most_body settings → P total (print_chunk_line u ++ y) → ⊥) where
  pub none_behind : (total : ℕ) (xs ws : List Chunk) (u : ChunkLine) (r rest : Text) → All IsChunk xs → All IsChunk ws → IsLast u → total + length (data_of xs) ≤ most_body settings
      → print_chunks xs ++ (print_chunk_line u ++ r) ≡ print_chunks ws ++ rest → P (total + length (data_of ws)) rest → ⊥
  none_behind total [] [] u r rest each others last fits e h =
      no_last (total + 0) u r last (omega arith) (subst (P (total + 0)) (sym e) h)
  none_behind total [] (w ∷ ws) u r rest each others last fits e h =
      let is = All-head IsChunk w ws others in
      let same = chunk_line_unique (print_chunk_line u ++ r) u w.line r _ (last.line, refl) (is.line, e ∙ chunks_opened w ws rest ∙ opened w (print_chunks ws ++ rest)) in
      no_zero w u is last same.0
  none_behind total (x ∷ xs) [] u r rest each others last fits e h =
      no_chunk (total + 0) x (print_chunks xs ++ (print_chunk_line u ++ r)) (All-head IsChunk x xs each) (omega (arith, data_opened x xs))
      (subst (P (total + 0)) (sym e ∙ chunks_opened x xs (print_chunk_line u ++ r)) h)
  none_behind total (x ∷ xs) (w ∷ ws) u r rest each others last fits e h =
      let one = one_chunk x w _ _ (All-head IsChunk x xs each) (All-head IsChunk w ws others)
      (sym (chunks_opened x xs (print_chunk_line u ++ r)) ∙ e ∙ chunks_opened w ws rest) in
      let size : length x.carried ≡ length w.carried = ap (λ (c : Chunk). length c.carried) one.0 in
      let count : total + length (data_of (w ∷ ws)) ≡ (total + length x.carried) + length (data_of ws) = omega (arith, data_opened w ws, size) in
      none_behind (total + length x.carried) xs ws u r rest (All-tail IsChunk x xs each) (All-tail IsChunk w ws others) last (omega (arith, data_opened x xs))
      one.1 (subst (λ n. P n rest) count h)

-- ---- where a trailer stands

module _ (fields : List Field) (last : LineEnd) (y : Text) (reads : ReadsSection (print_section fields last ++ y) fields last y)
    (short : length (print_section fields last) ≤ 16384) (few : length fields ≤ 64) where
  trailer_whole : TrailerIsCut (print_section fields last ++ y) → ⊥
  trailer_whole cut = cut.1 fields last y reads

  trailer_served : (r : FramingRefusal) → TrailerIsRefused (print_section fields last ++ y) r → ⊥
  trailer_served r (e, inl (inl x)) =
      let p = print_section fields last in
      let n : 16384 ≡ length p + (16384 - length p) = omega arith in
      x.1 fields last (take (16384 - length p) y) (reads.0, ap (λ k. take k (p ++ y)) n ∙ take-append-add p y (16384 - length p))
  trailer_served r (e, inl (inr never)) = never (drop 16384 (print_section fields last ++ y)) fields last y (rw take-append-drop reads)
  trailer_served r (e, inr (others, end, rest, begins, many)) =
      let same = section_unique (print_section fields last ++ y) others fields end last rest y begins.reads reads in
      omega (arith, many, ap length same.0)

-- ---- bodies framed alike

-- the chunks, the line that ends them, the trailer, and what follows
body_opened : (x : ChunkedBody) (r : Text) → print_body x ++ r ≡ print_chunks x.chunks ++ (print_chunk_line x.zero ++ (print_section x.fields x.last ++ r))
body_opened x r =
    append_assoc (print_chunks x.chunks ++ print_chunk_line x.zero) (print_section x.fields x.last) r
    ∙ append_assoc (print_chunks x.chunks) (print_chunk_line x.zero) (print_section x.fields x.last ++ r)

module _ (settings : Settings) where
  chunked_unique : (r q : Text) (x y : ChunkedBody) → IsChunkedBody settings x → IsChunkedBody settings y → print_body x ++ r ≡ print_body y ++ q → (x ≡ y) × (r ≡ q)
  chunked_unique r q x y p s e =
      let front = chunks_unique x.chunks y.chunks x.zero y.zero _ _ p.each s.each p.zero s.zero (sym (body_opened x r) ∙ e ∙ body_opened y q) in
      let section = section_unique _ x.fields y.fields x.last y.last r q (p.fields, refl) (s.fields, front.2) in
      ((λ i. record { chunks = front.0 i; zero = front.1 i; fields = section.0 i; last = section.1 i }), section.2)

  -- P holds nowhere behind the chunks of a body, and Q not behind the line that ends them
  module _ (x : ChunkedBody) (r : Text) (is : IsChunkedBody settings x) (Q : Text → Type 0)
      (no_trailer : Q (print_section x.fields x.last ++ r) → ⊥) where
    none_behind_last : BehindLast settings Q (print_body x ++ r) → ⊥
    none_behind_last w =
        let text = sym (body_opened x r) ∙ w.whole ∙ append_assoc (print_chunks w.chunks) (print_chunk_line w.zero) w.rest in
        let same = chunks_unique x.chunks w.chunks x.zero w.zero _ _ is.each w.each is.zero w.is_last text in
        no_trailer (subst Q (sym same.2) w.here)

  none_in_chunks : (x : ChunkedBody) (r : Text) → IsChunkedBody settings x → (P : ℕ → Text → Type 0)
      → ((total : ℕ) (c : Chunk) (y : Text) → IsChunk c → total + length c.carried ≤ most_body settings → P total (print_chunk c ++ y) → ⊥)
      → ((total : ℕ) (u : ChunkLine) (y : Text) → IsLast u → total ≤ most_body settings → P total (print_chunk_line u ++ y) → ⊥)
      → BehindChunks settings P (print_body x ++ r) → ⊥
  none_in_chunks x r is P no_chunk no_last w =
      none_behind settings P no_chunk no_last 0 x.chunks w.chunks x.zero (print_section x.fields x.last ++ r) w.rest is.each w.each is.zero
      (omega (arith, is.within)) (sym (body_opened x r) ∙ w.whole) (subst (λ n. P n w.rest) (omega arith) w.here)

  pub body_unique : (f : Framing) (a b c d x y : Text) → IsBody settings f a b → IsBody settings f c d → a ++ x ≡ c ++ y → (a ≡ c) × (b ≡ d) × (x ≡ y)
  body_unique (framed.Length n) a b c d x y p q e =
      let size : length a ≡ length c = ap length p.0 ∙ p.1 ∙ sym q.1 ∙ sym (ap length q.0) in
      let same = same_front a c x y size e in
      (same.0, sym p.0 ∙ same.0 ∙ q.0, same.1)
  body_unique framed.Chunked a b c d x y p q e =
      let same = chunked_unique x y p.0 q.0 p.1 q.1 (ap (λ t. t ++ x) (sym p.2) ∙ e ∙ ap (λ t. t ++ y) q.2) in
      (p.2 ∙ ap print_body same.0 ∙ sym q.2, p.3 ∙ ap (λ (k : ChunkedBody). data_of k.chunks) same.0 ∙ sym q.3, same.1)
  body_unique (framed.Refused r) a b c d x y p q e = absurd p

  pub body_whole : (f : Framing) (a b x : Text) → IsBody settings f a b → BodyIsCut settings f (a ++ x) → ⊥
  body_whole (framed.Length n) a b x p short = omega (arith, p.1, ap length p.0, length-append a x)
  body_whole framed.Chunked a b x p cut = chunked (subst (λ t. BodyIsCut settings framed.Chunked (t ++ x)) p.2 cut)
    where
      chunked : BodyIsCut settings framed.Chunked (print_body p.0 ++ x) → ⊥
      chunked (inl w) = none_in_chunks p.0 x p.1 (ChunkIsCut settings) (λ total c y is fits h. chunk_whole settings total c y is fits h) (λ total u y is fits h. last_whole settings total u y is fits h) w
      chunked (inr w) = none_behind_last p.0 x p.1 TrailerIsCut (trailer_whole p.0.fields p.0.last x (p.1.fields, refl) p.1.short p.1.few) w
  body_whole (framed.Refused r) a b x p short = p

  pub body_served : (f : Framing) (a b x : Text) (r : FramingRefusal) → IsBody settings f a b → BodyIsRefused settings f (a ++ x) r → ⊥
  body_served (framed.Length n) a b x r p refused = refused
  body_served framed.Chunked a b x r p refused = chunked (subst (λ t. BodyIsRefused settings framed.Chunked (t ++ x) r) p.2 refused)
    where
      chunked : BodyIsRefused settings framed.Chunked (print_body p.0 ++ x) r → ⊥
      chunked (inl w) =
          none_in_chunks p.0 x p.1 (λ total rest. ChunkIsRefused settings total rest r) (λ total c y is fits h. chunk_served settings total c y is fits r h)
          (λ total u y is fits h. last_served settings total u y is fits r h) w
      chunked (inr w) =
          none_behind_last p.0 x p.1 (λ rest. TrailerIsRefused rest r) (trailer_served p.0.fields p.0.last x (p.1.fields, refl) p.1.short p.1.few r) w
  body_served (framed.Refused s) a b x r p refused = p
