-- The parts of a body, one after the other.
use Rattle.std.proofs.Common.{◌≡◌, ℕ, ◌+◌, ◌-◌, ◌<◌, ◌≤◌, inl, inr, List, [], ◌∷◌, ◌++◌, length, take, drop, get_or, refl, sym, ap, ◌∙◌, subst, append_assoc, append-nil, arith, add-one, drop-cons, length-append, length-take, length-drop}
use Rattle.std.specs.Prelude.{slice_index}
use Rattle.std.specs.List.{flat_map}
use Rattle.std.proofs.lemmas.Grind.{flat_map-append}
use Rattle.std.proofs.lemmas.List.Concat.{flat_map-cons}
use Rattle.std.proofs.lemmas.List.Elements.{All-append, All-from_recursion}
use Rattle.std.proofs.lemmas.List.{take-append-drop, get_or-append-add}
use Rattle.std.proofs.Math.Seq.{take-append-add, drop-append-add}
use Rattle.httparse.specs.Grammar.{ChunkLine, print_chunk_line, print_section}
use Rattle.httparse.proofs.ChunkLemmas.{ReadsChunkLine-append}
use Rattle.oci_types.specs.Text.{Text}
use Rattle.registry_model.specs.Limits.{most_body}
use Rattle.registry_model.specs.declared.settings.Settings.{Settings}
use Rattle.registry_http.specs.Chunks.{chunk_end, BeginsWithLine, BeginsWithSize, LineIsCut, HoldsNoLine, HasBadEnd, HasGoodEnd, DataIsCut, Chunk, IsChunk, print_chunk, print_chunks, data_of, ChunkIsCut, ChunkIsRefused, BehindChunks, BehindLast, TrailerIsCut, TrailerIsRefused, HoldsNoTrailer, ChunkedBody}
use Rattle.registry_http.specs.Spelling.{IsBody, BodyIsCut, BodyIsRefused}
use Rattle.registry_http.specs.Taking.{LineIsRead, TrailerIsRead}
use Rattle.registry_http.specs.declared.framing.Framing.{Framing}
use Rattle.registry_http.specs.declared.framing.Framing.TheVariants as framed
use Rattle.registry_http.specs.declared.chunk.Line.{Line as LineFound}
use Rattle.registry_http.specs.declared.ending.FramingRefusal.{FramingRefusal}
use Rattle.registry_http.specs.declared.ending.FramingRefusal.TheVariants.{UnreadableChunk, ChunksTooLarge}
use Rattle.registry_conversation.specs.declared.part.Part.{Part}
use Rattle.registry_conversation.specs.declared.part.Part.TheVariants.{Length, Line, Data, Trailer}
use Rattle.registry_conversation.specs.declared.part.Took.{Took}
use Rattle.registry_conversation.specs.declared.part.Taken.{Taken}
use Rattle.registry_conversation.specs.Parts.{BehindTotal, BehindSize, BehindZero, IsPart, BodyIsWhole, TakesPart, TakesFrom, TakesBody, TakesAll}

-- what follows goes on behind
pub on_tail : (v p u tail : Text) → v ≡ p ++ u → v ++ tail ≡ p ++ (u ++ tail)
on_tail v p u tail e = ap (λ (x : Text). x ++ tail) e ∙ append_assoc p u tail

-- ---- more bytes come

line_on : (b : Text) (l : ChunkLine) (rest tail : Text) → BeginsWithLine b l rest → BeginsWithLine (b ++ tail) l (rest ++ tail)
line_on b l rest tail h = record { reads = ReadsChunkLine-append b l rest tail h.reads; short = h.short }

total_on : (settings : Settings) (total : ℕ) (front v t u more : Text) → BehindTotal settings total front v t u → BehindTotal settings total front (v ++ more) t (u ++ more)
total_on settings total front v t u more p = record {
  chunks = p.chunks;
  each = p.each;
  within = p.within;
  carried = p.carried;
  whole = on_tail v (print_chunks p.chunks) u more p.whole;
  kept = p.kept;
}

pub part_on : (settings : Settings) (part : Part) (framing : Framing) (front v t u more : Text) → IsPart settings part framing front v t u
    → IsPart settings part framing front (v ++ more) t (u ++ more)
part_on settings (Length size came) framing front v t u more x =
    let p = x.1 in (x.0, record { come = p.come; counted = p.counted; fits = p.fits; whole = on_tail v p.come u more p.whole; kept = p.kept })
part_on settings (Line total) framing front v t u more x = (x.0, total_on settings total front v t u more x.1)
part_on settings (Data total size came) framing front v t u more x =
    let p = x.1 in (
      x.0,
      record {
        earlier = p.earlier;
        line = p.line;
        rest = p.rest ++ more;
        before = p.before;
        come = p.come;
        so_far = total_on settings p.earlier front v p.before p.rest more p.so_far;
        begins = subst (λ (y : Text). BeginsWithLine (p.rest ++ more) p.line y) (append_assoc p.come u more) (line_on p.rest p.line (p.come ++ u) more p.begins);
        some = p.some;
        sized = p.sized;
        sum = p.sum;
        within = p.within;
        counted = p.counted;
        fits = p.fits;
        kept = p.kept;
      },
    )
part_on settings (Trailer total) framing front v t u more x =
    let p = x.1 in (
      x.0,
      record {
        chunks = p.chunks;
        zero = p.zero;
        each = p.each;
        within = p.within;
        carried = p.carried;
        is_last = p.is_last;
        whole = on_tail v (print_chunks p.chunks ++ print_chunk_line p.zero) u more p.whole;
        kept = p.kept;
      },
    )

-- ---- what is taken of a part

-- nothing more
pub takes_none : (settings : Settings) (part : Part) (found : Took) (t u t' u' : Text) → t' ≡ t
    → ((framing : Framing) (front v carried : Text) → IsPart settings part framing front v carried u → TakesPart settings found framing front v carried u') → TakesFrom settings part found t u t' u'
takes_none settings part found t u t' u' same h = (
  [],
  same ∙ sym (append-nil t),
  λ framing front v carried x. subst (λ (y : Text). TakesPart settings found framing front v y u') (sym (append-nil carried)) (h framing front v carried x),
)

-- more, and then more
pub more_taken : (t t' t'' more further : Text) → t' ≡ t ++ more → t'' ≡ t' ++ further → t'' ≡ t ++ (more ++ further)
more_taken t t' t'' more further first second = second ∙ ap (λ (y : Text). y ++ further) first ∙ append_assoc t more further

-- of what was taken before
pub takes_here : (settings : Settings) (part : Part) (found : Taken) (t u t' u' : Text) → TakesAll settings part found t u t' u' → (framing : Framing) (front v : Text)
    → IsPart settings part framing front v t u → TakesBody settings found framing front v t' u'
takes_here settings part found t u t' u' h framing front v x = subst (λ (y : Text). TakesBody settings found framing front v y u') (sym h.1) (h.2 framing front v t x)

-- what came, and the next n bytes
and_next : (come u u' v : Text) (n : ℕ) → v ≡ come ++ u → u' ≡ drop n u → v ≡ (come ++ take n u) ++ u'
and_next come u u' v n e rest =
    e ∙ ap (λ (y : Text). come ++ y) (sym (take-append-drop n u)) ∙ sym (append_assoc come (take n u) (drop n u)) ∙ ap (λ (y : Text). (come ++ take n u) ++ y) (sym rest)

-- what is passed stays
pub same_length : (t t' u : Text) (n : ℕ) (u' : Text) → t' ≡ t ++ take n u → u' ≡ drop n u → length t' + length u' ≤ length t + length u
same_length t t' u n u' kept rest = omega (arith, ap length kept, length-append t (take n u), length-take n u, ap length rest, length-drop n u)

-- ---- a body of a stated length

pub length_on : (settings : Settings) (size came n : ℕ) (framing : Framing) (front v t u u' : Text) → IsPart settings (Length size came) framing front v t u → n ≤ length u → n < size - came
    → u' ≡ drop n u → IsPart settings (Length size (came + n)) framing front v (t ++ take n u) u'
length_on settings size came n framing front v t u u' x few less rest =
    let p = x.1 in (
      x.0,
      record {
        come = p.come ++ take n u;
        counted = omega (arith, length-append p.come (take n u), p.counted, length-take n u, few);
        fits = omega (arith, p.fits, less);
        whole = and_next p.come u u' v n p.whole rest;
        kept = ap (λ (y : Text). y ++ take n u) p.kept ∙ append_assoc front p.come (take n u);
      },
    )

pub length_cut : (settings : Settings) (size came : ℕ) (framing : Framing) (front v t u : Text) → IsPart settings (Length size came) framing front v t u → length u < size - came
    → BodyIsCut settings framing v
length_cut settings size came framing front v t u x short =
    let p = x.1 in
    subst (λ (f : Framing). BodyIsCut settings f v) (sym x.0) (omega (arith, ap length p.whole, length-append p.come u, p.counted, short))

pub length_whole : (settings : Settings) (size came n : ℕ) (framing : Framing) (front v t u u' : Text) → IsPart settings (Length size came) framing front v t u → n ≡ size - came → n ≤ length u
    → u' ≡ drop n u → (w : BodyIsWhole settings framing front v (t ++ take n u) u') × (size ≡ length w.body)
length_whole settings size came n framing front v t u u' x is enough rest =
    let p = x.1 in
    let body = p.come ++ take n u in
    let all : length body ≡ size = omega (arith, length-append p.come (take n u), p.counted, p.fits, length-take n u, enough, is) in (
      record {
        coded = body;
        body = body;
        is_body = subst (λ (f : Framing). IsBody settings f body body) (sym x.0) (refl, all);
        whole = and_next p.come u u' v n p.whole rest;
        kept = ap (λ (y : Text). y ++ take n u) p.kept ∙ append_assoc front p.come (take n u);
      },
      sym all,
    )

-- ---- the line of a chunk

-- what stands behind whole chunks
at_chunk : (settings : Settings) (total : ℕ) (front v t u : Text) (p : BehindTotal settings total front v t u) (P : ℕ → Text → Type 0) (w y : Text)
    → w ≡ print_chunks p.chunks ++ y → P total y → BehindChunks settings P w
at_chunk settings total front v t u p P w y e h = record {
  chunks = p.chunks;
  rest = y;
  whole = e;
  each = p.each;
  within = omega (arith, p.within, p.carried);
  here = subst (λ (n : ℕ). P n y) p.carried h;
}

chunk_cut : (settings : Settings) (total : ℕ) (framing : Framing) (front v t u : Text) → framing ≡ framed.Chunked → BehindTotal settings total front v t u
    → ChunkIsCut settings total u → BodyIsCut settings framing v
chunk_cut settings total framing front v t u e p cut =
    subst (λ (f : Framing). BodyIsCut settings f v) (sym e) (inl (at_chunk settings total front v t u p (ChunkIsCut settings) v u p.whole cut))

chunk_never : (settings : Settings) (total : ℕ) (framing : Framing) (front v t u : Text) (r : FramingRefusal) → framing ≡ framed.Chunked → BehindTotal settings total front v t u
    → ((tail : Text) → ChunkIsRefused settings total (u ++ tail) r) → (tail : Text) → BodyIsRefused settings framing (v ++ tail) r
chunk_never settings total framing front v t u r e p bad tail =
    subst (λ (f : Framing). BodyIsRefused settings f (v ++ tail) r) (sym e)
    (inl (at_chunk settings total front v t u p (λ n y. ChunkIsRefused settings n y r) (v ++ tail) (u ++ tail) (on_tail v (print_chunks p.chunks) u tail p.whole) (bad tail)))

pub line_cut : (settings : Settings) (total : ℕ) (framing : Framing) (front v t u : Text) → IsPart settings (Line total) framing front v t u → LineIsCut u → BodyIsCut settings framing v
line_cut settings total framing front v t u x cut = chunk_cut settings total framing front v t u x.0 x.1 (inl cut)

pub line_never : (settings : Settings) (total : ℕ) (framing : Framing) (front v t u : Text) → IsPart settings (Line total) framing front v t u
    → ((tail : Text) → HoldsNoLine (u ++ tail)) → (tail : Text) → BodyIsRefused settings framing (v ++ tail) UnreadableChunk
line_never settings total framing front v t u x never =
    chunk_never settings total framing front v t u UnreadableChunk x.0 x.1 (λ tail. inl (refl, never tail))

pub line_over : (settings : Settings) (total : ℕ) (framing : Framing) (front v t u : Text) (line : LineFound) → IsPart settings (Line total) framing front v t u
    → LineIsRead u line → most_body settings - total < line.size → (tail : Text) → BodyIsRefused settings framing (v ++ tail) ChunksTooLarge
line_over settings total framing front v t u line x read over =
    chunk_never settings total framing front v t u ChunksTooLarge x.0 x.1
    (λ tail. inr (inl (read.text, drop line.len u ++ tail, line_on u read.text _ tail read.begins, omega (arith, read.size), refl)))

pub line_fits : (u : Text) (line : LineFound) → LineIsRead u line → line.len ≤ length u
line_fits u line read =
    let size = ap length read.begins.reads.1 in
    omega (arith, length-append (print_chunk_line read.text) (drop line.len u), read.len)

pub line_last : (settings : Settings) (total : ℕ) (framing : Framing) (front v t u u' : Text) (line : LineFound) → IsPart settings (Line total) framing front v t u
    → LineIsRead u line → line.size ≡ 0 → u' ≡ drop line.len u → IsPart settings (Trailer total) framing front v t u'
line_last settings total framing front v t u u' line x read none rest =
    let p = x.1 in
    let text = print_chunk_line read.text in (
      x.0,
      record {
        chunks = p.chunks;
        zero = read.text;
        each = p.each;
        within = omega (arith, p.within, p.carried);
        carried = p.carried;
        is_last = record { line = read.begins.reads.0; short = read.begins.short; zero = sym read.size ∙ none };
        whole = p.whole ∙ ap (λ (y : Text). print_chunks p.chunks ++ y) (read.begins.reads.1 ∙ ap (λ (y : Text). text ++ y) (sym rest))
            ∙ sym (append_assoc (print_chunks p.chunks) text u');
        kept = p.kept;
      },
    )

pub line_size : (settings : Settings) (total : ℕ) (framing : Framing) (front v t u u' : Text) (line : LineFound) → IsPart settings (Line total) framing front v t u
    → LineIsRead u line → 0 < line.size → line.size ≤ most_body settings - total → u' ≡ drop line.len u
    → IsPart settings (Data (total + line.size) line.size 0) framing front v t u'
line_size settings total framing front v t u u' line x read some small rest = (
  x.0,
  record {
    earlier = total;
    line = read.text;
    rest = u;
    before = t;
    come = [];
    so_far = x.1;
    begins = subst (λ (y : Text). BeginsWithLine u read.text y) (sym rest) read.begins;
    some = some;
    sized = read.size;
    sum = refl;
    within = omega (arith, x.1.within);
    counted = refl;
    fits = omega arith;
    kept = sym (append-nil t);
  },
)

-- ---- the data of a chunk

module _ (size came n : ℕ) (come : Text) (counted : length come ≡ came) (is : size ≡ came + n) where
  -- behind what came
  at_size : (u : Text) (k : ℕ) → slice_index (come ++ u) (size + k) ≡ slice_index u (n + k)
  at_size u k =
      let at : size + k ≡ length come + (n + k) = omega (arith, counted, is) in
      ap (slice_index (come ++ u)) at ∙ get_or-append-add come u (n + k) 0

  at_end : (u : Text) → slice_index (come ++ u) size ≡ slice_index u n
  at_end u =
      let at : size ≡ length come + n = omega (arith, counted, is) in
      ap (slice_index (come ++ u)) at ∙ get_or-append-add come u n 0

  longer : (u : Text) → length (come ++ u) ≡ came + length u
  longer u = length-append come u ∙ ap (λ (k : ℕ). k + length u) counted

  good_behind : (u : Text) → HasGoodEnd n u → HasGoodEnd size (come ++ u)
  good_behind u good = (omega (arith, good.0, longer u, is), at_end u ∙ good.1, at_size u 1 ∙ good.2)

  cut_behind : (u : Text) → DataIsCut n u → DataIsCut size (come ++ u)
  cut_behind u cut = (omega (arith, cut.0, longer u, is), λ more. at_end u ∙ cut.1 (omega (arith, more, longer u, is)))

  bad_behind : (u : Text) → HasBadEnd n u → HasBadEnd size (come ++ u)
  bad_behind u (inl bad) = inl (omega (arith, bad.0, longer u, is), λ e. bad.1 (sym (at_end u) ∙ e))
  bad_behind u (inr bad) = inr (omega (arith, bad.0, longer u, is), at_end u ∙ bad.1, λ e. bad.2 (sym (at_size u 1) ∙ e))

  take_behind : (u : Text) → take size (come ++ u) ≡ come ++ take n u
  take_behind u =
      let at : size ≡ length come + n = omega (arith, counted, is) in
      ap (λ (k : ℕ). take k (come ++ u)) at ∙ take-append-add come u n

  drop_behind : (u : Text) → drop size (come ++ u) ≡ drop n u
  drop_behind u =
      let at : size ≡ length come + n = omega (arith, counted, is) in
      ap (λ (k : ℕ). drop k (come ++ u)) at ∙ drop-append-add come u n

sized : (settings : Settings) (total size came : ℕ) (front v t u y : Text) (p : BehindSize settings total size came front v t u)
    → BeginsWithSize settings p.earlier (print_chunk_line p.line ++ y) p.line y
sized settings total size came front v t u y p = record {
  begins = record { reads = (p.begins.reads.0, refl); short = p.begins.short };
  some = omega (arith, p.some, p.sized);
  within = omega (arith, p.within, p.sum, p.sized);
}

-- the line and what stands behind it
behind_line : (settings : Settings) (total size came : ℕ) (front v t u tail : Text) (p : BehindSize settings total size came front v t u)
    → p.rest ++ tail ≡ print_chunk_line p.line ++ ((p.come ++ u) ++ tail)
behind_line settings total size came front v t u tail p = on_tail p.rest (print_chunk_line p.line) (p.come ++ u) tail p.begins.reads.1

-- fewer bytes are there than are missing
pub short_of : (n : ℕ) (u : Text) → length u < n → DataIsCut n u
short_of n u short = (omega (arith, short), λ more. absurd (omega (arith, more, short)))

pub data_on : (settings : Settings) (total size came n : ℕ) (framing : Framing) (front v t u u' : Text) → IsPart settings (Data total size came) framing front v t u → n ≤ length u → n < size - came
    → u' ≡ drop n u → IsPart settings (Data total size (came + n)) framing front v (t ++ take n u) u'
data_on settings total size came n framing front v t u u' x few less rest =
    let p = x.1 in (
      x.0,
      record {
        earlier = p.earlier;
        line = p.line;
        rest = p.rest;
        before = p.before;
        come = p.come ++ take n u;
        so_far = p.so_far;
        begins = subst (λ (y : Text). BeginsWithLine p.rest p.line y) (and_next p.come u u' (p.come ++ u) n refl rest) p.begins;
        some = p.some;
        sized = p.sized;
        sum = p.sum;
        within = p.within;
        counted = omega (arith, length-append p.come (take n u), p.counted, length-take n u, few);
        fits = omega (arith, p.fits, less);
        kept = ap (λ (y : Text). y ++ take n u) p.kept ∙ append_assoc p.before p.come (take n u);
      },
    )

pub data_cut : (settings : Settings) (total size came n : ℕ) (framing : Framing) (front v t u : Text) → IsPart settings (Data total size came) framing front v t u → n ≡ size - came → DataIsCut n u
    → BodyIsCut settings framing v
data_cut settings total size came n framing front v t u x is cut =
    let p = x.1 in
    chunk_cut settings p.earlier framing front v p.before p.rest x.0 p.so_far
    (subst (λ (y : Text). ChunkIsCut settings p.earlier y) (sym p.begins.reads.1)
    (inr (
      p.line,
      p.come ++ u,
      sized settings total size came front v t u (p.come ++ u) p,
      subst (λ (m : ℕ). DataIsCut m (p.come ++ u)) p.sized (cut_behind size came n p.come p.counted (omega (arith, is, p.fits)) u cut),
    )))

pub data_never : (settings : Settings) (total size came n : ℕ) (framing : Framing) (front v t u : Text) → IsPart settings (Data total size came) framing front v t u → n ≡ size - came
    → ((tail : Text) → HasBadEnd n (u ++ tail)) → (tail : Text) → BodyIsRefused settings framing (v ++ tail) UnreadableChunk
data_never settings total size came n framing front v t u x is bad =
    let p = x.1 in
    chunk_never settings p.earlier framing front v p.before p.rest UnreadableChunk x.0 p.so_far
    (λ tail. subst (λ (y : Text). ChunkIsRefused settings p.earlier y UnreadableChunk) (sym (behind_line settings total size came front v t u tail p))
    (inr (inr (
      p.line,
      (p.come ++ u) ++ tail,
      sized settings total size came front v t u ((p.come ++ u) ++ tail) p,
      (
        refl,
        subst (λ (m : ℕ). HasBadEnd m ((p.come ++ u) ++ tail)) p.sized
            (subst (λ (y : Text). HasBadEnd size y) (sym (append_assoc p.come u tail)) (bad_behind size came n p.come p.counted (omega (arith, is, p.fits)) (u ++ tail) (bad tail))),
      ),
    ))))

pub data_fits : (size : ℕ) (u : Text) → HasGoodEnd size u → size ≤ length u
data_fits size u good = omega (arith, good.0)

pub end_fits : (size : ℕ) (u w : Text) → HasGoodEnd size u → w ≡ drop size u → 2 ≤ length w
end_fits size u w good rest = omega (arith, good.0, ap length rest, length-drop size u)

two_behind : (size : ℕ) (u : Text) → HasGoodEnd size u → take 2 (drop size u) ≡ chunk_end
two_behind size u good =
    let one : drop size u ≡ get_or u size 0 ∷ drop (size + 1) u = next u size (omega (arith, good.0)) in
    let two : drop (size + 1) u ≡ get_or u (size + 1) 0 ∷ drop (size + 1 + 1) u = next u (size + 1) (omega (arith, good.0)) in
    rw (one, two, good.1, good.2) refl
  where
    next : (l : Text) (i : ℕ) → i < length l → drop i l ≡ get_or l i 0 ∷ drop (i + 1) l
    next l i lt = rw (add-one, drop-cons l i 0) refl

flat_push : {X : Type 0} (f : X → Text) (xs : List X) (x : X) → flat_map f (xs ++ x ∷ []) ≡ flat_map f xs ++ f x
flat_push f xs x = flat_map-append f xs (x ∷ []) ∙ ap (λ (l : Text). flat_map f xs ++ l) (flat_map-cons f x [] ∙ append-nil (f x))

-- the data, CR LF and the rest
three : (size : ℕ) (u w u' : Text) → HasGoodEnd size u → w ≡ drop size u → u' ≡ drop 2 w → u ≡ (take size u ++ chunk_end) ++ u'
three size u w u' good rest last =
    let two : take 2 w ≡ chunk_end = ap (take 2) rest ∙ two_behind size u good in
    sym (take-append-drop size u) ∙ ap (λ (y : Text). take size u ++ y) (sym rest ∙ sym (take-append-drop 2 w) ∙ ap (λ (y : Text). y ++ drop 2 w) two ∙ ap (λ (y : Text). chunk_end ++ y) (sym last))
    ∙ sym (append_assoc (take size u) chunk_end u')

pub data_whole : (settings : Settings) (total size came n : ℕ) (framing : Framing) (front v t u w u' : Text) → IsPart settings (Data total size came) framing front v t u → n ≡ size - came
    → HasGoodEnd n u → w ≡ drop n u → u' ≡ drop 2 w → IsPart settings (Line total) framing front v (t ++ take n u) u'
data_whole settings total size came n framing front v t u w u' x is here rest last =
    let p = x.1 in
    let sum : size ≡ came + n = omega (arith, is, p.fits) in
    let all = p.come ++ u in
    let good = good_behind size came n p.come p.counted sum u here in
    let cs = p.so_far.chunks in
    let c : Chunk = record { line = p.line; carried = take size all } in
    let len : length (take size all) ≡ size = omega (arith, length-take size all, good.0) in
    let printed : print_chunks (cs ++ c ∷ []) ≡ print_chunks cs ++ print_chunk c = flat_push print_chunk cs c in
    let carries : data_of (cs ++ c ∷ []) ≡ data_of cs ++ take size all = flat_push (λ (y : Chunk). y.carried) cs c in
    let is_chunk : IsChunk c = record { line = p.begins.reads.0; short = p.begins.short; some = omega (arith, p.some, len); sized = sym p.sized ∙ sym len } in
    let parts = three size all w u' good (rest ∙ sym (drop_behind size came n p.come p.counted sum u)) last in
    let text : p.rest ≡ print_chunk c ++ u' =
    p.begins.reads.1 ∙ ap (λ (y : Text). print_chunk_line p.line ++ y) parts ∙ sym (append_assoc (print_chunk_line p.line) (take size all ++ chunk_end) u') in (
      x.0,
      record {
        chunks = cs ++ c ∷ [];
        each = All-append IsChunk cs (c ∷ []) p.so_far.each (All-from_recursion IsChunk (c ∷ []) (is_chunk, tt));
        within = p.within;
        carried = omega (arith, ap length carries, length-append (data_of cs) (take size all), p.so_far.carried, p.sum, len);
        whole = p.so_far.whole ∙ ap (λ (y : Text). print_chunks cs ++ y) text ∙ sym (append_assoc (print_chunks cs) (print_chunk c) u')
            ∙ ap (λ (y : Text). y ++ u') (sym printed);
        kept = ap (λ (y : Text). y ++ take n u) p.kept ∙ append_assoc p.before p.come (take n u)
            ∙ ap (λ (y : Text). p.before ++ y) (sym (take_behind size came n p.come p.counted sum u))
            ∙ ap (λ (y : Text). y ++ take size all) p.so_far.kept ∙ append_assoc front (data_of cs) (take size all)
            ∙ ap (λ (y : Text). front ++ y) (sym carries);
      },
    )

shorter : (t u passed w rest all : ℕ) → passed + w ≡ u → rest ≡ w - 2 → all ≡ t + passed → all + rest ≤ t + u
shorter t u passed w rest all parts fewer more = omega arith

-- what is passed stays, and two bytes go
pub data_shorter : (size : ℕ) (t u t' w t'' u' : Text) → t' ≡ t ++ take size u → w ≡ drop size u → t'' ≡ t' → u' ≡ drop 2 w
    → length t'' + length u' ≤ length t + length u
data_shorter size t u t' w t'' u' kept rest same last =
    shorter (length t) (length u) (length (take size u)) (length w) (length u') (length t'')
    (ap (λ (n : ℕ). length (take size u) + n) (ap length rest) ∙ sym (length-append (take size u) (drop size u)) ∙ ap length (take-append-drop size u))
    (ap length last ∙ length-drop 2 w) (ap length same ∙ ap length kept ∙ length-append t (take size u))

-- ---- the trailer

at_last : (settings : Settings) (total : ℕ) (front v t u : Text) (p : BehindZero settings total front v t u) (P : Text → Type 0) (w y : Text)
    → w ≡ (print_chunks p.chunks ++ print_chunk_line p.zero) ++ y → P y → BehindLast settings P w
at_last settings total front v t u p P w y e h =
    record { chunks = p.chunks; zero = p.zero; rest = y; whole = e; each = p.each; within = p.within; is_last = p.is_last; here = h }

pub trailer_cut : (settings : Settings) (total : ℕ) (framing : Framing) (front v t u : Text) → IsPart settings (Trailer total) framing front v t u → TrailerIsCut u → BodyIsCut settings framing v
trailer_cut settings total framing front v t u x cut =
    subst (λ (f : Framing). BodyIsCut settings f v) (sym x.0) (inr (at_last settings total front v t u x.1 TrailerIsCut v u x.1.whole cut))

pub trailer_never : (settings : Settings) (total : ℕ) (framing : Framing) (front v t u : Text) → IsPart settings (Trailer total) framing front v t u → ((tail : Text) → HoldsNoTrailer (u ++ tail))
    → (tail : Text) → BodyIsRefused settings framing (v ++ tail) UnreadableChunk
trailer_never settings total framing front v t u x never tail =
    subst (λ (f : Framing). BodyIsRefused settings f (v ++ tail) UnreadableChunk) (sym x.0)
    (inr (at_last settings total front v t u x.1 (λ y. TrailerIsRefused y UnreadableChunk) (v ++ tail) (u ++ tail)
    (on_tail v (print_chunks x.1.chunks ++ print_chunk_line x.1.zero) u tail x.1.whole) (refl, never tail)))

pub trailer_fits : (u : Text) (len : ℕ) → TrailerIsRead u len → len ≤ length u
trailer_fits u len read =
    let size = ap length read.begins.reads.1 in
    omega (arith, length-append (print_section read.fields read.last) (drop len u), read.len_is)

pub trailer_whole : (settings : Settings) (total : ℕ) (framing : Framing) (front v t u u' : Text) (len : ℕ) → IsPart settings (Trailer total) framing front v t u → TrailerIsRead u len
    → u' ≡ drop len u → (w : BodyIsWhole settings framing front v t u') × (total ≡ length w.body)
trailer_whole settings total framing front v t u u' len x read rest =
    let p = x.1 in
    let before = print_chunks p.chunks ++ print_chunk_line p.zero in
    let section = print_section read.fields read.last in
    let body : ChunkedBody = record { chunks = p.chunks; zero = p.zero; fields = read.fields; last = read.last } in (
      record {
        coded = before ++ section;
        body = data_of p.chunks;
        is_body = subst (λ (f : Framing). IsBody settings f (before ++ section) (data_of p.chunks)) (sym x.0) (
          body,
          record { each = p.each; within = p.within; zero = p.is_last; fields = read.begins.reads.0; few = read.few; short = read.begins.short },
          refl,
          refl,
        );
        whole = p.whole ∙ ap (λ (y : Text). before ++ y) (read.begins.reads.1 ∙ ap (λ (y : Text). section ++ y) (sym rest)) ∙ sym (append_assoc before section u');
        kept = p.kept;
      },
      p.carried,
    )
