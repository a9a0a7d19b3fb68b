-- The line of a chunk, and the line end behind its data.
use Rattle.std.proofs.Common.{◌≡◌, ◌≢◌, ℕ, ◌+◌, ◌<◌, ◌≤◌, inl, inr, ◌++◌, length, take, drop, slice_index, sym, ap, ◌∙◌, append_assoc, arith, length-append, length-take}
use Rattle.std.proofs.lemmas.List.{get_or_append_left, take-append-le, take-append-drop}
use Rattle.std.proofs.lemmas.Grind.{common_steps}
use Rattle.httparse.specs.Grammar.{ChunkLine, print_chunk_line, HasNoChunkLine, NeverHasChunkLine, MayBecomeChunkLine, ReadsChunkLine}
use Rattle.httparse.specs.Spans.{IsChunkLineAt}
use Rattle.httparse.proofs.ChunkLemmas.{ReadsChunkLine-append}
use Rattle.oci_types.specs.Text.{Text}
use Rattle.registry_http.specs.Chunks.{HoldsNoLine, LineIsCut, HasBadEnd, HasGoodEnd, DataIsCut}
use Rattle.registry_http.specs.Taking.{LineIsRead}
use Rattle.registry_http.proofs.HeadLemmas.{take_whole, take_on}

-- ---- a line at the front, whatever bytes follow

never_on : (s more : Text) → NeverHasChunkLine s → NeverHasChunkLine (s ++ more)
never_on s more never behind l rest reads = never (more ++ behind) l rest (rw (← append_assoc s more behind) reads)

pub line_never : (b : Text) → NeverHasChunkLine (take 1024 b) → (tail : Text) → HoldsNoLine (b ++ tail)
line_never b never tail =
    let on = take_on 1024 b tail in
    inr (rw on.1 (never_on (take 1024 b) on.0 never))

pub line_full : (b : Text) → HasNoChunkLine (take 1024 b) → length (take 1024 b) ≡ 1024 → (tail : Text) → HoldsNoLine (b ++ tail)
line_full b none full tail =
    let long : 1024 ≤ length b = omega (arith, length-take 1024 b) in
    inl (omega (arith, length-append b tail), rw take-append-le none)

pub line_not_yet : (b : Text) → HasNoChunkLine (take 1024 b) → MayBecomeChunkLine (take 1024 b) → length (take 1024 b) ≢ 1024 → LineIsCut b
line_not_yet b none may short =
    let few : length b < 1024 = omega (arith, length-take 1024 b) in
    let fits : length b ≤ 1024 = omega arith in
    let all = take_whole 1024 b fits in
    (few, rw all at none, rw all at may)

pub drop_front : (n : ℕ) (front rest b : Text) → b ≡ front ++ rest → n ≡ length front → rest ≡ drop n b
drop_front n front rest b e h = grind (arith, common_steps)

pub line_read : (b : Text) (len size : ℕ) (l : ChunkLine) → IsChunkLineAt (take 1024 b) len size l → LineIsRead b (record { len = len; size = size })
line_read b len size l x =
    let seen = take-append-drop 1024 b in
    let on : ReadsChunkLine b l (drop len (take 1024 b) ++ drop 1024 b) = rw seen at (ReadsChunkLine-append (take 1024 b) l (drop len (take 1024 b)) (drop 1024 b) x.reads) in
    let there : drop len (take 1024 b) ++ drop 1024 b ≡ drop len b = drop_front len (print_chunk_line l) _ b on.1 x.len_is in
    record {
      text = l;
      begins = record {
        reads = rw there at on;
        short = omega (arith, length-take 1024 b, ap length x.reads.1, length-append (print_chunk_line l) (drop len (take 1024 b)));
      };
      len = x.len_is;
      size = x.size_is;
    }

-- ---- the bytes behind the data

-- a byte stays where more bytes come
stays : (b more : Text) (i : ℕ) → i < length b → slice_index (b ++ more) i ≡ slice_index b i
stays b more i within = get_or_append_left b more 0 i within

pub bad_first : (size : ℕ) (b tail : Text) → size + 1 ≤ length b → slice_index b size ≢ 13 → HasBadEnd size (b ++ tail)
bad_first size b tail enough other =
    inl (omega (arith, length-append b tail), λ is. other (sym (stays b tail size (omega arith)) ∙ is))

-- the byte behind the data, where more bytes came
first_there : (size : ℕ) (a b bytes : Text) → b ≡ a ++ bytes → size + 1 ≤ length a → slice_index a size ≡ 13 → slice_index b size ≡ 13
first_there size a b bytes grown enough cr = ap (λ (x : Text). slice_index x size) grown ∙ stays a bytes size (omega arith) ∙ cr

pub bad_second : (size : ℕ) (a b bytes tail : Text) → b ≡ a ++ bytes → size + 1 ≤ length a → slice_index a size ≡ 13 → size + 2 ≤ length b
    → slice_index b (size + 1) ≢ 10 → HasBadEnd size (b ++ tail)
bad_second size a b bytes tail grown one cr two other =
    inr (
      omega (arith, length-append b tail),
      stays b tail size (omega arith) ∙ first_there size a b bytes grown one cr,
      λ is. other (sym (stays b tail (size + 1) (omega arith)) ∙ is),
    )

pub good_end : (size : ℕ) (a b bytes : Text) → b ≡ a ++ bytes → size + 1 ≤ length a → slice_index a size ≡ 13 → size + 2 ≤ length b
    → slice_index b (size + 1) ≡ 10 → HasGoodEnd size b
good_end size a b bytes grown one cr two lf = (two, first_there size a b bytes grown one cr, lf)

-- the input ends before the byte behind the data, or right behind it
pub cut_before : (size : ℕ) (b : Text) → length b < size + 1 → DataIsCut size b
cut_before size b short = (omega arith, λ long. absurd (omega (arith, long)))

pub cut_behind : (size : ℕ) (a more : Text) → size + 1 ≤ length a → slice_index a size ≡ 13 → length (a ++ more) < size + 2 → DataIsCut size (a ++ more)
cut_behind size a more one cr short = (short, λ long. stays a more size (omega arith) ∙ cr)
