-- Trailers at the front of the unread bytes, whatever bytes follow.
use Rattle.std.proofs.Common.{◌≡◌, ℕ, ◌<◌, ◌≤◌, ◌≢◌, inl, inr, List, [], ◌++◌, length, take, drop, ap, append_assoc, arith, length-append, length-take}
use Rattle.std.proofs.lemmas.List.{take-append-le, take-append-drop, length-map}
use Rattle.std.specs.List.{flat_map}
use Rattle.httparse.specs.Grammar.{Field, LineEnd, lf, print_end, print_field, print_section, ReadsSection, HasNoSection, NeverHasSection, MayBecomeSection}
use Rattle.httparse.specs.Spans.{SectionExceeds, IsSectionWithin, IsSectionAt, header_bytes, name_and_value}
use Rattle.httparse.specs.declared.spans.HeaderSpan.{HeaderSpan}
use Rattle.httparse.proofs.GrammarLemmas.{ReadsSection-append}
use Rattle.oci_types.specs.Text.{Text}
use Rattle.registry_http.specs.Chunks.{BeginsWithTrailer, HoldsNoTrailer, TrailerIsCut}
use Rattle.registry_http.specs.Taking.{TrailerIsRead}
use Rattle.registry_http.proofs.HeadLemmas.{take_whole, take_on, fields_long}
use Rattle.registry_http.proofs.ChunkReading.{drop_front}

-- so few bytes do not begin with so many fields
pub section_not_exceeded : (s : Text) → length s ≤ 16384 → SectionExceeds 8192 s → ⊥
section_not_exceeded s short over =
    let size = ap length over.4.1 in
    let whole = ap length over.2 in
    omega (
      arith,
      over.5,
      fields_long over.3,
      length-append (flat_map print_field over.3) (print_end lf),
      length-append (print_section over.3 lf) [],
      length-append over.0 (print_end lf),
      length-append over.0 over.1,
    )

never_on : (s more : Text) → NeverHasSection s → NeverHasSection (s ++ more)
never_on s more never behind fields last rest reads = never (more ++ behind) fields last rest (rw (← append_assoc s more behind) reads)

pub trailer_never : (b : Text) → NeverHasSection (take 16384 b) → (tail : Text) → HoldsNoTrailer (b ++ tail)
trailer_never b never tail =
    let on = take_on 16384 b tail in
    inl (inr (rw on.1 (never_on (take 16384 b) on.0 never)))

pub trailer_full : (b : Text) → HasNoSection (take 16384 b) → length (take 16384 b) ≡ 16384 → (tail : Text) → HoldsNoTrailer (b ++ tail)
trailer_full b none full tail =
    let long : 16384 ≤ length b = omega (arith, length-take 16384 b) in
    inl (inl (omega (arith, length-append b tail), rw take-append-le none))

pub trailer_not_yet : (b : Text) → HasNoSection (take 16384 b) → MayBecomeSection (take 16384 b) → length (take 16384 b) ≢ 16384 → TrailerIsCut b
trailer_not_yet b none may short =
    let few : length b < 16384 = omega (arith, length-take 16384 b) in
    let fits : length b ≤ 16384 = omega arith in
    let all = take_whole 16384 b fits in
    (few, rw all at none, rw all at may)

module _ (b : Text) (headers : List HeaderSpan) (len count : ℕ) (fields : List Field) (last : LineEnd)
    (within : IsSectionWithin (take 16384 b) headers len count) (at : IsSectionAt (take 16384 b) 0 headers len count fields last) where
  fields_count : length fields ≡ count
  fields_count =
      omega (arith, ap length at.fields_are, length-map (take count headers) (header_bytes (take 16384 b)), length-map fields name_and_value, length-take count headers, within.count_fits)

  begins : BeginsWithTrailer b fields last (drop len b)
  begins =
      let seen = take-append-drop 16384 b in
      let on : ReadsSection b fields last (drop len (take 16384 b) ++ drop 16384 b) =
      rw seen at (ReadsSection-append (take 16384 b) fields last (drop len (take 16384 b)) (drop 16384 b) at.reads) in
      let there : drop len (take 16384 b) ++ drop 16384 b ≡ drop len b = drop_front len (print_section fields last) _ b on.1 (omega (arith, at.len_is)) in
      record {
        reads = rw there at on;
        short = omega (arith, length-take 16384 b, ap length at.reads.1, length-append (print_section fields last) (drop len (take 16384 b)));
      }

  pub trailer_read : count ≤ 64 → TrailerIsRead b len
  trailer_read few = record { fields = fields; last = last; begins = begins; few = omega (arith, fields_count); len_is = omega (arith, at.len_is) }

  pub trailer_crowded : 64 < count → (tail : Text) → HoldsNoTrailer (b ++ tail)
  trailer_crowded many tail = inr (
    fields,
    last,
    drop len b ++ tail,
    record { reads = ReadsSection-append b fields last (drop len b) tail begins.reads; short = begins.short },
    omega (arith, fields_count),
  )
