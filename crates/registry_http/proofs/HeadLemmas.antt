-- Heads at the front of the buffer, whatever bytes follow.
use Rattle.std.proofs.Common.{◌≡◌, ℕ, ◌*◌, ◌-◌, ◌<◌, ◌≤◌, ◌≢◌, inl, inr, zero, suc, List, [], ◌∷◌, ◌++◌, length, take, drop, map, slice_range, refl, sym, ap, subst, ◌∙◌, append_assoc, arith, length-append, length-take, length-drop}
use Rattle.std.proofs.lemmas.List.{length-map, take-append-le, take-append-drop, drop-append-le}
use Rattle.std.proofs.lemmas.List.Elements.{All-head, All-tail}
use Rattle.std.proofs.Math.Seq.{drop-append_seam}
use Rattle.std.proofs.lemmas.Grind.{common_steps}
use Rattle.std.specs.Prelude.{All}
use Rattle.std.specs.List.{flat_map}
use Rattle.httparse.specs.Grammar.{Field, LineEnd, crlf, lf, print_end, print_field, RequestHead, print_request, HasNoRequest, NeverHasRequest, MayBecomeRequest}
use Rattle.httparse.specs.Spans.{RequestExceeds, IsRequestAt, IsRequestWithin, IsHeaderWithin, IsWithin, header_bytes, span_bytes}
use Rattle.httparse.specs.declared.spans.Span.{Span}
use Rattle.httparse.specs.declared.spans.HeaderSpan.{HeaderSpan}
use Rattle.httparse.specs.declared.spans.RequestSpans.{RequestSpans}
use Rattle.oci_types.specs.Text.{Text}
use Rattle.registry_http.specs.Spelling.{HoldsNoHead}
use Rattle.registry_http.specs.Reading.{HeadIsRead}

pub take_whole : {A : Type 0} (n : ℕ) (xs : List A) → length xs ≤ n → take n xs ≡ xs
take_whole n xs h = grind (arith, common_steps)

-- the first n bytes of a text that goes on
pub take_on : (n : ℕ) (xs ys : Text) → (more : Text) × (take n (xs ++ ys) ≡ take n xs ++ more)
take_on n [] ys = (take n ys, grind (arith, common_steps))
take_on zero (x ∷ xs) ys = ([], refl)
take_on (suc n) (x ∷ xs) ys = let others = take_on n xs ys in (others.0, ap (λ l. x ∷ l) others.1)

-- ---- a head has two bytes or more for each field

end_long : (e : LineEnd) → 1 ≤ length (print_end e)
end_long crlf = omega arith
end_long lf = omega arith

field_long : (f : Field) → 2 ≤ length (print_field f)
field_long f =
    let line = length-append f.name (58 ∷ f.raw ++ print_end f.end) in
    let tail = length-append f.raw (print_end f.end) in
    grind (arith, common_steps, end_long f.end)

pub fields_long : (fields : List Field) → 2 * length fields ≤ length (flat_map print_field fields)
fields_long [] = omega arith
fields_long (f ∷ fields) =
    omega (arith, field_long f, fields_long fields, length-append (print_field f) (flat_map print_field fields))

behind_long : (xs ys : Text) (n : ℕ) → n ≤ length ys → n ≤ length (xs ++ ys)
behind_long xs ys n h = omega (arith, length-append xs ys)

request_long : (h : RequestHead) → 2 * length h.fields ≤ length (print_request h)
unfolding print_request
request_long h =
    behind_long _ (flat_map print_field h.fields ++ print_end h.last) (2 * length h.fields)
    (omega (arith, fields_long h.fields, length-append (flat_map print_field h.fields) (print_end h.last)))

pub request_some : (h : RequestHead) → 0 < length (print_request h)
unfolding print_request
request_some h =
    behind_long _ (flat_map print_field h.fields ++ print_end h.last) 1
    (omega (arith, end_long h.last, length-append (flat_map print_field h.fields) (print_end h.last)))

-- so few bytes do not begin with so many fields
pub not_exceeded : (s : Text) → length s ≤ 16384 → RequestExceeds 8192 s → ⊥
not_exceeded s short over =
    let size = ap length over.4.1 in
    let whole = ap length over.2 in
    omega (arith, over.5, request_long over.3, length-append (print_request over.3) [], length-append over.0 (print_end lf), length-append over.0 over.1)

-- ---- what holds of the first 16,384 bytes, of the whole buffer

never_on : (s more : Text) → NeverHasRequest s → NeverHasRequest (s ++ more)
never_on s more never behind h rest reads = never (more ++ behind) h rest (rw (← append_assoc s more behind) reads)

pub refuses_never : (b : Text) → NeverHasRequest (take 16384 b) → (tail : Text) → HoldsNoHead (b ++ tail)
refuses_never b never tail =
    let on = take_on 16384 b tail in
    inr (rw on.1 (never_on (take 16384 b) on.0 never))

pub refuses_full : (b : Text) → HasNoRequest (take 16384 b) → length (take 16384 b) ≡ 16384 → (tail : Text) → HoldsNoHead (b ++ tail)
refuses_full b none full tail =
    let long : 16384 ≤ length b = omega (arith, length-take 16384 b) in
    inl (omega (arith, length-append b tail), rw take-append-le none)

pub not_yet : (b : Text) → HasNoRequest (take 16384 b) → MayBecomeRequest (take 16384 b) → length (take 16384 b) ≢ 16384
    → (length b < 16384) × HasNoRequest b × MayBecomeRequest b
not_yet b none may short =
    let few : length b < 16384 = omega (arith, length-take 16384 b) in
    let fits : length b ≤ 16384 = omega arith in
    let all = take_whole 16384 b fits in
    (few, rw all at none, rw all at may)

-- ---- the parts of a head

slice_on : (s t : Text) (x y : ℕ) → x ≤ y → y ≤ length s → slice_range (s ++ t) x y ≡ slice_range s x y
slice_on s t x y ordered fits =
    let start : x ≤ length s = omega arith in
    let room : y - x ≤ length (drop x s) = omega (arith, length-drop x s) in
    rw (drop-append-le, take-append-le)

-- a part that lies in the first n bytes
slice_front : (b : Text) (n x y : ℕ) → x ≤ y → y ≤ n → y ≤ length b → slice_range (take n b) x y ≡ slice_range b x y
slice_front b n x y ordered fits within =
    sym (slice_on (take n b) (drop n b) x y ordered (omega (arith, length-take n b)))
    ∙ ap (λ s. slice_range s x y) (take-append-drop n b)

span_same : (b : Text) (n m : ℕ) (s : Span) → IsWithin n s → n ≤ m → n ≤ length b → span_bytes (take n b) s ≡ span_bytes (take m b) s
span_same b n m s w le fits =
    slice_front b n s.start s.end w.0 w.1 (omega (arith, w.1)) ∙ sym (slice_front b m s.start s.end w.0 (omega (arith, w.1)) (omega (arith, w.1)))

fields_same : (b : Text) (n m : ℕ) (hs : List HeaderSpan) → All (IsHeaderWithin n) hs → n ≤ m → n ≤ length b
    → map (header_bytes (take n b)) hs ≡ map (header_bytes (take m b)) hs
fields_same b n m [] all le fits = refl
fields_same b n m (h ∷ hs) all le fits =
    let here = All-head (IsHeaderWithin n) h hs all in
    let name = span_same b n m h.name here.0 le fits in
    let value = span_same b n m h.value here.1 le fits in
    let others = fields_same b n m hs (All-tail (IsHeaderWithin n) h hs all) le fits in
    (λ i. (name i, value i) ∷ others i)

-- what s begins with, s ++ t does
pub front_on : (s t p : Text) (n : ℕ) → s ≡ p ++ drop n s → n ≡ length p → s ++ t ≡ p ++ drop n (s ++ t)
front_on s t p n e len =
    let whole : s ++ t ≡ p ++ (drop n s ++ t) = ap (λ x. x ++ t) e ∙ append_assoc p (drop n s) t in
    whole ∙ ap (λ x. p ++ x) (sym (ap (drop n) whole ∙ ap (λ k. drop k (p ++ (drop n s ++ t))) len ∙ drop-append_seam p (drop n s ++ t)))

pub head_read : (b : Text) (headers : List HeaderSpan) (spans : RequestSpans) (h : RequestHead)
    → IsRequestWithin (take 16384 b) headers spans → IsRequestAt (take 16384 b) headers spans h → HeadIsRead b headers spans h
head_read b headers spans h within at =
    let len_fits : spans.len ≤ length (take 16384 b) = within.section.len_fits in
    let short : spans.len ≤ 16384 = omega (arith, length-take 16384 b) in
    let inside : spans.len ≤ length b = omega (arith, length-take 16384 b) in
    record {
      head = at.reads.0;
      begins = subst (λ s. s ≡ print_request h ++ drop spans.len s) (take-append-drop 16384 b)
          (front_on (take 16384 b) (drop 16384 b) (print_request h) spans.len at.reads.1 at.len);
      len = at.len;
      short = short;
      within = inside;
      count = let e = simp (length-map, length-take) at (ap length at.fields) in omega (arith, within.section.count_fits);
      room = within.section.count_fits;
      fits = record { method = within.method; path = within.path; fields = within.section.headers_fit };
      at = record {
        method = span_same b spans.len 16384 spans.method within.method short inside ∙ at.method;
        target = span_same b spans.len 16384 spans.path within.path short inside ∙ at.path;
        minor = at.version;
        fields = fields_same b spans.len 16384 (take spans.headers headers) within.section.headers_fit short inside ∙ at.fields;
      };
    }
