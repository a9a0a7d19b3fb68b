-- What the buffer takes from the reader, and what it then begins with.
use Rattle.std.specs.Prelude.{◌≡◌, ℕ, ◌<◌, ◌≤◌, List, ◌++◌, length, take, drop, map, All, Option, Result, MatchResult}
use Rattle.std.specs.Io.KnownBytes.{Consumes, IsAtEnd}
use Rattle.httparse.specs.Grammar.{RequestHead, print_request, IsRequestHead, HasNoRequest, MayBecomeRequest}
use Rattle.httparse.specs.Spans.{span_bytes, IsWithin, IsHeaderWithin, header_bytes, name_and_value}
use Rattle.httparse.specs.declared.spans.HeaderSpan.{HeaderSpan}
use Rattle.httparse.specs.declared.spans.RequestSpans.{RequestSpans}
use Rattle.oci_types.specs.Text.{Text}
use Rattle.registry_http.specs.Limits.{longest_head}
use Rattle.registry_http.specs.Spelling.{HoldsNoHead}
use Rattle.registry_http.specs.declared.ending.FramingRefusal.TheVariants.{NoBufferMemory}
use Rattle.registry_http.specs.declared.ending.Stop.{Stop}
use Rattle.registry_http.specs.declared.ending.Stop.TheVariants.{AtEnd, Broken, Refuse}
use Rattle.registry_http.specs.declared.head.Parsed.{Parsed}
use Rattle.registry_http.specs.declared.head.Parsed.TheVariants.{Whole, NotYet, Never}

-- ---- the parts of a head

-- the spans lie in the first n bytes
pub record HeadFits (n : ℕ) (headers : List HeaderSpan) (spans : RequestSpans) : Type 0 where
  pub method : IsWithin n spans.method
  pub path : IsWithin n spans.path
  pub fields : All (IsHeaderWithin n) headers

-- the spans cover the parts of the head h in these bytes
pub record IsHeadAt (text : Text) (headers : List HeaderSpan) (spans : RequestSpans)
    (h : RequestHead) : Type 0 where
  pub method : span_bytes text spans.method ≡ h.method
  pub target : span_bytes text spans.path ≡ h.target
  pub minor : spans.version ≡ h.minor
  pub fields : map (header_bytes text) headers ≡ map name_and_value h.fields

-- the buffer begins with the head h, and the spans cover its parts
pub record HeadIsRead (buffer : Text) (headers : List HeaderSpan) (spans : RequestSpans)
    (h : RequestHead) : Type 0 where
  pub head : IsRequestHead h
  pub begins : buffer ≡ print_request h ++ drop spans.len buffer
  pub len : spans.len ≡ length (print_request h)
  pub short : spans.len ≤ longest_head
  pub within : spans.len ≤ length buffer
  pub count : spans.headers ≡ length h.fields
  pub room : spans.headers ≤ length headers
  pub fits : HeadFits spans.len (take spans.headers headers) spans
  pub at : IsHeadAt (take spans.len buffer) (take spans.headers headers) spans h

-- what a parser finds at the front of the buffer
abbrev pub Parses : Parsed → Text → List HeaderSpan → Type 0
Parses (Whole spans) buffer headers = (h : RequestHead) × HeadIsRead buffer headers spans h
Parses NotYet buffer headers =
    (length buffer < longest_head) × HasNoRequest buffer × MayBecomeRequest buffer
Parses Never buffer headers = (tail : Text) → HoldsNoHead (buffer ++ tail)

-- ---- reading

-- the buffer grew by bytes that the reader gave up, by one at least
pub record Pulls (old new : Text) (left left' : Option Text) : Type 0 where
  pub bytes : Text
  pub some : 0 < length bytes
  pub grown : new ≡ old ++ bytes
  pub taken : Consumes left left' bytes

-- of the bytes that were unread and those that came P holds
pub record Leaves (old : Text) (left left' : Option Text) (P : Text → Type 0) : Type 0 where
  pub bytes : Text
  pub taken : Consumes left left' bytes
  pub here : P (old ++ bytes)

-- why nothing more is read inside a request: at the end of the bytes P holds of them
abbrev pub StopsInside : (Text → Type 0) → Stop → Text → Option Text → Option Text → Type 0
StopsInside P AtEnd old left left' = Leaves old left left' P × IsAtEnd left'
StopsInside P Broken old left left' = Leaves old left left' P
StopsInside P (Refuse r) old left left' = r ≡ NoBufferMemory

-- why a read gave no bytes
abbrev pub FillStops : Stop → Text → Option Text → Option Text → Type 0
FillStops stop old left left' = StopsInside (λ b. b ≡ old) stop old left left'

-- bytes came; or why not: what the stop says of the bytes that were unread and those that the reader had left
abbrev pub PullsOr : {A : Type 0} → (Stop → Text → Option Text → Option Text → Type 0)
    → Result A Stop → Text → Text → Option Text → Option Text → Type 0
PullsOr StopsBy r old new left left' =
    MatchResult r (λ _. Pulls old new left left') (λ stop. StopsBy stop old left left')
