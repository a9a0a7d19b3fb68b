-- A text on its way to a writer.
use Rattle.std.proofs.Common.{◌≡◌, ℕ, ◌+◌, ◌<◌, Bool, true, false, [], ◌++◌, length, take, Option, sym, ap, ◌∙◌, append_assoc, append-nil, arith, length-append}
use Rattle.std.proofs.Math.Seq.{take-append-add}
use Rattle.std.specs.Io.KnownBytes.{Appends}
use Rattle.std.proofs.KnownBytes.{Appends-trans}
use Rattle.std.specs.Prelude.{codes, unwrap_or}
use Rattle.http.specs.StatusCode.{code_digits, reason_phrase}
use Rattle.oci_types.specs.Text.{Text}
use Rattle.registry_http.specs.ReplyText.{crlf, status_line}
use Rattle.registry_http.specs.Sending.{CarriesAs}

-- what waited was written
pub flushed : (failed : Bool) (sent total : ℕ) (waiting none : Text) (held w w' : Option Text) (text : Text) → failed ≡ false
    → total ≡ sent + length waiting → Appends w w' waiting → none ≡ [] → CarriesAs failed sent waiting held w text → CarriesAs failed total none held w' text
flushed true sent total waiting none held w w' text e size a n c = absurd (cc)
flushed false sent total waiting none held w w' text e size a n c = (
  text,
  sym (ap (λ x. text ++ x) n ∙ append-nil text),
  omega (arith, c.2, ap length c.1, length-append c.0 waiting),
  rw c.1 (Appends-trans held w w' c.0 waiting c.3 a),
)

-- of what waited, or of what follows, only so much was written
broken_at : (front bytes text : Text) (sent m k : ℕ) (held w w' : Option Text) → text ≡ front ++ bytes → sent ≡ length front → m ≡ sent + k
    → k < length bytes → Appends held w front → Appends w w' (take k bytes) → (m < length text) × Appends held w' (take m text)
broken_at front bytes text sent m k held w w' e s n less a b =
    let place : m ≡ length front + k = omega arith in
    let taken : take m text ≡ front ++ take k bytes =
    ap (take m) e ∙ ap (λ x. take x (front ++ bytes)) place ∙ take-append-add front bytes k in
    (omega (arith, ap length e, length-append front bytes), rw taken (Appends-trans held w w' front (take k bytes) a b))

pub flush_broken : (failed : Bool) (sent m k : ℕ) (waiting : Text) (held w w' : Option Text) (text : Text) → failed ≡ false
    → m ≡ sent + k → k < length waiting → Appends w w' (take k waiting) → CarriesAs failed sent waiting held w text
    → (m < length text) × Appends held w' (take m text)
flush_broken true sent m k waiting held w w' text e n less a c = absurd (cc)
flush_broken false sent m k waiting held w w' text e n less a c = broken_at c.0 waiting text sent m k held w w' c.1 c.2 n less c.3 a

-- with nothing waiting, the bytes were written behind the text
pub passed : (failed : Bool) (sent total : ℕ) (waiting bytes : Text) (held w w' : Option Text) (text : Text) → failed ≡ false → waiting ≡ []
    → total ≡ sent + length bytes → Appends w w' bytes → CarriesAs failed sent waiting held w text → CarriesAs failed total waiting held w' (text ++ bytes)
passed true sent total waiting bytes held w w' text e none size a c = absurd (cc)
passed false sent total waiting bytes held w w' text e none size a c =
    let front : text ≡ c.0 = c.1 ∙ ap (λ x. c.0 ++ x) none ∙ append-nil c.0 in (
      text ++ bytes,
      sym (ap (λ x. (text ++ bytes) ++ x) none ∙ append-nil (text ++ bytes)),
      omega (arith, c.2, ap length front, length-append text bytes),
      rw front (Appends-trans held w w' c.0 bytes c.3 a),
    )

pub pass_broken : (failed : Bool) (sent m k : ℕ) (waiting bytes : Text) (held w w' : Option Text) (text : Text) → failed ≡ false → waiting ≡ []
    → m ≡ sent + k → k < length bytes → Appends w w' (take k bytes) → CarriesAs failed sent waiting held w text
    → (m < length (text ++ bytes)) × Appends held w' (take m (text ++ bytes))
pass_broken true sent m k waiting bytes held w w' text e none n less a c = absurd (cc)
pass_broken false sent m k waiting bytes held w w' text e none n less a c =
    let front : text ≡ c.0 = c.1 ∙ ap (λ x. c.0 ++ x) none ∙ append-nil c.0 in
    broken_at c.0 bytes (text ++ bytes) sent m k held w w' (ap (λ x. x ++ bytes) front) c.2 n less c.3 a

pub four : (t a b c d : Text) → (((t ++ a) ++ b) ++ c) ++ d ≡ t ++ (((a ++ b) ++ c) ++ d)
four t a b c d = simp append_assoc

pub five : (t a b c d e : Text) → ((((t ++ a) ++ b) ++ c) ++ d) ++ e ≡ t ++ ((((a ++ b) ++ c) ++ d) ++ e)
five t a b c d e = simp append_assoc

-- the parts of a status line, one after the other
pub status_bytes : (code : ℕ) (digits reason : Text) → digits ≡ code_digits code → reason ≡ unwrap_or (reason_phrase code) [] → (text : Text)
    → ((((text ++ codes "HTTP/1.1 ") ++ digits) ++ codes " ") ++ reason) ++ crlf ≡ text ++ status_line code
unfolding status_line
status_bytes code digits reason d r text =
    five text (codes "HTTP/1.1 ") digits (codes " ") reason crlf
    ∙ ap (λ x. text ++ ((((codes "HTTP/1.1 " ++ x) ++ codes " ") ++ reason) ++ crlf)) d
    ∙ ap (λ x. text ++ ((((codes "HTTP/1.1 " ++ code_digits code) ++ codes " ") ++ x) ++ crlf)) r
