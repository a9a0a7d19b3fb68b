-- What is to go out, as it grows and as it goes.
use Rattle.std.proofs.Common.{◌≡◌, ℕ, ◌+◌, ◌-◌, ◌<◌, ◌≤◌, Bool, true, false, if◌then◌else◌, [], ◌∷◌, ◌++◌, length, take, drop, Option, sym, ap, subst, ◌∙◌, length-append, arith}
use Rattle.std.proofs.lemmas.List.{take-append-le}
use Rattle.std.proofs.Math.Seq.{drop-append-add, take-append-add}
use Rattle.std.specs.Prelude.{codes}
use Rattle.std.specs.Io.KnownBytes.{Appends}
use Rattle.std.proofs.KnownBytes.{Appends-trans}
use Rattle.oci_types.specs.Text.{Text}
use Rattle.registry_model.specs.Answer.{busy_answer, failed_answer}
use Rattle.registry_http.specs.ReplyText.{reply_text}
use Rattle.registry_http.proofs.FixedTexts.{failed_closing, failed_open, busy_closing, busy_open}

-- ---- bytes go

-- all heads went, and so much of the body
pub gone_of_body : (head body none left : Text) (count waiting : ℕ) → waiting ≡ length head → waiting ≤ count → none ≡ [] → left ≡ drop (count - waiting) body
    → none ++ left ≡ drop count (head ++ body)
gone_of_body head body none left count waiting size far e rest =
    let parts : length head + (count - waiting) ≡ count = omega (arith, size, far) in
    ap (λ (x : Text). x ++ left) e ∙ rest ∙ sym (ap (λ (n : ℕ). drop n (head ++ body)) (sym parts) ∙ drop-append-add head body (count - waiting))

-- ---- one text is written behind the other, or so much of it

pub sent_short : (a b : Text) (n : ℕ) (held mid held' : Option Text) → n < length b → Appends held mid a → Appends mid held' (take n b)
    → (length a + n < length (a ++ b)) × Appends held held' (take (length a + n) (a ++ b))
sent_short a b n held mid held' short first second = (
  omega (arith, short, length-append a b),
  rw (take-append-add a b n) (Appends-trans held mid held' a (take n b) first second),
)

pub sent_first : (a b : Text) (n : ℕ) (held held' : Option Text) → n < length a → Appends held held' (take n a)
    → (n < length (a ++ b)) × Appends held held' (take n (a ++ b))
sent_first a b n held held' short sent =
    let few : n ≤ length a = omega (arith, short) in
    (omega (arith, short, length-append a b), rw (take-append-le n a b few) sent)

-- ---- some bytes

some_first : (x : ℕ) (xs : Text) → 0 < length (x ∷ xs)
some_first x xs = omega arith

pub some_failure : (spent close : Bool) (text : Text) → ((head : Bool) → text ≡ reply_text head close (if spent then failed_answer else busy_answer)) → 0 < length text
some_failure true true text e = subst (λ (t : Text). 0 < length t) (failed_closing true ∙ sym (e true)) (some_first 72 (codes "TTP/1.1 500 Internal Server Error\r\nContent-Length: 0\r\nConnection: close\r\n\r\n"))
some_failure true false text e = subst (λ (t : Text). 0 < length t) (failed_open true ∙ sym (e true)) (some_first 72 (codes "TTP/1.1 500 Internal Server Error\r\nContent-Length: 0\r\n\r\n"))
some_failure false true text e = subst (λ (t : Text). 0 < length t) (busy_closing true ∙ sym (e true)) (some_first 72 (codes "TTP/1.1 503 Service Unavailable\r\nContent-Length: 0\r\nConnection: close\r\n\r\n"))
some_failure false false text e = subst (λ (t : Text). 0 < length t) (busy_open true ∙ sym (e true)) (some_first 72 (codes "TTP/1.1 503 Service Unavailable\r\nContent-Length: 0\r\n\r\n"))
