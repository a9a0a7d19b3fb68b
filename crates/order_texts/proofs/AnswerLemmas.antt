-- The text of an answer.
use Rattle.std.proofs.Common.{◌≡◌, ◌∙◌, ℕ, ◌+◌, ◌-◌, ◌≤◌, arith, decimal, length, take, drop, get_or, [], ◌∷◌, ◌++◌, sym, ap}
use Rattle.std.proofs.lemmas.Fmt.{decimal_digit}
use Rattle.std.proofs.lemmas.List.{take_all}
use Rattle.oci_types.specs.Text.{Text}
use Rattle.registry_orders.specs.Outputs.{newline}
use Rattle.order_texts.specs.Answers.{answer_text}

pub done_text : (written : Text) → (48 ∷ 10 ∷ []) ++ written ≡ answer_text 0 written
done_text written = ap (λ d. d ++ newline ++ written) (sym (decimal_digit 0 (omega arith)))

-- ---- the places of an answer

pub answer_read : (bytes : Text) → 2 ≤ length bytes → 48 ≤ get_or bytes 0 0 → get_or bytes 0 0 ≤ 52 → get_or bytes 1 0 ≡ 10
    → bytes ≡ answer_text (get_or bytes 0 0 - 48) (take (length bytes - 2) (drop 2 bytes))
answer_read [] long low high line = absurd (omega arith)
answer_read (b ∷ []) long low high line = absurd (omega arith)
answer_read (b ∷ c ∷ t) long low high line =
    let digit : decimal (b - 48) ≡ b ∷ [] = decimal_digit (b - 48) (omega arith) ∙ ap (λ d. d ∷ []) (omega arith) in
    let rest : take (length (b ∷ c ∷ t) - 2) t ≡ t = take_all (length (b ∷ c ∷ t) - 2) t (omega arith) in
    ap (λ e. b ∷ e ∷ t) line ∙ ap (λ d. d ++ newline ++ t) (sym digit) ∙ ap (λ x. answer_text (b - 48) x) (sym rest)

pub answer_places : (bytes : Text) (status : ℕ) (text : Text) → status ≤ 4 → bytes ≡ answer_text status text
    → (2 ≤ length bytes) × (get_or bytes 0 0 ≡ 48 + status) × (get_or bytes 1 0 ≡ 10)
answer_places bytes status text small is =
    let digit : decimal status ≡ (48 + status) ∷ [] = decimal_digit status (omega arith) in
    let whole : bytes ≡ (48 + status) ∷ 10 ∷ text = is ∙ ap (λ d. d ++ newline ++ text) digit in
    let long : length bytes ≡ length ((48 + status) ∷ 10 ∷ text) = ap length whole in
    (omega arith, ap (λ x. get_or x 0 0) whole, ap (λ x. get_or x 1 0) whole)
