-- A text on its way to a writer.
use Rattle.std.specs.Prelude.{◌≡◌, ℕ, ◌+◌, ◌<◌, Bool, true, false, ◌++◌, length, take, Option, Result, MatchResult}
use Rattle.std.specs.Io.KnownBytes.{Appends}
use Rattle.oci_types.specs.Text.{Text}
use Rattle.registry_http.specs.declared.outgoing.Outgoing.{Outgoing}
use Rattle.registry_http.specs.declared.outgoing.WriteFault.{WriteFault}

-- a text was written, or so many of its first bytes
abbrev pub Sends : {A : Type 0} → Result A ℕ → Option Text → Option Text → Text → Type 0
Sends r held held' text =
    MatchResult r (λ _. Appends held held' text) (λ n. (n < length text) × Appends held held' (take n text))

abbrev pub SendsReply : {A : Type 0} → Result A WriteFault → Option Text → Option Text → Text → Type 0
SendsReply r held held' text =
    MatchResult r (λ _. Appends held held' text)
    (λ e. (e.written < length text) × Appends held held' (take e.written text))

-- the bytes of a text were written behind n others: all, or so many of the first that m are written in all
abbrev pub SendsBehind : Result ℕ ℕ → ℕ → Option Text → Option Text → Text → Type 0
SendsBehind r n held held' text =
    MatchResult r (λ total. (total ≡ n + length text) × Appends held held' text)
    (λ m. (k : ℕ) × (m ≡ n + k) × (k < length text) × Appends held held' (take k text))

-- so many bytes of the text were written, and the others wait; or the write failed behind them
abbrev pub CarriesAs : Bool → ℕ → Text → Option Text → Option Text → Text → Type 0
CarriesAs false sent waiting held held' text =
    (front : Text) × (text ≡ front ++ waiting) × (sent ≡ length front) × Appends held held' front
CarriesAs true sent waiting held held' text = (sent < length text) × Appends held held' (take sent text)

abbrev pub Carries : Outgoing → Option Text → Option Text → Text → Type 0
Carries o held held' text = CarriesAs o.failed o.sent o.waiting.items held held' text

-- behind whatever text is carried so far, the bytes are carried too
abbrev pub GoesOn : Outgoing → Outgoing → Option Text → Option Text → Text → Type 0
GoesOn o o' held' held'' bytes =
    (held : Option Text) (text : Text) → Carries o held held' text → Carries o' held held'' (text ++ bytes)
