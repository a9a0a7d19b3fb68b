-- What is told of what was put out.
use Rattle.std.proofs.Common.{◌≡◌, ℕ, ◌+◌, ◌-◌, ◌≤◌, ◌++◌, length, take, Option, Some, Result, Ok, Err, sym, ap, ◌∙◌, length-append, arith}
use Rattle.oci_types.specs.Text.{Text}
use Rattle.registry_model.specs.Answer.{Answer}
use Rattle.registry_http.specs.Ending.{SendsRefusal}
use Rattle.registry_http.specs.ReplyText.{refusal_text}
use Rattle.registry_http.specs.Sending.{SendsReply}
use Rattle.registry_http.specs.Spelling.{Item}
use Rattle.registry_http.specs.declared.ending.End.{End}
use Rattle.registry_http.specs.declared.ending.End.TheVariants.{Closed, Cut, Refused, ReadFailed, WriteFailed}
use Rattle.registry_http.specs.declared.ending.FramingRefusal.{FramingRefusal}
use Rattle.registry_http.specs.declared.outgoing.WriteFault.{WriteFault}
use Rattle.registry_outbox.specs.declared.report.Report.{Report}
use Rattle.registry_outbox.specs.Reports.{TellsAnswer, Reported}

is_longer : (old new text : Text) → new ≡ old ++ text → length old ≤ length new
is_longer old new text e = omega (arith, ap length e, length-append old text)

sends_longer : {A : Type 0} (r : Result A WriteFault) (old new text : Text) → SendsReply r (Some old) (Some new) text → length old ≤ length new
sends_longer (Ok x) old new text sent = is_longer old new text sent
sends_longer (Err e) old new text sent = is_longer old new (take e.written text) sent.1

pub refusal_longer : (e : End) (r : FramingRefusal) (old new : Text) → SendsRefusal e r (Some old) (Some new) → length old ≤ length new
refusal_longer Closed r old new s = absurd s
refusal_longer Cut r old new s = absurd s
refusal_longer (Refused q) r old new s = is_longer old new (refusal_text r) s.1
refusal_longer ReadFailed r old new s = absurd s
refusal_longer (WriteFailed n) r old new s = is_longer old new (take n (refusal_text r)) s.1

-- by how much it has grown
pub grown_by : (old new : Text) (before : ℕ) → before ≡ length old → length old ≤ length new → length new ≡ length old + (length new - before)
grown_by old new before was more = omega (arith, was, more)

-- a reply was put out, and is told so
pub reported : {A : Type 0} (report : Option Report) (old mid new text : Text) (sent : Result A WriteFault) (before : ℕ) (r : Report) (i : Item) (a : Answer)
    → report ≡ Some r → r.went ≡ length mid - before → before ≡ length old → new ≡ mid → SendsReply sent (Some old) (Some mid) text → TellsAnswer r i a
    → Reported report old new (λ q. TellsAnswer q i a)
reported report old mid new text sent before r i a is went was same put tells =
    (r, is, tells, ap length same ∙ grown_by old mid before was (sends_longer sent old mid text put) ∙ ap (λ (n : ℕ). length old + n) (sym went))
