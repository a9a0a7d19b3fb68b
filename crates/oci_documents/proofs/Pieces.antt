-- Pieces that were taken one behind the other.
use Rattle.std.proofs.Common.{◌≡◌, ◌++◌, [], Result, Ok, Err, sym, subst, append_assoc, append-nil}
use Rattle.oci_types.specs.Text.{Text}
use Rattle.oci_types.specs.declared.fault.Fault.{Fault}
use Rattle.oci_documents.specs.Sink.{Takes}

-- what was taken between two states
abbrev pub Took : {S : Type 0} → (S → Text → Type 0) → S → S → Text → Type 0
Took took old new piece = (before : Text) → took old before → took new (before ++ piece)

pub took_nothing : {S : Type 0} (took : S → Text → Type 0) (out : S) → Took took out out []
took_nothing took out = λ before h. subst (took out) (sym (append-nil before)) h

pub took_both : {S : Type 0} (took : S → Text → Type 0) (old mid new : S) (a b : Text) → Took took old mid a → Took took mid new b → Took took old new (a ++ b)
took_both took old mid new a b first then = λ before h. subst (took new) (append_assoc before a b) (then (before ++ a) (first before h))

-- the same, where the second may have failed
pub takes_both : {S : Type 0} (took : S → Text → Type 0) (r : Result (Unit {0}) Fault) (old mid new : S) (a b : Text) → Took took old mid a → Takes took r mid new b → Takes took r old new (a ++ b)
takes_both took (Ok done) old mid new a b first then = took_both took old mid new a b first then
takes_both took (Err fault) old mid new a b first then = then
