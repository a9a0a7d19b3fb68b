-- A reply that says what a call came to.
use Rattle.std.specs.Prelude.{◌≡◌, Result, Ok, Err, IsOkAnd}
use Rattle.oci_types.specs.declared.fault.Fault.{Fault}
use Rattle.registry_model.specs.declared.reply.Reply.{Reply}
use Rattle.registry_model.specs.Answer.{Answer, answer_of}

-- a reply that says what a call came to, or its fault
abbrev pub Says : {A : Type 0} → (A → Answer) → Result A Fault → Result Reply Fault → Type 0
Says say (Ok it) result = IsOkAnd result (λ reply. answer_of reply ≡ say it)
Says say (Err fault) result = result ≡ Err fault
