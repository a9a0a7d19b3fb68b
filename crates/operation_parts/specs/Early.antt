-- What an operation answers before it is done.
use Rattle.std.specs.Prelude.{◌≡◌, true, false, Bool, Option, Some, None, Result, Ok, Err, IsOkAnd}
use Rattle.oci_types.specs.declared.fault.Fault.{Fault}
use Rattle.registry_model.specs.declared.refusal.Refusal.{Refusal}
use Rattle.registry_model.specs.declared.refusal.Refusal.TheVariants.{QuotaExceeded}
use Rattle.registry_model.specs.declared.reply.Reply.{Reply}
use Rattle.registry_model.specs.Answer.{answer_of, refused}

-- The refusal of what was looked at, which is such that it is refused; or the fault of the look.
abbrev pub IsEarly : {A : Type 0} → (A → Type 0) → Refusal → Result A Fault → Result Reply Fault → Type 0
IsEarly IsRefused refusal (Ok found) early =
    IsRefused found × IsOkAnd early (λ reply. answer_of reply ≡ refused refusal)
IsEarly IsRefused refusal (Err fault) early = early ≡ Err fault

-- what was looked for, or what is answered in its place
abbrev pub FoundOr : {A : Type 0} → Refusal → Result (Option A) Fault → Result A (Result Reply Fault) → Type 0
FoundOr refusal looked (Ok found) = looked ≡ Ok (Some found)
FoundOr {A} refusal looked (Err early) = IsEarly {A = Option A} (λ o. o ≡ None) refusal looked early

-- the quota is not exceeded, or what is answered
abbrev pub IsWithin : {A : Type 0} → Result Bool Fault → Result A (Result Reply Fault) → Type 0
IsWithin over (Ok within) = over ≡ Ok false
IsWithin over (Err early) = IsEarly {A = Bool} (λ b. b ≡ true) QuotaExceeded over early

-- the reply to what was done, or the fault for which it was not
abbrev pub after : {A : Type 0} → Result A Fault → Reply → Result Reply Fault
after (Ok done) reply = Ok reply
after (Err fault) reply = Err fault
