-- What is answered before an operation is done, and with its last write.
use Rattle.std.proofs.Common.{◌≡◌, ◌∙◌, true, false, Ok, Err, sym, ap, subst}
use Rattle.std.specs.Prelude.{Result}
use Rattle.oci_types.specs.Text.{Text}
use Rattle.oci_types.specs.declared.fault.Fault.{Fault}
use Rattle.oci_types.specs.declared.fault.Fault.TheVariants.{Memory, Storage}
use Rattle.registry_model.specs.declared.refusal.Refusal.{Refusal}
use Rattle.registry_model.specs.declared.reply.Reply.{Reply}
use Rattle.registry_model.specs.World.{Repo, World}
use Rattle.registry_model.specs.Answer.{Answer, answer_of, refused}
use Rattle.registry_model.specs.Decision.{Decision}
use Rattle.registry_model.specs.Doing.{course_of_answer, answered}
use Rattle.registry_model.specs.Heads.{is_sent}
use Rattle.registry_model.specs.Keeping.{Kept, goes_on, Writes, WritesBy, Spends}
use Rattle.operation_parts.specs.Early.{IsEarly, after}
use Rattle.operation_parts.proofs.RepoOutcomes.{Done}
use Rattle.operation_parts.proofs.FailedCalls.{Clauses}
use Rattle.operation_parts.proofs.ReadLemmas.{Told}

-- the refusal, or the fault of the read
pub refused_early : {A B : Type 0} (show : A → B) (IsRefused : A → Type 0) (refusal : Refusal) (r : Result A Fault) (value : B) (early : Result Reply Fault)
    (name : Text) (act : Repo → Decision) (s s' : Kept) (before late : Type 0)
    → IsEarly IsRefused refusal r early → course_of_answer (refused refusal) ≡ answered → is_sent (refused refusal).body ≡ true → Told show r value s s' before late
    → (late → (v : A) → IsRefused v → show v ≡ value → s' ≡ s → (a : Answer) → a ≡ refused refusal → Done a name act s s') → Clauses early name act s s' before late
refused_early show IsRefused refusal (Ok v) value (Err f) name act s s' before late is answers sent h done = absurd is.1
refused_early show IsRefused refusal (Ok v) value (Ok reply) name act s s' before late is answers sent h done = record {
  comes = λ honest. let found = h.found honest in done honest v is.0 found.0 found.1 (answer_of reply) is.1;
  answers = ap course_of_answer is.1 ∙ answers;
  carries = ap (λ (a : Answer). is_sent a.body) is.1 ∙ sent;
  spends = h.spends;
  honest = h.honest;
}
refused_early {A} {B} show IsRefused refusal (Err fault) value early name act s s' before late is answers sent h done =
    subst (λ x. Clauses x name act s s' before late) (sym is) (by_fault fault h)
  where
    by_fault : (f : Fault) → Told {A = A} {B = B} show (Err f) value s s' before late → Clauses (Err f) name act s s' before late
    by_fault Memory h = record { comes = h.found; answers = tt; carries = tt; spends = h.spends; honest = h.honest }
    by_fault Storage h = record { comes = λ honest. tt; answers = tt; carries = tt; spends = h.spends; honest = h.honest }

-- the clauses of a write
abbrev pub Written : {A : Type 0} → World → Result A Fault → Kept → Kept → Type 0 → Type 0 → Type 0
Written {A} w r s s' early late = record { made : late → Writes {A = A} r w s s'; spends : Spends {A = A} r s s'; honest : late → early }

-- those of one that gives a value
pub written_by : {A B : Type 0} (show : A → B) (value : B) (w : World) (r : Result A Fault) (s s' : Kept) (early late : Type 0)
    → record { made : late → WritesBy {A = A} {B = B} show r value w s s'; spends : Spends {A = A} r s s'; honest : late → early } → Written w r s s' early late
written_by show value w (Ok v) s s' early late h = record { made = λ honest. (h.made honest).1; spends = h.spends; honest = h.honest }
written_by show value w (Err Memory) s s' early late h = record { made = h.made; spends = h.spends; honest = h.honest }
written_by show value w (Err Storage) s s' early late h = record { made = λ honest. tt; spends = h.spends; honest = h.honest }

pub wrote : {A : Type 0} (w : World) (r : Result A Fault) (reply : Reply) (name : Text) (act : Repo → Decision) (s mid s' : Kept) (early between late : Type 0)
    → (between → mid ≡ s) → (between → early) → s.spent ≡ false → Written w r mid s' between late
    → course_of_answer (answer_of reply) ≡ answered → is_sent (answer_of reply).body ≡ true
    → (between → s' ≡ goes_on mid w → Done (answer_of reply) name act s s') → Clauses (after r reply) name act s s' early late
wrote w (Ok v) reply name act s mid s' early between late same before unspent h answers sent done = record {
  comes = λ honest. done (h.honest honest) (h.made honest);
  answers = answers;
  carries = sent;
  spends = (unspent, h.spends.1);
  honest = λ honest. before (h.honest honest);
}
wrote w (Err Memory) reply name act s mid s' early between late same before unspent h answers sent done =
    record { comes = λ honest. h.made honest ∙ same (h.honest honest); answers = tt; carries = tt; spends = (unspent, h.spends.1); honest = λ honest. before (h.honest honest) }
wrote w (Err Storage) reply name act s mid s' early between late same before unspent h answers sent done =
    record { comes = λ honest. tt; answers = tt; carries = tt; spends = h.spends; honest = λ honest. before (h.honest honest) }

-- the reply of it, as the clauses have it
pub after_it : {A : Type 0} (r : Result A Fault) (reply : Reply) (result : Result Reply Fault) (name : Text) (act : Repo → Decision) (s s' : Kept) (early late : Type 0)
    → result ≡ after r reply → Clauses (after r reply) name act s s' early late → Clauses result name act s s' early late
after_it r reply result name act s s' early late is h = subst (λ x. Clauses x name act s s' early late) (sym is) h
