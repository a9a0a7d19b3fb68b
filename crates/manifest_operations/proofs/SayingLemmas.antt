-- What is replied with what a call came to, and with a call that failed.
use Rattle.std.proofs.Common.{◌≡◌, ◌∙◌, true, false, Ok, Err, Some, None, refl, sym, ap, subst}
use Rattle.std.specs.Prelude.{Option, Result, MatchResult}
use Rattle.std.specs.Result.{IsErr, IsErrAnd}
use Rattle.oci_types.specs.Text.{Text}
use Rattle.oci_types.specs.declared.fault.Fault.{Fault}
use Rattle.oci_types.specs.declared.fault.Fault.TheVariants.{Memory, Storage}
use Rattle.registry_model.specs.declared.refusal.Refusal.{Refusal}
use Rattle.registry_model.specs.declared.refusal.Refusal.TheVariants as why
use Rattle.registry_model.specs.declared.reply.Reply.{Reply}
use Rattle.registry_model.specs.World.{Repo, World}
use Rattle.registry_model.specs.Answer.{Answer, answer_of, refused}
use Rattle.registry_model.specs.Decision.{Decision}
use Rattle.registry_model.specs.Doing.{course_of_answer, answered}
use Rattle.registry_model.specs.Heads.{is_sent}
use Rattle.registry_model.specs.Keeping.{Kept, WritesBy, Spends}
use Rattle.operation_parts.specs.Operating.{Answers, Carries}
use Rattle.operation_parts.proofs.RepoOutcomes.{Done}
use Rattle.operation_parts.proofs.FailedCalls.{Clauses, Uncarried}
use Rattle.operation_parts.proofs.ReadLemmas.{Told}
use Rattle.operation_parts.proofs.EarlyLemmas.{Written}
use Rattle.manifest_operations.specs.Saying.{Says}

pub no_text : (o : Option Text) → o ≡ None → (t : Text) → o ≡ Some t → ⊥
no_text o none t some = absurd (cc)

-- a reply that was made, if there was memory for it
pub replied : (r : Result Reply Fault) (b : Answer) (name : Text) (act : Repo → Decision) (s s' : Kept) (before late : Type 0)
    → MatchResult r (λ reply. answer_of reply ≡ b) (λ f. f ≡ Memory) → course_of_answer b ≡ answered → is_sent b.body ≡ true
    → (late → s' ≡ s) → s.spent ≡ false → s'.spent ≡ false → (late → before) → (late → (a : Answer) → a ≡ b → Done a name act s s') → Clauses r name act s s' before late
replied (Ok reply) b name act s s' before late is answers sent stays unspent kept honest done = record {
  comes = λ h. done h (answer_of reply) is;
  answers = ap course_of_answer is ∙ answers;
  carries = ap (λ (a : Answer). is_sent a.body) is ∙ sent;
  spends = (unspent, kept);
  honest = honest;
}
replied (Err f) b name act s s' before late is answers sent stays unspent kept honest done =
    subst (λ x. Clauses (Err x) name act s s' before late) (sym is)
    (let whole : Clauses (Err Memory) name act s s' before late = record { comes = stays; answers = tt; carries = tt; spends = (unspent, kept); honest = honest } in whole)

-- the same of one that may have a length alone
pub replied_size : (r : Result Reply Fault) (b : Answer) (name : Text) (act : Repo → Decision) (s s' : Kept) (before late : Type 0)
    → MatchResult r (λ reply. answer_of reply ≡ b) (λ f. f ≡ Memory) → course_of_answer b ≡ answered
    → (late → s' ≡ s) → s.spent ≡ false → s'.spent ≡ false → (late → before) → (late → (a : Answer) → a ≡ b → Done a name act s s') → Uncarried r name act s s' before late
replied_size (Ok reply) b name act s s' before late is answers stays unspent kept honest done = record {
  comes = λ h. done h (answer_of reply) is;
  answers = ap course_of_answer is ∙ answers;
  spends = (unspent, kept);
  honest = honest;
}
replied_size (Err f) b name act s s' before late is answers stays unspent kept honest done =
    subst (λ x. Uncarried (Err x) name act s s' before late) (sym is)
    (let whole : Uncarried (Err Memory) name act s s' before late = record { comes = stays; answers = tt; spends = (unspent, kept); honest = honest } in whole)

-- the clauses of what gives a part of the reply
abbrev pub Given : {A B : Type 0} → (A → B) → Result A Fault → B → World → Kept → Kept → Type 0 → Type 0 → Type 0
Given {A} {B} show r value w s s' before late =
    record { comes : late → WritesBy {A = A} {B = B} show r value w s s'; spends : Spends {A = A} r s s'; honest : late → before }

-- the clauses of an operation, by its reply and the world that it makes
abbrev pub Whole : Result Reply Fault → Answer → World → Kept → Kept → Type 0 → Type 0 → Type 0
Whole r b w s s' before late =
    record { comes : late → WritesBy answer_of r b w s s'; answers : Answers r; carries : Carries r; spends : Spends r s s'; honest : late → before }

-- a reply that says what it gave
pub said : {A : Type 0} (say : A → Answer) (r : Result A Fault) (result : Result Reply Fault) (b : Answer) (w : World) (s s' : Kept) (before late : Type 0)
    → Says say r result → ((it : A) → course_of_answer (say it) ≡ answered) → ((it : A) → is_sent (say it).body ≡ true) → Given say r b w s s' before late
    → Whole result b w s s' before late
said say (Ok it) (Err f) b w s s' before late is answers sent h = absurd is
said say (Ok it) (Ok reply) b w s s' before late is answers sent h = record {
  comes = λ honest. let made = h.comes honest in (is ∙ made.0, made.1);
  answers = ap course_of_answer is ∙ answers it;
  carries = ap (λ (a : Answer). is_sent a.body) is ∙ sent it;
  spends = h.spends;
  honest = h.honest;
}
said {A} say (Err fault) result b w s s' before late is answers sent h = subst (λ x. Whole x b w s s' before late) (sym is) (by_fault fault h)
  where
    by_fault : (f : Fault) → Given {A = A} {B = Answer} say (Err f) b w s s' before late → Whole (Err f) b w s s' before late
    by_fault Memory h = record { comes = h.comes; answers = tt; carries = tt; spends = h.spends; honest = h.honest }
    by_fault Storage h = record { comes = λ honest. tt; answers = tt; carries = tt; spends = h.spends; honest = h.honest }

-- a read that failed
pub read_lost : {A B C D : Type 0} (show : A → B) (value : B) (w : World) (shown : C → D) (part : D) (r : Result A Fault) (e : Fault) (s mid s' : Kept) (early between late : Type 0)
    → IsErr r × IsErrAnd r (λ f. f ≡ e) → (between → mid ≡ s) → (between → early) → s.spent ≡ false → Told shown (Err e) part mid s' between late → Given show r value w s s' early late
read_lost show value w shown part (Ok x) e s mid s' early between late is same before unspent h = absurd is.1
read_lost {A} {B} {C} {D} show value w shown part (Err f) e s mid s' early between late is same before unspent h =
    by_fault f (subst (λ (x : Fault). Told {A = C} {B = D} shown (Err x) part mid s' between late) (sym is.1) h)
  where
    by_fault : (f : Fault) → Told {A = C} {B = D} shown (Err f) part mid s' between late → Given {A = A} {B = B} show (Err f) value w s s' early late
    by_fault Memory h = record { comes = λ honest. h.found honest ∙ same (h.honest honest); spends = (unspent, h.spends.1); honest = λ honest. before (h.honest honest) }
    by_fault Storage h = record { comes = λ honest. tt; spends = h.spends; honest = λ honest. before (h.honest honest) }

-- a write that failed
pub write_lost : (C : Type 0) {A B : Type 0} (show : A → B) (value : B) (w made : World) (r : Result A Fault) (e : Fault) (s mid s' : Kept) (early between late : Type 0)
    → IsErr r × IsErrAnd r (λ f. f ≡ e) → (between → mid ≡ s) → (between → early) → s.spent ≡ false → Written {A = C} made (Err e) mid s' between late → Given show r value w s s' early late
write_lost C show value w made (Ok x) e s mid s' early between late is same before unspent h = absurd is.1
write_lost C {A} {B} show value w made (Err f) e s mid s' early between late is same before unspent h =
    by_fault f (subst (λ (x : Fault). Written {A = C} made (Err x) mid s' between late) (sym is.1) h)
  where
    by_fault : (f : Fault) → Written {A = C} made (Err f) mid s' between late → Given {A = A} {B = B} show (Err f) value w s s' early late
    by_fault Memory h = record { comes = λ honest. h.made honest ∙ same (h.honest honest); spends = (unspent, h.spends.1); honest = λ honest. before (h.honest honest) }
    by_fault Storage h = record { comes = λ honest. tt; spends = h.spends; honest = λ honest. before (h.honest honest) }

-- a refusal is an answer
pub refusal_answers : (e : Refusal) → course_of_answer (refused e) ≡ answered
refusal_answers why.TokenRequired = refl
refusal_answers why.NoEndpoint = refl
refusal_answers why.InvalidName = refl
refusal_answers why.MethodNotAllowed = refl
refusal_answers why.AccessDenied = refl
refusal_answers why.BlobUnknown = refl
refusal_answers why.ManifestUnknown = refl
refusal_answers why.UploadUnknown = refl
refusal_answers why.InvalidDigest = refl
refusal_answers why.DigestMismatch = refl
refusal_answers why.ContentTooLarge = refl
refusal_answers why.RangeLength = refl
refusal_answers why.RangeOutOfOrder = refl
refusal_answers why.InvalidRange = refl
refusal_answers why.ManifestBlobUnknown = refl
refusal_answers why.InvalidManifest = refl
refusal_answers why.InvalidReference = refl
refusal_answers why.QuotaExceeded = refl
refusal_answers why.TooManyUploads = refl
refusal_answers why.InvalidPageSize = refl
