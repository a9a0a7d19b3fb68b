-- What is returned where a call of the keeper failed.
use Rattle.std.proofs.Common.{◌≡◌, ◌∙◌, false, Ok, Err, sym, subst}
use Rattle.std.specs.Prelude.{Result}
use Rattle.std.specs.Result.{IsErr, IsErrAnd}
use Rattle.oci_types.specs.Text.{Text}
use Rattle.oci_types.specs.declared.fault.Fault.{Fault}
use Rattle.oci_types.specs.declared.fault.Fault.TheVariants.{Memory, Storage}
use Rattle.registry_model.specs.declared.reply.Reply.{Reply}
use Rattle.registry_model.specs.World.{Repo, World}
use Rattle.registry_model.specs.Decision.{Decision}
use Rattle.registry_model.specs.Keeping.{Kept, Reads, Writes, WritesBy, Spends}
use Rattle.operation_parts.specs.Operating.{Operates, Answers, Carries}

-- the clauses of an operation
abbrev pub Clauses : Result Reply Fault → Text → (Repo → Decision) → Kept → Kept → Type 0 → Type 0 → Type 0
Clauses r name act s s' before after =
    record { comes : after → Operates r name act s s'; answers : Answers r; carries : Carries r; spends : Spends r s s'; honest : after → before }

-- those of one whose reply may have a length alone
abbrev pub Uncarried : Result Reply Fault → Text → (Repo → Decision) → Kept → Kept → Type 0 → Type 0 → Type 0
Uncarried r name act s s' before after =
    record { comes : after → Operates r name act s s'; answers : Answers r; spends : Spends r s s'; honest : after → before }

pub uncarried : (r : Result Reply Fault) (name : Text) (act : Repo → Decision) (s s' : Kept) (before after : Type 0) → Clauses r name act s s' before after → Uncarried r name act s s' before after
uncarried r name act s s' before after h = record { comes = h.comes; answers = h.answers; spends = h.spends; honest = h.honest }

-- what a read says that failed
abbrev pub Failed : {A : Type 0} → A → Fault → Kept → Kept → Type 0 → Type 0 → Type 0
Failed {A} v e s s' before after =
    record { found : after → Reads {A = A} (Err e) v s s'; spends : Spends {A = A} (Err e) s s'; honest : after → before }

-- its error is passed on
pub read_failed : {A : Type 0} (v : A) (r : Result Reply Fault) (e : Fault) (name : Text) (act : Repo → Decision) (s s' : Kept) (before after : Type 0)
    → IsErr r × IsErrAnd r (λ f. f ≡ e) → Failed v e s s' before after → Clauses r name act s s' before after
read_failed v (Ok x) e name act s s' before after is h = absurd is.1
read_failed v (Err f) e name act s s' before after is h = by_fault f (subst (λ x. Failed v x s s' before after) (sym is.1) h)
  where
    by_fault : (f : Fault) → Failed v f s s' before after → Clauses (Err f) name act s s' before after
    by_fault Memory h = record { comes = h.found; answers = tt; carries = tt; spends = h.spends; honest = h.honest }
    by_fault Storage h = record { comes = λ honest. tt; answers = tt; carries = tt; spends = h.spends; honest = h.honest }

-- memory ran out, and nothing changed
pub memory_ran_out : (r : Result Reply Fault) (e : Fault) (name : Text) (act : Repo → Decision) (s s' : Kept) (before after : Type 0)
    → IsErr r × IsErrAnd r (λ f. f ≡ e) → e ≡ Memory → (after → s' ≡ s) → s.spent ≡ false → s'.spent ≡ false → (after → before) → Clauses r name act s s' before after
memory_ran_out (Ok x) e name act s s' before after is memory stays unspent late honest = absurd is.1
memory_ran_out (Err f) e name act s s' before after is memory stays unspent late honest =
    subst (λ x. Clauses (Err x) name act s s' before after) (sym (is.1 ∙ memory))
    (let whole : Clauses (Err Memory) name act s s' before after = record { comes = stays; answers = tt; carries = tt; spends = (unspent, late); honest = honest } in whole)

-- what a call says that gave a part of the reply and failed
abbrev pub GaveUp : {A B : Type 0} → (A → B) → Fault → B → World → Kept → Kept → Type 0 → Type 0 → Type 0
GaveUp {A} {B} show f value w s s' before after =
    record { comes : after → WritesBy {A = A} {B = B} show (Err f) value w s s'; spends : Spends {A = A} (Err f) s s'; honest : after → before }

-- its fault is the operation's
pub passed_on : {A B : Type 0} (show : A → B) (f : Fault) (value : B) (w : World) (name : Text) (act : Repo → Decision) (s s' : Kept) (before after : Type 0)
    → GaveUp show f value w s s' before after → Clauses (Err f) name act s s' before after
passed_on show Memory value w name act s s' before after h = record { comes = h.comes; answers = tt; carries = tt; spends = h.spends; honest = h.honest }
passed_on show Storage value w name act s s' before after h = record { comes = λ honest. tt; answers = tt; carries = tt; spends = h.spends; honest = h.honest }

-- ---- after calls that changed nothing

-- the error of a read is passed on
pub later_read_failed : {A : Type 0} (v : A) (r : Result Reply Fault) (e : Fault) (name : Text) (act : Repo → Decision) (s mid s' : Kept) (before between after : Type 0)
    → IsErr r × IsErrAnd r (λ f. f ≡ e) → (between → mid ≡ s) → (between → before) → s.spent ≡ false → Failed v e mid s' between after → Clauses r name act s s' before after
later_read_failed v (Ok x) e name act s mid s' before between after is same early unspent h = absurd is.1
later_read_failed v (Err f) e name act s mid s' before between after is same early unspent h = by_fault f (subst (λ x. Failed v x mid s' between after) (sym is.1) h)
  where
    by_fault : (f : Fault) → Failed v f mid s' between after → Clauses (Err f) name act s s' before after
    by_fault Memory h =
        record { comes = λ honest. h.found honest ∙ same (h.honest honest); answers = tt; carries = tt; spends = (unspent, h.spends.1); honest = λ honest. early (h.honest honest) }
    by_fault Storage h = record { comes = λ honest. tt; answers = tt; carries = tt; spends = h.spends; honest = λ honest. early (h.honest honest) }

-- what a write says that failed
abbrev pub Unwritten : World → Fault → Kept → Kept → Type 0 → Type 0 → Type 0
Unwritten w e s s' before after =
    record { made : after → Writes {A = Reply} (Err e) w s s'; spends : Spends {A = Reply} (Err e) s s'; honest : after → before }

-- and so is that of a write
pub write_failed : (w : World) (r : Result Reply Fault) (e : Fault) (name : Text) (act : Repo → Decision) (s mid s' : Kept) (before between after : Type 0)
    → IsErr r × IsErrAnd r (λ f. f ≡ e) → (between → mid ≡ s) → (between → before) → s.spent ≡ false → Unwritten w e mid s' between after → Clauses r name act s s' before after
write_failed w (Ok x) e name act s mid s' before between after is same early unspent h = absurd is.1
write_failed w (Err f) e name act s mid s' before between after is same early unspent h = by_fault f (subst (λ x. Unwritten w x mid s' between after) (sym is.1) h)
  where
    by_fault : (f : Fault) → Unwritten w f mid s' between after → Clauses (Err f) name act s s' before after
    by_fault Memory h =
        record { comes = λ honest. h.made honest ∙ same (h.honest honest); answers = tt; carries = tt; spends = (unspent, h.spends.1); honest = λ honest. early (h.honest honest) }
    by_fault Storage h = record { comes = λ honest. tt; answers = tt; carries = tt; spends = h.spends; honest = λ honest. early (h.honest honest) }
