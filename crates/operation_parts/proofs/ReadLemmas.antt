-- What a read tells, and what is told of it later: behind others that changed nothing, or by what passes its error on.
use Rattle.std.proofs.Common.{◌≡◌, ◌∙◌, true, false, Ok, Err, refl, sym, subst}
use Rattle.std.specs.Prelude.{Result, MatchResult}
use Rattle.std.specs.Result.{IsErr, IsErrAnd}
use Rattle.oci_types.specs.Text.{Text}
use Rattle.oci_types.specs.declared.fault.Fault.{Fault}
use Rattle.oci_types.specs.declared.fault.Fault.TheVariants.{Memory, Storage}
use Rattle.registry_model.specs.World.{has_repo}
use Rattle.registry_model.specs.Keeping.{Kept, ReadsBy, Spends}

-- the clauses of a read
abbrev pub Told : {A B : Type 0} → (A → B) → Result A Fault → B → Kept → Kept → Type 0 → Type 0 → Type 0
Told {A} {B} show r value s s' early late =
    record { found : late → ReadsBy {A = A} {B = B} show r value s s'; spends : Spends {A = A} r s s'; honest : late → early }

-- a text that is read asks for memory alone
pub text_told : {A : Type 0} (r : Result A Fault) (value : A) (s : Kept) (honest : Type 0) → MatchResult r (λ v. v ≡ value) (λ f. f ≡ Memory) → s.spent ≡ false
    → Told {A = A} {B = A} (λ v. v) r value s s honest honest
text_told {A} (Ok v) value s honest h unspent = record { found = λ _. (h, refl); spends = (unspent, unspent); honest = λ h. h }
text_told {A} (Err f) value s honest h unspent =
    subst (λ x. Told {A = A} {B = A} (λ v. v) (Err x) value s s honest honest) (sym h)
    (let whole : Told {A = A} {B = A} (λ v. v) (Err Memory) value s s honest honest = record { found = λ _. refl; spends = (unspent, unspent); honest = λ h. h } in whole)

-- a read after what changed nothing
pub told_later : {A B : Type 0} (show : A → B) (r : Result A Fault) (value : B) (s mid s' : Kept) (early between late : Type 0)
    → (between → mid ≡ s) → (between → early) → s.spent ≡ false → Told show r value mid s' between late → Told show r value s s' early late
told_later show (Ok v) value s mid s' early between late same before unspent h =
    record { found = λ honest. let found = h.found honest in (found.0, found.1 ∙ same (h.honest honest)); spends = (unspent, h.spends.1); honest = λ honest. before (h.honest honest) }
told_later show (Err Memory) value s mid s' early between late same before unspent h =
    record { found = λ honest. h.found honest ∙ same (h.honest honest); spends = (unspent, h.spends.1); honest = λ honest. before (h.honest honest) }
told_later show (Err Storage) value s mid s' early between late same before unspent h =
    record { found = λ honest. tt; spends = h.spends; honest = λ honest. before (h.honest honest) }

-- it gave this
pub told_this : {A B : Type 0} (show : A → B) (r : Result A Fault) (v : A) (value : B) (s s' : Kept) → r ≡ Ok v → ReadsBy show r value s s' → (show v ≡ value) × (s' ≡ s)
told_this {A} {B} show r v value s s' is h = subst (λ x. ReadsBy {A = A} {B = B} show x value s s') is h

-- and spent nothing
pub kept_on : {A : Type 0} (r : Result A Fault) (v : A) (s s' : Kept) → r ≡ Ok v → Spends r s s' → (s.spent ≡ false) × (s'.spent ≡ false)
kept_on {A} r v s s' is h = subst (λ x. Spends {A = A} x s s') is h

-- a text that was read is the value
pub text_read : {A : Type 0} (r : Result A Fault) (v value : A) → r ≡ Ok v → MatchResult r (λ v. v ≡ value) (λ f. f ≡ Memory) → v ≡ value
text_read {A} r v value is h = subst (λ (x : Result A Fault). MatchResult x (λ v. v ≡ value) (λ f. f ≡ Memory)) is h

-- its error is passed on by a read
pub read_failed : {A B C D : Type 0} (show : A → B) (value : B) (shown : C → D) (part : D) (r : Result A Fault) (e : Fault) (s s' : Kept) (before late : Type 0)
    → IsErr r × IsErrAnd r (λ f. f ≡ e) → Told shown (Err e) part s s' before late → Told show r value s s' before late
read_failed show value shown part (Ok x) e s s' before late is h = absurd is.1
read_failed {A} {B} {C} {D} show value shown part (Err f) e s s' before late is h =
    by_fault f (subst (λ (x : Fault). Told {A = C} {B = D} shown (Err x) part s s' before late) (sym is.1) h)
  where
    by_fault : (f : Fault) → Told {A = C} {B = D} shown (Err f) part s s' before late → Told {A = A} {B = B} show (Err f) value s s' before late
    by_fault Memory h = record { found = h.found; spends = h.spends; honest = h.honest }
    by_fault Storage h = record { found = λ honest. tt; spends = h.spends; honest = h.honest }

-- the same after others that changed nothing
pub read_failed_later : {A B C D : Type 0} (show : A → B) (value : B) (shown : C → D) (part : D) (r : Result A Fault) (e : Fault) (s mid s' : Kept) (early between late : Type 0)
    → IsErr r × IsErrAnd r (λ f. f ≡ e) → (between → mid ≡ s) → (between → early) → s.spent ≡ false → Told shown (Err e) part mid s' between late → Told show r value s s' early late
read_failed_later show value shown part r e s mid s' early between late is same before unspent h =
    read_failed show value shown part r e s s' early late is (told_later shown (Err e) part s mid s' early between late same before unspent h)

-- memory ran out, and nothing changed
pub read_ran_out : {A B : Type 0} (show : A → B) (value : B) (r : Result A Fault) (e : Fault) (s s' : Kept) (before after : Type 0)
    → IsErr r × IsErrAnd r (λ f. f ≡ e) → e ≡ Memory → (after → s' ≡ s) → s.spent ≡ false → s'.spent ≡ false → (after → before) → Told show r value s s' before after
read_ran_out show value (Ok x) e s s' before after is memory stays unspent late honest = absurd is.1
read_ran_out {A} {B} show value (Err f) e s s' before after is memory stays unspent late honest =
    subst (λ (x : Fault). Told {A = A} {B = B} show (Err x) value s s' before after) (sym (is.1 ∙ memory))
    (let whole : Told {A = A} {B = B} show (Err Memory) value s s' before after = record { found = stays; spends = (unspent, late); honest = honest } in whole)

-- what a read tells, in other words
pub read_as : {A B : Type 0} (show : A → B) (r : Result A Fault) (value other : B) (s s' : Kept) (before after : Type 0) → value ≡ other → Told show r value s s' before after → Told show r other s s' before after
read_as {A} {B} show r value other s s' before after same h = subst (λ x. Told {A = A} {B = B} show r x s s' before after) same h

-- the repository stays
pub still_there : (s mid : Kept) (name : Text) → mid ≡ s → has_repo s.world name ≡ true → has_repo mid.world name ≡ true
still_there s mid name same there = subst (λ (x : Kept). has_repo x.world name ≡ true) (sym same) there
