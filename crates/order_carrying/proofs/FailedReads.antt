-- What is returned where a read of the service failed, or memory ran out.
use Rattle.std.proofs.Common.{◌≡◌, ◌∙◌, Bool, false, List, ◌++◌, Ok, Err, sym, subst}
use Rattle.std.specs.Prelude.{Result, Option, String, ⊤}
use Rattle.std.specs.Result.{IsErr, IsErrAnd}
use Rattle.std.specs.declared.alloc.Global.{Global}
use Rattle.oci_types.specs.Text.{Text}
use Rattle.oci_types.specs.declared.fault.Fault.{Fault}
use Rattle.oci_types.specs.declared.fault.Fault.TheVariants.{Memory, Storage}
use Rattle.registry_model.specs.Keeping.{Kept, ReadsBy, ReadsSo, Spends}
use Rattle.order_carrying.specs.Reading.{TellsText, IsAdded}

-- nothing changed, where memory was wanting
abbrev pub Stays : Fault → Kept → Kept → Type 0
Stays Memory s s' = s' ≡ s
Stays Storage s s' = ⊤

pub record Failed (e : Fault) (s s' : Kept) (before after : Type 0) : Type 0 where
  pub stays : after → Stays e s s'
  pub spends : Spends {A = Bool} (Err e) s s'
  pub honest : after → before

-- ---- what the calls say

-- a read of the service, or one of this crate
abbrev pub By : {A B : Type 0} → (A → B) → Result A Fault → B → Kept → Kept → Type 0 → Type 0 → Type 0
By show r value s s' before after =
    record { found : after → ReadsBy show r value s s'; spends : Spends r s s'; honest : after → before }

abbrev pub So : {A : Type 0} → (A → Type 0) → Result A Fault → Kept → Kept → Type 0 → Type 0 → Type 0
So IsSo r s s' before after = record { found : after → ReadsSo IsSo r s s'; spends : Spends r s s'; honest : after → before }

pub by_failed : {B : Type 0} (e : Fault) (value : B) (s s' : Kept) (before after : Type 0) → By {A = B} {B = B} (λ v. v) (Err e) value s s' before after → Failed e s s' before after
by_failed Memory value s s' before after h = record { stays = h.found; spends = h.spends; honest = h.honest }
by_failed Storage value s s' before after h = record { stays = λ honest. tt; spends = h.spends; honest = h.honest }

pub so_failed : (e : Fault) (s s' : Kept) (before after : Type 0) → So {A = Bool} (λ b. ⊤) (Err e) s s' before after → Failed e s s' before after
so_failed Memory s s' before after h = record { stays = h.found; spends = h.spends; honest = h.honest }
so_failed Storage s s' before after h = record { stays = λ honest. tt; spends = h.spends; honest = h.honest }

-- after reads that changed nothing
pub later : (e : Fault) (s mid s' : Kept) (before between after : Type 0) → (between → mid ≡ s) → (between → before) → s.spent ≡ false → Failed e mid s' between after → Failed e s s' before after
later Memory s mid s' before between after same early unspent h =
    record { stays = λ honest. h.stays honest ∙ same (h.honest honest); spends = (unspent, h.spends.1); honest = λ honest. early (h.honest honest) }
later Storage s mid s' before between after same early unspent h = record { stays = λ honest. tt; spends = h.spends; honest = λ honest. early (h.honest honest) }

-- memory ran out, and nothing changed
pub ran_out : (e : Fault) (s s' : Kept) (before after : Type 0) → e ≡ Memory → (after → s' ≡ s) → s.spent ≡ false → s'.spent ≡ false → (after → before) → Failed e s s' before after
ran_out Memory s s' before after memory same unspent late honest = record { stays = same; spends = (unspent, late); honest = honest }
ran_out Storage s s' before after memory same unspent late honest = absurd (let e = memory in cc)

-- ---- what is returned

pub returns_by : {A B : Type 0} (show : A → B) (r : Result A Fault) (e : Fault) (value : B) (s s' : Kept) (before after : Type 0) → IsErr r × IsErrAnd r (λ f. f ≡ e) → Failed e s s' before after → By show r value s s' before after
returns_by show (Ok x) e value s s' before after is h = absurd is.1
returns_by show (Err f) e value s s' before after is h = by_fault f (subst (λ x. Failed x s s' before after) (sym is.1) h)
  where
    by_fault : (f : Fault) → Failed f s s' before after → By show (Err f) value s s' before after
    by_fault Memory h = record { found = h.stays; spends = h.spends; honest = h.honest }
    by_fault Storage h = record { found = λ honest. tt; spends = h.spends; honest = h.honest }

pub returns_so : {A : Type 0} (IsSo : A → Type 0) (r : Result A Fault) (e : Fault) (s s' : Kept) (before after : Type 0) → IsErr r × IsErrAnd r (λ f. f ≡ e) → Failed e s s' before after → So IsSo r s s' before after
returns_so IsSo (Ok x) e s s' before after is h = absurd is.1
returns_so IsSo (Err f) e s s' before after is h = by_fault f (subst (λ x. Failed x s s' before after) (sym is.1) h)
  where
    by_fault : (f : Fault) → Failed f s s' before after → So IsSo (Err f) s s' before after
    by_fault Memory h = record { found = h.stays; spends = h.spends; honest = h.honest }
    by_fault Storage h = record { found = λ honest. tt; spends = h.spends; honest = h.honest }

pub tells : (r : Result (Option (String Global)) Fault) (IsSo : Option Text → Type 0) (e : Fault) (s s' : Kept) (before after : Type 0) → IsErr r × IsErrAnd r (λ f. f ≡ e) → Failed e s s' before after
    → record { found : after → TellsText r IsSo s s'; spends : Spends r s s'; honest : after → before }
tells (Ok x) IsSo e s s' before after is h = absurd is.1
tells (Err f) IsSo e s s' before after is h = by_fault f (subst (λ x. Failed x s s' before after) (sym is.1) h)
  where
    by_fault : (f : Fault) → Failed f s s' before after → record { found : after → TellsText (Err f) IsSo s s'; spends : Spends {A = Option (String Global)} (Err f) s s'; honest : after → before }
    by_fault Memory h = record { found = h.stays; spends = h.spends; honest = h.honest }
    by_fault Storage h = record { found = λ honest. tt; spends = h.spends; honest = h.honest }

-- ---- a read of which what it found is returned

pub so_by : {A B : Type 0} (show : A → B) (IsSo : A → Type 0) (r : Result A Fault) (value : B) (s mid s' : Kept) → ReadsBy show r value mid s' → mid ≡ s → ((v : A) → show v ≡ value → IsSo v) → ReadsSo IsSo r s s'
so_by show IsSo (Ok v) value s mid s' read same is = (is v read.0, read.1 ∙ same)
so_by show IsSo (Err Memory) value s mid s' read same is = read ∙ same
so_by show IsSo (Err Storage) value s mid s' read same is = tt

pub spends_later : {A : Type 0} (r : Result A Fault) (s mid s' : Kept) → s.spent ≡ false → Spends r mid s' → Spends r s s'
spends_later (Ok v) s mid s' unspent spends = (unspent, spends.1)
spends_later (Err Memory) s mid s' unspent spends = (unspent, spends.1)
spends_later (Err Storage) s mid s' unspent spends = spends

-- ---- a read of which what it found is put behind other items

pub not_pushed : {A B : Type 0} (shown : A → List B) (found : Result A Fault) (e : Fault) (r : Result (Unit {0}) Fault) (old new : List B) → found ≡ Err e → IsErr r × IsErrAnd r (λ f. f ≡ e) → IsAdded found r shown old new
not_pushed shown (Ok x) e r old new was is = absurd (let bad : Ok x ≡ Err e = was in cc)
not_pushed shown (Err f) e (Ok v) old new was is = absurd is.1
not_pushed shown (Err f) e (Err fault) old new was is = let same : f ≡ e = cc in is.1 ∙ sym same

pub record Added {A B C : Type 0} (show : A → C) (shown : A → List B) (value : C) (old new : List B) (s s' : Kept) (before after : Type 0) : Type 0 where
  pub item : A
  pub added : new ≡ old ++ shown item
  pub told : after → (show item ≡ value) × (s' ≡ s)
  pub unspent : s'.spent ≡ false
  pub honest : after → before

pub added_by : {A B C : Type 0} (show : A → C) (shown : A → List B) (r : Result A Fault) (v : Unit {0}) (value : C) (old new : List B) (s s' : Kept) (before after : Type 0) → By show r value s s' before after → IsAdded r (Ok v) shown old new → Added show shown value old new s s' before after
added_by show shown (Ok x) v value old new s s' before after read added = record { item = x; added = added; told = read.found; unspent = read.spends.1; honest = read.honest }
added_by show shown (Err f) v value old new s s' before after read added = absurd added

pub not_added_by : {A B C : Type 0} (show : A → C) (shown : A → List B) (r : Result A Fault) (e : Fault) (value : C) (old new : List B) (s s' : Kept) (before after : Type 0) → By show r value s s' before after → IsAdded r (Err e) shown old new → Failed e s s' before after
not_added_by show shown (Ok x) e value old new s s' before after read added =
    ran_out e s s' before after added (λ honest. (read.found honest).1) read.spends.0 read.spends.1 read.honest
not_added_by show shown (Err f) e value old new s s' before after read added =
    subst (λ x. Failed x s s' before after) (sym added) (by_failed f value s s' before after read)
