-- Operations whose body is staged, as those from what was kept but for the stage.
use Rattle.std.proofs.Common.{◌≡◌, ℕ, None, Some, Ok, Err, refl, ap}
use Rattle.std.specs.Prelude.{Option, Result, option_map}
use Rattle.oci_types.specs.Text.{Text}
use Rattle.oci_types.specs.declared.fault.Fault.{Fault}
use Rattle.oci_types.specs.declared.fault.Fault.TheVariants.{Memory, Storage}
use Rattle.registry_model.specs.declared.reply.Reply.{Reply}
use Rattle.registry_model.specs.World.{Repo, World}
use Rattle.registry_model.specs.Decision.{Decision}
use Rattle.registry_model.specs.Keeping.{Kept, Spends}
use Rattle.registry_model.specs.Lookups.{bytes_or_none}
use Rattle.registry_holding.specs.Holding.{WritesStage}
use Rattle.registry_holding.proofs.ShownLemmas.{put_nothing}
use Rattle.operation_parts.specs.Operating.{Operates, Answers, Carries}
use Rattle.operation_parts.proofs.ReadLemmas.{Told}
use Rattle.operation_parts.proofs.FailedCalls.{Clauses}
use Rattle.operation_parts.proofs.EarlyLemmas.{Written}
use Rattle.staged_operations.specs.Staging.{from_stage}

-- where nothing changed, the stage did not
pub same_from : (key : ℕ) (s s' : Kept) → s' ≡ s → s' ≡ from_stage key s s'
same_from key s s' e = λ i. record {
  world = (e i).world;
  spent = (e i).spent;
  held = record { stages = put_nothing s.held.stages key s'.held.stages (ap (λ (x : Kept). x.held.stages) e) i; pins = (e i).held.pins };
}

pub told_from : {A B : Type 0} (show : A → B) (r : Result A Fault) (value : B) (key : ℕ) (s s' : Kept) (early late : Type 0) → Told show r value s s' early late → Told show r value (from_stage key s s') s' early late
told_from show (Ok v) value key s s' early late h = record { found = λ honest. let x = h.found honest in (x.0, same_from key s s' x.1); spends = h.spends; honest = h.honest }
told_from show (Err Memory) value key s s' early late h = record { found = λ honest. same_from key s s' (h.found honest); spends = h.spends; honest = h.honest }
told_from show (Err Storage) value key s s' early late h = record { found = λ honest. tt; spends = h.spends; honest = h.honest }

-- what was said of a change from there, of one from what was kept
spent_from : {A : Type 0} (r : Result A Fault) (key : ℕ) (s t s' : Kept) → Spends r (from_stage key s t) s' → Spends r s s'
spent_from (Ok v) key s t s' h = h
spent_from (Err Memory) key s t s' h = h
spent_from (Err Storage) key s t s' h = h

spends_from : {A : Type 0} (r : Result A Fault) (key : ℕ) (s t s' : Kept) → Spends r s s' → Spends r (from_stage key s t) s'
spends_from (Ok v) key s t s' h = h
spends_from (Err Memory) key s t s' h = h
spends_from (Err Storage) key s t s' h = h

-- the clauses of an operation whose body is staged
abbrev pub StagedClauses : Result Reply Fault → Text → (Repo → Decision) → ℕ → Kept → Kept → Type 0 → Type 0 → Type 0
StagedClauses r name act key s s' before after =
    record { comes : after → Operates r name act (from_stage key s s') s'; answers : Answers r; carries : Carries r; spends : Spends r s s'; honest : after → before }

pub clauses_from : (r : Result Reply Fault) (name : Text) (act : Repo → Decision) (key : ℕ) (s s' : Kept) (before after : Type 0) → Clauses r name act (from_stage key s s') s' before after → StagedClauses r name act key s s' before after
clauses_from r name act key s s' before after h = record { comes = h.comes; answers = h.answers; carries = h.carries; spends = spent_from r key s s' s' h.spends; honest = h.honest }

-- and those of a write
pub written_from : (w : World) (r : Result (Unit {0}) Fault) (key : ℕ) (s s' : Kept) (early late : Type 0)
    → record { made : late → WritesStage r key w s s'; spends : Spends r s s'; honest : late → early } → Written w r (from_stage key s s') s' early late
written_from w (Ok v) key s s' early late h = record { made = h.made; spends = h.spends; honest = h.honest }
written_from w (Err Memory) key s s' early late h = record { made = h.made; spends = h.spends; honest = h.honest }
written_from w (Err Storage) key s s' early late h = record { made = h.made; spends = h.spends; honest = h.honest }

-- ---- what is staged

pub stage_is : {A : Type 0} (show : Text → A) (o : Option Text) (v : A) → Some v ≡ option_map show o → (o ≡ Some (bytes_or_none o)) × (v ≡ show (bytes_or_none o))
stage_is show None v e = absurd (cc)
stage_is {A} show (Some t) v e = (refl, by (Some v) (Some (show t)) e)
  where
    or : Option A → A
    or None = v
    or (Some x) = x

    by : (a b : Option A) → a ≡ b → or a ≡ or b
    by a b e = ap or e
