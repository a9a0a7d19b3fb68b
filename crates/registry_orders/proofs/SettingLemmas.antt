-- One command more of those that set a registry up.
use Rattle.std.proofs.Common.{◌≡◌, ◌∙◌, Bool, true, false, List, ◌∷◌, Option, Some, None, Result, Ok, Err, refl, ap, sym, subst}
use Rattle.std.specs.Prelude.{if◌then◌else◌}
use Rattle.registry_model.specs.declared.admin.AdminCommand.{AdminCommand}
use Rattle.registry_model.specs.declared.admin.AdminFault.{AdminFault}
use Rattle.registry_model.specs.declared.admin.AdminFault.TheVariants as fault
use Rattle.registry_model.specs.World.{World, has_repo}
use Rattle.registry_model.specs.Command.{set_repo, grant, refusal_of}
use Rattle.registry_model.specs.Keeping.{State}
use Rattle.registry_model.specs.Doing.{Course, answered, missed, lost, keeps, course_of_result, outcome_of, CarriesOut}
use Rattle.registry_orders.specs.declared.failure.Failure.{Failure}
use Rattle.registry_orders.specs.declared.failure.Failure.TheVariants.{NoRepo, RepoThere}
use Rattle.registry_orders.specs.declared.options.RepoOption.{RepoOption}
use Rattle.registry_orders.specs.declared.options.GrantOption.{GrantOption}
use Rattle.registry_orders.specs.Failures.{failure_of}
use Rattle.registry_orders.specs.Setting.{with_repos, with_levels, SetsUp}

abbrev if_there : Bool → Option AdminFault
if_there there = if there then Some fault.RepoThere else None

abbrev unless_there : Bool → Option AdminFault
unless_there there = if there then None else Some fault.NoRepo

abbrev chosen : World → World → Option AdminFault → World
chosen w next o = elim o as (λ _. World) [ None ↦ next | Some e ↦ w ]

-- what carrying a command out says, by its refusal and the world that it makes where it has none
abbrev DoneAs : Course → State → Option AdminFault → World → Result (Unit {0}) AdminFault → State → Type 0
DoneAs answered s refusal next r s' = (s.spent ≡ false) × (r ≡ outcome_of refusal) × (s' ≡ keeps (chosen s.world next refusal))
DoneAs missed s refusal next r s' = (s.spent ≡ false) × (s' ≡ s)
DoneAs lost s refusal next r s' = s'.spent ≡ true

abbrev pub MakesRepo : State → RepoOption → Result (Unit {0}) AdminFault → State → Type 0
MakesRepo s o r s' = DoneAs (course_of_result r) s (if_there (has_repo s.world o.name)) (set_repo s.world o.name o.quota.bytes) r s'

abbrev pub GivesLevel : State → GrantOption → Result (Unit {0}) AdminFault → State → Type 0
GivesLevel s o r s' = DoneAs (course_of_result r) s (unless_there (has_repo s.world o.name)) (grant s.world o.token o.name o.level) r s'

-- ---- a repository

made : (there : Bool) (w next : World) (others : List RepoOption) (v : Unit {0}) → Ok v ≡ outcome_of (if_there there)
    → (if there then Err RepoThere else with_repos next others) ≡ with_repos (chosen w next (if_there there)) others
made true w next others v e = absurd (let x = e in cc)
made false w next others v e = refl

pub repo_made : (s s' : State) (o : RepoOption) (others : List RepoOption) (v : Unit {0}) → MakesRepo s o (Ok v) s'
    → with_repos s.world (o ∷ others) ≡ with_repos s'.world others
repo_made s s' o others v does =
    made (has_repo s.world o.name) s.world (set_repo s.world o.name o.quota.bytes) others v does.1
    ∙ ap (λ (x : State). with_repos x.world others) (sym does.2)

refused : (there : Bool) (f : AdminFault) (next : Result World Failure) → Err f ≡ outcome_of (if_there there)
    → (if there then Err RepoThere else next) ≡ Err (failure_of f)
refused true f next e = let x = e in let same : f ≡ fault.RepoThere = cc in rw same refl
refused false f next e = absurd (let x = e in cc)

repo_refused : (s s' : State) (a : AdminCommand) (o : RepoOption) (others : List RepoOption) (f : AdminFault) → CarriesOut s a (Err f) s' → refusal_of s.world a ≡ if_there (has_repo s.world o.name)
    → SetsUp (with_repos s.world (o ∷ others)) (Err (failure_of f)) s'
repo_refused s s' a o others fault.NoRepo does e = refused (has_repo s.world o.name) fault.NoRepo _ (does.1 ∙ ap outcome_of e)
repo_refused s s' a o others fault.NoGrant does e = refused (has_repo s.world o.name) fault.NoGrant _ (does.1 ∙ ap outcome_of e)
repo_refused s s' a o others fault.RepoThere does e = refused (has_repo s.world o.name) fault.RepoThere _ (does.1 ∙ ap outcome_of e)
repo_refused s s' a o others fault.Memory does e = tt
repo_refused s s' a o others fault.Storage does e = does

pub repo_told : (s s' : State) (a : AdminCommand) (all : Result World Failure) (o : RepoOption) (others : List RepoOption) (f : AdminFault) (told : Failure) → CarriesOut s a (Err f) s'
    → refusal_of s.world a ≡ if_there (has_repo s.world o.name) → all ≡ with_repos s.world (o ∷ others) → told ≡ failure_of f → SetsUp all (Err told) s'
repo_told s s' a all o others f told does refusal e is =
    subst (λ x. SetsUp x (Err told) s') (sym e) (subst (λ x. SetsUp (with_repos s.world (o ∷ others)) (Err x) s') (sym is) (repo_refused s s' a o others f does refusal))

-- ---- a level

given : (there : Bool) (w next : World) (others : List GrantOption) (v : Unit {0}) → Ok v ≡ outcome_of (unless_there there)
    → (if there then with_levels next others else Err NoRepo) ≡ with_levels (chosen w next (unless_there there)) others
given true w next others v e = refl
given false w next others v e = absurd (let x = e in cc)

pub level_given : (s s' : State) (o : GrantOption) (others : List GrantOption) (v : Unit {0}) → GivesLevel s o (Ok v) s'
    → with_levels s.world (o ∷ others) ≡ with_levels s'.world others
level_given s s' o others v does =
    given (has_repo s.world o.name) s.world (grant s.world o.token o.name o.level) others v does.1
    ∙ ap (λ (x : State). with_levels x.world others) (sym does.2)

not_given : (there : Bool) (f : AdminFault) (next : Result World Failure) → Err f ≡ outcome_of (unless_there there)
    → (if there then next else Err NoRepo) ≡ Err (failure_of f)
not_given true f next e = absurd (let x = e in cc)
not_given false f next e = let x = e in let same : f ≡ fault.NoRepo = cc in rw same refl

level_refused : (s s' : State) (a : AdminCommand) (o : GrantOption) (others : List GrantOption) (f : AdminFault) → CarriesOut s a (Err f) s' → refusal_of s.world a ≡ unless_there (has_repo s.world o.name)
    → SetsUp (with_levels s.world (o ∷ others)) (Err (failure_of f)) s'
level_refused s s' a o others fault.NoRepo does e = not_given (has_repo s.world o.name) fault.NoRepo _ (does.1 ∙ ap outcome_of e)
level_refused s s' a o others fault.NoGrant does e = not_given (has_repo s.world o.name) fault.NoGrant _ (does.1 ∙ ap outcome_of e)
level_refused s s' a o others fault.RepoThere does e = not_given (has_repo s.world o.name) fault.RepoThere _ (does.1 ∙ ap outcome_of e)
level_refused s s' a o others fault.Memory does e = tt
level_refused s s' a o others fault.Storage does e = does

pub level_told : (s s' : State) (a : AdminCommand) (all : Result World Failure) (o : GrantOption) (others : List GrantOption) (f : AdminFault) (told : Failure) → CarriesOut s a (Err f) s'
    → refusal_of s.world a ≡ unless_there (has_repo s.world o.name) → all ≡ with_levels s.world (o ∷ others) → told ≡ failure_of f → SetsUp all (Err told) s'
level_told s s' a all o others f told does refusal e is =
    subst (λ x. SetsUp x (Err told) s') (sym e) (subst (λ x. SetsUp (with_levels s.world (o ∷ others)) (Err x) s') (sym is) (level_refused s s' a o others f does refusal))
