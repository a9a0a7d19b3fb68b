-- One step more of a run.
use Rattle.std.proofs.Common.{◌≡◌, ℕ, ◌+◌, ◌<◌, List, [], ◌∷◌, ◌++◌, map, length, take, get_or, sym, subst}
use Rattle.std.proofs.lemmas.List.{take_more, map-append}
use Rattle.registry_model.specs.Keeping.{State}
use Rattle.registry_model.specs.Runs as runs
use Rattle.registry_model.specs.Runs.{OneByOne}
use Rattle.registry_model.specs.Team as runs_step
use Rattle.registry_model.proofs.RunLaws.{one_more}
use Rattle.registry_service.specs.declared.run.Step.{Step}
use Rattle.registry_service.specs.Steps.{shown_step}

pub one_step_more : (One : State → runs_step.Step → runs.Outcome → State → Type 0) (s : State) (steps : List Step) (i : ℕ) (d : Step)
    (outcomes outcomes' : List runs.Outcome) (mid : State) (o : runs.Outcome) (s' : State) → i < length steps
    → OneByOne One s (map shown_step (take i steps)) outcomes mid → One mid (shown_step (get_or steps i d)) o s' → outcomes' ≡ outcomes ++ o ∷ []
    → OneByOne One s (map shown_step (take (i + 1) steps)) outcomes' s'
one_step_more One s steps i d outcomes outcomes' mid o s' lt r does e =
    rw (e, take_more steps i d lt) (subst (λ x. OneByOne One s x (outcomes ++ o ∷ []) s') (sym (map-append shown_step (take i steps) (get_or steps i d ∷ [])))
    (one_more One s (map shown_step (take i steps)) outcomes mid (shown_step (get_or steps i d)) o s' r does))
