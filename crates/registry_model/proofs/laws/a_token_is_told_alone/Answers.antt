use Rattle.registry_model.proofs.RunLaws.{run_says, token_is_team}
use Rattle.registry_model.proofs.laws.a_token_is_told_alone.Goals as goal

pub returns-clause-team : goal.returns-clause-team
returns-clause-team c = token_is_team

pub returns-clause-alone : goal.returns-clause-alone
returns-clause-alone c = λ s steps outcomes s' r token h.
    (run_says s steps outcomes s' r).private _ (token_is_team s.world token) h
