use Rattle.registry_http.proofs.PrivacyLemmas.{runs_join}
use Rattle.registry_http.proofs.privacy.runs_join.Goals as goal

pub returns : goal.returns
returns c = runs_join
