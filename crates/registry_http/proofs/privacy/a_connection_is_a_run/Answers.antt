use Rattle.registry_http.proofs.PrivacyLemmas.{served_runs}
use Rattle.registry_http.proofs.privacy.a_connection_is_a_run.Goals as goal

pub returns : goal.returns
returns c = served_runs
