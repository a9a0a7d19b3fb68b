use Rattle.registry_http.proofs.PrivacyLemmas.{private_run}
use Rattle.registry_http.proofs.privacy.a_connection_is_private.Goals as goal

pub returns : goal.returns
returns c = λ settings s items texts s' r. private_run settings s items texts s' r
