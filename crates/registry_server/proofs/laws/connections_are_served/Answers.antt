use Rattle.registry_server.proofs.LedgerLemmas.{all_are_served}
use Rattle.registry_server.proofs.laws.connections_are_served.Goals as goal

pub returns : goal.returns
returns c = λ events settings bounds k u k' x. all_are_served settings events bounds k u k' x
