use Rattle.registry_server.proofs.RoomLemmas.{all_within}
use Rattle.registry_server.proofs.laws.requests_keep_within_bounds.Goals as goal

pub returns : goal.returns
returns c = all_within
