use Rattle.std.proofs.Common.{ap}
use Rattle.registry_maps.specs.Maps.{repo_of, sessions_in}
use Rattle.registry_maps.proofs.repository.Repository.drop_sessions.Goals as goal

pub returns : goal.returns
returns c = ap (λ es. record (repo_of c.args.self.now) { sessions = sessions_in es }) c.clear.ensures.empty
