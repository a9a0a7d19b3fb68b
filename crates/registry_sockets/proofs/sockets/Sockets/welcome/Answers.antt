use Rattle.registry_server.proofs.CallLemmas.{carries_then}
use Rattle.registry_sockets.proofs.sockets.Sockets.welcome.Goals as goal

pub returns : goal.returns
returns c = carries_then _ _ _ c.open.ensures.leads c.close.ensures.leads
