use Rattle.std.proofs.Common.{inl, refl, sym}
use Rattle.registry_server.proofs.CallLemmas.{carries_none}
use Rattle.registry_server.proofs.connections.Connections.close_resting.Goals as goal

pub returns-in-None : goal.returns-in-None
returns-in-None c = record {
  closes = (inl (sym c.in-None.ensures.shown), refl);
  lives = record { time = refl; is = refl; others = λ m ne. refl };
  leads = carries_none _;
}
