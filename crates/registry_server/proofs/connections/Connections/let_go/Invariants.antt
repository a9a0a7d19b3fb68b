use Rattle.std.proofs.Common.{◌≡◌, ℕ, List, ◌++◌, length}
use Rattle.std.specs.Prelude.{All}
use Rattle.registry_server.specs.Events.{IsUnstaged, Leads}
use Rattle.registry_server.specs.Lives.{LivesOn}
use Rattle.registry_server.specs.Showing.{connected}
use Rattle.registry_server.proofs.connections.Connections.let_go.Given as goal

abbrev pub invariant-loop-number : goal.invariant-loop-number
invariant-loop-number g l = record {
  same : connected l.self ≡ connected l.fn.self;
  lives : LivesOn l.fn.self l.self;
  leads : g.K.Keeper.is_honest l.service
      → g.K.Keeper.is_honest l.fn.service × Leads (connected l.fn.self) (g.K.Keeper.kept l.fn.service) (connected l.self) (g.K.Keeper.kept l.service);
  gone : (done : List ℕ) × (l.fn.self.gone.items ≡ l.self.gone.items ++ done)
      × (g.K.Keeper.is_honest l.service → All (IsUnstaged (connected l.fn.self).slots (g.K.Keeper.kept l.service)) done);
}

abbrev pub decreases-loop-number : goal.decreases-loop-number
decreases-loop-number g l = length l.self.gone.items
