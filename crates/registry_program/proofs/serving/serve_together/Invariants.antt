use Rattle.std.proofs.Common.{◌≡◌, []}
use Rattle.registry_loop.specs.Together.{ServesAll}
use Rattle.registry_opening.specs.Openings.{between}
use Rattle.registry_opening.proofs.SpanLemmas.{SoFar}
use Rattle.registry_program.proofs.ServingLemmas.{HasGreeted}
use Rattle.registry_program.proofs.serving.serve_together.Given as goal

-- so far each opening ended with a storage that failed
abbrev pub invariant-loop : goal.invariant-loop
invariant-loop g l = record {
  spans : SoFar (between g.K.Keeper.is_honest g.K.Keeper.kept g.O.Opener.opens (g.O.Opener.had l.fn.opener) (g.O.Opener.had l.opener))
      l.task.path.now (ServesAll l.task.serving.settings l.task.serving.limits.at_once l.task.serving.limits.buffer);
  same : l.server.out.ghost_name ≡ l.initial.server.out.ghost_name;
  gathering : l.server.gathering.ghost_name ≡ l.initial.server.gathering.ghost_name;
  binding : l.server.binding.ghost_name ≡ l.initial.server.binding.ghost_name;
  serving : l.server.task.now.serving ≡ l.task.serving;
  buffer : g.G.Gathering.buffer l.server.gathering.now ≡ l.server.task.now.serving.limits.buffer;
  none : g.G.Gathering.callers l.server.gathering.now ≡ [];
  greeted : HasGreeted l.server.greeted (g.W.Write.contents l.fn.out) (g.W.Write.contents l.server.out.now);
}
