use Rattle.registry_orders.specs.Outputs.{output}
use Rattle.registry_program.proofs.MemoryLemmas.{nobody_came}
use Rattle.registry_program.proofs.memory.serve_kept.Goals as goal

pub returns-in-Err : goal.returns-in-Err
returns-in-Err g c = record {
  last = c.args.keeper;
  honest = λ honest. honest;
  says = λ honest.
      let o = output (g.W.Write.contents c.args.out.now) (g.W.Write.contents c.args.out.now) in
      nobody_came c.args.serving.settings c.args.serving.limits c.in-Err.failure (g.K.Keeper.kept c.args.keeper) o c.in-Err.ensures.sockets;
}
