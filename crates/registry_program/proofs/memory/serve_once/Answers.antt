use Rattle.std.proofs.Common.{◌≡◌, Ok, subst, rules}
use Rattle.registry_orders.specs.Outputs.{output}
use Rattle.registry_program.specs.Memory.{ServesOver}
use Rattle.registry_program.proofs.MemoryLemmas.{over_done, spent_done, failed_done}
use Rattle.registry_program.proofs.memory.serve_once.Goals as goal

pub returns-in-Over : goal.returns-in-Over
returns-in-Over g c =
    let done = c.work-told in
    let serving = c.args.task.now.serving in
    let kept = g.K.Keeper.kept in
    let said = g.W.Write.contents in
    let same : done.new.self.out.now ≡ c.out-1.given.0 = search rules in
    record {
      last = done.result.keeper;
      honest = done.ensures.honest;
      says = λ honest. subst (λ out. ServesOver serving.settings serving.limits (Ok tt) (output (said c.args.out.now) (said out)) (kept c.args.keeper) (kept done.result.keeper)) same
          (over_done serving.settings serving.limits (kept c.args.keeper) (kept done.result.keeper) (said c.args.out.now) (said done.new.self.out.now) tt done.result.told done.new.self.greeted
          c.in-Over.is (done.ensures.does honest c.requires.buffer c.requires.none) done.ensures.says.6);
    }

pub returns-in-Spent : goal.returns-in-Spent
returns-in-Spent g c =
    let done = c.work-told in
    let serving = c.args.task.now.serving in
    let said = g.W.Write.contents c.args.out.now in
    record {
      last = done.result.keeper;
      honest = done.ensures.honest;
      says = λ honest. spent_done serving.settings serving.limits (g.K.Keeper.kept c.args.keeper) (g.K.Keeper.kept done.result.keeper) said said done.result.told c.in-Spent.is
          (done.ensures.does honest c.requires.buffer c.requires.none);
    }

pub returns-in-Failed : goal.returns-in-Failed
returns-in-Failed g c =
    let done = c.work-told in
    let serving = c.args.task.now.serving in
    let said = g.W.Write.contents c.args.out.now in
    record {
      last = done.result.keeper;
      honest = done.ensures.honest;
      says = λ honest. failed_done serving.settings serving.limits (g.K.Keeper.kept c.args.keeper) (g.K.Keeper.kept done.result.keeper) said said c.in-Failed.failure done.result.told c.in-Failed.is
          (done.ensures.does honest c.requires.buffer c.requires.none);
    }
