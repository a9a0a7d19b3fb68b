use Rattle.registry_holding.specs.Shown.{held_in}
use Rattle.registry_holding.proofs.HoldingLemmas.{read_so_held, spends_held}
use Rattle.registry_holding.proofs.holding.keeper.HoldingKeeper.levels.Goals as goal

pub returns : goal.returns
returns g c =
    let h = held_in c.args.self.now.stages.map c.args.self.now.pins.map in
    let k = g.K.Keeper.kept c.args.self.now.keeper in
    let l = g.K.Keeper.kept c.levels.new.self in
    record {
      found = λ honest. read_so_held h _ c.levels.result k l (c.levels.ensures.found honest);
      spends = spends_held h c.levels.result k l c.levels.ensures.spends;
      honest = c.levels.ensures.honest;
    }
