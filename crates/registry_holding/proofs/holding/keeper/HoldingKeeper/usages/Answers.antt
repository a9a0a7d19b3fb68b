use Rattle.registry_holding.specs.Shown.{held_in}
use Rattle.registry_holding.proofs.HoldingLemmas.{read_held, spends_held}
use Rattle.registry_holding.proofs.holding.keeper.HoldingKeeper.usages.Goals as goal

pub returns : goal.returns
returns g c =
    let h = held_in c.args.self.now.stages.map c.args.self.now.pins.map in
    let k = g.K.Keeper.kept c.args.self.now.keeper in
    let l = g.K.Keeper.kept c.usages.new.self in
    record {
      found = λ honest. read_held h _ c.usages.result _ k l (c.usages.ensures.found honest);
      spends = spends_held h c.usages.result k l c.usages.ensures.spends;
      honest = c.usages.ensures.honest;
    }
