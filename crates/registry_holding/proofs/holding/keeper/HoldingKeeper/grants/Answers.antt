use Rattle.registry_holding.specs.Shown.{held_in}
use Rattle.registry_holding.proofs.HoldingLemmas.{read_so_held, spends_held}
use Rattle.registry_holding.proofs.holding.keeper.HoldingKeeper.grants.Goals as goal

pub returns : goal.returns
returns g c =
    let h = held_in c.args.self.now.stages.map c.args.self.now.pins.map in
    let k = g.K.Keeper.kept c.args.self.now.keeper in
    let l = g.K.Keeper.kept c.grants.new.self in
    record {
      found = λ honest. read_so_held h _ c.grants.result k l (c.grants.ensures.found honest);
      spends = spends_held h c.grants.result k l c.grants.ensures.spends;
      honest = c.grants.ensures.honest;
    }
