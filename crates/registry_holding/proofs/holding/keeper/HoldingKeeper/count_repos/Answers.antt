use Rattle.registry_holding.specs.Shown.{held_in}
use Rattle.registry_holding.proofs.HoldingLemmas.{read_held, spends_held}
use Rattle.registry_holding.proofs.holding.keeper.HoldingKeeper.count_repos.Goals as goal

pub returns : goal.returns
returns g c =
    let h = held_in c.args.self.now.stages.map c.args.self.now.pins.map in
    let k = g.K.Keeper.kept c.args.self.now.keeper in
    let l = g.K.Keeper.kept c.count_repos.new.self in
    record {
      found = λ honest. read_held h _ c.count_repos.result _ k l (c.count_repos.ensures.found honest);
      spends = spends_held h c.count_repos.result k l c.count_repos.ensures.spends;
      honest = c.count_repos.ensures.honest;
    }
