use Rattle.registry_holding.specs.Shown.{held_in}
use Rattle.registry_holding.proofs.HoldingLemmas.{read_held, spends_held}
use Rattle.registry_holding.proofs.holding.keeper.HoldingKeeper.repo_names.Goals as goal

pub returns : goal.returns
returns g c =
    let h = held_in c.args.self.now.stages.map c.args.self.now.pins.map in
    let k = g.K.Keeper.kept c.args.self.now.keeper in
    let l = g.K.Keeper.kept c.repo_names.new.self in
    record {
      found = λ honest. read_held h _ c.repo_names.result _ k l (c.repo_names.ensures.found honest);
      spends = spends_held h c.repo_names.result k l c.repo_names.ensures.spends;
      honest = c.repo_names.ensures.honest;
    }
