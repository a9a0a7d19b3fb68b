use Rattle.registry_holding.specs.Shown.{held_in}
use Rattle.registry_holding.proofs.HoldingLemmas.{read_held, spends_held}
use Rattle.registry_holding.proofs.holding.keeper.HoldingKeeper.has_repo.Goals as goal

pub returns : goal.returns
returns g c =
    let h = held_in c.args.self.now.stages.map c.args.self.now.pins.map in
    let k = g.K.Keeper.kept c.args.self.now.keeper in
    let l = g.K.Keeper.kept c.has_repo.new.self in
    record {
      found = λ honest. read_held h _ c.has_repo.result _ k l (c.has_repo.ensures.found honest);
      spends = spends_held h c.has_repo.result k l c.has_repo.ensures.spends;
      honest = c.has_repo.ensures.honest;
    }
