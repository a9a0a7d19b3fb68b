use Rattle.registry_holding.specs.Shown.{held_in}
use Rattle.registry_holding.proofs.HoldingLemmas.{written_held, spends_held}
use Rattle.registry_holding.proofs.holding.keeper.HoldingKeeper.drop_repo.Goals as goal

pub drop_repo-requires : goal.drop_repo-requires
drop_repo-requires g c = c.requires

pub returns : goal.returns
returns g c =
    let h = held_in c.args.self.now.stages.map c.args.self.now.pins.map in
    let k = g.K.Keeper.kept c.args.self.now.keeper in
    let l = g.K.Keeper.kept c.drop_repo.new.self in
    record {
      made = λ honest. written_held h c.drop_repo.result _ k l (c.drop_repo.ensures.made honest);
      spends = spends_held h c.drop_repo.result k l c.drop_repo.ensures.spends;
      honest = c.drop_repo.ensures.honest;
    }
