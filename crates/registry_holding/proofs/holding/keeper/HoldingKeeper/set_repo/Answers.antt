use Rattle.registry_holding.specs.Shown.{held_in}
use Rattle.registry_holding.proofs.HoldingLemmas.{written_held, spends_held}
use Rattle.registry_holding.proofs.BlobsStay.{quota_set, shared_written}
use Rattle.registry_holding.proofs.holding.keeper.HoldingKeeper.set_repo.Goals as goal

pub returns : goal.returns
returns g c =
    let h = held_in c.args.self.now.stages.map c.args.self.now.pins.map in
    let k = g.K.Keeper.kept c.args.self.now.keeper in
    let l = g.K.Keeper.kept c.set_repo.new.self in
    record {
      made = λ honest. written_held h c.set_repo.result _ k l (c.set_repo.ensures.made honest);
      spends = spends_held h c.set_repo.result k l c.set_repo.ensures.spends;
      honest = c.set_repo.ensures.honest;
    }

pub invariant_of-self : goal.invariant_of-self
invariant_of-self g c =
    let k = g.K.Keeper.kept c.args.self.now.keeper in
    record {
      shares = shared_written c.args.self.now.shared.map (g.K.Keeper.is_honest c.args.self.now.keeper) (g.K.Keeper.is_honest c.set_repo.new.self) k (g.K.Keeper.kept c.set_repo.new.self) c.set_repo.ensures.honest c.args.self.now.shares
          c.set_repo.result _ (quota_set k.world c.args.name.now _) c.set_repo.ensures.made c.set_repo.ensures.spends;
    }
