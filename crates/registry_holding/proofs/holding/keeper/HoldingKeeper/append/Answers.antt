use Rattle.registry_holding.specs.Shown.{held_in}
use Rattle.registry_holding.proofs.HoldingLemmas.{written_held, spends_held}
use Rattle.registry_holding.proofs.BlobsStay.{repo_updated, shared_written}
use Rattle.registry_holding.proofs.holding.keeper.HoldingKeeper.append.Goals as goal

pub append-requires : goal.append-requires
append-requires g c = c.requires

pub returns : goal.returns
returns g c =
    let h = held_in c.args.self.now.stages.map c.args.self.now.pins.map in
    let k = g.K.Keeper.kept c.args.self.now.keeper in
    let l = g.K.Keeper.kept c.append.new.self in
    record {
      made = λ honest. written_held h c.append.result _ k l (c.append.ensures.made honest);
      spends = spends_held h c.append.result k l c.append.ensures.spends;
      honest = c.append.ensures.honest;
    }

pub invariant_of-self : goal.invariant_of-self
invariant_of-self g c =
    let k = g.K.Keeper.kept c.args.self.now.keeper in
    record {
      shares = shared_written c.args.self.now.shared.map (g.K.Keeper.is_honest c.args.self.now.keeper) (g.K.Keeper.is_honest c.append.new.self) k (g.K.Keeper.kept c.append.new.self) c.append.ensures.honest c.args.self.now.shares
          c.append.result _ (repo_updated k.world c.args.repo.now _ (λ r digest bytes at. at)) c.append.ensures.made c.append.ensures.spends;
    }
