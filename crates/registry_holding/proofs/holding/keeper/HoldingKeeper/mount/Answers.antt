use Rattle.registry_holding.specs.Shown.{held_in}
use Rattle.registry_holding.proofs.HoldingLemmas.{written_held, spends_held}
use Rattle.registry_holding.proofs.BlobsStay.{repo_updated, blob_mounted, shared_written}
use Rattle.registry_holding.proofs.holding.keeper.HoldingKeeper.mount.Goals as goal

pub mount-requires : goal.mount-requires
mount-requires g c = c.requires

pub returns : goal.returns
returns g c =
    let h = held_in c.args.self.now.stages.map c.args.self.now.pins.map in
    let k = g.K.Keeper.kept c.args.self.now.keeper in
    let l = g.K.Keeper.kept c.mount.new.self in
    record {
      made = λ honest. written_held h c.mount.result _ k l (c.mount.ensures.made honest);
      spends = spends_held h c.mount.result k l c.mount.ensures.spends;
      honest = c.mount.ensures.honest;
    }

pub invariant_of-self : goal.invariant_of-self
invariant_of-self g c =
    let k = g.K.Keeper.kept c.args.self.now.keeper in
    record {
      shares = shared_written c.args.self.now.shared.map (g.K.Keeper.is_honest c.args.self.now.keeper) (g.K.Keeper.is_honest c.mount.new.self) k (g.K.Keeper.kept c.mount.new.self) c.mount.ensures.honest c.args.self.now.shares
          c.mount.result _ (repo_updated k.world c.args.to.now _ (λ r. blob_mounted r c.args.digest.now _)) c.mount.ensures.made c.mount.ensures.spends;
    }
