use Rattle.registry_holding.specs.Shown.{held_in}
use Rattle.registry_holding.proofs.HoldingLemmas.{written_held, spends_held}
use Rattle.registry_holding.proofs.BlobsStay.{repo_updated, blob_added, shared_written}
use Rattle.registry_holding.proofs.holding.keeper.HoldingKeeper.put_blob.Goals as goal

pub put_blob-requires : goal.put_blob-requires
put_blob-requires g c = c.requires

pub returns : goal.returns
returns g c =
    let h = held_in c.args.self.now.stages.map c.args.self.now.pins.map in
    let k = g.K.Keeper.kept c.args.self.now.keeper in
    let l = g.K.Keeper.kept c.put_blob.new.self in
    record {
      made = λ honest. written_held h c.put_blob.result _ k l (c.put_blob.ensures.made honest);
      spends = spends_held h c.put_blob.result k l c.put_blob.ensures.spends;
      honest = c.put_blob.ensures.honest;
    }

pub invariant_of-self : goal.invariant_of-self
invariant_of-self g c =
    let k = g.K.Keeper.kept c.args.self.now.keeper in
    record {
      shares = shared_written c.args.self.now.shared.map (g.K.Keeper.is_honest c.args.self.now.keeper) (g.K.Keeper.is_honest c.put_blob.new.self) k (g.K.Keeper.kept c.put_blob.new.self) c.put_blob.ensures.honest c.args.self.now.shares
          c.put_blob.result _ (repo_updated k.world c.args.repo.now _ (λ r. blob_added r c.args.digest.now c.args.bytes.now)) c.put_blob.ensures.made c.put_blob.ensures.spends;
    }
