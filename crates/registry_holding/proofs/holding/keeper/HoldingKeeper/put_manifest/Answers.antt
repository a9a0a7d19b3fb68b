use Rattle.registry_holding.specs.Shown.{held_in}
use Rattle.registry_holding.proofs.HoldingLemmas.{written_held, spends_held}
use Rattle.registry_holding.proofs.BlobsStay.{repo_updated, manifest_added, shared_written}
use Rattle.registry_holding.proofs.holding.keeper.HoldingKeeper.put_manifest.Goals as goal

pub put_manifest-requires : goal.put_manifest-requires
put_manifest-requires g c = c.requires

pub returns : goal.returns
returns g c =
    let h = held_in c.args.self.now.stages.map c.args.self.now.pins.map in
    let k = g.K.Keeper.kept c.args.self.now.keeper in
    let l = g.K.Keeper.kept c.put_manifest.new.self in
    record {
      made = λ honest. written_held h c.put_manifest.result _ k l (c.put_manifest.ensures.made honest);
      spends = spends_held h c.put_manifest.result k l c.put_manifest.ensures.spends;
      honest = c.put_manifest.ensures.honest;
    }

pub invariant_of-self : goal.invariant_of-self
invariant_of-self g c =
    let k = g.K.Keeper.kept c.args.self.now.keeper in
    record {
      shares = shared_written c.args.self.now.shared.map (g.K.Keeper.is_honest c.args.self.now.keeper) (g.K.Keeper.is_honest c.put_manifest.new.self) k (g.K.Keeper.kept c.put_manifest.new.self) c.put_manifest.ensures.honest c.args.self.now.shares
          c.put_manifest.result _ (repo_updated k.world c.args.repo.now _ (λ r. manifest_added r c.args.digest.now c.args.bytes.now _)) c.put_manifest.ensures.made c.put_manifest.ensures.spends;
    }
