use Rattle.registry_holding.specs.Shown.{held_in}
use Rattle.registry_holding.proofs.HoldingLemmas.{written_held, spends_held}
use Rattle.registry_holding.proofs.BlobsStay.{repo_updated, shared_written}
use Rattle.registry_holding.proofs.holding.keeper.HoldingKeeper.delete_manifest.Goals as goal

pub delete_manifest-requires : goal.delete_manifest-requires
delete_manifest-requires g c = c.requires

pub returns : goal.returns
returns g c =
    let h = held_in c.args.self.now.stages.map c.args.self.now.pins.map in
    let k = g.K.Keeper.kept c.args.self.now.keeper in
    let l = g.K.Keeper.kept c.delete_manifest.new.self in
    record {
      made = λ honest. written_held h c.delete_manifest.result _ k l (c.delete_manifest.ensures.made honest);
      spends = spends_held h c.delete_manifest.result k l c.delete_manifest.ensures.spends;
      honest = c.delete_manifest.ensures.honest;
    }

pub invariant_of-self : goal.invariant_of-self
invariant_of-self g c =
    let k = g.K.Keeper.kept c.args.self.now.keeper in
    record {
      shares = shared_written c.args.self.now.shared.map (g.K.Keeper.is_honest c.args.self.now.keeper) (g.K.Keeper.is_honest c.delete_manifest.new.self) k (g.K.Keeper.kept c.delete_manifest.new.self) c.delete_manifest.ensures.honest c.args.self.now.shares
          c.delete_manifest.result _ (repo_updated k.world c.args.repo.now _ (λ r digest bytes at. at)) c.delete_manifest.ensures.made c.delete_manifest.ensures.spends;
    }
