use Rattle.registry_holding.specs.Shown.{held_in}
use Rattle.registry_holding.proofs.HoldingLemmas.{written_held, spends_held}
use Rattle.registry_holding.proofs.BlobsStay.{repo_updated, blob_finished, shared_written}
use Rattle.registry_holding.proofs.holding.keeper.HoldingKeeper.finish.Goals as goal

pub finish-requires : goal.finish-requires
finish-requires g c = c.requires

pub returns : goal.returns
returns g c =
    let h = held_in c.args.self.now.stages.map c.args.self.now.pins.map in
    let k = g.K.Keeper.kept c.args.self.now.keeper in
    let l = g.K.Keeper.kept c.finish.new.self in
    record {
      made = λ honest. written_held h c.finish.result _ k l (c.finish.ensures.made honest);
      spends = spends_held h c.finish.result k l c.finish.ensures.spends;
      honest = c.finish.ensures.honest;
    }

pub invariant_of-self : goal.invariant_of-self
invariant_of-self g c =
    let k = g.K.Keeper.kept c.args.self.now.keeper in
    record {
      shares = shared_written c.args.self.now.shared.map (g.K.Keeper.is_honest c.args.self.now.keeper) (g.K.Keeper.is_honest c.finish.new.self) k (g.K.Keeper.kept c.finish.new.self) c.finish.ensures.honest c.args.self.now.shares
          c.finish.result _ (repo_updated k.world c.args.repo.now _ (λ r. blob_finished r c.args.number c.args.digest.now c.args.bytes.now)) c.finish.ensures.made c.finish.ensures.spends;
    }
