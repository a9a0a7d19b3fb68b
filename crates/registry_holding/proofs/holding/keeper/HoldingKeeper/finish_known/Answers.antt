use Rattle.registry_holding.specs.Shown.{held_in}
use Rattle.registry_holding.proofs.HoldingLemmas.{written_where_held, spends_held}
use Rattle.registry_holding.proofs.BlobsStay.{repo_updated, blob_finished, shared_written_where}
use Rattle.registry_holding.proofs.holding.keeper.HoldingKeeper.finish_known.Goals as goal

pub returns : goal.returns
returns g c =
    let h = held_in c.args.self.now.stages.map c.args.self.now.pins.map in
    let k = g.K.Keeper.kept c.args.self.now.keeper in
    let l = g.K.Keeper.kept c.finish_known.new.self in
    record {
      made = λ honest. written_where_held h c.finish_known.result _ _ k l (c.finish_known.ensures.made honest);
      spends = spends_held h c.finish_known.result k l c.finish_known.ensures.spends;
      honest = c.finish_known.ensures.honest;
    }

pub invariant_of-self : goal.invariant_of-self
invariant_of-self g c =
    let k = g.K.Keeper.kept c.args.self.now.keeper in
    record {
      shares = shared_written_where c.args.self.now.shared.map (g.K.Keeper.is_honest c.args.self.now.keeper) (g.K.Keeper.is_honest c.finish_known.new.self) k (g.K.Keeper.kept c.finish_known.new.self) c.finish_known.ensures.honest c.args.self.now.shares
          c.finish_known.result _ _ (repo_updated k.world c.args.repo.now _ (λ r. blob_finished r c.args.number c.args.digest.now _)) c.finish_known.ensures.made c.finish_known.ensures.spends;
    }
