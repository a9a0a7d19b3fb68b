use Rattle.registry_holding.specs.Shown.{held_in}
use Rattle.registry_holding.proofs.HoldingLemmas.{written_held, spends_held}
use Rattle.registry_holding.proofs.BlobsStay.{repo_updated, shared_written}
use Rattle.registry_holding.proofs.holding.keeper.HoldingKeeper.delete_tag.Goals as goal

pub delete_tag-requires : goal.delete_tag-requires
delete_tag-requires g c = c.requires

pub returns : goal.returns
returns g c =
    let h = held_in c.args.self.now.stages.map c.args.self.now.pins.map in
    let k = g.K.Keeper.kept c.args.self.now.keeper in
    let l = g.K.Keeper.kept c.delete_tag.new.self in
    record {
      made = λ honest. written_held h c.delete_tag.result _ k l (c.delete_tag.ensures.made honest);
      spends = spends_held h c.delete_tag.result k l c.delete_tag.ensures.spends;
      honest = c.delete_tag.ensures.honest;
    }

pub invariant_of-self : goal.invariant_of-self
invariant_of-self g c =
    let k = g.K.Keeper.kept c.args.self.now.keeper in
    record {
      shares = shared_written c.args.self.now.shared.map (g.K.Keeper.is_honest c.args.self.now.keeper) (g.K.Keeper.is_honest c.delete_tag.new.self) k (g.K.Keeper.kept c.delete_tag.new.self) c.delete_tag.ensures.honest c.args.self.now.shares
          c.delete_tag.result _ (repo_updated k.world c.args.repo.now _ (λ r digest bytes at. at)) c.delete_tag.ensures.made c.delete_tag.ensures.spends;
    }
