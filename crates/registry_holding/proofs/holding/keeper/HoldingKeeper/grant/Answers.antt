use Rattle.registry_holding.specs.Shown.{held_in}
use Rattle.registry_holding.proofs.HoldingLemmas.{written_held, spends_held}
use Rattle.registry_holding.proofs.BlobsStay.{shared_written}
use Rattle.registry_holding.proofs.holding.keeper.HoldingKeeper.grant.Goals as goal

pub grant-requires : goal.grant-requires
grant-requires g c = c.requires

pub returns : goal.returns
returns g c =
    let h = held_in c.args.self.now.stages.map c.args.self.now.pins.map in
    let k = g.K.Keeper.kept c.args.self.now.keeper in
    let l = g.K.Keeper.kept c.grant.new.self in
    record {
      made = λ honest. written_held h c.grant.result _ k l (c.grant.ensures.made honest);
      spends = spends_held h c.grant.result k l c.grant.ensures.spends;
      honest = c.grant.ensures.honest;
    }

pub invariant_of-self : goal.invariant_of-self
invariant_of-self g c =
    let k = g.K.Keeper.kept c.args.self.now.keeper in
    record {
      shares = shared_written c.args.self.now.shared.map (g.K.Keeper.is_honest c.args.self.now.keeper) (g.K.Keeper.is_honest c.grant.new.self) k (g.K.Keeper.kept c.grant.new.self) c.grant.ensures.honest c.args.self.now.shares
          c.grant.result _ (λ name digest bytes at. at) c.grant.ensures.made c.grant.ensures.spends;
    }
