use Rattle.registry_holding.specs.Shown.{held_in}
use Rattle.registry_holding.proofs.HoldingLemmas.{written_held, spends_held}
use Rattle.registry_holding.proofs.BlobsStay.{shared_written}
use Rattle.registry_holding.proofs.holding.keeper.HoldingKeeper.revoke.Goals as goal

pub revoke-requires : goal.revoke-requires
revoke-requires g c = c.requires

pub returns : goal.returns
returns g c =
    let h = held_in c.args.self.now.stages.map c.args.self.now.pins.map in
    let k = g.K.Keeper.kept c.args.self.now.keeper in
    let l = g.K.Keeper.kept c.revoke.new.self in
    record {
      made = λ honest. written_held h c.revoke.result _ k l (c.revoke.ensures.made honest);
      spends = spends_held h c.revoke.result k l c.revoke.ensures.spends;
      honest = c.revoke.ensures.honest;
    }

pub invariant_of-self : goal.invariant_of-self
invariant_of-self g c =
    let k = g.K.Keeper.kept c.args.self.now.keeper in
    record {
      shares = shared_written c.args.self.now.shared.map (g.K.Keeper.is_honest c.args.self.now.keeper) (g.K.Keeper.is_honest c.revoke.new.self) k (g.K.Keeper.kept c.revoke.new.self) c.revoke.ensures.honest c.args.self.now.shares
          c.revoke.result _ (λ name digest bytes at. at) c.revoke.ensures.made c.revoke.ensures.spends;
    }
