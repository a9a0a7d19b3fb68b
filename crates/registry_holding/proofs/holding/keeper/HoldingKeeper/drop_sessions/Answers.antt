use Rattle.registry_holding.specs.Shown.{held_in}
use Rattle.registry_holding.proofs.HoldingLemmas.{written_held, spends_held}
use Rattle.registry_holding.proofs.BlobsStay.{repo_updated, shared_written}
use Rattle.registry_holding.proofs.holding.keeper.HoldingKeeper.drop_sessions.Goals as goal

pub drop_sessions-requires : goal.drop_sessions-requires
drop_sessions-requires g c = c.requires

pub returns : goal.returns
returns g c =
    let h = held_in c.args.self.now.stages.map c.args.self.now.pins.map in
    let k = g.K.Keeper.kept c.args.self.now.keeper in
    let l = g.K.Keeper.kept c.drop_sessions.new.self in
    record {
      made = λ honest. written_held h c.drop_sessions.result _ k l (c.drop_sessions.ensures.made honest);
      spends = spends_held h c.drop_sessions.result k l c.drop_sessions.ensures.spends;
      honest = c.drop_sessions.ensures.honest;
    }

pub invariant_of-self : goal.invariant_of-self
invariant_of-self g c =
    let k = g.K.Keeper.kept c.args.self.now.keeper in
    record {
      shares = shared_written c.args.self.now.shared.map (g.K.Keeper.is_honest c.args.self.now.keeper) (g.K.Keeper.is_honest c.drop_sessions.new.self) k (g.K.Keeper.kept c.drop_sessions.new.self) c.drop_sessions.ensures.honest c.args.self.now.shares
          c.drop_sessions.result _ (repo_updated k.world c.args.name.now _ (λ r digest bytes at. at)) c.drop_sessions.ensures.made c.drop_sessions.ensures.spends;
    }
