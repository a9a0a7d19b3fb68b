use Rattle.registry_holding.specs.Shown.{held_in}
use Rattle.registry_holding.proofs.HoldingLemmas.{written_by_held, spends_held}
use Rattle.registry_holding.proofs.BlobsStay.{repo_updated, shared_written_by}
use Rattle.registry_holding.proofs.holding.keeper.HoldingKeeper.open_session.Goals as goal

pub open_session-requires : goal.open_session-requires
open_session-requires g c = c.requires

pub returns : goal.returns
returns g c =
    let h = held_in c.args.self.now.stages.map c.args.self.now.pins.map in
    let k = g.K.Keeper.kept c.args.self.now.keeper in
    let l = g.K.Keeper.kept c.open_session.new.self in
    record {
      made = λ honest. written_by_held h _ c.open_session.result _ _ k l (c.open_session.ensures.made honest);
      spends = spends_held h c.open_session.result k l c.open_session.ensures.spends;
      honest = c.open_session.ensures.honest;
    }

pub invariant_of-self : goal.invariant_of-self
invariant_of-self g c =
    let k = g.K.Keeper.kept c.args.self.now.keeper in
    record {
      shares = shared_written_by c.args.self.now.shared.map (g.K.Keeper.is_honest c.args.self.now.keeper) (g.K.Keeper.is_honest c.open_session.new.self) k (g.K.Keeper.kept c.open_session.new.self) c.open_session.ensures.honest c.args.self.now.shares
          _ c.open_session.result _ _ (repo_updated k.world c.args.repo.now _ (λ r digest bytes at. at)) c.open_session.ensures.made c.open_session.ensures.spends;
    }
