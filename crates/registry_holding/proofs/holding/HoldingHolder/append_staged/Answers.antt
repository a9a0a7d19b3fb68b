use Rattle.std.proofs.Common.{◌∙◌, Some, sym, ap}
use Rattle.registry_model.specs.Lookups as lookups
use Rattle.registry_holding.specs.Shown.{stages_in, pins_in}
use Rattle.registry_holding.proofs.StageLemmas.{written_staged}
use Rattle.registry_holding.proofs.BlobsStay.{repo_updated, shared_written}
use Rattle.registry_holding.proofs.holding.HoldingHolder.append_staged.Goals as goal

pub returns-in-Some-clause-made : goal.returns-in-Some-clause-made
returns-in-Some-clause-made g c = λ honest t there.
    let k = g.K.Keeper.kept c.args.self.now.keeper in
    written_staged c.args.key (λ u. lookups.append k.world c.args.repo.now c.args.number u) c.bytes.result.now k (g.K.Keeper.kept c.append.new.self)
    (stages_in c.args.self.now.stages.map) (stages_in c.take.new.self.map) (pins_in c.args.self.now.pins.map)
    (ap Some c.bytes.ensures ∙ sym c.in-Some.is ∙ c.take.ensures.staged) c.take.ensures.gone c.append.result t there (c.append.ensures.made honest)

pub invariant_of-self : goal.invariant_of-self
invariant_of-self g c =
    let k = g.K.Keeper.kept c.args.self.now.keeper in
    record {
      shares = shared_written c.args.self.now.shared.map (g.K.Keeper.is_honest c.args.self.now.keeper) (g.K.Keeper.is_honest c.append.new.self) k (g.K.Keeper.kept c.append.new.self) c.append.ensures.honest c.args.self.now.shares
          c.append.result _ (repo_updated k.world c.args.repo.now _ (λ r digest bytes at. at)) c.append.ensures.made c.append.ensures.spends;
    }
