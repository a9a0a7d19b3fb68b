use Rattle.std.proofs.Common.{◌∙◌, Some, sym, ap, refl}
use Rattle.registry_model.specs.Lookups as lookups
use Rattle.registry_holding.specs.Shown.{stages_in, pins_in}
use Rattle.registry_holding.proofs.StageLemmas.{written_staged, taken_out}
use Rattle.registry_holding.proofs.BlobsStay.{repo_updated, blob_added, shared_written}
use Rattle.registry_holding.proofs.holding.HoldingHolder.put_staged.Goals as goal

pub returns-then-fits-clause-made : goal.returns-then-fits-clause-made
returns-then-fits-clause-made g c = λ honest t there.
    let k = g.K.Keeper.kept c.args.self.now.keeper in
    written_staged c.args.key (λ u. lookups.put_blob k.world c.args.repo.now c.args.digest.now u) c.bytes.result.now k (g.K.Keeper.kept c.put_blob.new.self)
    (stages_in c.args.self.now.stages.map) (stages_in c.take.new.self.map) (pins_in c.args.self.now.pins.map)
    (ap Some c.bytes.ensures ∙ sym c.in-Some.is ∙ c.take.ensures.staged) c.take.ensures.gone c.put_blob.result t there (c.put_blob.ensures.made honest)

pub returns-in-Some-clause-made : goal.returns-in-Some-clause-made
returns-in-Some-clause-made g c = λ honest t there.
    let k = g.K.Keeper.kept c.args.self.now.keeper in
    taken_out c.args.key k k (stages_in c.args.self.now.stages.map) (stages_in c.take.new.self.map) (pins_in c.args.self.now.pins.map) c.take.ensures.gone refl

pub invariant_of-self : goal.invariant_of-self
invariant_of-self g c =
    let k = g.K.Keeper.kept c.args.self.now.keeper in
    record {
      shares = shared_written c.args.self.now.shared.map (g.K.Keeper.is_honest c.args.self.now.keeper) (g.K.Keeper.is_honest c.put_blob.new.self) k (g.K.Keeper.kept c.put_blob.new.self) c.put_blob.ensures.honest c.args.self.now.shares
          c.put_blob.result _ (repo_updated k.world c.args.repo.now _ (λ r. blob_added r c.args.digest.now c.bytes.result.now)) c.put_blob.ensures.made c.put_blob.ensures.spends;
    }
