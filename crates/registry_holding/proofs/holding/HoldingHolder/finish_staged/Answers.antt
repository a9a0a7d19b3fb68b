use Rattle.std.proofs.Common.{◌≡◌, ◌∙◌, ◌++◌, Some, sym, ap, subst}
use Rattle.oci_types.specs.Text.{Text}
use Rattle.registry_model.specs.Keeping.{Kept, Writes}
use Rattle.registry_model.specs.Lookups as lookups
use Rattle.registry_model.specs.Lookups.{bytes_or_none, session_at}
use Rattle.registry_holding.specs.Shown.{stages_in, pins_in}
use Rattle.registry_holding.proofs.StageLemmas.{written_staged, taken_out}
use Rattle.registry_holding.proofs.BlobsStay.{repo_updated, blob_finished, shared_read, shared_written}
use Rattle.registry_holding.proofs.holding.HoldingHolder.finish_staged.Goals as goal

pub returns-in_default-extend_from_slice-clause-made : goal.returns-in_default-extend_from_slice-clause-made
returns-in_default-extend_from_slice-clause-made g c = λ honest t there.
    taken_out c.args.key (g.K.Keeper.kept c.args.self.now.keeper) (g.K.Keeper.kept c.session.new.self)
    (stages_in c.args.self.now.stages.map) (stages_in c.take.new.self.map) (pins_in c.args.self.now.pins.map) c.take.ensures.gone (c.in_ok-bytes.ensures.found honest).1

pub returns-then-not-is_blob-clause-made : goal.returns-then-not-is_blob-clause-made
returns-then-not-is_blob-clause-made g c = λ honest t there.
    taken_out c.args.key (g.K.Keeper.kept c.args.self.now.keeper) (g.K.Keeper.kept c.session.new.self)
    (stages_in c.args.self.now.stages.map) (stages_in c.take.new.self.map) (pins_in c.args.self.now.pins.map) c.take.ensures.gone (c.in_ok-bytes.ensures.found honest).1

pub returns-clause-made : goal.returns-clause-made
returns-clause-made g c = λ honest t there.
    let k = g.K.Keeper.kept c.args.self.now.keeper in
    let l = g.K.Keeper.kept c.finish.new.self in
    let repo = c.args.repo.now in
    let number = c.args.number in
    let digest = c.args.digest.now in
    let read = c.in_ok-bytes.ensures.found (c.finish.ensures.honest honest) in
    let session = rw c.in-Some.is at read.0 in
    let whole : c.as_slice-whole.result.now ≡ bytes_or_none (session_at k.world repo number) ++ c.bytes.result.now =
    c.as_slice-whole.ensures.value ∙ c.in-Ok.ensures.items ∙ ap (λ o. bytes_or_none o ++ c.bytes.result.now) session in
    written_staged c.args.key (λ u. lookups.finish k.world repo number digest (bytes_or_none (session_at k.world repo number) ++ u)) c.bytes.result.now k l
    (stages_in c.args.self.now.stages.map) (stages_in c.take.new.self.map) (pins_in c.args.self.now.pins.map)
    (ap Some c.bytes.ensures ∙ sym c.in-Some-take.is ∙ c.take.ensures.staged) c.take.ensures.gone c.finish.result t there
    (subst (λ (x : Text). Writes c.finish.result (lookups.finish k.world repo number digest x) k l) whole
    (subst (λ (m : Kept). Writes c.finish.result (lookups.finish m.world repo number digest c.as_slice-whole.result.now) m l) read.1 (c.finish.ensures.made honest)))

pub invariant_of-self-2 : goal.invariant_of-self-2
invariant_of-self-2 g c =
    let m = c.args.self.now.shared.map in
    let k = g.K.Keeper.kept c.args.self.now.keeper in
    let k1 = g.K.Keeper.kept c.session.new.self in
    record {
      shares = shared_written m (g.K.Keeper.is_honest c.session.new.self) (g.K.Keeper.is_honest c.finish.new.self) k1 (g.K.Keeper.kept c.finish.new.self) c.finish.ensures.honest
          (shared_read m (g.K.Keeper.is_honest c.args.self.now.keeper) (g.K.Keeper.is_honest c.session.new.self) k k1 c.session.ensures.honest c.args.self.now.shares _ c.session.result _ c.session.ensures.found c.session.ensures.spends)
          c.finish.result _ (repo_updated k1.world c.args.repo.now _ (λ r. blob_finished r c.args.number c.args.digest.now c.as_slice-whole.result.now)) c.finish.ensures.made c.finish.ensures.spends;
    }
