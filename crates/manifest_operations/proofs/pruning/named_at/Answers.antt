use Rattle.std.proofs.Common.{◌∙◌, ap}
use Rattle.registry_model.specs.Keeping.{Kept, digests_shown}
use Rattle.manifest_operations.specs.Pruning.{names_at, is_named_at, has}
use Rattle.operation_parts.proofs.ReadLemmas.{read_failed, read_failed_later, read_ran_out}
use Rattle.manifest_operations.proofs.PruningLemmas.{named_more, named_by_all}
use Rattle.manifest_operations.proofs.pruning.named_at.Goals as goal

pub loop-manifest-preserved : goal.loop-manifest-preserved
loop-manifest-preserved g c =
    let l = c.loop-manifest in
    let read = c.in_ok-names.ensures in
    record {
      unspent = read.spends.1;
      honest = λ honest. l.invariant.honest (read.honest honest);
      same = λ honest. (read.found honest).1 ∙ l.invariant.same (read.honest honest);
      found = λ honest digest.
          let early = read.honest honest in
          let w = (g.K.Keeper.kept c.manifest_digests.new.self).world in
          named_more w c.args.name.now c.deref-manifest-items.result.now l.manifest-index c.manifest-item.result (has l.named digest) (has c.add.new.named digest) (digests_shown c.in_ok-names.names) digest
          c.loop-manifest-test.true c.manifest-item.is (l.invariant.found early digest)
          ((read.found honest).0 ∙ ap (λ (s : Kept). names_at s.world c.args.name.now c.manifest-item.result) (l.invariant.same early))
          (c.in_ok-add.ensures.added digest);
    }

pub returns-in_err-manifests : goal.returns-in_err-manifests
returns-in_err-manifests g c =
    let s = g.K.Keeper.kept c.args.keeper.now in
    read_failed has (is_named_at s.world c.args.name.now) digests_shown _ c.from_residual.result c.in_err-manifests.field-0.0 _ _ _ _ c.from_residual.ensures c.in_err-manifests.ensures

pub returns-in_err-names : goal.returns-in_err-names
returns-in_err-names g c =
    let s = g.K.Keeper.kept c.args.keeper.now in
    let l = c.loop-manifest in
    let read = c.in_ok-manifests.ensures in
    read_failed_later has (is_named_at s.world c.args.name.now) digests_shown _ c.from_residual-in_err-names.result c.in_err-names.field-0.0 _ _ _ _ _ _ c.from_residual-in_err-names.ensures
    (λ honest. l.invariant.same honest ∙ (read.found (l.invariant.honest honest)).1) (λ honest. read.honest (l.invariant.honest honest)) read.spends.0 c.in_err-names.ensures

pub returns-in_err-add : goal.returns-in_err-add
returns-in_err-add g c =
    let s = g.K.Keeper.kept c.args.keeper.now in
    let l = c.loop-manifest in
    let read = c.in_ok-manifests.ensures in
    let names = c.in_ok-names.ensures in
    read_ran_out has (is_named_at s.world c.args.name.now) c.from_residual-in_err-add.result c.in_err-add.field-0.0 _ _ _ _ c.from_residual-in_err-add.ensures c.in_err-add.ensures.memory
    (λ honest. (names.found honest).1 ∙ l.invariant.same (names.honest honest) ∙ (read.found (l.invariant.honest (names.honest honest))).1)
    read.spends.0 names.spends.1 (λ honest. read.honest (l.invariant.honest (names.honest honest)))

pub returns : goal.returns
returns g c = record {
  found = λ honest.
      let l = c.loop-manifest in
      let began = l.invariant.honest honest in
      let manifests = c.in_ok-manifests.ensures.found began in (
        named_by_all _ _ c.args.name.now (has l.named) _ c.deref-manifest-items.result.now l.manifest-index
            (l.invariant.found honest) c.loop-manifest-test.false c.deref-manifest-items.ensures.value manifests.0 manifests.1,
        l.invariant.same honest ∙ manifests.1,
      );
  spends = (c.in_ok-manifests.ensures.spends.0, c.loop-manifest.invariant.unspent);
  honest = λ honest. c.in_ok-manifests.ensures.honest (c.loop-manifest.invariant.honest honest);
}
