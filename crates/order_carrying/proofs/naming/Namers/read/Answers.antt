use Rattle.std.proofs.Common.{◌∙◌}
use Rattle.order_carrying.specs.Naming.{namers_in}
use Rattle.order_carrying.proofs.FailedReads.{by_failed, later, returns_by}
use Rattle.order_carrying.proofs.NamingLemmas.{manifest_more, all_manifests}
use Rattle.order_carrying.proofs.naming.Namers.read.Goals as goal

pub loop-manifest-preserved : goal.loop-manifest-preserved
loop-manifest-preserved g c =
    let l = c.loop-manifest in
    let read = c.in_ok-names.ensures in
    let name = c.args.name.now in
    record {
      unspent = read.spends.1;
      honest = λ honest. l.invariant.honest (read.honest honest);
      same = λ honest. (read.found honest).1 ∙ l.invariant.same (read.honest honest);
      found = λ honest q.
          let early = read.honest honest in
          let told = c.in_ok-manifests.ensures.found (l.invariant.honest early) in
          manifest_more (g.K.Keeper.kept c.args.service.now) (g.K.Keeper.kept c.manifest_digests.new.self) (g.K.Keeper.kept l.service) name c.deref-manifest-items.result.now
          l.manifest-index c.manifest-item.result c.in_ok-names.names.items q (namers_in l.namers q) (namers_in c.add.new.self q)
          c.loop-manifest-test.true c.manifest-item.is (c.deref-manifest-items.ensures.value ∙ told.0) (l.invariant.found early q) (read.found honest).0 (l.invariant.same early) (c.in-Ok.ensures q);
    }

pub returns-in_err-manifests : goal.returns-in_err-manifests
returns-in_err-manifests g c = returns_by _ c.from_residual.result _ _ _ _ _ _ c.from_residual.ensures (by_failed _ _ _ _ _ _ c.in_err-manifests.ensures)

pub returns-in_err-names : goal.returns-in_err-names
returns-in_err-names g c =
    let so_far = c.loop-manifest.invariant in
    let read = c.in_ok-manifests.ensures in
    returns_by _ c.from_residual-in_err-names.result _ _ _ _ _ _ c.from_residual-in_err-names.ensures
    (later _ _ _ _ _ _ _ (λ between. so_far.same between ∙ (read.found (so_far.honest between)).1) (λ between. read.honest (so_far.honest between)) read.spends.0
    (by_failed _ _ _ _ _ _ c.in_err-names.ensures))

pub returns-in_default : goal.returns-in_default
returns-in_default g c =
    let so_far = c.loop-manifest.invariant in
    let read = c.in_ok-manifests.ensures in
    let names = c.in_ok-names.ensures in
    record {
      found = λ honest. let early = names.honest honest in (names.found honest).1 ∙ so_far.same early ∙ (read.found (so_far.honest early)).1;
      spends = (read.spends.0, names.spends.1);
      honest = λ honest. read.honest (so_far.honest (names.honest honest));
    }

pub returns : goal.returns
returns g c =
    let l = c.loop-manifest in
    let read = c.in_ok-manifests.ensures in
    record {
      found = λ honest.
          let told = read.found (l.invariant.honest honest) in (
            all_manifests (g.K.Keeper.kept c.args.service.now) (g.K.Keeper.kept c.manifest_digests.new.self) c.args.name.now (namers_in l.namers) c.deref-manifest-items.result.now _ l.manifest-index
                (l.invariant.found honest) c.loop-manifest-test.false c.deref-manifest-items.ensures.value told.0 told.1,
            l.invariant.same honest ∙ told.1,
          );
      spends = (read.spends.0, l.invariant.unspent);
      honest = λ honest. read.honest (l.invariant.honest honest);
    }
