use Rattle.std.proofs.Common.{◌∙◌, ap, sym, not}
use Rattle.std.proofs.lemmas.List.{take_all}
use Rattle.registry_model.specs.Keeping.{Kept}
use Rattle.registry_model.specs.Lookups.{blob_size_at}
use Rattle.manifest_operations.specs.Push.{has_needs_at}
use Rattle.operation_parts.proofs.ReadLemmas.{read_failed_later}
use Rattle.manifest_operations.proofs.PushLemmas.{has_more, lacks_one}
use Rattle.manifest_operations.proofs.manifest_push.has_needs.Goals as goal

pub loop-digest-preserved : goal.loop-digest-preserved
loop-digest-preserved g c =
    let l = c.loop-digest in
    let read = c.in_ok-blob_size.ensures in
    record {
      unspent = read.spends.1;
      honest = λ honest. l.invariant.honest (read.honest honest);
      same = λ honest. (read.found honest).1 ∙ l.invariant.same (read.honest honest);
      found = λ honest.
          let early = read.honest honest in
          has_more (g.K.Keeper.kept c.args.keeper.now).world c.args.name.now c.args.needs.now l.digest-index c.digest-item.result c.in_ok-blob_size.field-0 c.loop-digest-test.true c.digest-item.is
          ((read.found honest).0 ∙ ap (λ (s : Kept). blob_size_at s.world c.args.name.now c.digest-item.result) (l.invariant.same early))
          (l.invariant.found early) (c.is_none.ensures ∙ ap not c.if-is_none.false);
    }

pub returns-in_err-blob_size : goal.returns-in_err-blob_size
returns-in_err-blob_size g c =
    let s = g.K.Keeper.kept c.args.keeper.now in
    let l = c.loop-digest in
    read_failed_later (λ v. v) (has_needs_at s.world c.args.name.now c.args.needs.now) (λ v. v) _ c.from_residual.result c.in_err-blob_size.field-0.0 _ _ _ _ _ _ c.from_residual.ensures
    l.invariant.same l.invariant.honest c.requires.unspent c.in_err-blob_size.ensures

pub returns-then-is_none : goal.returns-then-is_none
returns-then-is_none g c =
    let l = c.loop-digest in
    let read = c.in_ok-blob_size.ensures in
    record {
      found = λ honest.
          let early = read.honest honest in (
            lacks_one (g.K.Keeper.kept c.args.keeper.now).world c.args.name.now c.args.needs.now l.digest-index c.digest-item.result c.in_ok-blob_size.field-0 c.loop-digest-test.true c.digest-item.is
                ((read.found honest).0 ∙ ap (λ (s : Kept). blob_size_at s.world c.args.name.now c.digest-item.result) (l.invariant.same early))
                (c.is_none.ensures ∙ ap not c.if-is_none.true),
            (read.found honest).1 ∙ l.invariant.same early,
          );
      spends = (c.requires.unspent, read.spends.1);
      honest = λ honest. l.invariant.honest (read.honest honest);
    }

pub returns : goal.returns
returns g c =
    let l = c.loop-digest in
    record {
      found = λ honest. (
        sym (l.invariant.found honest) ∙ ap (has_needs_at (g.K.Keeper.kept c.args.keeper.now).world c.args.name.now) (take_all l.digest-index c.args.needs.now c.loop-digest-test.false),
        l.invariant.same honest,
      );
      spends = (c.requires.unspent, l.invariant.unspent);
      honest = l.invariant.honest;
    }
