use Rattle.std.proofs.Common.{◌∙◌, List, Some, map, refl, ap, rules}
use Rattle.oci_types.specs.Text.{Text}
use Rattle.std.proofs.lemmas.Iterator.Adapters.{YieldsList-from_vec}
use Rattle.std.proofs.lemmas.Iterator.Consumers.{YieldsList-end}
use Rattle.order_texts.specs.Items.{tag_item}
use Rattle.order_carrying.proofs.FailedReads.{by_failed, ran_out, returns_by}
use Rattle.order_carrying.proofs.ListLemmas.{all_found, tag_more, tags_are}
use Rattle.order_carrying.proofs.reading.tags.Goals as goal

pub loop-tag-preserved : goal.loop-tag-preserved
loop-tag-preserved g c = tag_more _ _ c.loop-tag.yielded _ c.loop-tag.invariant c.in_ok-push.ensures.added

pub returns-in_err-tags : goal.returns-in_err-tags
returns-in_err-tags g c = returns_by _ c.from_residual.result _ _ _ _ _ _ c.from_residual.ensures (by_failed _ _ _ _ _ _ c.in_err-tags.ensures)

pub returns-in_err-push : goal.returns-in_err-push
returns-in_err-push g c =
    let read = c.in_ok-tags.ensures in
    returns_by _ c.from_residual-in_err-push.result _ _ _ _ _ _ c.from_residual-in_err-push.ensures
    (ran_out _ _ _ _ _ c.in_err-push.ensures.memory (λ honest. (read.found honest).1) read.spends.0 read.spends.1 read.honest)

pub returns : goal.returns
returns g c = record {
  found = λ honest.
      let told = c.in_ok-tags.ensures.found honest in
      let given = c.into_iter-tag-iterator.ensures.into_iter_gives in
      let road = YieldsList-from_vec c.in_ok-tags.tags.items given.0 (search (rules, given)) in
      let all = YieldsList-end road c.loop-tag.yielded c.loop-tag.tag-iterator c.loop-tag.yielded_by c.next.result c.next.new.self c.in-None.is c.next.ensures.steps in
      let s = g.K.Keeper.kept c.args.service.now in (
        ap Some (all_found (λ w (es : List (Text × Text)). map (λ (e : Text × Text). tag_item e.0 e.1) es) s s _ c.loop-tag.yielded _ _ c.loop-tag.invariant all.0 told.0 refl ∙ tags_are s.world c.args.name.now),
        told.1,
      );
  spends = c.in_ok-tags.ensures.spends;
  honest = c.in_ok-tags.ensures.honest;
}
