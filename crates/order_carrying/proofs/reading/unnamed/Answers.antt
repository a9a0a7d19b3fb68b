use Rattle.std.proofs.Common.{◌∙◌, List, [], ◌∷◌, ◌++◌, Some, map, refl, sym, ap, rules}
use Rattle.oci_types.specs.Text.{Text}
use Rattle.std.proofs.lemmas.List.{map-append}
use Rattle.std.proofs.lemmas.Iterator.Adapters.{YieldsList-from_vec}
use Rattle.std.proofs.lemmas.Iterator.Consumers.{YieldsList-end}
use Rattle.order_texts.specs.Items.{unnamed_item}
use Rattle.order_carrying.proofs.FailedReads.{by_failed, ran_out, returns_by}
use Rattle.order_carrying.proofs.ListLemmas.{all_found, unnamed_are}
use Rattle.order_carrying.proofs.reading.unnamed.Goals as goal

pub loop-digest-preserved : goal.loop-digest-preserved
loop-digest-preserved g c =
    c.in_ok-push.ensures.added ∙ ap (λ xs. xs ++ unnamed_item c.in-Some.digest ∷ []) c.loop-digest.invariant
    ∙ sym (map-append unnamed_item c.loop-digest.yielded (c.in-Some.digest ∷ []))

pub returns-in_err-digests : goal.returns-in_err-digests
returns-in_err-digests g c = returns_by _ c.from_residual.result _ _ _ _ _ _ c.from_residual.ensures (by_failed _ _ _ _ _ _ c.in_err-digests.ensures)

pub returns-in_err-push : goal.returns-in_err-push
returns-in_err-push g c =
    let read = c.in_ok-digests.ensures in
    returns_by _ c.from_residual-in_err-push.result _ _ _ _ _ _ c.from_residual-in_err-push.ensures
    (ran_out _ _ _ _ _ c.in_err-push.ensures.memory (λ honest. (read.found honest).1) read.spends.0 read.spends.1 read.honest)

pub returns : goal.returns
returns g c = record {
  found = λ honest.
      let told = c.in_ok-digests.ensures.found honest in
      let given = c.into_iter-digest-iterator.ensures.into_iter_gives in
      let road = YieldsList-from_vec c.in_ok-digests.digests.items given.0 (search (rules, given)) in
      let all = YieldsList-end road c.loop-digest.yielded c.loop-digest.digest-iterator c.loop-digest.yielded_by c.next.result c.next.new.self c.in-None.is c.next.ensures.steps in
      let s = g.K.Keeper.kept c.args.service.now in (
        ap Some (all_found (λ w (ds : List Text). map unnamed_item ds) s s _ c.loop-digest.yielded _ _ c.loop-digest.invariant all.0 told.0 refl ∙ unnamed_are s.world c.args.name.now),
        told.1,
      );
  spends = c.in_ok-digests.ensures.spends;
  honest = c.in_ok-digests.ensures.honest;
}
