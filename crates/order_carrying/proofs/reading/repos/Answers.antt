use Rattle.std.proofs.Common.{◌∙◌, List, [], ◌∷◌, ◌++◌, Some, map, refl, sym, ap, rules}
use Rattle.oci_types.specs.Text.{Text}
use Rattle.std.proofs.lemmas.List.{map-append}
use Rattle.std.proofs.lemmas.Iterator.Adapters.{YieldsList-from_vec}
use Rattle.std.proofs.lemmas.Iterator.Consumers.{YieldsList-end}
use Rattle.order_texts.specs.Items.{repo_item}
use Rattle.order_carrying.proofs.FailedReads.{by_failed, ran_out, returns_by}
use Rattle.order_carrying.proofs.ListLemmas.{all_found, repos_are}
use Rattle.order_carrying.proofs.reading.repos.Goals as goal

pub loop-name-preserved : goal.loop-name-preserved
loop-name-preserved g c =
    c.in_ok-push.ensures.added ∙ ap (λ xs. xs ++ repo_item c.in-Some.name ∷ []) c.loop-name.invariant
    ∙ sym (map-append repo_item c.loop-name.yielded (c.in-Some.name ∷ []))

pub returns-in_err-names : goal.returns-in_err-names
returns-in_err-names g c = returns_by _ c.from_residual.result _ _ _ _ _ _ c.from_residual.ensures (by_failed _ _ _ _ _ _ c.in_err-names.ensures)

pub returns-in_err-push : goal.returns-in_err-push
returns-in_err-push g c =
    let read = c.in_ok-names.ensures in
    returns_by _ c.from_residual-in_err-push.result _ _ _ _ _ _ c.from_residual-in_err-push.ensures
    (ran_out _ _ _ _ _ c.in_err-push.ensures.memory (λ honest. (read.found honest).1) read.spends.0 read.spends.1 read.honest)

pub returns : goal.returns
returns g c = record {
  found = λ honest.
      let told = c.in_ok-names.ensures.found honest in
      let given = c.into_iter-name-iterator.ensures.into_iter_gives in
      let road = YieldsList-from_vec c.in_ok-names.names.items given.0 (search (rules, given)) in
      let all = YieldsList-end road c.loop-name.yielded c.loop-name.name-iterator c.loop-name.yielded_by c.next.result c.next.new.self c.in-None.is c.next.ensures.steps in
      let s = g.K.Keeper.kept c.args.service.now in (
        ap Some (all_found (λ w (ns : List Text). map repo_item ns) s s _ c.loop-name.yielded _ _ c.loop-name.invariant all.0 told.0 refl ∙ repos_are s.world),
        told.1,
      );
  spends = c.in_ok-names.ensures.spends;
  honest = c.in_ok-names.ensures.honest;
}
