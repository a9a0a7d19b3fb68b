use Rattle.std.proofs.Common.{◌≡◌, ◌∙◌, Ok, refl, sym, ap, rules, map}
use Rattle.std.specs.Prelude.{IfOk}
use Rattle.oci_types.specs.Text.{Text}
use Rattle.registry_maps.specs.declared.repository.Repository.{Repository}
use Rattle.registry_model.specs.World.{Repo}
use Rattle.registry_model.specs.Usage.{usage_of}
use Rattle.registry_maps.specs.Maps.{repo_of}
use Rattle.registry_model.proofs.TextOrder.{text_total, exact_texts}
use Rattle.registry_maps.proofs.SeenMaps.{entries_seen, shown_again, pushed_pair, one_behind}
use Rattle.registry_maps.proofs.map_keeper.MapKeeper.all_usages.Goals as goal

pub returns : goal.returns
returns c =
    let m = c.args.self.now.repos in
    let all = entries_seen text_total exact_texts repo_of m c.iter-name-items.ensures.ordered in
    let found : c.loop-name.all.items ≡ map (λ (e : Text × Repository). (e.0, usage_of (repo_of e.1))) m.entries = search rules in
    found ∙ sym (ap (map (λ (e : Text × Repo). (e.0, usage_of e.1))) all ∙ shown_again repo_of usage_of m.entries)

pub loop-name-preserved : goal.loop-name-preserved
loop-name-preserved c =
    let name = c.in-Some.name.now in
    let usage = usage_of (repo_of c.in-Some.repository.now) in
    let copy : IfOk c.clone.result (λ v. v ≡ name) = search rules in
    one_behind c.loop-name.all.items _ (name, usage) (name, usage) _ _ _ (pushed_pair c.clone.result (Ok c.usage.result) name usage _ _ copy c.usage.ensures c.in_ok-push_pair.ensures) refl (ap (map (λ (e : Text × Repository). (e.0, usage_of (repo_of e.1)))) c.in-Some.ensures.steps) c.loop-name.invariant
