use Rattle.std.proofs.Common.{◌≡◌, ◌∙◌, refl, sym, rules}
use Rattle.std.specs.Prelude.{IfOk}
use Rattle.std.specs.BTreeMap.{keys}
use Rattle.registry_maps.specs.Maps.{repo_of}
use Rattle.registry_model.proofs.TextOrder.{text_total, exact_texts}
use Rattle.registry_maps.proofs.SeenMaps.{keys_seen, pushed, one_behind}
use Rattle.registry_maps.proofs.map_keeper.MapKeeper.names.Goals as goal

pub returns : goal.returns
returns c =
    let m = c.args.self.now.repos in
    let all = keys_seen text_total exact_texts repo_of m c.keys-name-items.ensures.ordered in
    let found : c.loop-name.names.items ≡ keys m = search rules in
    found ∙ sym all

pub loop-name-preserved : goal.loop-name-preserved
loop-name-preserved c =
    let name = c.in-Some.name.now in
    let copy : IfOk c.clone.result (λ v. v ≡ name) = search rules in
    one_behind c.loop-name.names.items _ name name _ _ _ (pushed c.clone.result name _ _ copy c.in_ok-push.ensures) refl c.in-Some.ensures.steps c.loop-name.invariant
