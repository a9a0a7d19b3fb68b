use Rattle.std.proofs.Common.{◌≡◌, ◌∙◌, refl, sym, rules}
use Rattle.std.specs.Prelude.{IfOk}
use Rattle.std.proofs.lemmas.List.{map-id}
use Rattle.oci_types.specs.Text.{Text}
use Rattle.registry_model.proofs.TextOrder.{text_total, exact_texts}
use Rattle.registry_maps.proofs.SeenMaps.{entries_seen, pushed_pair, one_behind}
use Rattle.registry_maps.proofs.repository.Repository.tags.Goals as goal

pub returns : goal.returns
returns c =
    let m = c.args.self.now.tags in
    let all = entries_seen text_total exact_texts (λ (t : Text). t) m c.iter-tag-items.ensures.ordered in
    let found : c.loop-tag.found.items ≡ m.entries = search rules in
    found ∙ sym (map-id m.entries) ∙ sym all

pub loop-tag-preserved : goal.loop-tag-preserved
loop-tag-preserved c =
    let tag = c.in-Some.tag.now in
    let digest = c.in-Some.digest.now in
    let copy : IfOk c.clone.result (λ v. v ≡ tag) = search rules in
    let other : IfOk c.clone-in-loop-tag.result (λ v. v ≡ digest) = search rules in
    one_behind c.loop-tag.found.items _ (tag, digest) (tag, digest) _ _ _ (pushed_pair c.clone.result c.clone-in-loop-tag.result tag digest _ _ copy other c.in_ok-push_pair.ensures) refl c.in-Some.ensures.steps c.loop-tag.invariant
