use Rattle.std.proofs.Common.{◌≡◌, ◌∙◌, refl, sym, ap, rules}
use Rattle.std.specs.Prelude.{filter, IfOk}
use Rattle.std.specs.Ordering.{is_lt}
use Rattle.std.specs.BTreeMap.{keys}
use Rattle.oci_types.specs.Text.{Text}
use Rattle.registry_model.specs.World.{text_cmp}
use Rattle.registry_model.proofs.TextOrder.{text_total, exact_texts}
use Rattle.registry_maps.proofs.SeenMaps.{keys_seen, pushed, one_behind, none_behind, first_taken, first_left}
use Rattle.registry_maps.proofs.repository.Repository.tags_behind.Goals as goal

pub returns : goal.returns
returns c =
    let m = c.args.self.now.tags in
    let all = keys_seen text_total exact_texts (λ (t : Text). t) m c.keys-tag-items.ensures.ordered in
    let behind : c.loop-tag.behind.items ≡ filter (λ tag. is_lt (text_cmp c.args.last.now tag)) (keys m) = search rules in
    behind ∙ ap (filter (λ tag. is_lt (text_cmp c.args.last.now tag))) (sym all)

pub loop-tag-preserved : goal.loop-tag-preserved
loop-tag-preserved c =
    let other = sym c.is_behind.ensures ∙ c.if-is_behind.false in
    none_behind c.loop-tag.behind.items _ _ _ _ refl (first_left (λ tag. is_lt (text_cmp c.args.last.now tag)) c.in-Some.tag.now _ _ c.in-Some.ensures.steps other) c.loop-tag.invariant

pub loop-tag-preserved-in-Continue-1 : goal.loop-tag-preserved-in-Continue-1
loop-tag-preserved-in-Continue-1 c =
    let tag = c.in-Some.tag.now in
    let copy : IfOk c.clone.result (λ v. v ≡ tag) = search rules in
    let same = sym c.is_behind.ensures ∙ c.if-is_behind.true in
    one_behind c.loop-tag.behind.items _ tag tag _ _ _ (pushed c.clone.result tag _ _ copy c.in_ok-push.ensures) refl (first_taken (λ tag. is_lt (text_cmp c.args.last.now tag)) c.in-Some.tag.now _ _ c.in-Some.ensures.steps same) c.loop-tag.invariant
