use Rattle.std.proofs.Common.{◌≡◌, ◌∙◌, refl, sym, ap, rules}
use Rattle.std.specs.Prelude.{filter, IfOk}
use Rattle.oci_types.specs.Text.{Text}
use Rattle.registry_model.specs.Referrers.{has_subject}
use Rattle.registry_model.specs.Keeping.{entries_shown}
use Rattle.registry_model.proofs.TextOrder.{text_total, exact_texts}
use Rattle.registry_maps.proofs.SeenMaps.{entries_seen, same_pairs, pushed_entry, one_behind, none_behind, first_taken, first_left}
use Rattle.registry_maps.proofs.repository.Repository.manifests_of_subject.Goals as goal

pub returns : goal.returns
returns c =
    let m = c.args.self.now.manifests in
    let all = entries_seen text_total exact_texts (λ (t : Text). t) m c.iter-name-items.ensures.ordered ∙ same_pairs m.entries in
    let found : entries_shown c.loop-name.found ≡ filter (has_subject c.args.digest.now) m.entries = search rules in
    found ∙ ap (filter (has_subject c.args.digest.now)) (sym all)

pub loop-name-preserved : goal.loop-name-preserved
loop-name-preserved c =
    let other = sym c.has_subject.ensures ∙ c.if-has_subject.false in
    none_behind (entries_shown c.loop-name.found) _ _ _ _ refl (first_left (has_subject c.args.digest.now) (c.in-Some.name.now, c.in-Some.kept.now) _ _ c.in-Some.ensures.steps other) c.loop-name.invariant

pub loop-name-preserved-in-Continue-1 : goal.loop-name-preserved-in-Continue-1
loop-name-preserved-in-Continue-1 c =
    let name = c.in-Some.name.now in
    let kept = c.in-Some.kept.now in
    let copy : IfOk c.clone.result (λ v. v ≡ name) = search rules in
    let same = sym c.has_subject.ensures ∙ c.if-has_subject.true in
    one_behind (entries_shown c.loop-name.found) _ (name, kept) (name, kept) _ _ _
    (pushed_entry c.clone.result c.to_vec.result name kept c.loop-name.found.items _ copy c.to_vec.ensures c.in_ok-push_pair.ensures) refl
    (first_taken (has_subject c.args.digest.now) (name, kept) _ _ c.in-Some.ensures.steps same) c.loop-name.invariant
