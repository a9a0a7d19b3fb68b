use Rattle.std.proofs.Common.{◌≡◌, ◌∙◌, Ok, Err, [], ◌∷◌, ap, refl, sym, append-nil, rules}
use Rattle.std.specs.List.{filter_map, cons_option}
use Rattle.std.proofs.lemmas.List.{map-id}
use Rattle.std.proofs.lemmas.List.Elements.{filter_map-append}
use Rattle.std.proofs.lemmas.Iterator.Adapters.{YieldsList-from_vec}
use Rattle.std.proofs.lemmas.Iterator.Consumers.{YieldsList-end}
use Rattle.registry_model.specs.TagPage.{Page}
use Rattle.registry_checking.specs.Wrongs.{wrong_tag_at, tags_at}
use Rattle.registry_checking.proofs.WrongLemmas.{unread, of_all_read, noted, one_more, stopped, done}
use Rattle.registry_checking.proofs.looking.look_at_tags.Goals as goal

pub returns-in_err-tags : goal.returns-in_err-tags
returns-in_err-tags g c = unread _ c.from_residual.result _ _ _ _ _ _ _ c.from_residual.ensures c.in_err-tags.ensures

pub loop-tag-init : goal.loop-tag-init
loop-tag-init g c = record { unspent = c.in_ok-tags.ensures.spends.1; honest = λ honest. honest; same = λ _. refl; found = λ _. sym (append-nil c.args.wrongs.now.items) }

pub loop-tag-preserved : goal.loop-tag-preserved
loop-tag-preserved g c =
    let w = (g.K.Keeper.kept c.tags_after.new.self).world in
    let tag = c.in-Some.tag in
    one_more c.in_ok-push_read.field-0 (filter_map (wrong_tag_at w c.args.repo.now) c.loop-tag.yielded) _ _ _
    (λ w. cons_option (wrong_tag_at w c.args.repo.now tag) []) _ _ _ _ _ _ c.loop-tag.invariant _
    (noted c.look_at_tag-found.result (Ok c.in_ok-push_read.field-0) (wrong_tag_at (g.K.Keeper.kept c.loop-tag.keeper).world c.args.repo.now tag) _ _ _ _ _ _ c.in_ok-push_read.ensures c.look_at_tag-found.ensures)
    (sym (filter_map-append (wrong_tag_at w c.args.repo.now) c.loop-tag.yielded (tag ∷ [])))

pub returns-in_err-push_read : goal.returns-in_err-push_read
returns-in_err-push_read g c =
    let read = c.in_ok-tags.ensures in
    of_all_read c.from_residual-in_err-push_read.result (λ w tags. filter_map (wrong_tag_at w c.args.repo.now) tags) (tags_at (g.K.Keeper.kept c.args.keeper.now).world c.args.repo.now) _ _ _ _ _ _ _ _ _ _
    refl (λ honest. (refl, (read.found honest).1)) read.spends.0 read.honest
    (stopped c.from_residual-in_err-push_read.result _ _ _ _ _ _ _ _ _ _ _ _ _ c.loop-tag.invariant read.spends.1 c.from_residual-in_err-push_read.ensures
    (noted c.look_at_tag-found.result (Err c.in_err-push_read.field-0.0) (wrong_tag_at (g.K.Keeper.kept c.loop-tag.keeper).world c.args.repo.now c.in-Some.tag) _ _ _ _ _ _ c.in_err-push_read.ensures c.look_at_tag-found.ensures))

pub returns : goal.returns
returns g c =
    let read = c.in_ok-tags.ensures in
    let given = c.into_iter-tag-iterator.ensures.into_iter_gives in
    let road = YieldsList-from_vec c.in_ok-tags.tags.items given.0 (search (rules, given)) in
    let all = YieldsList-end road c.loop-tag.yielded c.loop-tag.tag-iterator c.loop-tag.yielded_by c.next.result c.next.new.self c.in-None.is c.next.ensures.steps in
    of_all_read (Ok tt) (λ w tags. filter_map (wrong_tag_at w c.args.repo.now) tags) c.loop-tag.yielded c.in_ok-tags.tags.items (tags_at (g.K.Keeper.kept c.args.keeper.now).world c.args.repo.now) c.args.wrongs.now.items c.loop-tag.wrongs.items
    (g.K.Keeper.kept c.args.keeper.now) (g.K.Keeper.kept c.tags_after.new.self) (g.K.Keeper.kept c.loop-tag.keeper) _ _ _
    (sym (map-id c.loop-tag.yielded) ∙ all.0) (λ honest.
    let paged : c.in_ok-tags.tags.items ≡ tags_at (g.K.Keeper.kept c.args.keeper.now).world c.args.repo.now = ap (λ (p : Page). p.tags) (read.found honest).0 in
    (paged, (read.found honest).1))
    read.spends.0 read.honest
    (done (filter_map (wrong_tag_at (g.K.Keeper.kept c.tags_after.new.self).world c.args.repo.now) c.loop-tag.yielded) _ _ _ _ _ _ _ c.loop-tag.invariant read.spends.1 refl)
