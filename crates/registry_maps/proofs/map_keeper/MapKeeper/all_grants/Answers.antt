use Rattle.std.proofs.Common.{◌≡◌, ◌∙◌, List, [], ◌++◌, refl, sym, ap, subst, rules, append-nil, append_assoc}
use Rattle.oci_types.specs.Text.{Text}
use Rattle.registry_model.specs.declared.grant.Grant.{Grant}
use Rattle.registry_model.specs.Lookups.{AreLevelsOver, grants_on}
use Rattle.registry_maps.specs.Maps.{repo_of, world_of}
use Rattle.registry_model.proofs.TextOrder.{text_total, exact_texts}
use Rattle.registry_maps.proofs.SeenMaps.{keys_seen}
use Rattle.std.specs.BTreeMap.{keys}
use Rattle.registry_maps.proofs.map_keeper.MapKeeper.all_grants.Goals as goal

pub loop-repo-preserved : goal.loop-repo-preserved
loop-repo-preserved c = λ rest over.
    let w = world_of c.args.self.now.repos c.args.self.now.grants in
    let here = c.in_ok-push_grants.ensures in
    let more = grants_on c.in-Some.repo.now here.0 ++ rest in
    subst (λ (l : List Grant). AreLevelsOver w (keys c.args.self.now.repos) l)
    (sym (ap (λ (l : List Grant). l ++ rest) here.2 ∙ append_assoc c.loop-repo.all.items (grants_on c.in-Some.repo.now here.0) rest))
    (c.loop-repo.invariant more (subst (λ (ns : List Text). AreLevelsOver w ns more) (sym c.in-Some.ensures.steps) (here.0, rest, here.1, over, refl)))

pub returns : goal.returns
returns c =
    let m = c.args.self.now.repos in
    let w = world_of m c.args.self.now.grants in
    let none : c.loop-repo.repo-iterator ≡ [] = search rules in
    let whole = c.loop-repo.invariant [] (subst (λ (ns : List Text). AreLevelsOver w ns []) (sym none) refl) in
    subst (λ (ns : List Text). AreLevelsOver w ns c.loop-repo.all.items) (sym (keys_seen text_total exact_texts repo_of m c.keys-repo-items.ensures.ordered))
    (subst (λ (l : List Grant). AreLevelsOver w (keys m) l) (append-nil c.loop-repo.all.items) whole)
