use Rattle.std.proofs.Common.{◌∙◌, rules, refl, ap}
use Rattle.registry_maps.specs.Maps.{kept_of}
use Rattle.registry_maps.proofs.SeenWorlds.{lent_some, lent_none, changed_by, nothing_made}
use Rattle.registry_maps.proofs.map_keeper.MapKeeper.set_last_number.Goals as goal

pub returns-in-Some : goal.returns-in-Some
returns-in-Some c =
    let k = c.args.self.now in
    let old = c.in-Some.repository.now in
    let new = record old { last = c.args.last } in
    let there = lent_some k.repos c.args.name.now c.get_mut.result c.in-Some.repository c.in-Some.is c.get_mut.ensures.value in
    let updates = (c.get_mut.follows.holds new).3 (search rules) in
    changed_by k.repos (c.get_mut.follows.lender new) k.grants c.args.name.now old new there updates (λ r. record r { last = c.args.last }) refl

pub returns-in_default : goal.returns-in_default
returns-in_default c =
    let k = c.args.self.now in
    let none = lent_none k.repos c.args.name.now c.get_mut.result c.in_default.is c.get_mut.ensures.value in
    ap (λ m. kept_of m k.grants) c.get_mut.follows.holds-at-none ∙ nothing_made k.repos k.grants c.args.name.now (λ r. record r { last = c.args.last }) none
