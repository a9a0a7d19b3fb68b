use Rattle.std.proofs.Common.{◌∙◌, ap, rules}
use Rattle.registry_model.specs.Keeping.{Kept}
use Rattle.registry_model.specs.Blobs.{with_blob}
use Rattle.registry_maps.specs.Maps.{kept_of}
use Rattle.registry_maps.proofs.SeenWorlds.{lent_some, lent_none, world_made, nothing_made}
use Rattle.registry_maps.proofs.map_keeper.MapKeeper.add_blob.Goals as goal

pub returns-in-Some : goal.returns-in-Some
returns-in-Some c =
    let k = c.args.self.now in
    let new = c.put_blob.new.self in
    let there = lent_some k.repos c.args.repo.now c.get_mut.result c.in-Some.repository c.in-Some.is c.get_mut.ensures.value in
    let updates = (c.get_mut.follows.holds new).3 (search rules) in
    world_made k.repos (c.get_mut.follows.lender new) k.grants c.args.repo.now c.in-Some.repository.now new there updates
    c.put_blob.result (λ r. with_blob r c.args.digest.now c.args.bytes.now) c.put_blob.ensures

pub returns-in-None : goal.returns-in-None
returns-in-None c =
    let k = c.args.self.now in
    let none = lent_none k.repos c.args.repo.now c.get_mut.result c.in-None.is c.get_mut.ensures.value in
    ap (λ (s : Kept). s.world)
    (ap (λ m. kept_of m k.grants) c.get_mut.follows.holds-at-none ∙ nothing_made k.repos k.grants c.args.repo.now (λ r. with_blob r c.args.digest.now c.args.bytes.now) none)
