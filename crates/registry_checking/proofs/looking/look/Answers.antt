use Rattle.std.specs.List.{flat_map}
use Rattle.registry_checking.specs.Wrongs.{wrongs_at}
use Rattle.registry_checking.proofs.WrongLemmas.{unread, of_all_read}
use Rattle.registry_checking.proofs.looking.look.Goals as goal

pub returns-in_err-usages : goal.returns-in_err-usages
returns-in_err-usages g c = unread _ c.from_residual.result _ _ _ _ _ _ _ c.from_residual.ensures c.in_err-usages.ensures

pub returns : goal.returns
returns g c =
    let read = c.in_ok-usages.ensures in
    of_all_read c.look_at_repos.result (λ w usages. flat_map (λ u. wrongs_at w u.0) usages) c.deref-2.result.now _ _ _ _ _ _ _ _ _ _
    c.deref-2.ensures.value read.found read.spends.0 read.honest c.look_at_repos.ensures
