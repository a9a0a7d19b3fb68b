use Rattle.std.proofs.Common.{◌≡◌, refl, rules}
use Rattle.std.specs.Prelude.{IfOk}
use Rattle.registry_maps.proofs.SeenMaps.{pushed, one_behind}
use Rattle.registry_maps.proofs.repository.digests.digests_of.Goals as goal

pub loop-digest-preserved : goal.loop-digest-preserved
loop-digest-preserved g c =
    let d = c.in-Some.digest.now in
    let copy : IfOk c.clone.result (λ v. v ≡ d) = search rules in
    one_behind c.loop-digest.found.items _ d d _ _ _ (pushed c.clone.result d _ _ copy c.in_ok-push.ensures) refl c.in-Some.ensures.steps c.loop-digest.invariant
