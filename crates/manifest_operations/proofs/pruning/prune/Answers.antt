use Rattle.registry_model.specs.Keeping.{digests_shown}
use Rattle.manifest_operations.proofs.PruningLemmas.{prunes}
use Rattle.manifest_operations.proofs.pruning.prune.Goals as goal

pub returns-clause-made : goal.returns-clause-made
returns-clause-made g c honest =
    let told = c.in_ok-digests.ensures.found (c.delete_blobs.ensures.honest honest) in
    prunes c.delete_blobs.result _ _ _ c.args.name.now (digests_shown c.in_ok-digests.digests) c.deref.result.now
    told.0 told.1 c.deref.ensures.value (c.delete_blobs.ensures.made honest)
