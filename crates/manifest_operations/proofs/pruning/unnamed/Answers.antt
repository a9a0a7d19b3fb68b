use Rattle.std.proofs.Common.{◌∙◌}
use Rattle.registry_model.specs.Keeping.{digests_shown}
use Rattle.manifest_operations.specs.Pruning.{has}
use Rattle.manifest_operations.proofs.PruningLemmas.{unnamed_found}
use Rattle.manifest_operations.proofs.pruning.unnamed.Goals as goal

pub returns-clause-found : goal.returns-clause-found
returns-clause-found g c honest =
    let first = c.in_ok-digests.ensures.honest honest in
    let named = c.in_ok-named.ensures.found first in
    let blobs = c.in_ok-digests.ensures.found honest in (
      unnamed_found _ _ c.args.name.now (has c.in_ok-named.named) (digests_shown c.in_ok-digests.digests)
          (digests_shown c.leave_unnamed.new.digests) named.0 named.1 blobs.0 c.leave_unnamed.ensures,
      blobs.1 ∙ named.1,
    )
