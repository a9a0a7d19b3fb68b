use Rattle.std.proofs.Common.{sym}
use Rattle.manifest_operations.proofs.PruningLemmas.{pruned_at}
use Rattle.manifest_operations.proofs.pruning.unnamed_blobs_are_pruned.Goals as goal

pub returns : goal.returns
returns c = λ w name. sym (pruned_at w name)
