use Rattle.std.proofs.Common.{◌∙◌, Ok}
use Rattle.std.specs.declared.alloc.AllocError.{AllocError}
use Rattle.std.proofs.lemmas.Iterator.Adapters.{YieldsList-from_vec, fact_from_extend}
use Rattle.manifest_operations.specs.Pruning.{has}
use Rattle.manifest_operations.proofs.PruningLemmas.{among_added}
use Rattle.manifest_operations.proofs.pruning.add.Goals as goal

pub returns-in-Ok-clause-added : goal.returns-in-Ok-clause-added
returns-in-Ok-clause-added c =
    fact_from_extend {E = AllocError} (λ x. x) (Ok c.in-Ok.field-0) c.in-Ok.ensures.ran (λ it b. YieldsList-from_vec {s = it} _ b.0 (b.1 ∙ c.args.digests.ok.0))
    (λ xs e h digest. among_added (has c.extend.new.self digest) (has c.args.named.now digest) xs c.args.digests.items digest (h.0 digest) e)
