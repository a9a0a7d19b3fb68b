use Rattle.std.proofs.Common.{rules, not}
use Rattle.std.proofs.lemmas.Fn.{filter_same}
use Rattle.manifest_operations.specs.Pruning.{has}
use Rattle.manifest_operations.proofs.pruning.leave_unnamed.Goals as goal

pub returns : goal.returns
returns c = filter_same _ (λ digest. not (has c.args.named.now digest)) _ (λ x b f' k. search rules) _ _ c.retain.ensures.filtered
