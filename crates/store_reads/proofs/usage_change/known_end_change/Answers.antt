use Rattle.std.proofs.Common.{◌∙◌, sym}
use Rattle.store_reads.proofs.Foretold.{known_kept, known_added}
use Rattle.store_reads.proofs.usage_change.known_end_change.Goals as goal

pub returns-then-came : goal.returns-then-came
returns-then-came c w name digest number sized is = known_added w name digest number c.args.size sized (sym c.if-came.true ∙ is)

pub returns-else-came : goal.returns-else-came
returns-else-came c w name digest number sized is = known_kept w name digest number c.args.size sized (sym c.if-came.false ∙ is)
