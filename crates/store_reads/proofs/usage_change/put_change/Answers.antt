use Rattle.std.proofs.Common.{◌∙◌, sym}
use Rattle.store_reads.proofs.Foretold.{put_kept, put_added}
use Rattle.store_reads.proofs.usage_change.put_change.Goals as goal

pub returns-then-came : goal.returns-then-came
returns-then-came c w name digest is = put_added w name digest c.args.bytes.now (sym c.if-came.true ∙ is)

pub returns-else-came : goal.returns-else-came
returns-else-came c w name digest is = put_kept w name digest c.args.bytes.now (sym c.if-came.false ∙ is)
