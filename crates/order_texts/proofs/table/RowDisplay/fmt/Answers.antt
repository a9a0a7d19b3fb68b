use Rattle.std.proofs.Common.{append_assoc}
use Rattle.order_texts.proofs.TableLemmas.{in_20_places, in_10_places}
use Rattle.order_texts.proofs.table.RowDisplay.fmt.Goals as goal

pub returns-clause-writes : goal.returns-clause-writes
returns-clause-writes g c =
    simp append_assoc
    (simp (c.laid_out.ensures, c.laid_out-2.ensures, c.laid_out-3.ensures, c.laid_out-4.ensures, c.laid_out-5.ensures, c.laid_out-6.ensures, in_20_places, in_10_places, append_assoc)
    at c.write.ensures.writes)
