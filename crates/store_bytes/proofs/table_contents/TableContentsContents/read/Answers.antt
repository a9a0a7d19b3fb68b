use Rattle.store_contents.specs.Layouts.{InTables}
use Rattle.store_bytes.proofs.CheckedReads.{stays}
use Rattle.store_bytes.proofs.table_contents.TableContentsContents.read.Goals as goal

pub returns-clause-settled : goal.returns-clause-settled
returns-clause-settled g c =
    stays {l = InTables} g.S.Store c.args.conn.now c.read_bytes-found.new.conn c.checked.new.conn c.read_bytes-found.result c.checked.result c.checked.ensures.told (λ late is. c.read_bytes-found.ensures.same late is.holds.contents)
    (λ late is. c.read_bytes-found.ensures.failed late is.holds.contents)
