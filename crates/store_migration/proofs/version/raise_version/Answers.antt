use Rattle.std.proofs.Common.{refl}
use Rattle.sqlite.specs.Held.{state}
use Rattle.store_contents.specs.Layouts.{InTables}
use Rattle.store_statements.proofs.Executed.{keeps, makes}
use Rattle.store_migration.proofs.VersionRows.{raised_by}
use Rattle.store_migration.proofs.version.raise_version.Goals as goal

pub returns : goal.returns
returns g c = record {
  raised = λ clean is olds one.
      makes g.S.Store c.args.tx.now.conn.now c.execute.new.self.conn.now _ _ c.execute.result c.execute.ensures.runs _ refl c.done.result _ c.done.ensures.ok
      (λ holds ran. raised_by (state g.S.Store c.args.tx.now.conn.now) (state g.S.Store c.execute.new.self.conn.now) c.execute.result holds olds one ran) clean is;
  kept = keeps g.S.Store c.args.tx.now.conn.now c.execute.new.self.conn.now _ _ c.execute.result c.execute.ensures.runs InTables;
  same_reference = c.execute.ensures.same_reference;
  survives = c.execute.ensures.survives;
}
