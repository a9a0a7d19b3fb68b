use Rattle.std.proofs.Common.{refl}
use Rattle.sqlite.specs.Held.{state}
use Rattle.store_contents.specs.Layouts.{InTables}
use Rattle.store_statements.specs.Held.{held}
use Rattle.store_statements.proofs.Executed.{given, keeps, makes_from}
use Rattle.store_migration.specs.Olds.{HasOlds}
use Rattle.store_migration.proofs.BlobRows.{took_by}
use Rattle.store_migration.proofs.old_blobs.take_blob.Goals as goal

pub returns : goal.returns
returns g c =
    record {
      taken = makes_from g.S.Store c.args.tx.now.conn.now c.execute.new.self.conn.now _ _ c.execute.result c.execute.ensures.runs _ (given c.params-to_sql.ensures (given c.params-to_sql-2.ensures refl)) c.done.result (HasOlds (held InTables (state g.S.Store c.args.tx.now.conn.now))) _ c.done.ensures.ok
          (took_by c.args.repo.now c.args.digest.now (state g.S.Store c.args.tx.now.conn.now) (state g.S.Store c.execute.new.self.conn.now) c.execute.result);
      kept = keeps g.S.Store c.args.tx.now.conn.now c.execute.new.self.conn.now _ _ c.execute.result c.execute.ensures.runs InTables;
      same_reference = c.execute.ensures.same_reference;
      survives = c.execute.ensures.survives;
    }
