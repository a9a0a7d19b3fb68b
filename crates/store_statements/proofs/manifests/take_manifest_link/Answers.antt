use Rattle.std.proofs.Common.{refl}
use Rattle.sqlite.specs.Held.{state}
use Rattle.store_statements.proofs.ManifestRows.{took_by}
use Rattle.store_statements.proofs.Executed.{given, keeps, makes}
use Rattle.store_statements.proofs.manifests.take_manifest_link.Goals as goal

pub returns : goal.returns
returns g c =
    record {
      taken = λ l. makes g.S.Store c.args.tx.now.conn.now c.execute.new.self.conn.now _ _ c.execute.result c.execute.ensures.runs _ (given c.params-to_sql.ensures (given c.params-to_sql-2.ensures refl)) c.done.result _ c.done.ensures.ok
          (took_by c.args.repo.now c.args.digest.now (state g.S.Store c.args.tx.now.conn.now) (state g.S.Store c.execute.new.self.conn.now) c.execute.result);
      kept = keeps g.S.Store c.args.tx.now.conn.now c.execute.new.self.conn.now _ _ c.execute.result c.execute.ensures.runs;
      same_reference = c.execute.ensures.same_reference;
      survives = c.execute.ensures.survives;
    }
