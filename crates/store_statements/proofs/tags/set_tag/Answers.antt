use Rattle.std.proofs.Common.{refl}
use Rattle.sqlite.specs.Held.{state}
use Rattle.store_contents.specs.Layouts.{Layout}
use Rattle.store_statements.proofs.TagRows.{set_by}
use Rattle.store_statements.proofs.Executed.{given, keeps, makes_so_many}
use Rattle.store_statements.proofs.tags.set_tag.Goals as goal

pub returns : goal.returns
returns g c =
    let it = λ (l : Layout). makes_so_many g.S.Store c.args.tx.now.conn.now c.execute.new.self.conn.now _ _ c.execute.result c.execute.ensures.runs _ (given c.params-to_sql.ensures (given c.params-to_sql-2.ensures (given c.params-to_sql-3.ensures refl))) {l = l} c.told.result _ _ c.told.ensures.ok (set_by c.args.repo.now c.args.tag.now c.args.digest.now (state g.S.Store c.args.tx.now.conn.now) (state g.S.Store c.execute.new.self.conn.now) c.execute.result) in
    record {
      set = λ l. (it l).0;
      counted = λ l. (it l).1;
      kept = keeps g.S.Store c.args.tx.now.conn.now c.execute.new.self.conn.now _ _ c.execute.result c.execute.ensures.runs;
      same_reference = c.execute.ensures.same_reference;
      survives = c.execute.ensures.survives;
    }
