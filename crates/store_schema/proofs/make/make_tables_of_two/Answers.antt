use Rattle.std.proofs.Common.{◌≡◌}
use Rattle.sqlite.specs.Held.{state}
use Rattle.store_schema.specs.Making.{IsOther}
use Rattle.store_schema.specs.OldSchema.{old_schema, both_schema}
use Rattle.store_schema.specs.Beside.{Comes, names_of_two, tables_of_two}
use Rattle.store_schema.specs.InTurn.{RanEach, FailedAmong}
use Rattle.store_schema.proofs.InTurn.{on_ok, on_err, schema_each, other_each, comes_each}
use Rattle.store_schema.proofs.MadeTables.{makings_of_two, texts_of_two, are_so_of_two, makes_beside_old}
use Rattle.store_schema.proofs.make.make_tables_of_two.Goals as goal

pub returns : goal.returns
returns g c =
    let old = c.args.tx.now.conn.now in
    let new = c.execute_each.new.tx.conn.now in
    let Ran = RanEach g.S.Store texts_of_two old new in
    record {
      both = λ clean is. on_ok Ran ((state g.S.Store new).now.schema ≡ both_schema) c.execute_each.result (λ ran. schema_each g.S.Store old_schema texts_of_two both_schema old new makes_beside_old ran is) (c.execute_each.ensures.ran clean);
      unmade = λ clean is. on_err (FailedAmong g.S.Store texts_of_two old new) IsOther c.execute_each.result (λ e. other_each g.S.Store old_schema texts_of_two both_schema old new e makes_beside_old is) (c.execute_each.ensures.failed clean);
      comes = λ clean. on_ok Ran (Comes names_of_two tables_of_two (state g.S.Store old).now (state g.S.Store new).now) c.execute_each.result (comes_each g.S.Store makings_of_two old new are_so_of_two) (c.execute_each.ensures.ran clean);
      inside = c.execute_each.ensures.inside;
      kept = c.execute_each.ensures.kept;
      same_reference = c.execute_each.ensures.same_reference;
      survives = c.execute_each.ensures.survives;
    }
