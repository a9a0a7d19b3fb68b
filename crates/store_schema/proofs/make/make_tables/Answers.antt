use Rattle.store_schema.specs.Schema.{no_schema, fresh_schema}
use Rattle.store_schema.specs.Making.{IsEmptyWith, IsOther}
use Rattle.store_schema.specs.Beside.{Comes, registry_names, registry_tables}
use Rattle.store_schema.specs.InTurn.{RanEach, FailedAmong}
use Rattle.sqlite.specs.Held.{state}
use Rattle.store_schema.proofs.InTurn.{on_ok, on_err, empty_each, other_each, comes_each}
use Rattle.store_schema.proofs.MadeTables.{makings, texts, are_so, makes_fresh}
use Rattle.store_schema.proofs.make.make_tables.Goals as goal

pub returns : goal.returns
returns g c =
    let old = c.args.tx.now.conn.now in
    let new = c.execute_each.new.tx.conn.now in
    let Ran = RanEach g.S.Store texts old new in
    record {
      made = λ clean none. on_ok Ran (IsEmptyWith fresh_schema (state g.S.Store new).now) c.execute_each.result (λ ran. empty_each g.S.Store no_schema texts fresh_schema old new makes_fresh ran none) (c.execute_each.ensures.ran clean);
      unmade = λ clean none. on_err (FailedAmong g.S.Store texts old new) IsOther c.execute_each.result (λ e. other_each g.S.Store no_schema texts fresh_schema old new e makes_fresh none.schema_is) (c.execute_each.ensures.failed clean);
      comes = λ clean. on_ok Ran (Comes registry_names registry_tables (state g.S.Store old).now (state g.S.Store new).now) c.execute_each.result (comes_each g.S.Store makings old new are_so) (c.execute_each.ensures.ran clean);
      inside = c.execute_each.ensures.inside;
      kept = c.execute_each.ensures.kept;
      same_reference = c.execute_each.ensures.same_reference;
      survives = c.execute_each.ensures.survives;
    }
