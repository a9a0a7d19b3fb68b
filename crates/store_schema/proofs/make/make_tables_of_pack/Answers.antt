use Rattle.store_schema.specs.Schema.{no_schema}
use Rattle.store_schema.specs.PackSchema.{pack_schema, pack_names, pack_ones}
use Rattle.store_schema.specs.Making.{IsEmptyWith, IsOther}
use Rattle.store_schema.specs.Beside.{Comes}
use Rattle.store_schema.specs.InTurn.{RanEach, FailedAmong}
use Rattle.sqlite.specs.Held.{state}
use Rattle.store_schema.proofs.InTurn.{on_ok, on_err, empty_each, other_each, comes_each}
use Rattle.store_schema.proofs.PackMade.{pack_makings, pack_texts, are_so_over_pack, makes_over_pack}
use Rattle.store_schema.proofs.make.make_tables_of_pack.Goals as goal

pub returns : goal.returns
returns g c =
    let old = c.args.tx.now.conn.now in
    let new = c.execute_each.new.tx.conn.now in
    let Ran = RanEach g.S.Store pack_texts old new in
    record {
      made = λ clean none. on_ok Ran (IsEmptyWith pack_schema (state g.S.Store new).now) c.execute_each.result
          (λ ran. empty_each g.S.Store no_schema pack_texts pack_schema old new makes_over_pack ran none) (c.execute_each.ensures.ran clean);
      unmade = λ clean none. on_err (FailedAmong g.S.Store pack_texts old new) IsOther c.execute_each.result
          (λ e. other_each g.S.Store no_schema pack_texts pack_schema old new e makes_over_pack none.schema_is) (c.execute_each.ensures.failed clean);
      comes = λ clean. on_ok Ran (Comes pack_names pack_ones (state g.S.Store old).now (state g.S.Store new).now) c.execute_each.result
          (comes_each g.S.Store pack_makings old new are_so_over_pack) (c.execute_each.ensures.ran clean);
      inside = c.execute_each.ensures.inside;
      kept = c.execute_each.ensures.kept;
      same_reference = c.execute_each.ensures.same_reference;
      survives = c.execute_each.ensures.survives;
    }
