use Rattle.std.proofs.Common.{◌∙◌, ap, subst}
use Rattle.sqlite.specs.State.{HasCleanDisk}
use Rattle.sqlite.specs.Held.{state}
use Rattle.store_schema.proofs.Selects.{commit_then, survives_both}
use Rattle.store_contents.specs.Layouts.{InTables}
use Rattle.store_statements.specs.Held.{IsReady, held}
use Rattle.store_statements.proofs.CleanBefore.{was_clean}
use Rattle.store_migration.specs.OldFile.{HoldsOldRegistry}
use Rattle.store_migration.specs.Rewriting.{StandsFor, counts}
use Rattle.store_migration.proofs.Begins.{begin_holding, begin_underway, begin_world, olds_are}
use Rattle.store_migration.proofs.rewrite.rewrite.Goals as goal

pub returns-in-Ok-move_rows : goal.returns-in-Ok-move_rows
returns-in-Ok-move_rows g c =
    let old = state g.S.Store c.args.tx.now.conn.now in
    let mid = state g.S.Store c.make_tables_of_two.new.tx.conn.now in
    let new = state g.S.Store c.move_rows.new.tx.conn.now in
    let early : HasCleanDisk new → HasCleanDisk mid = was_clean c.move_rows.ensures.survives in
    let ready : HasCleanDisk new → HoldsOldRegistry old.now → IsReady InTables mid = λ clean holds. record { inside = c.in-Ok.ensures.inside (early clean); holds = begin_holding old.now mid.now holds (c.in-Ok.ensures.both (early clean) holds.schema) (c.in-Ok.ensures.comes (early clean)) } in
    record {
      made = λ clean holds.
          let both = c.in-Ok.ensures.both (early clean) holds.schema in
          let comes = c.in-Ok.ensures.comes (early clean) in
          let it = c.in-Ok-move_rows.ensures.moved clean (ready clean holds) (begin_underway old.now mid.now holds both comes) in
          (it.0, subst (StandsFor (held InTables new)) (begin_world old.now mid.now holds both comes) it.1);
      counted = λ clean holds.
          let both = c.in-Ok.ensures.both (early clean) holds.schema in
          let comes = c.in-Ok.ensures.comes (early clean) in
          c.in-Ok-move_rows.ensures.counted clean (ready clean holds) (begin_underway old.now mid.now holds both comes) ∙ ap counts (olds_are old.now mid.now holds both comes);
      wanting = λ clean holds. tt;
      unnumbered = tt;
      free = λ clean. (c.in-Ok.ensures.comes (early clean)).free;
      kept = λ clean holds.
          commit_then old mid new (c.make_tables_of_two.ensures.kept (early clean))
          (c.move_rows.ensures.kept clean (ready clean holds) (begin_underway old.now mid.now holds (c.in-Ok.ensures.both (early clean) holds.schema) (c.in-Ok.ensures.comes (early clean))));
      same_reference = c.move_rows.ensures.same_reference ∙ c.make_tables_of_two.ensures.same_reference;
      survives = survives_both old mid new c.make_tables_of_two.ensures.survives c.move_rows.ensures.survives;
    }

pub returns-in-Err-move_rows : goal.returns-in-Err-move_rows
returns-in-Err-move_rows g c =
    let old = state g.S.Store c.args.tx.now.conn.now in
    let mid = state g.S.Store c.make_tables_of_two.new.tx.conn.now in
    let new = state g.S.Store c.move_rows.new.tx.conn.now in
    let early : HasCleanDisk new → HasCleanDisk mid = was_clean c.move_rows.ensures.survives in
    record {
      made = λ clean holds. tt;
      counted = λ clean holds. tt;
      wanting = λ clean holds. c.opening_fault.ensures.wanting;
      unnumbered = c.opening_fault.ensures.unnumbered;
      free = λ clean. tt;
      kept = λ clean holds.
          let both = c.in-Ok.ensures.both (early clean) holds.schema in
          let comes = c.in-Ok.ensures.comes (early clean) in
          let ready : IsReady InTables mid = record { inside = c.in-Ok.ensures.inside (early clean); holds = begin_holding old.now mid.now holds both comes } in
          commit_then old mid new (c.make_tables_of_two.ensures.kept (early clean)) (c.move_rows.ensures.kept clean ready (begin_underway old.now mid.now holds both comes));
      same_reference = c.move_rows.ensures.same_reference ∙ c.make_tables_of_two.ensures.same_reference;
      survives = survives_both old mid new c.make_tables_of_two.ensures.survives c.move_rows.ensures.survives;
    }

pub returns-in-Err : goal.returns-in-Err
returns-in-Err g c = record {
  made = λ clean holds. tt;
  counted = λ clean holds. tt;
  wanting = λ clean holds. c.fault_in_making.ensures.wanting (c.in-Err.ensures.unmade clean holds.schema);
  unnumbered = c.fault_in_making.ensures.unnumbered;
  free = λ clean. tt;
  kept = λ clean holds. c.make_tables_of_two.ensures.kept clean;
  same_reference = c.make_tables_of_two.ensures.same_reference;
  survives = c.make_tables_of_two.ensures.survives;
}
