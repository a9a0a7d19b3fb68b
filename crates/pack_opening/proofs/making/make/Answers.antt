use Rattle.std.proofs.Common.{◌∙◌}
use Rattle.sqlite.specs.Held.{state}
use Rattle.sqlite.specs.State.{HasCleanDisk}
use Rattle.store_schema.proofs.Selects.{commit_then, survives_both}
use Rattle.store_statements.proofs.CleanBefore.{was_clean}
use Rattle.store_opening.proofs.OpeningLemmas.{wanting_unnumbered}
use Rattle.pack_opening.proofs.making.make.Goals as goal

pub returns-in-Ok : goal.returns-in-Ok
returns-in-Ok g c =
    let old = state g.S.Store c.args.tx.now.conn.now in
    let mid = state g.S.Store c.make_tables_of_pack.new.tx.conn.now in
    let new = state g.S.Store c.add_rows.new.tx.conn.now in
    record {
      made = λ clean empty.
          let early : HasCleanDisk mid = was_clean c.add_rows.ensures.survives clean in
          c.add_rows.ensures.added clean (c.in-Ok.ensures.made early empty);
      wanting = λ clean empty. c.add_rows.ensures.wanting;
      unnumbered = wanting_unnumbered c.add_rows.result c.add_rows.ensures.wanting;
      inside = λ clean empty.
          let early : HasCleanDisk mid = was_clean c.add_rows.ensures.survives clean in
          c.add_rows.ensures.inside clean (c.in-Ok.ensures.made early empty);
      kept = λ clean empty.
          let early : HasCleanDisk mid = was_clean c.add_rows.ensures.survives clean in
          commit_then old mid new (c.make_tables_of_pack.ensures.kept early) (c.add_rows.ensures.kept clean (c.in-Ok.ensures.made early empty));
      same_reference = c.add_rows.ensures.same_reference ∙ c.make_tables_of_pack.ensures.same_reference;
      survives = survives_both old mid new c.make_tables_of_pack.ensures.survives c.add_rows.ensures.survives;
    }

pub returns-in-Err : goal.returns-in-Err
returns-in-Err g c = record {
  made = λ clean empty. tt;
  wanting = λ clean empty. c.fault_in_making.ensures.wanting (c.in-Err.ensures.unmade clean empty);
  unnumbered = c.fault_in_making.ensures.unnumbered;
  inside = λ clean empty. tt;
  kept = λ clean empty. c.make_tables_of_pack.ensures.kept clean;
  same_reference = c.make_tables_of_pack.ensures.same_reference;
  survives = c.make_tables_of_pack.ensures.survives;
}
