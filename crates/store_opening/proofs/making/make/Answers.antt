use Rattle.std.proofs.Common.{◌∙◌}
use Rattle.sqlite.specs.State.{HasCleanDisk}
use Rattle.sqlite.specs.Held.{state}
use Rattle.store_opening.proofs.FreshTables.{then_new}
use Rattle.store_schema.proofs.Selects.{commit_then, survives_both}
use Rattle.store_opening.proofs.OpeningLemmas.{on_ok, wanting_unnumbered}
use Rattle.store_statements.proofs.CleanBefore.{was_clean}
use Rattle.store_opening.proofs.making.make.Goals as goal

pub returns-in-Ok : goal.returns-in-Ok
returns-in-Ok g c = record {
  made = λ clean empty.
      let mid : HasCleanDisk (state g.S.Store c.make_tables.new.tx.conn.now) = was_clean c.add_version.ensures.survives clean in
      then_new (state g.S.Store c.make_tables.new.tx.conn.now) (state g.S.Store c.add_version.new.tx.conn.now) c.add_version.result (c.in-Ok.ensures.inside mid) (c.in-Ok.ensures.made mid empty) (λ ready. c.add_version.ensures.added clean ready);
  wanting = λ clean empty. c.add_version.ensures.wanting;
  unnumbered = wanting_unnumbered c.add_version.result c.add_version.ensures.wanting;
  free = λ clean.
      let mid : HasCleanDisk (state g.S.Store c.make_tables.new.tx.conn.now) = was_clean c.add_version.ensures.survives clean in
      on_ok c.add_version.result _ (c.in-Ok.ensures.comes mid).free;
  beside = λ clean.
      let mid : HasCleanDisk (state g.S.Store c.make_tables.new.tx.conn.now) = was_clean c.add_version.ensures.survives clean in
      c.add_version.ensures.beside clean (state g.S.Store c.args.tx.now.conn.now).now (c.in-Ok.ensures.comes mid);
  inside = c.add_version.ensures.inside;
  kept = λ clean.
      let mid : HasCleanDisk (state g.S.Store c.make_tables.new.tx.conn.now) = was_clean c.add_version.ensures.survives clean in
      commit_then (state g.S.Store c.args.tx.now.conn.now) (state g.S.Store c.make_tables.new.tx.conn.now) (state g.S.Store c.add_version.new.tx.conn.now) (c.make_tables.ensures.kept mid) (c.add_version.ensures.kept clean);
  same_reference = c.add_version.ensures.same_reference ∙ c.make_tables.ensures.same_reference;
  survives = survives_both (state g.S.Store c.args.tx.now.conn.now) (state g.S.Store c.make_tables.new.tx.conn.now) (state g.S.Store c.add_version.new.tx.conn.now) c.make_tables.ensures.survives c.add_version.ensures.survives;
}

pub returns-in-Err : goal.returns-in-Err
returns-in-Err g c = record {
  made = λ clean empty. tt;
  wanting = λ clean empty. c.fault_in_making.ensures.wanting (c.in-Err.ensures.unmade clean empty);
  unnumbered = c.fault_in_making.ensures.unnumbered;
  free = λ clean. tt;
  beside = λ clean. tt;
  inside = λ clean. tt;
  kept = c.make_tables.ensures.kept;
  same_reference = c.make_tables.ensures.same_reference;
  survives = c.make_tables.ensures.survives;
}
