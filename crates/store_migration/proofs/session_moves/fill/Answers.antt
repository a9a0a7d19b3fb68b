use Rattle.std.proofs.Common.{◌∙◌}
use Rattle.sqlite.specs.State.{HasCleanDisk}
use Rattle.sqlite.specs.Held.{state}
use Rattle.store_schema.proofs.Selects.{commit_then, survives_both}
use Rattle.store_contents.specs.Layouts.{InTables}
use Rattle.store_statements.specs.Held.{held}
use Rattle.store_statements.proofs.CleanBefore.{was_clean}
use Rattle.store_migration.proofs.SessionSteps.{sized_fresh, sized_if, start_fresh, pieced_if}
use Rattle.store_migration.proofs.session_moves.fill.Goals as goal

pub returns-in-Ok-keep : goal.returns-in-Ok-keep
returns-in-Ok-keep g c =
    let old = state g.S.Store c.args.tx.now.conn.now in
    let mid = state g.S.Store c.set_size.new.tx.conn.now in
    let late = state g.S.Store c.keep.new.tx.conn.now in
    let new = state g.S.Store c.add_piece.new.tx.conn.now in
    let clean-2 : HasCleanDisk new → HasCleanDisk late = was_clean c.add_piece.ensures.survives in
    let clean-1 : HasCleanDisk late → HasCleanDisk mid = was_clean c.keep.ensures.survives in
    record {
      filled = λ clean is fresh.
          let set = c.in-Ok.ensures.set InTables (clean-1 (clean-2 clean)) is in
          let kept = c.in-Ok-keep.ensures.content (clean-2 clean) set.0 in
          sized_if mid new (held InTables old) c.args.repo.now c.args.number c.args.bytes.now c.add_piece.result set.1
          (pieced_if mid late new c.in-Ok-keep.content.id c.args.repo.now c.args.number c.args.bytes.now c.add_piece.result kept.1
          (c.add_piece.ensures.added InTables clean kept.0 (start_fresh (held InTables mid) (held InTables late) c.args.repo.now c.args.number c.args.bytes.now c.in-Ok-keep.content.id kept.1
          (sized_fresh (held InTables old) (held InTables mid) c.args.repo.now c.args.number c.args.bytes.now set.1 fresh))));
      kept = λ clean is.
          let set = c.in-Ok.ensures.set InTables (clean-1 (clean-2 clean)) is in
          commit_then old late new (commit_then old mid late (c.set_size.ensures.kept InTables (clean-1 (clean-2 clean)) is) (c.keep.ensures.kept (clean-2 clean) set.0))
          (c.add_piece.ensures.kept InTables clean (c.in-Ok-keep.ensures.content (clean-2 clean) set.0).0);
      same_reference = c.add_piece.ensures.same_reference ∙ c.keep.ensures.same_reference ∙ c.set_size.ensures.same_reference;
      survives = survives_both old late new (survives_both old mid late c.set_size.ensures.survives c.keep.ensures.survives) c.add_piece.ensures.survives;
    }

pub returns-in-Err-keep : goal.returns-in-Err-keep
returns-in-Err-keep g c =
    let old = state g.S.Store c.args.tx.now.conn.now in
    let mid = state g.S.Store c.set_size.new.tx.conn.now in
    let new = state g.S.Store c.keep.new.tx.conn.now in
    record {
      filled = λ clean is fresh. tt;
      kept = λ clean is.
          let early : HasCleanDisk mid = was_clean c.keep.ensures.survives clean in
          commit_then old mid new (c.set_size.ensures.kept InTables early is) (c.keep.ensures.kept clean (c.in-Ok.ensures.set InTables early is).0);
      same_reference = c.keep.ensures.same_reference ∙ c.set_size.ensures.same_reference;
      survives = survives_both old mid new c.set_size.ensures.survives c.keep.ensures.survives;
    }

pub returns-in-Err : goal.returns-in-Err
returns-in-Err g c = record {
  filled = λ clean is fresh. tt;
  kept = c.set_size.ensures.kept InTables;
  same_reference = c.set_size.ensures.same_reference;
  survives = c.set_size.ensures.survives;
}
