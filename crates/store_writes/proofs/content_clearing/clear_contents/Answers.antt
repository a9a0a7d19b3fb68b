use Rattle.sqlite.specs.State.{HasCleanDisk}
use Rattle.sqlite.specs.Held.{state}
use Rattle.store_schema.proofs.Selects.{commit_then, survives_both}
use Rattle.store_contents.specs.Layouts.{InTables}
use Rattle.store_writes.proofs.ContentsFreed.{still_ready, cleared_if}
use Rattle.store_statements.proofs.CleanBefore.{was_clean}
use Rattle.std.proofs.Common.{◌∙◌}
use Rattle.std.proofs.lemmas.Result.{IfOk-from_err}
use Rattle.store_writes.proofs.content_clearing.clear_contents.Goals as goal

pub returns-in_err-ids : goal.returns-in_err-ids
returns-in_err-ids g c = record {
  cleared = λ clean is. IfOk-from_err c.from_residual.result _ c.from_residual.ensures.0;
  kept = c.unnamed.ensures.kept InTables;
  same_reference = c.unnamed.ensures.same_reference;
  survives = c.unnamed.ensures.survives;
}

pub returns : goal.returns
returns g c =
    let s0 = state g.S.Store c.args.tx.now.conn.now in
    let s1 = state g.S.Store c.unnamed.new.tx.conn.now in
    let s2 = state g.S.Store c.take_contents.new.tx.conn.now in
    let clean-1 : HasCleanDisk s2 → HasCleanDisk s1 = was_clean c.take_contents.ensures.survives in
    record {
      cleared = λ clean is.
          let same = c.in_ok-ids.ensures.same InTables (clean-1 clean) is in
          cleared_if s0 s1 s2 c.in_ok-ids.ids.items c.take_contents.result is same (c.in_ok-ids.ensures.unnamed InTables (clean-1 clean) is)
          (rw c.deref.ensures.value at (c.take_contents.ensures.taken clean (still_ready s0 s1 is same)));
      kept = λ clean is.
          commit_then s0 s1 s2 (c.unnamed.ensures.kept InTables (clean-1 clean) is) (c.take_contents.ensures.kept clean (still_ready s0 s1 is (c.in_ok-ids.ensures.same InTables (clean-1 clean) is)));
      same_reference = c.take_contents.ensures.same_reference ∙ c.unnamed.ensures.same_reference;
      survives = survives_both s0 s1 s2 c.unnamed.ensures.survives c.take_contents.ensures.survives;
    }
