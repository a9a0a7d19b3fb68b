use Rattle.sqlite.specs.State.{HasCleanDisk}
use Rattle.sqlite.specs.Held.{state}
use Rattle.store_schema.proofs.Selects.{commit_then, survives_both}
use Rattle.store_contents.specs.Layouts.{InPack}
use Rattle.store_writes.proofs.ContentsFreed.{still_ready}
use Rattle.store_writes.proofs.PlacesFreed.{placed_cleared_if}
use Rattle.store_statements.proofs.CleanBefore.{was_clean}
use Rattle.std.proofs.Common.{◌∙◌}
use Rattle.std.proofs.lemmas.Result.{IfOk-from_err}
use Rattle.store_writes.proofs.pack_clearing.clear_placed.Goals as goal

pub returns-in_err-ids : goal.returns-in_err-ids
returns-in_err-ids g c = record {
  cleared = λ file clean is. IfOk-from_err c.from_residual.result _ c.from_residual.ensures.0;
  kept = λ file. c.unnamed.ensures.kept (InPack file);
  same_reference = c.unnamed.ensures.same_reference;
  survives = c.unnamed.ensures.survives;
}

pub returns : goal.returns
returns g c =
    let s0 = state g.S.Store c.args.tx.now.conn.now in
    let s1 = state g.S.Store c.unnamed.new.tx.conn.now in
    let s2 = state g.S.Store c.take_all_placed.new.tx.conn.now in
    let clean-1 : HasCleanDisk s2 → HasCleanDisk s1 = was_clean c.take_all_placed.ensures.survives in
    record {
      cleared = λ file clean is.
          let same = c.in_ok-ids.ensures.same (InPack file) (clean-1 clean) is in
          placed_cleared_if file s0 s1 s2 c.in_ok-ids.ids.items c.take_all_placed.result is same (c.in_ok-ids.ensures.unnamed (InPack file) (clean-1 clean) is)
          (rw c.deref.ensures.value at (c.take_all_placed.ensures.taken file clean (still_ready s0 s1 is same)));
      kept = λ file clean is.
          commit_then s0 s1 s2 (c.unnamed.ensures.kept (InPack file) (clean-1 clean) is) (c.take_all_placed.ensures.kept file clean (still_ready s0 s1 is (c.in_ok-ids.ensures.same (InPack file) (clean-1 clean) is)));
      same_reference = c.take_all_placed.ensures.same_reference ∙ c.unnamed.ensures.same_reference;
      survives = survives_both s0 s1 s2 c.unnamed.ensures.survives c.take_all_placed.ensures.survives;
    }
