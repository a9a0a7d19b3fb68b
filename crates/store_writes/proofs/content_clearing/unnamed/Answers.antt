use Rattle.sqlite.specs.State.{HasCleanDisk}
use Rattle.sqlite.specs.Held.{state}
use Rattle.sqlite.proofs.Callers.{unchanged_then}
use Rattle.store_schema.proofs.Selects.{commit_then, survives_both}
use Rattle.store_writes.proofs.ContentsFreed.{still_ready, unnamed_if}
use Rattle.store_statements.proofs.CleanBefore.{was_clean}
use Rattle.std.proofs.Common.{◌∙◌}
use Rattle.std.proofs.lemmas.Result.{IfOk-from_err, on_ok_weaker}
use Rattle.store_writes.proofs.content_clearing.unnamed.Goals as goal

pub returns-in_err-add_named : goal.returns-in_err-add_named
returns-in_err-add_named g c = record {
  unnamed = λ l clean is. IfOk-from_err c.from_residual.result _ c.from_residual.ensures.0;
  same = λ l clean is. IfOk-from_err c.from_residual.result _ c.from_residual.ensures.0;
  kept = c.add_named.ensures.kept;
  same_reference = c.add_named.ensures.same_reference;
  survives = c.add_named.ensures.survives;
}

pub returns : goal.returns
returns g c =
    let s0 = state g.S.Store c.args.tx.now.conn.now in
    let s1 = state g.S.Store c.add_named.new.tx.conn.now in
    let s2 = state g.S.Store c.unlinked.new.tx.conn.now in
    let clean-1 : HasCleanDisk s2 → HasCleanDisk s1 = was_clean c.unlinked.ensures.survives in
    record {
      unnamed = λ l clean is.
          let same = c.in_ok-add_named.ensures.same l (clean-1 clean) is in
          unnamed_if l s0 s1 c.add_named.new.set c.unlinked.result same (c.in_ok-add_named.ensures.named l (clean-1 clean) is c.new-set.ensures.empty)
          (c.unlinked.ensures.ids l clean (still_ready s0 s1 is same).holds.contents);
      same = λ l clean is.
          let same = c.in_ok-add_named.ensures.same l (clean-1 clean) is in
          on_ok_weaker c.unlinked.result (λ then. unchanged_then s0 s1 s2 same then) (c.unlinked.ensures.same l clean (still_ready s0 s1 is same).holds.contents);
      kept = λ l clean is.
          let ready = still_ready s0 s1 is (c.in_ok-add_named.ensures.same l (clean-1 clean) is) in
          commit_then s0 s1 s2 (c.add_named.ensures.kept l (clean-1 clean) is) (c.unlinked.ensures.kept l clean ready.holds.contents);
      same_reference = c.unlinked.ensures.same_reference ∙ c.add_named.ensures.same_reference;
      survives = survives_both s0 s1 s2 c.add_named.ensures.survives c.unlinked.ensures.survives;
    }
