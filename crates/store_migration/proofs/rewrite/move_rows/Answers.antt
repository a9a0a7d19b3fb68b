use Rattle.std.proofs.Common.{◌∙◌, refl}
use Rattle.std.proofs.lemmas.Result.{IfOk-from_err}
use Rattle.sqlite.specs.State.{HasCleanDisk}
use Rattle.sqlite.specs.Held.{state}
use Rattle.store_schema.proofs.Selects.{commit_then, survives_both}
use Rattle.store_contents.specs.Layouts.{InTables}
use Rattle.store_statements.specs.Held.{held}
use Rattle.store_statements.proofs.CleanBefore.{was_clean}
use Rattle.store_migration.specs.OldTables.{OldTables}
use Rattle.store_migration.specs.Moving.{without_blobs, without_manifests, without_sessions}
use Rattle.store_migration.proofs.ListedMoves.{MovedSoFar, one_moved, stopped}
use Rattle.store_migration.proofs.Finishes.{without_rows, rewritten, all_counted}
use Rattle.store_migration.proofs.rewrite.move_rows.Goals as goal

pub returns-in_err-blobs : goal.returns-in_err-blobs
returns-in_err-blobs g c = record {
  moved = λ clean is under. IfOk-from_err c.from_residual.result _ c.from_residual.ensures.0;
  counted = λ clean is under. IfOk-from_err c.from_residual.result _ c.from_residual.ensures.0;
  kept = c.move_blobs.ensures.kept;
  same_reference = c.move_blobs.ensures.same_reference;
  survives = c.move_blobs.ensures.survives;
}

pub returns-in_err-manifests : goal.returns-in_err-manifests
returns-in_err-manifests g c =
    let first = state g.S.Store c.args.tx.now.conn.now in
    let mid = state g.S.Store c.move_blobs.new.tx.conn.now in
    let new = state g.S.Store c.move_manifests.new.tx.conn.now in
    record {
      moved = λ clean is under. IfOk-from_err c.from_residual-in_err-manifests.result _ c.from_residual-in_err-manifests.ensures.0;
      counted = λ clean is under. IfOk-from_err c.from_residual-in_err-manifests.result _ c.from_residual-in_err-manifests.ensures.0;
      kept = stopped without_blobs first mid new (record { moved = c.in_ok-blobs.ensures.moved; kept = c.move_blobs.ensures.kept; survives = c.move_blobs.ensures.survives }) c.move_manifests.ensures.kept c.move_manifests.ensures.survives;
      same_reference = c.move_manifests.ensures.same_reference ∙ c.move_blobs.ensures.same_reference;
      survives = survives_both first mid new c.move_blobs.ensures.survives c.move_manifests.ensures.survives;
    }

pub returns-in_err-sessions : goal.returns-in_err-sessions
returns-in_err-sessions g c =
    let first = state g.S.Store c.args.tx.now.conn.now in
    let mid = state g.S.Store c.move_manifests.new.tx.conn.now in
    let new = state g.S.Store c.move_sessions.new.tx.conn.now in
    let m1 : MovedSoFar without_blobs first (state g.S.Store c.move_blobs.new.tx.conn.now) = record { moved = c.in_ok-blobs.ensures.moved; kept = c.move_blobs.ensures.kept; survives = c.move_blobs.ensures.survives } in
    let m2 : MovedSoFar (λ (old : OldTables). without_manifests (without_blobs old)) first mid =
    one_moved without_blobs without_manifests (λ old. without_manifests (without_blobs old)) first (state g.S.Store c.move_blobs.new.tx.conn.now) mid (λ old. refl) m1 c.in_ok-manifests.ensures.moved c.move_manifests.ensures.kept c.move_manifests.ensures.survives in
    record {
      moved = λ clean is under. IfOk-from_err c.from_residual-in_err-sessions.result _ c.from_residual-in_err-sessions.ensures.0;
      counted = λ clean is under. IfOk-from_err c.from_residual-in_err-sessions.result _ c.from_residual-in_err-sessions.ensures.0;
      kept = stopped (λ old. without_manifests (without_blobs old)) first mid new m2 c.move_sessions.ensures.kept c.move_sessions.ensures.survives;
      same_reference = c.move_sessions.ensures.same_reference ∙ c.move_manifests.ensures.same_reference ∙ c.move_blobs.ensures.same_reference;
      survives = survives_both first mid new m2.survives c.move_sessions.ensures.survives;
    }

pub returns-in-Ok : goal.returns-in-Ok
returns-in-Ok g c =
    let first = state g.S.Store c.args.tx.now.conn.now in
    let second = state g.S.Store c.move_blobs.new.tx.conn.now in
    let third = state g.S.Store c.move_manifests.new.tx.conn.now in
    let last = state g.S.Store c.move_sessions.new.tx.conn.now in
    let new = state g.S.Store c.raise_version.new.tx.conn.now in
    let m1 : MovedSoFar without_blobs first second = record { moved = c.in_ok-blobs.ensures.moved; kept = c.move_blobs.ensures.kept; survives = c.move_blobs.ensures.survives } in
    let m2 : MovedSoFar (λ (old : OldTables). without_manifests (without_blobs old)) first third =
    one_moved without_blobs without_manifests (λ old. without_manifests (without_blobs old)) first second third (λ old. refl) m1 c.in_ok-manifests.ensures.moved c.move_manifests.ensures.kept c.move_manifests.ensures.survives in
    let m3 : MovedSoFar without_rows first last =
    one_moved (λ old. without_manifests (without_blobs old)) without_sessions without_rows first third last (λ old. refl) m2 c.in_ok-sessions.ensures.moved c.move_sessions.ensures.kept c.move_sessions.ensures.survives in
    let early : HasCleanDisk new → HasCleanDisk last = was_clean c.raise_version.ensures.survives in
    record {
      moved = λ clean is under.
          let it = m3.moved (early clean) is under in
          rewritten first last it.1 new (c.in-Ok.ensures.raised clean it.0 it.1.underway.olds it.1.underway.both.version);
      counted = λ clean is under.
          let on_third : HasCleanDisk third = was_clean c.move_sessions.ensures.survives (early clean) in
          let on_second : HasCleanDisk second = was_clean c.move_manifests.ensures.survives on_third in
          let it1 = m1.moved on_second is under in
          let it2 = m2.moved on_third is under in
          let step = c.in_ok-manifests.ensures.moved on_third it1.0 it1.1.underway in
          all_counted (held InTables first) (held InTables second) (held InTables third) c.in_ok-blobs.blobs c.in_ok-manifests.manifests c.in_ok-sessions.sessions it1.1 step.1
          (c.in_ok-blobs.ensures.counted on_second is under) (c.in_ok-manifests.ensures.counted on_third it1.0 it1.1.underway) (c.in_ok-sessions.ensures.counted (early clean) it2.0 it2.1.underway);
      kept = λ clean is under. commit_then first last new (m3.kept (early clean) is under) (c.raise_version.ensures.kept clean (m3.moved (early clean) is under).0);
      same_reference = c.raise_version.ensures.same_reference ∙ c.move_sessions.ensures.same_reference ∙ c.move_manifests.ensures.same_reference ∙ c.move_blobs.ensures.same_reference;
      survives = survives_both first last new m3.survives c.raise_version.ensures.survives;
    }

pub returns-in-Err : goal.returns-in-Err
returns-in-Err g c =
    let first = state g.S.Store c.args.tx.now.conn.now in
    let second = state g.S.Store c.move_blobs.new.tx.conn.now in
    let third = state g.S.Store c.move_manifests.new.tx.conn.now in
    let last = state g.S.Store c.move_sessions.new.tx.conn.now in
    let new = state g.S.Store c.raise_version.new.tx.conn.now in
    let m1 : MovedSoFar without_blobs first second = record { moved = c.in_ok-blobs.ensures.moved; kept = c.move_blobs.ensures.kept; survives = c.move_blobs.ensures.survives } in
    let m2 : MovedSoFar (λ (old : OldTables). without_manifests (without_blobs old)) first third =
    one_moved without_blobs without_manifests (λ old. without_manifests (without_blobs old)) first second third (λ old. refl) m1 c.in_ok-manifests.ensures.moved c.move_manifests.ensures.kept c.move_manifests.ensures.survives in
    let m3 : MovedSoFar without_rows first last =
    one_moved (λ old. without_manifests (without_blobs old)) without_sessions without_rows first third last (λ old. refl) m2 c.in_ok-sessions.ensures.moved c.move_sessions.ensures.kept c.move_sessions.ensures.survives in
    let early : HasCleanDisk new → HasCleanDisk last = was_clean c.raise_version.ensures.survives in
    record {
      moved = λ clean is under. tt;
      counted = λ clean is under. tt;
      kept = λ clean is under. commit_then first last new (m3.kept (early clean) is under) (c.raise_version.ensures.kept clean (m3.moved (early clean) is under).0);
      same_reference = c.raise_version.ensures.same_reference ∙ c.move_sessions.ensures.same_reference ∙ c.move_manifests.ensures.same_reference ∙ c.move_blobs.ensures.same_reference;
      survives = survives_both first last new m3.survives c.raise_version.ensures.survives;
    }
