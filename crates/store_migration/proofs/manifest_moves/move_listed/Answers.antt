use Rattle.std.proofs.Common.{◌∙◌, ◌<◌, ◌+◌, List, length, take, arith, refl, ap, ap₂, subst}
use Rattle.std.proofs.lemmas.Result.{IfOk-from_err}
use Rattle.std.proofs.lemmas.List.{take_all}
use Rattle.sqlite.specs.Order.{Row}
use Rattle.sqlite.specs.Held.{state}
use Rattle.store_schema.proofs.Selects.{survives_both}
use Rattle.store_contents.specs.Layouts.{InTables}
use Rattle.store_statements.specs.Held.{held}
use Rattle.store_migration.specs.Moving.{Moves, without_manifest, without_listed_manifests}
use Rattle.store_migration.proofs.ListedMoves.{none_moved, one_moved, stopped, key_more}
use Rattle.store_migration.proofs.manifest_moves.move_listed.Goals as goal

pub loop-key-init : goal.loop-key-init
loop-key-init g c = record { moved = none_moved (without_listed_manifests (take 0 c.args.keys.now)) (state g.S.Store c.args.tx.now.conn.now) refl; done = refl; same_reference = refl }

pub loop-key-preserved : goal.loop-key-preserved
loop-key-preserved g c =
    let low : c.loop-key.key-index < length c.args.keys.now = omega arith in
    let key = c.key-item.result in
    record {
      moved = one_moved (without_listed_manifests (take c.loop-key.key-index c.args.keys.now)) (without_manifest c.deref.result.now c.deref-in-loop-key.result.now) (without_listed_manifests (take (c.loop-key.key-index + 1) c.args.keys.now))
          (state g.S.Store c.args.tx.now.conn.now) (state g.S.Store c.loop-key.tx.conn.now) (state g.S.Store c.move_manifest.new.tx.conn.now)
          (λ old.
          ap₂ (λ repo digest. without_manifest repo digest (without_listed_manifests (take c.loop-key.key-index c.args.keys.now) old)) c.deref.ensures c.deref-in-loop-key.ensures
          ∙ ap (λ (rows : List Row). record old { manifests = rows }) (key_more c.args.keys.now c.loop-key.key-index key old.manifests low c.key-item.is))
          c.loop-key.invariant.moved c.in_ok-move_manifest.ensures.moved c.move_manifest.ensures.kept c.move_manifest.ensures.survives;
      done = omega (arith, c.loop-key.invariant.done);
      same_reference = c.move_manifest.ensures.same_reference ∙ c.loop-key.invariant.same_reference;
    }

pub returns : goal.returns
returns g c = record {
  moved = λ clean is under.
      let it = c.loop-key.invariant.moved.moved clean is under in
      (it.0, subst (λ keys. Moves (without_listed_manifests keys) (held InTables (state g.S.Store c.args.tx.now.conn.now)) (held InTables (state g.S.Store c.loop-key.tx.conn.now))) (take_all c.loop-key.key-index c.args.keys.now (omega arith)) it.1);
  counted = omega (arith, c.loop-key.invariant.done);
  kept = c.loop-key.invariant.moved.kept;
  same_reference = c.loop-key.invariant.same_reference;
  survives = c.loop-key.invariant.moved.survives;
}

pub returns-in_err-move_manifest : goal.returns-in_err-move_manifest
returns-in_err-move_manifest g c = record {
  moved = λ clean is under. IfOk-from_err c.from_residual.result _ c.from_residual.ensures.0;
  counted = IfOk-from_err c.from_residual.result _ c.from_residual.ensures.0;
  kept = stopped (without_listed_manifests (take c.loop-key.key-index c.args.keys.now)) (state g.S.Store c.args.tx.now.conn.now) (state g.S.Store c.loop-key.tx.conn.now) (state g.S.Store c.move_manifest.new.tx.conn.now) c.loop-key.invariant.moved c.move_manifest.ensures.kept c.move_manifest.ensures.survives;
  same_reference = c.move_manifest.ensures.same_reference ∙ c.loop-key.invariant.same_reference;
  survives = survives_both (state g.S.Store c.args.tx.now.conn.now) (state g.S.Store c.loop-key.tx.conn.now) (state g.S.Store c.move_manifest.new.tx.conn.now) c.loop-key.invariant.moved.survives c.move_manifest.ensures.survives;
}
