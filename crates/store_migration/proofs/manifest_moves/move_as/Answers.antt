use Rattle.std.proofs.Common.{◌∙◌}
use Rattle.std.specs.Prelude.{option_map}
use Rattle.sqlite.specs.State.{HasCleanDisk}
use Rattle.sqlite.specs.Held.{state}
use Rattle.store_schema.proofs.Selects.{commit_then, survives_both}
use Rattle.store_contents.specs.Layouts.{InTables}
use Rattle.store_statements.specs.Held.{held}
use Rattle.store_statements.proofs.CleanBefore.{was_clean}
use Rattle.store_migration.proofs.ManifestSteps.{free_after, moved_then}
use Rattle.store_migration.proofs.manifest_moves.move_as.Goals as goal

pub returns-in-Ok-add_manifest_link : goal.returns-in-Ok-add_manifest_link
returns-in-Ok-add_manifest_link g c =
    let old = state g.S.Store c.args.tx.now.conn.now in
    let mid = state g.S.Store c.keep.new.tx.conn.now in
    let late = state g.S.Store c.add_manifest_link.new.tx.conn.now in
    let new = state g.S.Store c.take_manifest.new.tx.conn.now in
    let clean-2 : HasCleanDisk new → HasCleanDisk late = was_clean c.take_manifest.ensures.survives in
    let clean-1 : HasCleanDisk late → HasCleanDisk mid = was_clean c.add_manifest_link.ensures.survives in
    record {
      moved = λ clean is under found.
          let kept = c.in-Ok.ensures.content (clean-1 (clean-2 clean)) is in
          moved_then old mid late new c.in-Ok.content.id c.args.repo.now c.args.digest.now c.args.bytes.now c.args.kind (option_map (λ text. text.now) c.args.subject) c.take_manifest.result c.requires.of_kind c.requires.of_subject under found kept.1
          (c.in-Ok-add_manifest_link.ensures.added InTables (clean-2 clean) kept.0 (free_after (held InTables old) (held InTables mid) c.args.repo.now c.args.digest.now c.args.bytes.now c.in-Ok.content.id under found kept.1)) (c.take_manifest.ensures.taken clean);
      kept = λ clean is under found.
          let kept = c.in-Ok.ensures.content (clean-1 (clean-2 clean)) is in
          let came = c.in-Ok-add_manifest_link.ensures.added InTables (clean-2 clean) kept.0 (free_after (held InTables old) (held InTables mid) c.args.repo.now c.args.digest.now c.args.bytes.now c.in-Ok.content.id under found kept.1) in
          commit_then old late new (commit_then old mid late (c.keep.ensures.kept (clean-1 (clean-2 clean)) is) (c.add_manifest_link.ensures.kept InTables (clean-2 clean) kept.0)) (c.take_manifest.ensures.kept clean came.ready);
      same_reference = c.take_manifest.ensures.same_reference ∙ c.add_manifest_link.ensures.same_reference ∙ c.keep.ensures.same_reference;
      survives = survives_both old late new (survives_both old mid late c.keep.ensures.survives c.add_manifest_link.ensures.survives) c.take_manifest.ensures.survives;
    }

pub returns-in-Err-add_manifest_link : goal.returns-in-Err-add_manifest_link
returns-in-Err-add_manifest_link g c =
    let old = state g.S.Store c.args.tx.now.conn.now in
    let mid = state g.S.Store c.keep.new.tx.conn.now in
    let new = state g.S.Store c.add_manifest_link.new.tx.conn.now in
    record {
      moved = λ clean is under found. tt;
      kept = λ clean is under found.
          let early : HasCleanDisk mid = was_clean c.add_manifest_link.ensures.survives clean in
          commit_then old mid new (c.keep.ensures.kept early is) (c.add_manifest_link.ensures.kept InTables clean (c.in-Ok.ensures.content early is).0);
      same_reference = c.add_manifest_link.ensures.same_reference ∙ c.keep.ensures.same_reference;
      survives = survives_both old mid new c.keep.ensures.survives c.add_manifest_link.ensures.survives;
    }

pub returns-in-Err : goal.returns-in-Err
returns-in-Err g c = record {
  moved = λ clean is under found. tt;
  kept = λ clean is under found. c.keep.ensures.kept clean is;
  same_reference = c.keep.ensures.same_reference;
  survives = c.keep.ensures.survives;
}
