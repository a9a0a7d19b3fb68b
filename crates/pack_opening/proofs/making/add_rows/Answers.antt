use Rattle.std.proofs.Common.{◌∙◌}
use Rattle.sqlite.specs.Held.{state}
use Rattle.sqlite.specs.State.{HasCleanDisk}
use Rattle.store_schema.proofs.Selects.{commit_then, survives_both}
use Rattle.store_statements.proofs.CleanBefore.{was_clean}
use Rattle.pack_opening.proofs.making.add_rows.Goals as goal

pub returns-in-Ok : goal.returns-in-Ok
returns-in-Ok g c =
    let old = state g.S.Store c.args.tx.now.conn.now in
    let mid = state g.S.Store c.add_version.new.tx.conn.now in
    let new = state g.S.Store c.add_pack.new.tx.conn.now in
    record {
      added = λ clean it.
          let early : HasCleanDisk mid = was_clean c.add_pack.ensures.survives clean in
          c.add_pack.ensures.added clean (c.in-Ok.ensures.added early it);
      wanting = c.add_pack.ensures.wanting;
      inside = λ clean it.
          let early : HasCleanDisk mid = was_clean c.add_pack.ensures.survives clean in
          c.add_pack.ensures.inside clean (c.in-Ok.ensures.added early it);
      kept = λ clean it.
          let early : HasCleanDisk mid = was_clean c.add_pack.ensures.survives clean in
          commit_then old mid new (c.add_version.ensures.kept early) (c.add_pack.ensures.kept clean (c.in-Ok.ensures.added early it));
      same_reference = c.add_pack.ensures.same_reference ∙ c.add_version.ensures.same_reference;
      survives = survives_both old mid new c.add_version.ensures.survives c.add_pack.ensures.survives;
    }

pub returns-in-Err : goal.returns-in-Err
returns-in-Err g c = record {
  added = λ clean it. tt;
  wanting = c.in-Err.ensures.wanting;
  inside = λ clean it. tt;
  kept = λ clean it. c.add_version.ensures.kept clean;
  same_reference = c.add_version.ensures.same_reference;
  survives = c.add_version.ensures.survives;
}
