use Rattle.sqlite.specs.Held.{state}
use Rattle.sqlite.specs.State.{HasCleanDisk}
use Rattle.store_statements.proofs.CleanBefore.{was_clean}
use Rattle.pack_opening.proofs.NewPack.{is_filled, no_packs}
use Rattle.pack_opening.proofs.MakingLemmas.{inside_of}
use Rattle.pack_opening.proofs.making.add_pack.Goals as goal

pub returns-in-Ok : goal.returns-in-Ok
returns-in-Ok g c =
    let old = state g.S.Store c.args.tx.now.conn.now in
    let new = state g.S.Store c.put_pack_row.new.tx.conn.now in
    record {
      added = λ clean it.
          let early : HasCleanDisk old = was_clean c.put_pack_row.ensures.survives clean in
          let put = c.in-Ok.ensures.put clean (inside_of old (c.requires.begun early) it) (no_packs old.now it) in
          is_filled old.now new.now c.args.mark.now it put.0 put.1.holds;
      wanting = tt;
      inside = λ clean it.
          let early : HasCleanDisk old = was_clean c.put_pack_row.ensures.survives clean in
          (c.in-Ok.ensures.put clean (inside_of old (c.requires.begun early) it) (no_packs old.now it)).1.inside;
      kept = λ clean it.
          let early : HasCleanDisk old = was_clean c.put_pack_row.ensures.survives clean in
          c.put_pack_row.ensures.kept clean (inside_of old (c.requires.begun early) it);
      same_reference = c.put_pack_row.ensures.same_reference;
      survives = c.put_pack_row.ensures.survives;
    }

pub returns-in-Err : goal.returns-in-Err
returns-in-Err g c =
    let old = state g.S.Store c.args.tx.now.conn.now in
    record {
      added = λ clean it. tt;
      wanting = c.fault_in_rows.ensures;
      inside = λ clean it. tt;
      kept = λ clean it.
          let early : HasCleanDisk old = was_clean c.put_pack_row.ensures.survives clean in
          c.put_pack_row.ensures.kept clean (inside_of old (c.requires.begun early) it);
      same_reference = c.put_pack_row.ensures.same_reference;
      survives = c.put_pack_row.ensures.survives;
    }
