use Rattle.std.proofs.Common.{◌∙◌, refl, sym, ap}
use Rattle.sqlite.specs.Held.{state}
use Rattle.registry_model.specs.Manifests.{kind_or_image}
use Rattle.registry_model.specs.Referrers.{subject_or_none}
use Rattle.store_migration.proofs.Underway.{keeps_still, survives_still}
use Rattle.store_migration.proofs.manifest_moves.move_found.Goals as goal

pub move_as-requires : goal.move_as-requires
move_as-requires g c = record {
  fits = c.requires.fits;
  of_kind = sym (ap kind_or_image c.in-Ok.ensures.exact);
  of_subject = c.subject_of-subject.ensures ∙ sym (ap subject_or_none c.in-Ok.ensures.exact);
}

pub returns-in-Ok : goal.returns-in-Ok
returns-in-Ok g c = record {
  moved = c.move_as.ensures.moved;
  kept = c.move_as.ensures.kept;
  same_reference = c.move_as.ensures.same_reference;
  survives = c.move_as.ensures.survives;
}

pub returns-in-Err : goal.returns-in-Err
returns-in-Err g c = record {
  moved = c.move_as-in-Err.ensures.moved;
  kept = c.move_as-in-Err.ensures.kept;
  same_reference = c.move_as-in-Err.ensures.same_reference;
  survives = c.move_as-in-Err.ensures.survives;
}

pub returns-in-Err-Memory : goal.returns-in-Err-Memory
returns-in-Err-Memory g c = record {
  moved = λ clean is under found. tt;
  kept = λ clean is under found. keeps_still (state g.S.Store c.args.tx.now.conn.now);
  same_reference = refl;
  survives = survives_still (state g.S.Store c.args.tx.now.conn.now);
}
