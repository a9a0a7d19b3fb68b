use Rattle.std.proofs.Common.{◌∙◌, refl, sym, ap, arith}
use Rattle.std.specs.Prelude.{Option, is_some}
use Rattle.sqlite.specs.State.{HasCleanDisk}
use Rattle.sqlite.specs.Held.{state}
use Rattle.store_statements.specs.declared.blobs.BlobLink.{BlobLink}
use Rattle.store_statements.proofs.SettledAfter.{stays_then}
use Rattle.store_statements.proofs.Transactions.{survives_all}
use Rattle.store_writes.proofs.KnownEnds.{done, still_known, end_told, ends_done, ends_failed, ends_kept, ends_undone}
use Rattle.store_statements.proofs.WritesAfterReads.{memory_told}
use Rattle.store_statements.proofs.CleanBefore.{was_clean}
use Rattle.store_statements.proofs.Checks.{never_done}
use Rattle.store_statements.proofs.Checks.{survives_here}
use Rattle.store_statements.proofs.Crashes.{back_from, kept_stayed}
use Rattle.store_statements.specs.PlaceChanges.{KeepsPlaces}
use Rattle.store_writes.proofs.ContentsStay.{from_read, places_read, same_from, same_read}
use Rattle.store_writes.proofs.known_finish.finish_known.Goals as goal

pub returns-then-number-gt-LARGEST : goal.returns-then-number-gt-LARGEST
returns-then-number-gt-LARGEST g c = record {
  made = λ l kind clean is. (is, refl);
  known = λ l kind fits clean is. absurd (omega (arith, fits, c.if-number-gt-LARGEST.true));
  ended = λ l kind clean is. tt;
  memory = λ l kind clean is memory. absurd (never_done memory);
  back = λ l kind clean is. tt;
  crash = λ l kind clean is. ends_kept l g.S.Store c.args.conn.now c.args.conn.now c.args.repo.now c.args.number c.args.digest.now is (kept_stayed g.S.Store g.met.S.Store.settled c.args.conn.now c.args.conn.now is (is, refl));
  stays = λ l kind clean is. refl;
  places = λ l kind clean is. record { places = refl; packs = refl };
  survives = survives_here (state g.S.Store c.args.conn.now);
}

pub returns-in-Ok : goal.returns-in-Ok
returns-in-Ok g c = record {
  made = λ l kind clean is.
      let mid = state g.S.Store c.find_known.new.conn in
      let late : HasCleanDisk mid = was_clean c.finish_whole.ensures.survives clean in
      rw (c.as_str-repo.ensures.text, c.as_str-digest.ensures.text) at (done (state g.S.Store c.args.conn.now) mid (state g.S.Store c.finish_whole.new.conn) c.as_str-repo.result.now c.args.number c.as_str-digest.result.now c.in-Ok-Some.link
      is (c.in-Ok-Some.ensures.settled l kind late is refl) (sym c.in-Ok-Some.field-0-is ∙ c.in-Ok-Some.ensures.found l kind late is) (c.in-Ok.ensures.made l (λ clean. still_known (state g.S.Store c.args.conn.now) (state g.S.Store c.find_known.new.conn) (c.in-Ok-Some.ensures.settled l kind clean is refl) c.as_str-repo.result.now c.args.number c.as_str-digest.result.now c.in-Ok-Some.link
      (sym c.in-Ok-Some.field-0-is ∙ c.in-Ok-Some.ensures.found l kind clean is)) clean (c.in-Ok-Some.ensures.settled l kind late is refl).0));
  known = λ l kind fits clean is.
      let late : HasCleanDisk (state g.S.Store c.find_known.new.conn) = was_clean c.finish_whole.ensures.survives clean in
      rw (c.as_str-repo.ensures.text, c.as_str-digest.ensures.text) at (ap is_some (sym c.in-Ok-Some.field-0-is ∙ c.in-Ok-Some.ensures.found l kind late is));
  ended = λ l kind clean is.
      let mid = state g.S.Store c.find_known.new.conn in
      let late : HasCleanDisk mid = was_clean c.finish_whole.ensures.survives clean in
      let stays = c.in-Ok-Some.ensures.settled l kind late is refl in
      rw (c.as_str-repo.ensures.text, c.as_str-digest.ensures.text) at (end_told (state g.S.Store c.args.conn.now) mid c.as_str-repo.result.now c.args.number c.as_str-digest.result.now c.in-Ok-Some.link c.in-Ok.came
      is stays (sym c.in-Ok-Some.field-0-is ∙ c.in-Ok-Some.ensures.found l kind late is) (c.in-Ok.ensures.came l clean stays.0));
  memory = λ l kind clean is memory. absurd (never_done memory);
  back = λ l kind clean is. tt;
  crash = λ l kind clean is.
      let old = state g.S.Store c.args.conn.now in
      let mid = state g.S.Store c.find_known.new.conn in
      let late : HasCleanDisk mid = was_clean c.finish_whole.ensures.survives clean in
      let stays = c.in-Ok-Some.ensures.settled l kind late is refl in
      rw (c.as_str-repo.ensures.text, c.as_str-digest.ensures.text) at (ends_done l g.S.Store c.args.conn.now c.finish_whole.new.conn c.as_str-repo.result.now c.args.number c.as_str-digest.result.now c.find_known.new.conn c.in-Ok-Some.link is stays (sym c.in-Ok-Some.field-0-is ∙ c.in-Ok-Some.ensures.found l kind late is) (c.in-Ok.ensures.crash l (λ clean. still_known (state g.S.Store c.args.conn.now) (state g.S.Store c.find_known.new.conn) (c.in-Ok-Some.ensures.settled l kind clean is refl) c.as_str-repo.result.now c.args.number c.as_str-digest.result.now c.in-Ok-Some.link (sym c.in-Ok-Some.field-0-is ∙ c.in-Ok-Some.ensures.found l kind clean is)) clean stays.0));
  stays = λ l kind clean is.
      let late : HasCleanDisk (state g.S.Store c.find_known.new.conn) = was_clean c.finish_whole.ensures.survives clean in
      let stays = c.in-Ok-Some.ensures.settled l kind late is refl in
      same_from (state g.S.Store c.args.conn.now) (state g.S.Store c.find_known.new.conn) stays (state g.S.Store c.finish_whole.new.conn) (c.in-Ok.ensures.stays l clean stays.0);
  places = λ l kind clean is.
      let late : HasCleanDisk (state g.S.Store c.find_known.new.conn) = was_clean c.finish_whole.ensures.survives clean in
      let stays = c.in-Ok-Some.ensures.settled l kind late is refl in
      from_read (state g.S.Store c.args.conn.now) (state g.S.Store c.find_known.new.conn) stays KeepsPlaces (state g.S.Store c.finish_whole.new.conn) (c.in-Ok.ensures.places l clean stays.0);
  survives = survives_all (state g.S.Store c.args.conn.now) (state g.S.Store c.find_known.new.conn) (state g.S.Store c.finish_whole.new.conn) _ _ c.find_known.ensures.survives c.finish_whole.ensures.survives;
}

pub returns-in-Err-finish_whole : goal.returns-in-Err-finish_whole
returns-in-Err-finish_whole g c = record {
  made = λ l kind clean is. tt;
  known = λ l kind fits clean is. tt;
  ended = λ l kind clean is. tt;
  memory = λ l kind clean is memory.
      let late : HasCleanDisk (state g.S.Store c.find_known.new.conn) = was_clean c.finish_whole.ensures.survives clean in
      stays_then (state g.S.Store c.args.conn.now) (state g.S.Store c.find_known.new.conn) (state g.S.Store c.finish_whole.new.conn) (c.in-Ok-Some.ensures.settled l kind late is refl)
      (c.in-Err-finish_whole.ensures.memory l clean (c.in-Ok-Some.ensures.settled l kind late is refl).0 (let e = memory in cc));
  back = λ l kind clean is.
      let old = state g.S.Store c.args.conn.now in
      let mid = state g.S.Store c.find_known.new.conn in
      let late : HasCleanDisk mid = was_clean c.finish_whole.ensures.survives clean in
      let stays = c.in-Ok-Some.ensures.settled l kind late is refl in
      back_from old mid (state g.S.Store c.finish_whole.new.conn) is stays (c.in-Err-finish_whole.ensures.back l clean stays.0);
  crash = λ l kind clean is.
      let old = state g.S.Store c.args.conn.now in
      let mid = state g.S.Store c.find_known.new.conn in
      let late : HasCleanDisk mid = was_clean c.finish_whole.ensures.survives clean in
      let stays = c.in-Ok-Some.ensures.settled l kind late is refl in
      rw (c.as_str-repo.ensures.text, c.as_str-digest.ensures.text) at (ends_undone l g.S.Store c.args.conn.now c.finish_whole.new.conn c.as_str-repo.result.now c.args.number c.as_str-digest.result.now c.find_known.new.conn c.in-Ok-Some.link is stays (sym c.in-Ok-Some.field-0-is ∙ c.in-Ok-Some.ensures.found l kind late is) (c.in-Err-finish_whole.ensures.crash l (λ clean. still_known (state g.S.Store c.args.conn.now) (state g.S.Store c.find_known.new.conn) (c.in-Ok-Some.ensures.settled l kind clean is refl) c.as_str-repo.result.now c.args.number c.as_str-digest.result.now c.in-Ok-Some.link (sym c.in-Ok-Some.field-0-is ∙ c.in-Ok-Some.ensures.found l kind clean is)) clean stays.0));
  stays = λ l kind clean is. tt;
  places = λ l kind clean is. tt;
  survives = survives_all (state g.S.Store c.args.conn.now) (state g.S.Store c.find_known.new.conn) (state g.S.Store c.finish_whole.new.conn) _ _ c.find_known.ensures.survives c.finish_whole.ensures.survives;
}

pub returns-in-Ok-None : goal.returns-in-Ok-None
returns-in-Ok-None g c = record {
  made = λ l kind clean is. c.in-Ok-None.ensures.settled l kind clean is refl;
  known = λ l kind fits clean is.
      rw (c.as_str-repo.ensures.text, c.as_str-digest.ensures.text) at (ap is_some (sym c.in-Ok-None.field-0-is ∙ c.in-Ok-None.ensures.found l kind clean is));
  ended = λ l kind clean is. tt;
  memory = λ l kind clean is memory. absurd (never_done memory);
  back = λ l kind clean is. tt;
  crash = λ l kind clean is. ends_kept l g.S.Store c.args.conn.now c.find_known.new.conn c.args.repo.now c.args.number c.args.digest.now is (c.find_known.ensures.kept l kind clean is);
  stays = λ l kind clean is. same_read (state g.S.Store c.args.conn.now) (state g.S.Store c.find_known.new.conn) (c.in-Ok-None.ensures.settled l kind clean is refl);
  places = λ l kind clean is. places_read (state g.S.Store c.args.conn.now) (state g.S.Store c.find_known.new.conn) (c.in-Ok-None.ensures.settled l kind clean is refl);
  survives = c.find_known.ensures.survives;
}

pub returns-in-Err : goal.returns-in-Err
returns-in-Err g c = record {
  made = λ l kind clean is. tt;
  known = λ l kind fits clean is. tt;
  ended = λ l kind clean is. tt;
  memory = λ l kind clean is memory. c.in-Err.ensures.settled l kind clean is (memory_told (Option BlobLink) c.in-Err.fault memory);
  back = λ l kind clean is. (c.find_known.ensures.kept l kind clean is).back;
  crash = λ l kind clean is. ends_failed l g.S.Store c.args.conn.now c.find_known.new.conn c.args.repo.now c.args.number c.args.digest.now is (c.find_known.ensures.kept l kind clean is);
  stays = λ l kind clean is. tt;
  places = λ l kind clean is. tt;
  survives = c.find_known.ensures.survives;
}
