use Rattle.std.proofs.Common.{◌∙◌, refl, sym}
use Rattle.std.specs.Prelude.{find, Option}
use Rattle.sqlite.specs.State.{HasCleanDisk}
use Rattle.sqlite.specs.Held.{state}
use Rattle.store_places.specs.Source as source
use Rattle.store_statements.specs.Keys.{has_key}
use Rattle.store_statements.specs.declared.blobs.BlobLink.{BlobLink}
use Rattle.store_statements.specs.Shown.{blob_link}
use Rattle.store_statements.specs.Held.{held}
use Rattle.store_statements.proofs.BlobLinks.{still_none}
use Rattle.store_statements.proofs.Checks.{never_done}
use Rattle.store_statements.proofs.CleanBefore.{was_clean}
use Rattle.store_statements.proofs.SettledAfter.{stays_then}
use Rattle.store_statements.proofs.Transactions.{survives_all}
use Rattle.store_statements.proofs.WritesAfterReads.{none_found, memory_told}
use Rattle.store_writes.proofs.BlobWrites.{puts_there, puts_new, comes, is_there, same_blob}
use Rattle.store_statements.proofs.Crashes.{back_from, crash_done, crash_failed, crash_same, crash_undone}
use Rattle.registry_model.specs.Lookups as Lookups
use Rattle.store_statements.specs.Steps.{BlobStored}
use Rattle.store_contents.specs.Layouts.{Layout}
use Rattle.store_statements.specs.Held.{IsSettled}
use Rattle.store_writes.specs.Worlds.{AddsRows}
use Rattle.store_writes.proofs.ContentsStay.{blob_rows, from_read, grow_from, grow_same, places_read, same_read}
use Rattle.store_writes.proofs.blob_puts.put_blob.Goals as goal

pub make-requires : goal.make-requires
make-requires g c = record { fits = (c.requires.right, c.requires.fits, rw c.as_str-digest.ensures.text c.requires.matching) }

pub returns-in-Ok-Some : goal.returns-in-Ok-Some
returns-in-Ok-Some g c = record {
  made = λ l suits there clean is.
      rw (c.as_str-repo.ensures.text, c.as_str-digest.ensures.text) at (puts_there (state g.S.Store c.args.conn.now) (state g.S.Store c.find_blob_link.new.conn) c.as_str-repo.result.now c.as_str-digest.result.now (source.text_in l c.args.source) c.in-Ok-Some.field-0-0 (c.in-Ok-Some.ensures.settled l clean is refl)
      (sym c.in-Ok-Some.field-0-is ∙ c.in-Ok-Some.ensures.found l clean is));
  came = λ l clean is.
      rw (c.as_str-repo.ensures.text, c.as_str-digest.ensures.text) at (is_there (state g.S.Store c.args.conn.now) c.as_str-repo.result.now c.as_str-digest.result.now c.in-Ok-Some.field-0-0 is (sym c.in-Ok-Some.field-0-is ∙ c.in-Ok-Some.ensures.found l clean is));
  memory = λ l suits clean is memory. absurd (never_done memory);
  back = λ l suits clean is. tt;
  crash = λ l suits there clean is.
      crash_same g.S.Store c.args.conn.now c.find_blob_link.new.conn (λ w. Lookups.put_blob w c.args.repo.now c.args.digest.now (source.text_in l c.args.source)) is (c.find_blob_link.ensures.kept l clean is)
      (rw (c.as_str-repo.ensures.text, c.as_str-digest.ensures.text) at (same_blob l (state g.S.Store c.args.conn.now) c.as_str-repo.result.now c.as_str-digest.result.now (source.text_in l c.args.source) c.in-Ok-Some.field-0-0 (sym c.in-Ok-Some.field-0-is ∙ c.in-Ok-Some.ensures.found l clean is)));
  grows = λ l suits clean is. let stays = c.in-Ok-Some.ensures.settled l clean is refl in grow_same (held l (state g.S.Store c.args.conn.now)) (held l (state g.S.Store c.find_blob_link.new.conn)) (same_read (state g.S.Store c.args.conn.now) (state g.S.Store c.find_blob_link.new.conn) stays);
  places = λ l suits clean is. places_read (state g.S.Store c.args.conn.now) (state g.S.Store c.find_blob_link.new.conn) (c.in-Ok-Some.ensures.settled l clean is refl);
  contents = λ l suits clean is. same_read (state g.S.Store c.args.conn.now) (state g.S.Store c.find_blob_link.new.conn) (c.in-Ok-Some.ensures.settled l clean is refl);
  survives = c.find_blob_link.ensures.survives;
}

pub returns-in-Err : goal.returns-in-Err
returns-in-Err g c = record {
  made = λ l suits there clean is. tt;
  came = λ l clean is. tt;
  memory = λ l suits clean is memory. c.in-Err.ensures.settled l clean is (memory_told (Option BlobLink) c.in-Err.fault memory);
  back = λ l suits clean is. (c.find_blob_link.ensures.kept l clean is).back;
  crash = λ l suits there clean is. crash_failed g.S.Store c.args.conn.now c.find_blob_link.new.conn (λ w. Lookups.put_blob w c.args.repo.now c.args.digest.now (source.text_in l c.args.source)) is (c.find_blob_link.ensures.kept l clean is);
  grows = λ l suits clean is. tt;
  places = λ l suits clean is. tt;
  contents = λ l suits clean is. tt;
  survives = c.find_blob_link.ensures.survives;
}

pub returns-in-Ok : goal.returns-in-Ok
returns-in-Ok g c =
    let old = state g.S.Store c.args.conn.now in
    let mid = state g.S.Store c.find_blob_link.new.conn in
    let new = state g.S.Store c.make.new.conn in
    let free : HasCleanDisk new → HasCleanDisk mid = was_clean c.make.ensures.survives in
    let rows : (l : Layout) → source.Suits l c.args.source → HasCleanDisk new → IsSettled l old → AddsRows (source.text_in l c.args.source) (source.runs_in c.args.source) (held l old) (held l new) = λ l suits clean is.
    let stays = c.in-Ok-None.ensures.settled l (free clean) is refl in
    let found = sym c.in-Ok-None.field-0-is ∙ c.in-Ok-None.ensures.found l (free clean) is in
    from_read old mid stays (AddsRows (source.text_in l c.args.source) (source.runs_in c.args.source)) new
    (blob_rows c.as_str-repo.result.now c.as_str-digest.result.now _ _ _ _ (c.in-Ok.ensures.made l suits (λ clean. still_none old mid c.as_str-repo.result.now c.as_str-digest.result.now stays found) clean stays.0).1) in
    record {
      places = λ l suits clean is. (rows l suits clean is).0;
      contents = λ l suits clean is. (rows l suits clean is).1;
      made = λ l suits there clean is.
          let late = free clean in
          let stays = c.in-Ok-None.ensures.settled l late is refl in
          let found = sym c.in-Ok-None.field-0-is ∙ c.in-Ok-None.ensures.found l late is in
          let none = none_found blob_link (find (has_key c.as_str-repo.result.now c.as_str-digest.result.now) (held l old).blobs) found in
          let it = c.in-Ok.ensures.made l suits (λ clean. still_none old mid c.as_str-repo.result.now c.as_str-digest.result.now stays found) clean stays.0 in
          puts_new old mid new c.args.repo.now c.args.digest.now (source.text_in l c.args.source) is (there (was_clean c.find_blob_link.ensures.survives late)) stays (rw (c.as_str-repo.ensures.text, c.as_str-digest.ensures.text) at none) (rw (c.as_str-repo.ensures.text, c.as_str-digest.ensures.text) at it);
      came = λ l clean is.
          let found = sym c.in-Ok-None.field-0-is ∙ c.in-Ok-None.ensures.found l (free clean) is in
          let none = none_found blob_link (find (has_key c.as_str-repo.result.now c.as_str-digest.result.now) (held l old).blobs) found in
          comes old c.args.repo.now c.args.digest.now is (rw (c.as_str-repo.ensures.text, c.as_str-digest.ensures.text) at none);
      memory = λ l suits clean is memory. absurd (never_done memory);
      back = λ l suits clean is. tt;
      crash = λ l suits there clean is.
          let late = free clean in
          let stays = c.in-Ok-None.ensures.settled l late is refl in
          let found = sym c.in-Ok-None.field-0-is ∙ c.in-Ok-None.ensures.found l late is in
          let none = none_found blob_link (find (has_key c.as_str-repo.result.now c.as_str-digest.result.now) (held l old).blobs) found in
          crash_done g.S.Store c.args.conn.now c.make.new.conn (λ w. Lookups.put_blob w c.args.repo.now c.args.digest.now (source.text_in l c.args.source)) c.find_blob_link.new.conn (λ t u. BlobStored t u c.as_str-repo.result.now c.as_str-digest.result.now (source.text_in l c.args.source) (source.runs_in c.args.source)) is stays
          (λ s it. puts_new old mid s c.args.repo.now c.args.digest.now (source.text_in l c.args.source) is (there (was_clean c.find_blob_link.ensures.survives late)) stays (rw (c.as_str-repo.ensures.text, c.as_str-digest.ensures.text) at none) (rw (c.as_str-repo.ensures.text, c.as_str-digest.ensures.text) at it))
          (c.in-Ok.ensures.crash l suits (λ clean. still_none old mid c.as_str-repo.result.now c.as_str-digest.result.now stays found) clean stays.0);
      grows = λ l suits clean is.
          let late = free clean in
          let stays = c.in-Ok-None.ensures.settled l late is refl in
          let found = sym c.in-Ok-None.field-0-is ∙ c.in-Ok-None.ensures.found l late is in
          grow_from old mid stays new (c.in-Ok.ensures.made l suits (λ clean. still_none old mid c.as_str-repo.result.now c.as_str-digest.result.now stays found) clean stays.0).1.grow;
      survives = survives_all old mid new _ _ c.find_blob_link.ensures.survives c.make.ensures.survives;
    }

pub returns-in-Err-make : goal.returns-in-Err-make
returns-in-Err-make g c =
    let old = state g.S.Store c.args.conn.now in
    let mid = state g.S.Store c.find_blob_link.new.conn in
    let new = state g.S.Store c.make.new.conn in
    record {
      made = λ l suits there clean is. tt;
      came = λ l clean is. tt;
      memory = λ l suits clean is memory.
          let late : HasCleanDisk mid = was_clean c.make.ensures.survives clean in
          let stays = c.in-Ok-None.ensures.settled l late is refl in
          stays_then old mid new stays (c.in-Err-make.ensures.memory l suits (λ clean. still_none old mid c.as_str-repo.result.now c.as_str-digest.result.now stays (sym c.in-Ok-None.field-0-is ∙ c.in-Ok-None.ensures.found l late is)) clean stays.0 (let e = memory in cc));
      back = λ l suits clean is.
          let late : HasCleanDisk mid = was_clean c.make.ensures.survives clean in
          let stays = c.in-Ok-None.ensures.settled l late is refl in
          back_from old mid new is stays (c.in-Err-make.ensures.back l suits (λ clean. still_none old mid c.as_str-repo.result.now c.as_str-digest.result.now stays (sym c.in-Ok-None.field-0-is ∙ c.in-Ok-None.ensures.found l late is)) clean stays.0);
      crash = λ l suits there clean is.
          let late : HasCleanDisk mid = was_clean c.make.ensures.survives clean in
          let stays = c.in-Ok-None.ensures.settled l late is refl in
          let found = sym c.in-Ok-None.field-0-is ∙ c.in-Ok-None.ensures.found l late is in
          let none = none_found blob_link (find (has_key c.as_str-repo.result.now c.as_str-digest.result.now) (held l old).blobs) found in
          crash_undone g.S.Store c.args.conn.now c.make.new.conn (λ w. Lookups.put_blob w c.args.repo.now c.args.digest.now (source.text_in l c.args.source)) c.find_blob_link.new.conn (λ t u. BlobStored t u c.as_str-repo.result.now c.as_str-digest.result.now (source.text_in l c.args.source) (source.runs_in c.args.source)) is stays
          (λ s it. puts_new old mid s c.args.repo.now c.args.digest.now (source.text_in l c.args.source) is (there (was_clean c.find_blob_link.ensures.survives late)) stays (rw (c.as_str-repo.ensures.text, c.as_str-digest.ensures.text) at none) (rw (c.as_str-repo.ensures.text, c.as_str-digest.ensures.text) at it))
          (c.in-Err-make.ensures.crash l suits (λ clean. still_none old mid c.as_str-repo.result.now c.as_str-digest.result.now stays found) clean stays.0);
      grows = λ l suits clean is. tt;
      places = λ l suits clean is. tt;
      contents = λ l suits clean is. tt;
      survives = survives_all old mid new _ _ c.find_blob_link.ensures.survives c.make.ensures.survives;
    }
