use Rattle.std.proofs.Common.{◌∙◌, refl, sym, ◌≡◌, ap, true, false, OnOk}
use Rattle.std.specs.Prelude.{find, Option}
use Rattle.sqlite.specs.State.{HasCleanDisk}
use Rattle.sqlite.specs.Held.{state}
use Rattle.store_places.specs.Source as source
use Rattle.store_statements.specs.Keys.{has_key, of_session}
use Rattle.store_statements.specs.declared.blobs.BlobLink.{BlobLink}
use Rattle.store_statements.specs.Shown.{blob_link}
use Rattle.store_statements.proofs.BlobLinks.{still_none}
use Rattle.store_writes.proofs.SessionWrites.{finishes_there, finishes_new}
use Rattle.store_statements.specs.Held.{held}
use Rattle.store_statements.proofs.Transactions.{survives_all}
use Rattle.store_statements.proofs.WritesAfterReads.{none_found, memory_told}
use Rattle.store_statements.proofs.CleanBefore.{was_clean}
use Rattle.store_statements.proofs.Checks.{never_storage}
use Rattle.store_statements.proofs.Checks.{survives_here}
use Rattle.store_statements.proofs.SettledAfter.{stays_then}
use Rattle.store_statements.proofs.Alone.{commits_as, less, less_err}
use Rattle.store_writes.proofs.Fitting.{not_above}
use Rattle.store_statements.proofs.Crashes.{back_from, kept_stayed, crash_failed, crash_made}
use Rattle.registry_model.specs.Lookups as Lookups
use Rattle.store_statements.specs.Steps.{Finished, sessions_without}
use Rattle.store_statements.specs.Tables.{Tables}
use Rattle.store_contents.specs.Layouts.{Layout}
use Rattle.store_statements.specs.Held.{IsSettled}
use Rattle.store_statements.specs.PlaceChanges.{KeepsPlaces, PutsContent, PutsPlaces}
use Rattle.store_statements.proofs.PlacesKept.{places_as}
use Rattle.store_writes.specs.Worlds.{AddsRows}
use Rattle.store_writes.proofs.BlobWrites.{comes, is_there}
use Rattle.store_writes.proofs.KnownEnds.{came_back, came_by, came_memory, came_so, came_told}
use Rattle.store_writes.proofs.ContentsStay.{end_rows, from_read, grow_from, grow_same, same_from}
use Rattle.store_writes.proofs.session_finish.finish.Goals as goal

pub returns-in-Err : goal.returns-in-Err
returns-in-Err g c = record {
  made = λ l suits is_open clean is. tt;
  memory = λ l suits clean is memory. c.in-Err.ensures.settled l clean is (memory_told (Option BlobLink) c.in-Err.fault memory);
  back = λ l suits clean is. (c.find_blob_link.ensures.kept l clean is).back;
  crash = λ l suits is_open clean is. crash_failed g.S.Store c.args.conn.now c.find_blob_link.new.conn (λ w. Lookups.finish w c.args.repo.now c.args.number c.args.digest.now (source.text_in l c.args.source)) is (c.find_blob_link.ensures.kept l clean is);
  came = λ l clean is. tt;
  grows = λ l suits clean is. tt;
  places = λ l suits clean is. tt;
  contents = λ l suits clean is. tt;
  survives = c.find_blob_link.ensures.survives;
}

pub returns-then-number-gt-LARGEST : goal.returns-then-number-gt-LARGEST
returns-then-number-gt-LARGEST g c = record {
  made = λ l suits is_open clean is. tt;
  memory = λ l suits clean is memory. absurd (never_storage memory);
  back = λ l suits clean is is_open. (refl, refl);
  crash = λ l suits is_open clean is.
      crash_failed g.S.Store c.args.conn.now c.args.conn.now (λ w. Lookups.finish w c.args.repo.now c.args.number c.args.digest.now (source.text_in l c.args.source)) is (kept_stayed g.S.Store g.met.S.Store.settled c.args.conn.now c.args.conn.now is (is, refl));
  came = λ l clean is. tt;
  grows = λ l suits clean is. tt;
  places = λ l suits clean is. tt;
  contents = λ l suits clean is. tt;
  survives = survives_here (state g.S.Store c.args.conn.now);
}

pub make-requires : goal.make-requires
make-requires g c = record { fits = not_above c.args.number c.if-number-gt-LARGEST.false }

pub make-requires-in-Ok-None : goal.make-requires-in-Ok-None
make-requires-in-Ok-None g c = record { fits = (not_above c.args.number c.if-number-gt-LARGEST.false, c.requires.right, c.requires.fits, rw c.as_str-digest.ensures.text c.requires.matching) }

pub returns-in-Ok-Some : goal.returns-in-Ok-Some
returns-in-Ok-Some g c =
    let old = state g.S.Store c.args.conn.now in
    let mid = state g.S.Store c.find_blob_link.new.conn in
    let new = state g.S.Store c.make.new.conn in
    record {
      made = λ l suits is_open clean is.
          let late : HasCleanDisk mid = was_clean c.make.ensures.survives clean in
          let stays = c.in-Ok-Some.ensures.settled l late is refl in
          came_so c.make.result false c.tell_came.result c.tell_came.ensures
          (λ it. rw (c.as_str-repo.ensures.text, c.as_str-digest.ensures.text) at (finishes_there old mid new c.as_str-repo.result.now c.args.number c.as_str-digest.result.now (source.text_in l c.args.source) c.in-Ok-Some.field-0-0 is stays (sym c.in-Ok-Some.field-0-is ∙ c.in-Ok-Some.ensures.found l late is) (commits_as new _ it.0 it.1)))
          (c.make.ensures.made l tt (λ early. tt) clean stays.0);
      memory = λ l suits clean is memory.
          let stays = c.in-Ok-Some.ensures.settled l (was_clean c.make.ensures.survives clean) is refl in
          stays_then old mid new stays (c.make.ensures.memory l tt (λ early. tt) clean stays.0 (came_memory c.make.result false c.tell_came.result c.tell_came.ensures memory));
      back = λ l suits clean is.
          let stays = c.in-Ok-Some.ensures.settled l (was_clean c.make.ensures.survives clean) is refl in
          came_back _ c.make.result false c.tell_came.result c.tell_came.ensures (less_err c.make.result (back_from old mid new is stays) (c.make.ensures.back l tt (λ early. tt) clean stays.0));
      crash = λ l suits is_open clean is.
          let late : HasCleanDisk mid = was_clean c.make.ensures.survives clean in
          let stays = c.in-Ok-Some.ensures.settled l late is refl in
          crash_made g.S.Store c.args.conn.now c.make.new.conn (λ w. Lookups.finish w c.args.repo.now c.args.number c.args.digest.now (source.text_in l c.args.source)) c.find_blob_link.new.conn (λ t u. u ≡ sessions_without (of_session c.as_str-repo.result.now c.args.number) t) is stays
          (λ s it. rw (c.as_str-repo.ensures.text, c.as_str-digest.ensures.text) at (finishes_there old mid s c.as_str-repo.result.now c.args.number c.as_str-digest.result.now (source.text_in l c.args.source) c.in-Ok-Some.field-0-0 is stays (sym c.in-Ok-Some.field-0-is ∙ c.in-Ok-Some.ensures.found l late is) (commits_as s _ it.0 it.1))) c.make.result c.tell_came.result (λ X x. came_so c.make.result false c.tell_came.result c.tell_came.ensures (λ it. it) x)
          (c.make.ensures.crash l tt (λ early. tt) clean stays.0);
      grows = λ l suits clean is.
          let stays = c.in-Ok-Some.ensures.settled l (was_clean c.make.ensures.survives clean) is refl in
          came_so c.make.result false c.tell_came.result c.tell_came.ensures (λ it. grow_from old mid stays new (grow_same (held l mid) (held l new) (ap (λ (t : Tables). t.contents) it.1)))
          (c.make.ensures.made l tt (λ early. tt) clean stays.0);
      came = λ l clean is.
          let late : HasCleanDisk mid = was_clean c.make.ensures.survives clean in
          came_told c.make.result false _ c.tell_came.result c.tell_came.ensures (rw (c.as_str-repo.ensures.text, c.as_str-digest.ensures.text) at (is_there old c.as_str-repo.result.now c.as_str-digest.result.now c.in-Ok-Some.field-0-0 is (sym c.in-Ok-Some.field-0-is ∙ c.in-Ok-Some.ensures.found l late is)));
      places = λ l suits clean is.
          let stays = c.in-Ok-Some.ensures.settled l (was_clean c.make.ensures.survives clean) is refl in
          came_by (λ came. PutsPlaces c.args.source came (held l old) (held l new)) c.make.result false c.tell_came.result c.tell_came.ensures (λ it. from_read old mid stays KeepsPlaces new (places_as _ _ _ it.1 refl refl))
          (c.make.ensures.made l tt (λ early. tt) clean stays.0);
      contents = λ l suits clean is.
          let stays = c.in-Ok-Some.ensures.settled l (was_clean c.make.ensures.survives clean) is refl in
          came_by (λ came. PutsContent (source.text_in l c.args.source) came (held l old) (held l new)) c.make.result false c.tell_came.result c.tell_came.ensures (λ it. same_from old mid stays new (ap (λ (t : Tables). t.contents) it.1))
          (c.make.ensures.made l tt (λ early. tt) clean stays.0);
      survives = survives_all old mid new _ _ c.find_blob_link.ensures.survives c.make.ensures.survives;
    }

pub returns-in-Ok-None : goal.returns-in-Ok-None
returns-in-Ok-None g c =
    let old = state g.S.Store c.args.conn.now in
    let mid = state g.S.Store c.find_blob_link.new.conn in
    let new = state g.S.Store c.make-in-Ok-None.new.conn in
    let rows : (l : Layout) → source.Suits l c.args.source → HasCleanDisk new → IsSettled l old → OnOk c.make-in-Ok-None.result (AddsRows (source.text_in l c.args.source) (source.runs_in c.args.source) (held l old) (held l new)) = λ l suits clean is.
    let late : HasCleanDisk mid = was_clean c.make-in-Ok-None.ensures.survives clean in
    let stays = c.in-Ok-None.ensures.settled l late is refl in
    let found = sym c.in-Ok-None.field-0-is ∙ c.in-Ok-None.ensures.found l late is in
    less c.make-in-Ok-None.result (λ it. from_read old mid stays (AddsRows (source.text_in l c.args.source) (source.runs_in c.args.source)) new (end_rows c.as_str-repo.result.now c.args.number c.as_str-digest.result.now _ _ _ _ it.1))
    (c.make-in-Ok-None.ensures.made l suits (λ early. still_none old mid c.as_str-repo.result.now c.as_str-digest.result.now stays found) clean stays.0) in
    record {
      places = λ l suits clean is. came_by (λ came. PutsPlaces c.args.source came (held l old) (held l new)) c.make-in-Ok-None.result true c.tell_came-in-Ok-None.result c.tell_came-in-Ok-None.ensures (λ it. it.0) (rows l suits clean is);
      contents = λ l suits clean is. came_by (λ came. PutsContent (source.text_in l c.args.source) came (held l old) (held l new)) c.make-in-Ok-None.result true c.tell_came-in-Ok-None.result c.tell_came-in-Ok-None.ensures (λ it. it.1) (rows l suits clean is);
      came = λ l clean is.
          let found = sym c.in-Ok-None.field-0-is ∙ c.in-Ok-None.ensures.found l (was_clean c.make-in-Ok-None.ensures.survives clean) is in
          let none = none_found blob_link (find (has_key c.as_str-repo.result.now c.as_str-digest.result.now) (held l old).blobs) found in
          came_told c.make-in-Ok-None.result true _ c.tell_came-in-Ok-None.result c.tell_came-in-Ok-None.ensures (comes old c.args.repo.now c.args.digest.now is (rw (c.as_str-repo.ensures.text, c.as_str-digest.ensures.text) at none));
      made = λ l suits is_open clean is.
          let late : HasCleanDisk mid = was_clean c.make-in-Ok-None.ensures.survives clean in
          let stays = c.in-Ok-None.ensures.settled l late is refl in
          let found = sym c.in-Ok-None.field-0-is ∙ c.in-Ok-None.ensures.found l late is in
          let none = none_found blob_link (find (has_key c.as_str-repo.result.now c.as_str-digest.result.now) (held l old).blobs) found in
          came_so c.make-in-Ok-None.result true c.tell_came-in-Ok-None.result c.tell_came-in-Ok-None.ensures
          (λ it. finishes_new old mid new c.args.repo.now c.args.number c.args.digest.now (source.text_in l c.args.source) is (is_open (was_clean c.find_blob_link.ensures.survives late)) stays (rw (c.as_str-repo.ensures.text, c.as_str-digest.ensures.text) at none) (rw (c.as_str-repo.ensures.text, c.as_str-digest.ensures.text) at it))
          (c.make-in-Ok-None.ensures.made l suits (λ early. still_none old mid c.as_str-repo.result.now c.as_str-digest.result.now stays found) clean stays.0);
      memory = λ l suits clean is memory.
          let late : HasCleanDisk mid = was_clean c.make-in-Ok-None.ensures.survives clean in
          let stays = c.in-Ok-None.ensures.settled l late is refl in
          stays_then old mid new stays (c.make-in-Ok-None.ensures.memory l suits (λ early. still_none old mid c.as_str-repo.result.now c.as_str-digest.result.now stays (sym c.in-Ok-None.field-0-is ∙ c.in-Ok-None.ensures.found l late is)) clean stays.0 (came_memory c.make-in-Ok-None.result true c.tell_came-in-Ok-None.result c.tell_came-in-Ok-None.ensures memory));
      back = λ l suits clean is.
          let late : HasCleanDisk mid = was_clean c.make-in-Ok-None.ensures.survives clean in
          let stays = c.in-Ok-None.ensures.settled l late is refl in
          came_back _ c.make-in-Ok-None.result true c.tell_came-in-Ok-None.result c.tell_came-in-Ok-None.ensures (less_err c.make-in-Ok-None.result (back_from old mid new is stays) (c.make-in-Ok-None.ensures.back l suits (λ early. still_none old mid c.as_str-repo.result.now c.as_str-digest.result.now stays (sym c.in-Ok-None.field-0-is ∙ c.in-Ok-None.ensures.found l late is)) clean stays.0));
      crash = λ l suits is_open clean is.
          let late : HasCleanDisk mid = was_clean c.make-in-Ok-None.ensures.survives clean in
          let stays = c.in-Ok-None.ensures.settled l late is refl in
          let found = sym c.in-Ok-None.field-0-is ∙ c.in-Ok-None.ensures.found l late is in
          let none = none_found blob_link (find (has_key c.as_str-repo.result.now c.as_str-digest.result.now) (held l old).blobs) found in
          crash_made g.S.Store c.args.conn.now c.make-in-Ok-None.new.conn (λ w. Lookups.finish w c.args.repo.now c.args.number c.args.digest.now (source.text_in l c.args.source)) c.find_blob_link.new.conn (λ t u. Finished t u c.as_str-repo.result.now c.args.number c.as_str-digest.result.now (source.text_in l c.args.source) (source.runs_in c.args.source)) is stays
          (λ s it. finishes_new old mid s c.args.repo.now c.args.number c.args.digest.now (source.text_in l c.args.source) is (is_open (was_clean c.find_blob_link.ensures.survives late)) stays (rw (c.as_str-repo.ensures.text, c.as_str-digest.ensures.text) at none) (rw (c.as_str-repo.ensures.text, c.as_str-digest.ensures.text) at it)) c.make-in-Ok-None.result c.tell_came-in-Ok-None.result (λ X x. came_so c.make-in-Ok-None.result true c.tell_came-in-Ok-None.result c.tell_came-in-Ok-None.ensures (λ it. it) x)
          (c.make-in-Ok-None.ensures.crash l suits (λ early. still_none old mid c.as_str-repo.result.now c.as_str-digest.result.now stays found) clean stays.0);
      grows = λ l suits clean is.
          let late : HasCleanDisk mid = was_clean c.make-in-Ok-None.ensures.survives clean in
          let stays = c.in-Ok-None.ensures.settled l late is refl in
          let found = sym c.in-Ok-None.field-0-is ∙ c.in-Ok-None.ensures.found l late is in
          came_so c.make-in-Ok-None.result true c.tell_came-in-Ok-None.result c.tell_came-in-Ok-None.ensures (λ it. grow_from old mid stays new it.1.grow)
          (c.make-in-Ok-None.ensures.made l suits (λ early. still_none old mid c.as_str-repo.result.now c.as_str-digest.result.now stays found) clean stays.0);
      survives = survives_all old mid new _ _ c.find_blob_link.ensures.survives c.make-in-Ok-None.ensures.survives;
    }
