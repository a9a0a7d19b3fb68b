use Rattle.std.proofs.Common.{◌∙◌, true, false, refl, sym, ◌≡◌, ap}
use Rattle.std.specs.Prelude.{find, Option}
use Rattle.sqlite.specs.State.{HasCleanDisk}
use Rattle.sqlite.specs.Held.{state}
use Rattle.store_statements.specs.Keys.{has_key, of_session}
use Rattle.store_statements.specs.declared.blobs.BlobLink.{BlobLink}
use Rattle.store_statements.specs.Shown.{blob_link}
use Rattle.store_statements.specs.Held.{held}
use Rattle.store_statements.proofs.Transactions.{registry, survives_all}
use Rattle.store_statements.proofs.BlobLinks.{still_none}
use Rattle.store_writes.proofs.BlobWrites.{comes, is_there}
use Rattle.store_writes.proofs.KnownEnds.{known_is, ends_there, ends_new, came_so, came_told, came_memory, came_back}
use Rattle.store_statements.proofs.WritesAfterReads.{none_found, memory_told}
use Rattle.store_statements.proofs.CleanBefore.{was_clean}
use Rattle.store_statements.proofs.SettledAfter.{stays_then}
use Rattle.store_statements.proofs.Alone.{commits_as, less_err}
use Rattle.store_statements.proofs.Checks.{never_storage}
use Rattle.store_writes.proofs.Fitting.{not_above}
use Rattle.store_statements.proofs.Crashes.{back_from, crash_failed, crash_made}
use Rattle.registry_model.specs.Closing.{finish_as_is}
use Rattle.store_statements.specs.Steps.{sessions_without}
use Rattle.store_writes.specs.Whole.{WholeEnds}
use Rattle.store_statements.specs.Tables.{Tables}
use Rattle.store_statements.specs.PlaceChanges.{KeepsPlaces}
use Rattle.store_statements.proofs.PlacesKept.{places_as}
use Rattle.store_writes.proofs.ContentsStay.{from_read, same_from}
use Rattle.store_writes.proofs.known_finish.finish_whole.Goals as goal

pub returns-in-Ok-Some : goal.returns-in-Ok-Some
returns-in-Ok-Some g c =
    let old = state g.S.Store c.args.conn.now in
    let mid = state g.S.Store c.find_blob_link.new.conn in
    let new = state g.S.Store c.make.new.conn in
    record {
      made = λ l known clean is.
          let late : HasCleanDisk mid = was_clean c.make.ensures.survives clean in
          let early : HasCleanDisk old = was_clean c.find_blob_link.ensures.survives late in
          let stays = c.in-Ok-Some.ensures.settled l late is refl in
          came_so c.make.result false c.tell_came.result c.tell_came.ensures
          (λ it. ends_there old mid new c.args.repo.now c.args.number c.args.digest.now c.args.link c.in-Ok-Some.field-0-0 is (known_is (held l old) c.args.repo.now c.args.number (registry old is) c.args.digest.now c.args.link (known early)) stays (sym c.in-Ok-Some.field-0-is ∙ c.in-Ok-Some.ensures.found l late is) (commits_as new _ it.0 it.1))
          (c.make.ensures.made l tt (λ early. tt) clean stays.0);
      came = λ l clean is.
          let late : HasCleanDisk mid = was_clean c.make.ensures.survives clean in
          came_told c.make.result false _ c.tell_came.result c.tell_came.ensures (is_there old c.args.repo.now c.args.digest.now c.in-Ok-Some.field-0-0 is (sym c.in-Ok-Some.field-0-is ∙ c.in-Ok-Some.ensures.found l late is));
      memory = λ l clean is memory.
          let stays = c.in-Ok-Some.ensures.settled l (was_clean c.make.ensures.survives clean) is refl in
          stays_then old mid new stays (c.make.ensures.memory l tt (λ early. tt) clean stays.0 (came_memory c.make.result false c.tell_came.result c.tell_came.ensures memory));
      back = λ l clean is.
          let stays = c.in-Ok-Some.ensures.settled l (was_clean c.make.ensures.survives clean) is refl in
          came_back _ c.make.result false c.tell_came.result c.tell_came.ensures (less_err c.make.result (back_from old mid new is stays) (c.make.ensures.back l tt (λ early. tt) clean stays.0));
      crash = λ l known clean is.
          let late : HasCleanDisk mid = was_clean c.make.ensures.survives clean in
          let early : HasCleanDisk old = was_clean c.find_blob_link.ensures.survives late in
          let stays = c.in-Ok-Some.ensures.settled l late is refl in
          crash_made g.S.Store c.args.conn.now c.make.new.conn (λ w. finish_as_is w c.args.repo.now c.args.number c.args.digest.now) c.find_blob_link.new.conn (λ t u. u ≡ sessions_without (of_session c.args.repo.now c.args.number) t) is stays
          (λ s it. ends_there old mid s c.args.repo.now c.args.number c.args.digest.now c.args.link c.in-Ok-Some.field-0-0 is (known_is (held l old) c.args.repo.now c.args.number (registry old is) c.args.digest.now c.args.link (known early)) stays (sym c.in-Ok-Some.field-0-is ∙ c.in-Ok-Some.ensures.found l late is) (commits_as s _ it.0 it.1)) c.make.result c.tell_came.result (λ X x. came_so c.make.result false c.tell_came.result c.tell_came.ensures (λ it. it) x)
          (c.make.ensures.crash l tt (λ early. tt) clean stays.0);
      stays = λ l clean is.
          let stays = c.in-Ok-Some.ensures.settled l (was_clean c.make.ensures.survives clean) is refl in
          came_so c.make.result false c.tell_came.result c.tell_came.ensures (λ it. same_from old mid stays new (ap (λ (t : Tables). t.contents) it.1)) (c.make.ensures.made l tt (λ early. tt) clean stays.0);
      places = λ l clean is.
          let stays = c.in-Ok-Some.ensures.settled l (was_clean c.make.ensures.survives clean) is refl in
          came_so c.make.result false c.tell_came.result c.tell_came.ensures (λ it. from_read old mid stays KeepsPlaces new (places_as _ _ _ it.1 refl refl)) (c.make.ensures.made l tt (λ early. tt) clean stays.0);
      survives = survives_all old mid new _ _ c.find_blob_link.ensures.survives c.make.ensures.survives;
    }

pub returns-in-Ok-None : goal.returns-in-Ok-None
returns-in-Ok-None g c =
    let old = state g.S.Store c.args.conn.now in
    let mid = state g.S.Store c.find_blob_link.new.conn in
    let new = state g.S.Store c.make-in-Ok-None.new.conn in
    record {
      made = λ l known clean is.
          let late : HasCleanDisk mid = was_clean c.make-in-Ok-None.ensures.survives clean in
          let early : HasCleanDisk old = was_clean c.find_blob_link.ensures.survives late in
          let stays = c.in-Ok-None.ensures.settled l late is refl in
          let found = sym c.in-Ok-None.field-0-is ∙ c.in-Ok-None.ensures.found l late is in
          let none = none_found blob_link (find (has_key c.args.repo.now c.args.digest.now) (held l old).blobs) found in
          came_so c.make-in-Ok-None.result true c.tell_came-in-Ok-None.result c.tell_came-in-Ok-None.ensures
          (λ it. ends_new old mid new c.args.repo.now c.args.number c.args.digest.now c.args.link is (known_is (held l old) c.args.repo.now c.args.number (registry old is) c.args.digest.now c.args.link (known early)) stays none it)
          (c.make-in-Ok-None.ensures.made l tt (λ early. still_none old mid c.args.repo.now c.args.digest.now stays found) clean stays.0);
      came = λ l clean is.
          let late : HasCleanDisk mid = was_clean c.make-in-Ok-None.ensures.survives clean in
          let found = sym c.in-Ok-None.field-0-is ∙ c.in-Ok-None.ensures.found l late is in
          let none = none_found blob_link (find (has_key c.args.repo.now c.args.digest.now) (held l old).blobs) found in
          came_told c.make-in-Ok-None.result true _ c.tell_came-in-Ok-None.result c.tell_came-in-Ok-None.ensures (comes old c.args.repo.now c.args.digest.now is none);
      memory = λ l clean is memory.
          let late : HasCleanDisk mid = was_clean c.make-in-Ok-None.ensures.survives clean in
          let stays = c.in-Ok-None.ensures.settled l late is refl in
          stays_then old mid new stays (c.make-in-Ok-None.ensures.memory l tt (λ early. still_none old mid c.args.repo.now c.args.digest.now stays (sym c.in-Ok-None.field-0-is ∙ c.in-Ok-None.ensures.found l late is)) clean stays.0 (came_memory c.make-in-Ok-None.result true c.tell_came-in-Ok-None.result c.tell_came-in-Ok-None.ensures memory));
      back = λ l clean is.
          let late : HasCleanDisk mid = was_clean c.make-in-Ok-None.ensures.survives clean in
          let stays = c.in-Ok-None.ensures.settled l late is refl in
          came_back _ c.make-in-Ok-None.result true c.tell_came-in-Ok-None.result c.tell_came-in-Ok-None.ensures
          (less_err c.make-in-Ok-None.result (back_from old mid new is stays) (c.make-in-Ok-None.ensures.back l tt (λ early. still_none old mid c.args.repo.now c.args.digest.now stays (sym c.in-Ok-None.field-0-is ∙ c.in-Ok-None.ensures.found l late is)) clean stays.0));
      crash = λ l known clean is.
          let late : HasCleanDisk mid = was_clean c.make-in-Ok-None.ensures.survives clean in
          let early : HasCleanDisk old = was_clean c.find_blob_link.ensures.survives late in
          let stays = c.in-Ok-None.ensures.settled l late is refl in
          let found = sym c.in-Ok-None.field-0-is ∙ c.in-Ok-None.ensures.found l late is in
          let none = none_found blob_link (find (has_key c.args.repo.now c.args.digest.now) (held l old).blobs) found in
          crash_made g.S.Store c.args.conn.now c.make-in-Ok-None.new.conn (λ w. finish_as_is w c.args.repo.now c.args.number c.args.digest.now) c.find_blob_link.new.conn (λ t u. WholeEnds t u c.args.repo.now c.args.number c.args.digest.now c.args.link) is stays
          (λ s it. ends_new old mid s c.args.repo.now c.args.number c.args.digest.now c.args.link is (known_is (held l old) c.args.repo.now c.args.number (registry old is) c.args.digest.now c.args.link (known early)) stays none it) c.make-in-Ok-None.result c.tell_came-in-Ok-None.result (λ X x. came_so c.make-in-Ok-None.result true c.tell_came-in-Ok-None.result c.tell_came-in-Ok-None.ensures (λ it. it) x)
          (c.make-in-Ok-None.ensures.crash l tt (λ early. still_none old mid c.args.repo.now c.args.digest.now stays found) clean stays.0);
      stays = λ l clean is.
          let late : HasCleanDisk mid = was_clean c.make-in-Ok-None.ensures.survives clean in
          let stays = c.in-Ok-None.ensures.settled l late is refl in
          let found = sym c.in-Ok-None.field-0-is ∙ c.in-Ok-None.ensures.found l late is in
          came_so c.make-in-Ok-None.result true c.tell_came-in-Ok-None.result c.tell_came-in-Ok-None.ensures (λ it. same_from old mid stays new (ap (λ (t : Tables). t.contents) it.1.others))
          (c.make-in-Ok-None.ensures.made l tt (λ early. still_none old mid c.args.repo.now c.args.digest.now stays found) clean stays.0);
      places = λ l clean is.
          let late : HasCleanDisk mid = was_clean c.make-in-Ok-None.ensures.survives clean in
          let stays = c.in-Ok-None.ensures.settled l late is refl in
          let found = sym c.in-Ok-None.field-0-is ∙ c.in-Ok-None.ensures.found l late is in
          came_so c.make-in-Ok-None.result true c.tell_came-in-Ok-None.result c.tell_came-in-Ok-None.ensures (λ it. from_read old mid stays KeepsPlaces new (places_as _ _ _ it.1.others refl refl))
          (c.make-in-Ok-None.ensures.made l tt (λ early. still_none old mid c.args.repo.now c.args.digest.now stays found) clean stays.0);
      survives = survives_all old mid new _ _ c.find_blob_link.ensures.survives c.make-in-Ok-None.ensures.survives;
    }

pub make-requires : goal.make-requires
make-requires g c = record { fits = c.requires.number_fits }

pub make-requires-in-Ok-None : goal.make-requires-in-Ok-None
make-requires-in-Ok-None g c = record { fits = (c.requires.number_fits, not_above c.args.link.size c.if-link-le-LARGEST.true) }

pub returns-in-Ok-None-2 : goal.returns-in-Ok-None-2
returns-in-Ok-None-2 g c = record {
  made = λ l known clean is. tt;
  came = λ l clean is. tt;
  memory = λ l clean is memory. absurd (never_storage memory);
  back = λ l clean is. (c.find_blob_link.ensures.kept l clean is).back;
  crash = λ l known clean is. crash_failed g.S.Store c.args.conn.now c.find_blob_link.new.conn (λ w. finish_as_is w c.args.repo.now c.args.number c.args.digest.now) is (c.find_blob_link.ensures.kept l clean is);
  stays = λ l clean is. tt;
  places = λ l clean is. tt;
  survives = c.find_blob_link.ensures.survives;
}

pub returns-in-Err : goal.returns-in-Err
returns-in-Err g c = record {
  made = λ l known clean is. tt;
  came = λ l clean is. tt;
  memory = λ l clean is memory. c.in-Err.ensures.settled l clean is (memory_told (Option BlobLink) c.in-Err.fault memory);
  back = λ l clean is. (c.find_blob_link.ensures.kept l clean is).back;
  crash = λ l known clean is. crash_failed g.S.Store c.args.conn.now c.find_blob_link.new.conn (λ w. finish_as_is w c.args.repo.now c.args.number c.args.digest.now) is (c.find_blob_link.ensures.kept l clean is);
  stays = λ l clean is. tt;
  places = λ l clean is. tt;
  survives = c.find_blob_link.ensures.survives;
}
