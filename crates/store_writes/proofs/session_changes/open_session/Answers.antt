use Rattle.std.proofs.Common.{◌≡◌, ◌∙◌, ◌+◌, refl, sym, subst, Some, ap}
use Rattle.std.specs.Prelude.{find, option_map, Option}
use Rattle.sqlite.specs.State.{HasCleanDisk}
use Rattle.sqlite.specs.Held.{state}
use Rattle.store_schema.specs.Rows.{natural_at}
use Rattle.store_statements.specs.Keys.{of_first}
use Rattle.store_statements.specs.declared.repos.RepoRow.{RepoRow}
use Rattle.store_statements.specs.Held.{SettlesOn, held, world_in}
use Rattle.store_statements.specs.PlaceChanges.{KeepsPlaces}
use Rattle.store_statements.proofs.PlacesKept.{places_as}
use Rattle.store_statements.proofs.Transactions.{survives_all}
use Rattle.store_statements.proofs.WritesAfterReads.{memory_told}
use Rattle.store_writes.proofs.SessionWrites.{last_found, number_behind, opens}
use Rattle.store_statements.proofs.CleanBefore.{was_clean}
use Rattle.store_statements.proofs.SettledAfter.{stays_then}
use Rattle.store_statements.proofs.Checks.{never_done, never_storage}
use Rattle.store_writes.proofs.Fitting.{next_fits, next_is_number}
use Rattle.registry_model.specs.Lookups as Lookups
use Rattle.store_statements.proofs.Crashes.{back_from, crash_done, crash_failed, crash_undone}
use Rattle.store_statements.specs.Steps.{SessionOpened}
use Rattle.store_statements.specs.Tables.{Tables}
use Rattle.store_writes.proofs.ContentsStay.{from_read, same_from}
use Rattle.store_writes.proofs.session_changes.open_session.Goals as goal

pub returns-in-Ok-make : goal.returns-in-Ok-make
returns-in-Ok-make g c =
    let old = state g.S.Store c.args.conn.now in
    let mid = state g.S.Store c.find_repo.new.conn in
    let new = state g.S.Store c.make.new.conn in
    record {
      made = λ l clean is.
          let late : HasCleanDisk mid = was_clean c.make.ensures.survives clean in
          let stays = c.in-Ok-Some.ensures.settled l late is refl in
          let last : Some c.in-Ok-Some.row.last ≡ option_map (λ r. natural_at r 3) (find (of_first c.as_str-repo.result.now) (held l old).repos) =
          last_found (find (of_first c.as_str-repo.result.now) (held l old).repos) c.in-Ok-Some.row (sym c.in-Ok-Some.field-0-is ∙ c.in-Ok-Some.ensures.found l late is) in
          subst (λ name. (c.in-Ok-Some.row.last + 1 ≡ Lookups.last_number_at (world_in l old) name + 1) × SettlesOn l new (Lookups.open_session (world_in l old) name)) c.as_str-repo.ensures.text
          (opens old mid new c.as_str-repo.result.now c.in-Ok-Some.row.last is stays last (c.in-Ok-make.ensures.made l tt (λ early. number_behind old mid c.as_str-repo.result.now c.in-Ok-Some.row.last is stays last) clean stays.0));
      memory = λ l clean is memory. absurd (never_done memory);
      back = λ l clean is. tt;
      crash = λ l clean is.
          let late : HasCleanDisk mid = was_clean c.make.ensures.survives clean in
          let stays = c.in-Ok-Some.ensures.settled l late is refl in
          let last : Some c.in-Ok-Some.row.last ≡ option_map (λ r. natural_at r 3) (find (of_first c.as_str-repo.result.now) (held l old).repos) =
          last_found (find (of_first c.as_str-repo.result.now) (held l old).repos) c.in-Ok-Some.row (sym c.in-Ok-Some.field-0-is ∙ c.in-Ok-Some.ensures.found l late is) in
          crash_done g.S.Store c.args.conn.now c.make.new.conn (λ w. Lookups.open_session w c.args.repo.now) c.find_repo.new.conn (λ t u. SessionOpened t u c.as_str-repo.result.now (c.in-Ok-Some.row.last + 1)) is stays
          (λ s it. subst (λ name. SettlesOn l s (Lookups.open_session (world_in l old) name)) c.as_str-repo.ensures.text (opens old mid s c.as_str-repo.result.now c.in-Ok-Some.row.last is stays last it).1)
          (c.in-Ok-make.ensures.crash l tt (λ early. number_behind old mid c.as_str-repo.result.now c.in-Ok-Some.row.last is stays last) clean stays.0);
      stays = λ l clean is.
          let late : HasCleanDisk mid = was_clean c.make.ensures.survives clean in
          let stays = c.in-Ok-Some.ensures.settled l late is refl in
          let last : Some c.in-Ok-Some.row.last ≡ option_map (λ r. natural_at r 3) (find (of_first c.as_str-repo.result.now) (held l old).repos) =
          last_found (find (of_first c.as_str-repo.result.now) (held l old).repos) c.in-Ok-Some.row (sym c.in-Ok-Some.field-0-is ∙ c.in-Ok-Some.ensures.found l late is) in
          same_from old mid stays new (ap (λ (t : Tables). t.contents) (c.in-Ok-make.ensures.made l tt (λ early. number_behind old mid c.as_str-repo.result.now c.in-Ok-Some.row.last is stays last) clean stays.0).1.others);
      places = λ l clean is.
          let late : HasCleanDisk mid = was_clean c.make.ensures.survives clean in
          let stays = c.in-Ok-Some.ensures.settled l late is refl in
          let last : Some c.in-Ok-Some.row.last ≡ option_map (λ r. natural_at r 3) (find (of_first c.as_str-repo.result.now) (held l old).repos) =
          last_found (find (of_first c.as_str-repo.result.now) (held l old).repos) c.in-Ok-Some.row (sym c.in-Ok-Some.field-0-is ∙ c.in-Ok-Some.ensures.found l late is) in
          from_read old mid stays KeepsPlaces new (places_as _ _ _ (c.in-Ok-make.ensures.made l tt (λ early. number_behind old mid c.as_str-repo.result.now c.in-Ok-Some.row.last is stays last) clean stays.0).1.others refl refl);
      survives = survives_all old mid new _ _ c.find_repo.ensures.survives c.make.ensures.survives;
    }

pub returns-in-Err-make : goal.returns-in-Err-make
returns-in-Err-make g c =
    let old = state g.S.Store c.args.conn.now in
    let mid = state g.S.Store c.find_repo.new.conn in
    let new = state g.S.Store c.make.new.conn in
    record {
      made = λ l clean is. tt;
      memory = λ l clean is memory.
          let late : HasCleanDisk mid = was_clean c.make.ensures.survives clean in
          let stays = c.in-Ok-Some.ensures.settled l late is refl in
          let last : Some c.in-Ok-Some.row.last ≡ option_map (λ r. natural_at r 3) (find (of_first c.as_str-repo.result.now) (held l old).repos) =
          last_found (find (of_first c.as_str-repo.result.now) (held l old).repos) c.in-Ok-Some.row (sym c.in-Ok-Some.field-0-is ∙ c.in-Ok-Some.ensures.found l late is) in
          stays_then old mid new stays (c.in-Err-make.ensures.memory l tt (λ early. number_behind old mid c.as_str-repo.result.now c.in-Ok-Some.row.last is stays last) clean stays.0 (let e = memory in cc));
      back = λ l clean is.
          let late : HasCleanDisk mid = was_clean c.make.ensures.survives clean in
          let stays = c.in-Ok-Some.ensures.settled l late is refl in
          let last : Some c.in-Ok-Some.row.last ≡ option_map (λ r. natural_at r 3) (find (of_first c.as_str-repo.result.now) (held l old).repos) =
          last_found (find (of_first c.as_str-repo.result.now) (held l old).repos) c.in-Ok-Some.row (sym c.in-Ok-Some.field-0-is ∙ c.in-Ok-Some.ensures.found l late is) in
          back_from old mid new is stays (c.in-Err-make.ensures.back l tt (λ early. number_behind old mid c.as_str-repo.result.now c.in-Ok-Some.row.last is stays last) clean stays.0);
      crash = λ l clean is.
          let late : HasCleanDisk mid = was_clean c.make.ensures.survives clean in
          let stays = c.in-Ok-Some.ensures.settled l late is refl in
          let last : Some c.in-Ok-Some.row.last ≡ option_map (λ r. natural_at r 3) (find (of_first c.as_str-repo.result.now) (held l old).repos) =
          last_found (find (of_first c.as_str-repo.result.now) (held l old).repos) c.in-Ok-Some.row (sym c.in-Ok-Some.field-0-is ∙ c.in-Ok-Some.ensures.found l late is) in
          crash_undone g.S.Store c.args.conn.now c.make.new.conn (λ w. Lookups.open_session w c.args.repo.now) c.find_repo.new.conn (λ t u. SessionOpened t u c.as_str-repo.result.now (c.in-Ok-Some.row.last + 1)) is stays
          (λ s it. subst (λ name. SettlesOn l s (Lookups.open_session (world_in l old) name)) c.as_str-repo.ensures.text (opens old mid s c.as_str-repo.result.now c.in-Ok-Some.row.last is stays last it).1)
          (c.in-Err-make.ensures.crash l tt (λ early. number_behind old mid c.as_str-repo.result.now c.in-Ok-Some.row.last is stays last) clean stays.0);
      stays = λ l clean is. tt;
      places = λ l clean is. tt;
      survives = survives_all old mid new _ _ c.find_repo.ensures.survives c.make.ensures.survives;
    }

pub as_str-repo-requires : goal.as_str-repo-requires
as_str-repo-requires g c = tt

pub overflow_add-number : goal.overflow_add-number
overflow_add-number g c = next_is_number c.in-Ok-Some.row.last c.if-row-lt-LARGEST.true

pub make-requires : goal.make-requires
make-requires g c = record { fits = next_fits c.in-Ok-Some.row.last c.if-row-lt-LARGEST.true }

pub returns-in-Ok : goal.returns-in-Ok
returns-in-Ok g c = record {
  made = λ l clean is. tt;
  memory = λ l clean is memory. absurd (never_storage memory);
  back = λ l clean is. (c.find_repo.ensures.kept l clean is).back;
  crash = λ l clean is. crash_failed g.S.Store c.args.conn.now c.find_repo.new.conn (λ w. Lookups.open_session w c.args.repo.now) is (c.find_repo.ensures.kept l clean is);
  stays = λ l clean is. tt;
  places = λ l clean is. tt;
  survives = c.find_repo.ensures.survives;
}

pub returns-in-Ok-2 : goal.returns-in-Ok-2
returns-in-Ok-2 g c = record {
  made = λ l clean is. tt;
  memory = λ l clean is memory. absurd (never_storage memory);
  back = λ l clean is. (c.find_repo.ensures.kept l clean is).back;
  crash = λ l clean is. crash_failed g.S.Store c.args.conn.now c.find_repo.new.conn (λ w. Lookups.open_session w c.args.repo.now) is (c.find_repo.ensures.kept l clean is);
  stays = λ l clean is. tt;
  places = λ l clean is. tt;
  survives = c.find_repo.ensures.survives;
}

pub returns-in-Err : goal.returns-in-Err
returns-in-Err g c = record {
  made = λ l clean is. tt;
  memory = λ l clean is memory. c.in-Err.ensures.settled l clean is (memory_told (Option RepoRow) c.in-Err.fault memory);
  back = λ l clean is. (c.find_repo.ensures.kept l clean is).back;
  crash = λ l clean is. crash_failed g.S.Store c.args.conn.now c.find_repo.new.conn (λ w. Lookups.open_session w c.args.repo.now) is (c.find_repo.ensures.kept l clean is);
  stays = λ l clean is. tt;
  places = λ l clean is. tt;
  survives = c.find_repo.ensures.survives;
}
