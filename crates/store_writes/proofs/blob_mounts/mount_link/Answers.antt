use Rattle.std.proofs.Common.{◌∙◌, refl, ap}
use Rattle.std.specs.Prelude.{Option, find}
use Rattle.sqlite.specs.State.{HasCleanDisk}
use Rattle.sqlite.specs.Held.{state}
use Rattle.store_statements.specs.Keys.{has_key}
use Rattle.store_statements.specs.Tables.{Tables}
use Rattle.store_statements.specs.declared.blobs.BlobLink.{BlobLink}
use Rattle.store_statements.specs.PlaceChanges.{KeepsPlaces}
use Rattle.store_statements.proofs.PlacesKept.{places_as}
use Rattle.store_statements.proofs.Alone.{less, less_err}
use Rattle.store_statements.proofs.Checks.{never_storage}
use Rattle.store_statements.proofs.CleanBefore.{was_clean}
use Rattle.store_statements.proofs.SettledAfter.{stays_then}
use Rattle.store_statements.proofs.Transactions.{survives_all}
use Rattle.store_writes.proofs.Fitting.{not_above}
use Rattle.store_writes.proofs.MountLemmas.{same_tables, no_storage, mounts}
use Rattle.store_statements.proofs.Crashes.{back_from, crash_failed, crash_made}
use Rattle.registry_model.specs.Lookups as Lookups
use Rattle.store_statements.specs.StepsFrom.{LinkIsPut}
use Rattle.store_writes.proofs.ContentsStay.{from_read, same_from}
use Rattle.store_writes.proofs.blob_mounts.mount_link.Goals as goal

pub make-requires : goal.make-requires
make-requires g c = record { fits = not_above c.in-Ok-Some.link.size c.if-link-le-LARGEST.true }

pub returns-in-Err : goal.returns-in-Err
returns-in-Err g c = record {
  made = λ l there fresh clean is. tt;
  memory = λ l fresh clean is memory. c.in-Err.ensures.settled l clean is (no_storage _ (Option BlobLink) c.in-Err.fault memory);
  back = λ l fresh clean is. (c.find_blob_link.ensures.kept l clean is).back;
  crash = λ l there fresh clean is. crash_failed g.S.Store c.args.conn.now c.find_blob_link.new.conn (λ w. Lookups.mount w c.args.from.now c.args.to.now c.args.digest.now) is (c.find_blob_link.ensures.kept l clean is);
  stays = λ l fresh clean is. tt;
  places = λ l fresh clean is. tt;
  survives = c.find_blob_link.ensures.survives;
}

pub returns-in-Ok : goal.returns-in-Ok
returns-in-Ok g c = record {
  made = λ l there fresh clean is. tt;
  memory = λ l fresh clean is memory. absurd (never_storage memory);
  back = λ l fresh clean is. (c.find_blob_link.ensures.kept l clean is).back;
  crash = λ l there fresh clean is. crash_failed g.S.Store c.args.conn.now c.find_blob_link.new.conn (λ w. Lookups.mount w c.args.from.now c.args.to.now c.args.digest.now) is (c.find_blob_link.ensures.kept l clean is);
  stays = λ l fresh clean is. tt;
  places = λ l fresh clean is. tt;
  survives = c.find_blob_link.ensures.survives;
}

pub returns-in-Ok-2 : goal.returns-in-Ok-2
returns-in-Ok-2 g c = record {
  made = λ l there fresh clean is. tt;
  memory = λ l fresh clean is memory. absurd (never_storage memory);
  back = λ l fresh clean is. (c.find_blob_link.ensures.kept l clean is).back;
  crash = λ l there fresh clean is. crash_failed g.S.Store c.args.conn.now c.find_blob_link.new.conn (λ w. Lookups.mount w c.args.from.now c.args.to.now c.args.digest.now) is (c.find_blob_link.ensures.kept l clean is);
  stays = λ l fresh clean is. tt;
  places = λ l fresh clean is. tt;
  survives = c.find_blob_link.ensures.survives;
}

pub returns-in-Ok-Some : goal.returns-in-Ok-Some
returns-in-Ok-Some g c =
    let old = state g.S.Store c.args.conn.now in
    let mid = state g.S.Store c.find_blob_link.new.conn in
    let new = state g.S.Store c.make.new.conn in
    record {
      made = λ l there fresh clean is.
          let late : HasCleanDisk mid = was_clean c.make.ensures.survives clean in
          let early : HasCleanDisk old = was_clean c.find_blob_link.ensures.survives late in
          let stays = c.in-Ok-Some.ensures.settled l late is refl in
          less c.make.result
          (λ it. mounts old mid new c.args.from.now c.args.to.now c.args.digest.now c.in-Ok-Some.link is stays (there early) (let e = c.in-Ok-Some.ensures.found l late is in let f = c.in-Ok-Some.field-0-is in cc) (fresh early) it.0 it.1)
          (c.make.ensures.made l tt (λ clean. ap (λ (t : Tables). find (has_key c.args.to.now c.args.digest.now) t.blobs) (same_tables old mid stays) ∙ fresh early) clean stays.0);
      memory = λ l fresh clean is memory.
          let late : HasCleanDisk mid = was_clean c.make.ensures.survives clean in
          let early : HasCleanDisk old = was_clean c.find_blob_link.ensures.survives late in
          let stays = c.in-Ok-Some.ensures.settled l late is refl in
          stays_then old mid new stays (c.make.ensures.memory l tt (λ clean. ap (λ (t : Tables). find (has_key c.args.to.now c.args.digest.now) t.blobs) (same_tables old mid stays) ∙ fresh early) clean stays.0 memory);
      back = λ l fresh clean is.
          let late : HasCleanDisk mid = was_clean c.make.ensures.survives clean in
          let early : HasCleanDisk old = was_clean c.find_blob_link.ensures.survives late in
          let stays = c.in-Ok-Some.ensures.settled l late is refl in
          less_err c.make.result (back_from old mid new is stays) (c.make.ensures.back l tt (λ clean. ap (λ (t : Tables). find (has_key c.args.to.now c.args.digest.now) t.blobs) (same_tables old mid stays) ∙ fresh early) clean stays.0);
      crash = λ l there fresh clean is.
          let late : HasCleanDisk mid = was_clean c.make.ensures.survives clean in
          let early : HasCleanDisk old = was_clean c.find_blob_link.ensures.survives late in
          let stays = c.in-Ok-Some.ensures.settled l late is refl in
          crash_made g.S.Store c.args.conn.now c.make.new.conn (λ w. Lookups.mount w c.args.from.now c.args.to.now c.args.digest.now) c.find_blob_link.new.conn (λ t u. LinkIsPut t u c.args.to.now c.args.digest.now c.in-Ok-Some.link.size c.in-Ok-Some.link.content.id) is stays
          (λ s it. mounts old mid s c.args.from.now c.args.to.now c.args.digest.now c.in-Ok-Some.link is stays (there early) (let e = c.in-Ok-Some.ensures.found l late is in let f = c.in-Ok-Some.field-0-is in cc) (fresh early) it.0 it.1) c.make.result c.make.result (λ X x. x)
          (c.make.ensures.crash l tt (λ clean. ap (λ (t : Tables). find (has_key c.args.to.now c.args.digest.now) t.blobs) (same_tables old mid stays) ∙ fresh early) clean stays.0);
      stays = λ l fresh clean is.
          let late : HasCleanDisk mid = was_clean c.make.ensures.survives clean in
          let early : HasCleanDisk old = was_clean c.find_blob_link.ensures.survives late in
          let stays = c.in-Ok-Some.ensures.settled l late is refl in
          less c.make.result (λ it. same_from old mid stays new (ap (λ (t : Tables). t.contents) it.1.others))
          (c.make.ensures.made l tt (λ clean. ap (λ (t : Tables). find (has_key c.args.to.now c.args.digest.now) t.blobs) (same_tables old mid stays) ∙ fresh early) clean stays.0);
      places = λ l fresh clean is.
          let late : HasCleanDisk mid = was_clean c.make.ensures.survives clean in
          let early : HasCleanDisk old = was_clean c.find_blob_link.ensures.survives late in
          let stays = c.in-Ok-Some.ensures.settled l late is refl in
          less c.make.result (λ it. from_read old mid stays KeepsPlaces new (places_as _ _ _ it.1.others refl refl))
          (c.make.ensures.made l tt (λ clean. ap (λ (t : Tables). find (has_key c.args.to.now c.args.digest.now) t.blobs) (same_tables old mid stays) ∙ fresh early) clean stays.0);
      survives = survives_all old mid new _ _ c.find_blob_link.ensures.survives c.make.ensures.survives;
    }
