use Rattle.std.proofs.Common.{◌∙◌, refl, sym, ap}
use Rattle.std.specs.Prelude.{Option}
use Rattle.sqlite.specs.State.{HasCleanDisk}
use Rattle.sqlite.specs.Held.{state}
use Rattle.registry_model.specs.World.{World, has_repo}
use Rattle.registry_model.specs.Lookups.{mount}
use Rattle.store_statements.specs.declared.blobs.BlobLink.{BlobLink}
use Rattle.store_statements.specs.PlaceChanges.{KeepsPlaces}
use Rattle.store_statements.proofs.BlobLinks.{still_none}
use Rattle.store_statements.proofs.Checks.{never_done}
use Rattle.store_statements.proofs.CleanBefore.{was_clean}
use Rattle.store_statements.proofs.SettledAfter.{stays_then}
use Rattle.store_statements.proofs.Transactions.{survives_all}
use Rattle.store_statements.proofs.WritesAfterReads.{same_world}
use Rattle.store_writes.proofs.MountLemmas.{no_storage, mounts_nothing, makes_from, same_mount}
use Rattle.store_statements.proofs.Crashes.{back_from, crash_then, crash_failed, crash_same}
use Rattle.store_statements.proofs.Alone.{less, less_err}
use Rattle.registry_model.specs.Lookups as Lookups
use Rattle.store_writes.proofs.ContentsStay.{from_read, places_read, same_from, same_read}
use Rattle.store_writes.proofs.blob_mounts.mount.Goals as goal

pub returns-in-Ok-Some : goal.returns-in-Ok-Some
returns-in-Ok-Some g c = record {
  made = λ l there clean is.
      mounts_nothing (state g.S.Store c.args.conn.now) (state g.S.Store c.find_blob_link.new.conn) c.args.from.now c.args.to.now c.args.digest.now c.in-Ok-Some.field-0-0 (c.in-Ok-Some.ensures.settled l clean is refl)
      (rw (c.as_str-target.ensures.text, c.as_str-text.ensures.text) at (sym c.in-Ok-Some.field-0-is ∙ c.in-Ok-Some.ensures.found l clean is));
  memory = λ l clean is memory. absurd (never_done memory);
  back = λ l clean is. tt;
  crash = λ l there clean is.
      crash_same g.S.Store c.args.conn.now c.find_blob_link.new.conn (λ w. Lookups.mount w c.args.from.now c.args.to.now c.args.digest.now) is (c.find_blob_link.ensures.kept l clean is)
      (same_mount l (state g.S.Store c.args.conn.now) c.args.from.now c.args.to.now c.args.digest.now c.in-Ok-Some.field-0-0 (rw (c.as_str-target.ensures.text, c.as_str-text.ensures.text) at (sym c.in-Ok-Some.field-0-is ∙ c.in-Ok-Some.ensures.found l clean is)));
  stays = λ l clean is. same_read (state g.S.Store c.args.conn.now) (state g.S.Store c.find_blob_link.new.conn) (c.in-Ok-Some.ensures.settled l clean is refl);
  places = λ l clean is. places_read (state g.S.Store c.args.conn.now) (state g.S.Store c.find_blob_link.new.conn) (c.in-Ok-Some.ensures.settled l clean is refl);
  survives = c.find_blob_link.ensures.survives;
}

pub returns-in-Ok-None : goal.returns-in-Ok-None
returns-in-Ok-None g c =
    let old = state g.S.Store c.args.conn.now in
    let mid = state g.S.Store c.find_blob_link.new.conn in
    let new = state g.S.Store c.mount_link.new.conn in
    record {
      made = λ l there clean is.
          let late : HasCleanDisk mid = was_clean c.mount_link.ensures.survives clean in
          let stays = c.in-Ok-None.ensures.settled l late is refl in
          makes_from old mid new (λ w. mount w c.args.from.now c.args.to.now c.args.digest.now) c.mount_link.result stays
          (rw (c.as_str-source.ensures.text, c.as_str-target.ensures.text, c.as_str-text.ensures.text) at
          (c.mount_link.ensures.made l (λ clean. rw c.as_str-target.ensures.text (ap (λ (w : World). has_repo w c.args.to.now) (same_world old mid stays) ∙ there (was_clean c.find_blob_link.ensures.survives late)))
          (λ clean. still_none old mid c.as_str-target.result.now c.as_str-text.result.now stays (sym c.in-Ok-None.field-0-is ∙ c.in-Ok-None.ensures.found l late is)) clean stays.0));
      memory = λ l clean is memory.
          let late : HasCleanDisk mid = was_clean c.mount_link.ensures.survives clean in
          let stays = c.in-Ok-None.ensures.settled l late is refl in
          stays_then old mid new stays (c.mount_link.ensures.memory l (λ clean. still_none old mid c.as_str-target.result.now c.as_str-text.result.now stays (sym c.in-Ok-None.field-0-is ∙ c.in-Ok-None.ensures.found l late is)) clean stays.0 memory);
      back = λ l clean is.
          let late : HasCleanDisk mid = was_clean c.mount_link.ensures.survives clean in
          let stays = c.in-Ok-None.ensures.settled l late is refl in
          less_err c.mount_link.result (back_from old mid new is stays) (c.mount_link.ensures.back l (λ clean. still_none old mid c.as_str-target.result.now c.as_str-text.result.now stays (sym c.in-Ok-None.field-0-is ∙ c.in-Ok-None.ensures.found l late is)) clean stays.0);
      crash = λ l there clean is.
          let late : HasCleanDisk mid = was_clean c.mount_link.ensures.survives clean in
          let stays = c.in-Ok-None.ensures.settled l late is refl in
          crash_then g.S.Store c.args.conn.now c.mount_link.new.conn (λ w. mount w c.args.from.now c.args.to.now c.args.digest.now) c.find_blob_link.new.conn c.mount_link.result stays
          (rw (c.as_str-source.ensures.text, c.as_str-target.ensures.text, c.as_str-text.ensures.text) at
          (c.mount_link.ensures.crash l (λ clean. rw c.as_str-target.ensures.text (ap (λ (w : World). has_repo w c.args.to.now) (same_world old mid stays) ∙ there (was_clean c.find_blob_link.ensures.survives late)))
          (λ clean. still_none old mid c.as_str-target.result.now c.as_str-text.result.now stays (sym c.in-Ok-None.field-0-is ∙ c.in-Ok-None.ensures.found l late is)) clean stays.0));
      stays = λ l clean is.
          let late : HasCleanDisk mid = was_clean c.mount_link.ensures.survives clean in
          let stays = c.in-Ok-None.ensures.settled l late is refl in
          less c.mount_link.result (λ it. same_from old mid stays new it)
          (c.mount_link.ensures.stays l (λ clean. still_none old mid c.as_str-target.result.now c.as_str-text.result.now stays (sym c.in-Ok-None.field-0-is ∙ c.in-Ok-None.ensures.found l late is)) clean stays.0);
      places = λ l clean is.
          let late : HasCleanDisk mid = was_clean c.mount_link.ensures.survives clean in
          let stays = c.in-Ok-None.ensures.settled l late is refl in
          less c.mount_link.result (from_read old mid stays KeepsPlaces new)
          (c.mount_link.ensures.places l (λ clean. still_none old mid c.as_str-target.result.now c.as_str-text.result.now stays (sym c.in-Ok-None.field-0-is ∙ c.in-Ok-None.ensures.found l late is)) clean stays.0);
      survives = survives_all old mid new _ _ c.find_blob_link.ensures.survives c.mount_link.ensures.survives;
    }

pub returns-in-Err : goal.returns-in-Err
returns-in-Err g c = record {
  made = λ l there clean is. tt;
  memory = λ l clean is memory. c.in-Err.ensures.settled l clean is (no_storage _ (Option BlobLink) c.in-Err.fault memory);
  back = λ l clean is. (c.find_blob_link.ensures.kept l clean is).back;
  crash = λ l there clean is. crash_failed g.S.Store c.args.conn.now c.find_blob_link.new.conn (λ w. Lookups.mount w c.args.from.now c.args.to.now c.args.digest.now) is (c.find_blob_link.ensures.kept l clean is);
  stays = λ l clean is. tt;
  places = λ l clean is. tt;
  survives = c.find_blob_link.ensures.survives;
}
