use Rattle.std.proofs.Common.{◌≡◌, Bool, Some, length, true}
use Rattle.sqlite.specs.Held.{state}
use Rattle.oci_types.specs.Digest.{matches}
use Rattle.registry_model.specs.World.{Repo, has_repo}
use Rattle.registry_model.specs.Blobs.{with_blob}
use Rattle.registry_model.specs.Lookups.{put_blob}
use Rattle.store_contents.specs.Layouts.{Layout}
use Rattle.store_places.specs.Source.{Suits, text_in}
use Rattle.store_statements.specs.Clauses.{WorldHas}
use Rattle.store_statements.specs.Held.{world_in}
use Rattle.store_writes.proofs.Fitting.{blob_fits}
use Rattle.store_reads.proofs.CleanBefore.{was_clean}
use Rattle.registry_store.proofs.KnownWorlds.{follows, unfollowed}
use Rattle.registry_store.proofs.SourceWrites.{leaves_bytes, of_bytes, of_source, size_fits}
use Rattle.registry_store.proofs.counted_blobs.put_blob.Goals as goal

pub returns-in-Ok : goal.returns-in-Ok
returns-in-Ok g c =
    let turns = λ (l : Layout) (suits : Suits l c.args.source) (same : text_in l c.args.source ≡ c.args.bytes.now) (there : WorldHas g.S.Store l c.args.conn.now (λ w. has_repo w c.args.repo.now ≡ true)).
    of_bytes g.S.Store l c.args.conn.now c.put_blob.new.conn c.put_blob.result (λ bytes w. put_blob w c.args.repo.now c.args.digest.now bytes) (text_in l c.args.source) c.args.bytes.now same (c.put_blob.ensures.made l suits there) in
    record {
      made = λ l suits same there clean is. rw c.in-Ok.is at (turns l suits same there clean is);
      places = c.in-Ok.ensures.places;
      memory = λ l suits clean is wanting. absurd (cc);
      crash = λ l suits same there.
          rw c.in-Ok.is at (leaves_bytes g.S.Store l c.args.conn.now c.put_blob.new.conn c.put_blob.result (λ bytes w. put_blob w c.args.repo.now c.args.digest.now bytes) (text_in l c.args.source) c.args.bytes.now same (c.put_blob.ensures.crash l suits there));
      survives = c.put_blob.ensures.survives;
      known = λ l suits same known there clean is sound.
          let old = state g.S.Store c.args.conn.now in
          let early = was_clean old (state g.S.Store c.put_blob.new.conn) c.put_blob.ensures.survives clean in
          follows l c.args.known.now c.follow.new.self (state g.S.Store c.put_blob.new.conn) (world_in l old) c.args.repo.now (λ (r : Repo). with_blob r c.args.digest.now c.args.bytes.now) (Some c.put_change.result) (known early) (there early)
          (c.put_change.ensures (world_in l old) c.args.repo.now c.args.digest.now (c.in-Ok.ensures.came l clean is)) c.follow.ensures (rw c.in-Ok.is at (turns l suits same there clean is)).1;
    }

pub returns-in-Err : goal.returns-in-Err
returns-in-Err g c = record {
  made = λ l suits same there clean is. tt;
  places = λ l suits clean is. tt;
  memory = λ l suits. c.in-Err.ensures.memory l suits;
  crash = λ l suits same there.
      rw c.in-Err.is at (leaves_bytes g.S.Store l c.args.conn.now c.put_blob.new.conn c.put_blob.result (λ bytes w. put_blob w c.args.repo.now c.args.digest.now bytes) (text_in l c.args.source) c.args.bytes.now same (c.put_blob.ensures.crash l suits there));
  survives = c.put_blob.ensures.survives;
  known = λ l suits same known there clean is sound.
      unfollowed {A = Bool} l c.args.known.now (state g.S.Store c.args.conn.now) (state g.S.Store c.put_blob.new.conn) c.in-Err.fault
      (known (was_clean (state g.S.Store c.args.conn.now) (state g.S.Store c.put_blob.new.conn) c.put_blob.ensures.survives clean)) sound (c.in-Err.ensures.memory l suits clean is);
}

pub put_blob-requires : goal.put_blob-requires
put_blob-requires g c = record {
  right = c.requires.kept.right;
  fits = size_fits c.args.source c.args.bytes.now c.requires.kept (blob_fits (length c.args.bytes.now) c.requires.fits);
  matching = of_source (λ bytes. matches c.args.digest.now bytes ≡ true) c.args.source c.args.bytes.now c.requires.kept c.requires.matching;
}
