use Rattle.std.proofs.Common.{◌≡◌, ◌∙◌, ap, true}
use Rattle.oci_types.specs.Digest.{matches}
use Rattle.oci_types.specs.Manifest.{manifest_in}
use Rattle.registry_model.specs.Ask.{text_in}
use Rattle.registry_model.specs.Command.{drop_sessions}
use Rattle.registry_model.specs.Lookups.{delete_blob, delete_manifest, delete_tag, finish, mount, put_manifest}
use Rattle.registry_model.specs.Pruning.{delete_blobs}
use Rattle.store_writes.proofs.Fitting.{blob_fits, manifest_fits}
use Rattle.registry_store.proofs.SourceWrites.{leaves_bytes, none_left, none_made, none_memory, none_places, of_bytes, of_source, size_fits}
use Rattle.registry_store.proofs.counted_writes.make.Goals as goal

pub put_manifest-requires : goal.put_manifest-requires
put_manifest-requires g c =
    let fits = rw c.in-PutManifest.is at c.requires.fits in
    record {
      right = fits.3.right;
      fits = size_fits _ _ fits.3 (manifest_fits _ fits.2);
      matching = of_source (λ bytes. matches c.in-PutManifest.digest.now bytes ≡ true) _ _ fits.3 fits.0;
    }

pub finish-requires : goal.finish-requires
finish-requires g c =
    let fits = rw c.in-Finish.is at c.requires.fits in
    record {
      right = fits.2.right;
      fits = size_fits _ _ fits.2 (blob_fits _ fits.1);
      matching = of_source (λ bytes. matches c.in-Finish.digest.now bytes ≡ true) _ _ fits.2 fits.0;
    }

pub returns-in-PutManifest : goal.returns-in-PutManifest
returns-in-PutManifest g c =
    let fits = rw c.in-PutManifest.is at c.requires.fits in
    record {
      made = rw c.in-PutManifest.is (λ l suits asks.
          of_bytes g.S.Store l c.args.conn.now c.put_manifest.new.conn c.put_manifest.result (λ bytes w. put_manifest w c.args.repo.now c.in-PutManifest.digest.now bytes (text_in c.in-PutManifest.tag)) _ _ suits.1
          (c.put_manifest.ensures.made l suits.0 (ap manifest_in suits.1 ∙ fits.1) asks));
      places = rw c.in-PutManifest.is (λ l suits asks. c.put_manifest.ensures.places l suits.0 (ap manifest_in suits.1 ∙ fits.1) asks);
      memory = rw c.in-PutManifest.is (λ l suits asks. c.put_manifest.ensures.memory l suits.0 (ap manifest_in suits.1 ∙ fits.1) asks);
      crash = rw c.in-PutManifest.is (λ l suits asks.
          leaves_bytes g.S.Store l c.args.conn.now c.put_manifest.new.conn c.put_manifest.result (λ bytes w. put_manifest w c.args.repo.now c.in-PutManifest.digest.now bytes (text_in c.in-PutManifest.tag)) _ _ suits.1
          (c.put_manifest.ensures.crash l suits.0 (ap manifest_in suits.1 ∙ fits.1) asks));
      survives = c.put_manifest.ensures.survives;
    }

pub returns-in-Finish : goal.returns-in-Finish
returns-in-Finish g c = record {
  made = rw c.in-Finish.is (λ l suits asks.
      of_bytes g.S.Store l c.args.conn.now c.finish.new.conn c.finish.result (λ bytes w. finish w c.args.repo.now c.in-Finish.number c.in-Finish.digest.now bytes) _ _ suits.1 (c.finish.ensures.made l suits.0 asks));
  places = rw c.in-Finish.is (λ l suits asks. c.finish.ensures.places l suits.0);
  memory = rw c.in-Finish.is (λ l suits asks. c.finish.ensures.memory l suits.0);
  crash = rw c.in-Finish.is (λ l suits asks.
      leaves_bytes g.S.Store l c.args.conn.now c.finish.new.conn c.finish.result (λ bytes w. finish w c.args.repo.now c.in-Finish.number c.in-Finish.digest.now bytes) _ _ suits.1 (c.finish.ensures.crash l suits.0 asks));
  survives = c.finish.ensures.survives;
}

pub returns-in-Mount : goal.returns-in-Mount
returns-in-Mount g c = record {
  made = rw c.in-Mount.is (λ l suits asks. none_made g.S.Store l c.args.conn.now c.mount.new.conn c.mount.result c.none_came.result c.none_came.ensures (λ w. mount w c.in-Mount.from.now c.args.repo.now c.in-Mount.digest.now) (c.mount.ensures.made l asks));
  places = rw c.in-Mount.is (λ l suits asks. none_places g.S.Store l c.args.conn.now c.mount.new.conn c.mount.result c.none_came.result c.none_came.ensures (c.mount.ensures.places l));
  memory = rw c.in-Mount.is (λ l suits asks. none_memory g.S.Store l c.args.conn.now c.mount.new.conn c.mount.result c.none_came.result c.none_came.ensures (c.mount.ensures.memory l));
  crash = rw c.in-Mount.is (λ l suits asks. none_left g.S.Store l c.args.conn.now c.mount.new.conn c.mount.result c.none_came.result c.none_came.ensures (λ w. mount w c.in-Mount.from.now c.args.repo.now c.in-Mount.digest.now) (c.mount.ensures.crash l asks));
  survives = c.mount.ensures.survives;
}

pub returns-in-DeleteBlob : goal.returns-in-DeleteBlob
returns-in-DeleteBlob g c = record {
  made = rw c.in-DeleteBlob.is (λ l suits asks. none_made g.S.Store l c.args.conn.now c.delete_blob.new.conn c.delete_blob.result c.none_came-in-DeleteBlob.result c.none_came-in-DeleteBlob.ensures (λ w. delete_blob w c.args.repo.now c.in-DeleteBlob.digest.now) (c.delete_blob.ensures.made l));
  places = rw c.in-DeleteBlob.is (λ l suits asks. none_places g.S.Store l c.args.conn.now c.delete_blob.new.conn c.delete_blob.result c.none_came-in-DeleteBlob.result c.none_came-in-DeleteBlob.ensures (c.delete_blob.ensures.places l));
  memory = rw c.in-DeleteBlob.is (λ l suits asks. none_memory g.S.Store l c.args.conn.now c.delete_blob.new.conn c.delete_blob.result c.none_came-in-DeleteBlob.result c.none_came-in-DeleteBlob.ensures (c.delete_blob.ensures.memory l));
  crash = rw c.in-DeleteBlob.is (λ l suits asks. none_left g.S.Store l c.args.conn.now c.delete_blob.new.conn c.delete_blob.result c.none_came-in-DeleteBlob.result c.none_came-in-DeleteBlob.ensures (λ w. delete_blob w c.args.repo.now c.in-DeleteBlob.digest.now) (c.delete_blob.ensures.crash l));
  survives = c.delete_blob.ensures.survives;
}

pub returns-in-DeleteBlobs : goal.returns-in-DeleteBlobs
returns-in-DeleteBlobs g c = record {
  made = rw c.in-DeleteBlobs.is (λ l suits asks. none_made g.S.Store l c.args.conn.now c.delete_blobs.new.conn c.delete_blobs.result c.none_came-in-DeleteBlobs.result c.none_came-in-DeleteBlobs.ensures (λ w. delete_blobs w c.args.repo.now c.in-DeleteBlobs.digests.now) (c.delete_blobs.ensures.made l));
  places = rw c.in-DeleteBlobs.is (λ l suits asks. none_places g.S.Store l c.args.conn.now c.delete_blobs.new.conn c.delete_blobs.result c.none_came-in-DeleteBlobs.result c.none_came-in-DeleteBlobs.ensures (c.delete_blobs.ensures.places l));
  memory = rw c.in-DeleteBlobs.is (λ l suits asks. none_memory g.S.Store l c.args.conn.now c.delete_blobs.new.conn c.delete_blobs.result c.none_came-in-DeleteBlobs.result c.none_came-in-DeleteBlobs.ensures (c.delete_blobs.ensures.memory l));
  crash = rw c.in-DeleteBlobs.is (λ l suits asks. none_left g.S.Store l c.args.conn.now c.delete_blobs.new.conn c.delete_blobs.result c.none_came-in-DeleteBlobs.result c.none_came-in-DeleteBlobs.ensures (λ w. delete_blobs w c.args.repo.now c.in-DeleteBlobs.digests.now) (c.delete_blobs.ensures.crash l));
  survives = c.delete_blobs.ensures.survives;
}

pub returns-in-DeleteManifest : goal.returns-in-DeleteManifest
returns-in-DeleteManifest g c = record {
  made = rw c.in-DeleteManifest.is (λ l suits asks. none_made g.S.Store l c.args.conn.now c.delete_manifest.new.conn c.delete_manifest.result c.none_came-in-DeleteManifest.result c.none_came-in-DeleteManifest.ensures (λ w. delete_manifest w c.args.repo.now c.in-DeleteManifest.digest.now) (c.delete_manifest.ensures.made l));
  places = rw c.in-DeleteManifest.is (λ l suits asks. none_places g.S.Store l c.args.conn.now c.delete_manifest.new.conn c.delete_manifest.result c.none_came-in-DeleteManifest.result c.none_came-in-DeleteManifest.ensures (c.delete_manifest.ensures.places l));
  memory = rw c.in-DeleteManifest.is (λ l suits asks. none_memory g.S.Store l c.args.conn.now c.delete_manifest.new.conn c.delete_manifest.result c.none_came-in-DeleteManifest.result c.none_came-in-DeleteManifest.ensures (c.delete_manifest.ensures.memory l));
  crash = rw c.in-DeleteManifest.is (λ l suits asks. none_left g.S.Store l c.args.conn.now c.delete_manifest.new.conn c.delete_manifest.result c.none_came-in-DeleteManifest.result c.none_came-in-DeleteManifest.ensures (λ w. delete_manifest w c.args.repo.now c.in-DeleteManifest.digest.now) (c.delete_manifest.ensures.crash l));
  survives = c.delete_manifest.ensures.survives;
}

pub returns-in-DeleteTag : goal.returns-in-DeleteTag
returns-in-DeleteTag g c = record {
  made = rw c.in-DeleteTag.is (λ l suits asks. none_made g.S.Store l c.args.conn.now c.delete_tag.new.conn c.delete_tag.result c.none_came-in-DeleteTag.result c.none_came-in-DeleteTag.ensures (λ w. delete_tag w c.args.repo.now c.in-DeleteTag.tag.now) (c.delete_tag.ensures.made l));
  places = rw c.in-DeleteTag.is (λ l suits asks. none_places g.S.Store l c.args.conn.now c.delete_tag.new.conn c.delete_tag.result c.none_came-in-DeleteTag.result c.none_came-in-DeleteTag.ensures (c.delete_tag.ensures.places l));
  memory = rw c.in-DeleteTag.is (λ l suits asks. none_memory g.S.Store l c.args.conn.now c.delete_tag.new.conn c.delete_tag.result c.none_came-in-DeleteTag.result c.none_came-in-DeleteTag.ensures (c.delete_tag.ensures.memory l));
  crash = rw c.in-DeleteTag.is (λ l suits asks. none_left g.S.Store l c.args.conn.now c.delete_tag.new.conn c.delete_tag.result c.none_came-in-DeleteTag.result c.none_came-in-DeleteTag.ensures (λ w. delete_tag w c.args.repo.now c.in-DeleteTag.tag.now) (c.delete_tag.ensures.crash l));
  survives = c.delete_tag.ensures.survives;
}

pub returns-in-DropSessions : goal.returns-in-DropSessions
returns-in-DropSessions g c = record {
  made = rw c.in-DropSessions.is (λ l suits asks. none_made g.S.Store l c.args.conn.now c.drop_sessions.new.conn c.drop_sessions.result c.none_came-in-DropSessions.result c.none_came-in-DropSessions.ensures (λ w. drop_sessions w c.args.repo.now) (c.drop_sessions.ensures.made l));
  places = rw c.in-DropSessions.is (λ l suits asks. none_places g.S.Store l c.args.conn.now c.drop_sessions.new.conn c.drop_sessions.result c.none_came-in-DropSessions.result c.none_came-in-DropSessions.ensures (c.drop_sessions.ensures.places l));
  memory = rw c.in-DropSessions.is (λ l suits asks. none_memory g.S.Store l c.args.conn.now c.drop_sessions.new.conn c.drop_sessions.result c.none_came-in-DropSessions.result c.none_came-in-DropSessions.ensures (c.drop_sessions.ensures.memory l));
  crash = rw c.in-DropSessions.is (λ l suits asks. none_left g.S.Store l c.args.conn.now c.drop_sessions.new.conn c.drop_sessions.result c.none_came-in-DropSessions.result c.none_came-in-DropSessions.ensures (λ w. drop_sessions w c.args.repo.now) (c.drop_sessions.ensures.crash l));
  survives = c.drop_sessions.ensures.survives;
}
