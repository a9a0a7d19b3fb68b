use Rattle.registry_store.proofs.foretelling.look_up.Goals as goal

pub returns-in-Mount : goal.returns-in-Mount
returns-in-Mount g c = record {
  found = rw c.in-Mount.is (c.mount_change.ensures.found);
  settled = c.mount_change.ensures.settled;
  kept = c.mount_change.ensures.kept;
  survives = c.mount_change.ensures.survives;
}

pub returns-in-PutManifest : goal.returns-in-PutManifest
returns-in-PutManifest g c = record {
  found = rw c.in-PutManifest.is (c.manifest_change.ensures.found);
  settled = c.manifest_change.ensures.settled;
  kept = c.manifest_change.ensures.kept;
  survives = c.manifest_change.ensures.survives;
}

pub returns-in-Finish : goal.returns-in-Finish
returns-in-Finish g c = record {
  found = rw c.in-Finish.is (c.finish_change.ensures.found);
  settled = c.finish_change.ensures.settled;
  kept = c.finish_change.ensures.kept;
  survives = c.finish_change.ensures.survives;
}

pub returns-in-DeleteBlob : goal.returns-in-DeleteBlob
returns-in-DeleteBlob g c = record {
  found = rw c.in-DeleteBlob.is (c.delete_blob_change.ensures.found);
  settled = c.delete_blob_change.ensures.settled;
  kept = c.delete_blob_change.ensures.kept;
  survives = c.delete_blob_change.ensures.survives;
}

pub returns-in-DeleteBlobs : goal.returns-in-DeleteBlobs
returns-in-DeleteBlobs g c = record {
  found = rw c.in-DeleteBlobs.is (c.delete_blobs_change.ensures.found);
  settled = c.delete_blobs_change.ensures.settled;
  kept = c.delete_blobs_change.ensures.kept;
  survives = c.delete_blobs_change.ensures.survives;
}

pub returns-in-DeleteManifest : goal.returns-in-DeleteManifest
returns-in-DeleteManifest g c = record {
  found = rw c.in-DeleteManifest.is (c.delete_manifest_change.ensures.found);
  settled = c.delete_manifest_change.ensures.settled;
  kept = c.delete_manifest_change.ensures.kept;
  survives = c.delete_manifest_change.ensures.survives;
}

pub returns-in-DeleteTag : goal.returns-in-DeleteTag
returns-in-DeleteTag g c = record {
  found = rw c.in-DeleteTag.is (c.delete_tag_change.ensures.found);
  settled = c.delete_tag_change.ensures.settled;
  kept = c.delete_tag_change.ensures.kept;
  survives = c.delete_tag_change.ensures.survives;
}

pub returns-in-DropSessions : goal.returns-in-DropSessions
returns-in-DropSessions g c = record {
  found = rw c.in-DropSessions.is (c.drop_sessions_change.ensures.found);
  settled = c.drop_sessions_change.ensures.settled;
  kept = c.drop_sessions_change.ensures.kept;
  survives = c.drop_sessions_change.ensures.survives;
}
