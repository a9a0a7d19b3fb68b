-- What the texts mean over the tables of both schemas.
use Rattle.std.proofs.Common.{refl}
use Rattle.sqlite_tied.specs.Compute.{everything}
use Rattle.sqlite.specs.Listing.{understood}
use Rattle.sqlite_schema.specs.Names.{same_name}
use Rattle.std.specs.Prelude.{codes}
use Rattle.store_schema.specs.OldSchema.{both_schema, old_blobs_table, old_manifests_table, old_sessions_table}
use Rattle.store_contents.specs.Texts.{KnowsTexts}
use Rattle.store_migration.specs.OldTexts.{KnowsOldTexts, KnowsRaise, blob_keys, blob_bytes, blob_take, manifest_keys, manifest_bytes, manifest_take, session_keys, session_bytes, session_take}
use Rattle.store_migration.proofs.Both.{repos_stand, grants_stand, tags_stand, contents_stand, blob_links_stand, manifest_links_stand, uploads_stand, pieces_stand, version_stands, old_blobs_stand, old_manifests_stand, old_sessions_stand}
use Rattle.store_statements.specs.RepoTexts.{KnowsRepoTexts}
use Rattle.store_statements.specs.GrantTexts.{KnowsGrantTexts}
use Rattle.store_statements.specs.TagTexts.{KnowsTagTexts}
use Rattle.store_statements.specs.BlobTexts.{KnowsBlobTexts}
use Rattle.store_statements.specs.ManifestTexts.{KnowsManifestTexts}
use Rattle.store_statements.specs.UploadTexts.{KnowsUploadTexts}
use Rattle.store_statements.specs.PieceTexts.{KnowsPieceTexts}
use Rattle.store_statements.specs.VersionTexts.{KnowsVersionTexts}

pub repo_texts : KnowsRepoTexts both_schema repos_stand
unfolding understood everything same_name repos_stand
repo_texts = record {
  find = record { is = refl; plain = (refl, refl); unlisted = refl };
  list = record { is = refl; plain = (refl, refl); unlisted = refl };
  add = record { is = refl; plain = (refl, refl); unlisted = refl };
  set_quota = record { is = refl; plain = (refl, refl); unlisted = refl };
  set_last = record { is = refl; plain = (refl, refl); unlisted = refl };
  take = record { is = refl; plain = (refl, refl); unlisted = refl };
}

pub grant_texts : KnowsGrantTexts both_schema grants_stand
unfolding understood everything same_name grants_stand
grant_texts = record {
  find = record { is = refl; plain = (refl, refl); unlisted = refl };
  known = record { is = refl; plain = (refl, refl); unlisted = refl };
  list = record { is = refl; plain = (refl, refl); unlisted = refl };
  list_all = record { is = refl; plain = (refl, refl); unlisted = refl };
  add = record { is = refl; plain = (refl, refl); unlisted = refl };
  set_level = record { is = refl; plain = (refl, refl); unlisted = refl };
  take = record { is = refl; plain = (refl, refl); unlisted = refl };
  take_all = record { is = refl; plain = (refl, refl); unlisted = refl };
  take_token = record { is = refl; plain = (refl, refl); unlisted = refl };
}

pub tag_texts : KnowsTagTexts both_schema tags_stand
unfolding understood everything same_name tags_stand
tag_texts = record {
  find = record { is = refl; plain = (refl, refl); unlisted = refl };
  page = record { is = refl; plain = (refl, refl); unlisted = refl };
  list = record { is = refl; plain = (refl, refl); unlisted = refl };
  pairs = record { is = refl; plain = (refl, refl); unlisted = refl };
  add = record { is = refl; plain = (refl, refl); unlisted = refl };
  set_digest = record { is = refl; plain = (refl, refl); unlisted = refl };
  take = record { is = refl; plain = (refl, refl); unlisted = refl };
  take_named = record { is = refl; plain = (refl, refl); unlisted = refl };
  take_all = record { is = refl; plain = (refl, refl); unlisted = refl };
  named = record { is = refl; plain = (refl, refl); unlisted = refl };
}

pub blob_texts : KnowsBlobTexts both_schema blob_links_stand
unfolding understood everything same_name blob_links_stand
blob_texts = record {
  find = record { is = refl; plain = (refl, refl); unlisted = refl };
  sizes = record { is = refl; plain = (refl, refl); unlisted = refl };
  digests = record { is = refl; plain = (refl, refl); unlisted = refl };
  contents = record { is = refl; plain = (refl, refl); unlisted = refl };
  add = record { is = refl; plain = (refl, refl); unlisted = refl };
  take = record { is = refl; plain = (refl, refl); unlisted = refl };
  take_all = record { is = refl; plain = (refl, refl); unlisted = refl };
}

pub manifest_texts : KnowsManifestTexts both_schema manifest_links_stand
unfolding understood everything same_name manifest_links_stand
manifest_texts = record {
  find = record { is = refl; plain = (refl, refl); unlisted = refl };
  subject = record { is = refl; plain = (refl, refl); unlisted = refl };
  sizes = record { is = refl; plain = (refl, refl); unlisted = refl };
  digests = record { is = refl; plain = (refl, refl); unlisted = refl };
  contents = record { is = refl; plain = (refl, refl); unlisted = refl };
  add = record { is = refl; plain = (refl, refl); unlisted = refl };
  take = record { is = refl; plain = (refl, refl); unlisted = refl };
  take_all = record { is = refl; plain = (refl, refl); unlisted = refl };
}

pub upload_texts : KnowsUploadTexts both_schema uploads_stand
unfolding understood everything same_name uploads_stand
upload_texts = record {
  find = record { is = refl; plain = (refl, refl); unlisted = refl };
  sizes = record { is = refl; plain = (refl, refl); unlisted = refl };
  add = record { is = refl; plain = (refl, refl); unlisted = refl };
  set_size = record { is = refl; plain = (refl, refl); unlisted = refl };
  take = record { is = refl; plain = (refl, refl); unlisted = refl };
  take_all = record { is = refl; plain = (refl, refl); unlisted = refl };
}

pub piece_texts : KnowsPieceTexts both_schema pieces_stand
unfolding understood everything same_name pieces_stand
piece_texts = record {
  list = record { is = refl; plain = (refl, refl); unlisted = refl };
  contents = record { is = refl; plain = (refl, refl); unlisted = refl };
  add = record { is = refl; plain = (refl, refl); unlisted = refl };
  take_of = record { is = refl; plain = (refl, refl); unlisted = refl };
  take_all = record { is = refl; plain = (refl, refl); unlisted = refl };
}

pub version_texts : KnowsVersionTexts both_schema version_stands
unfolding understood everything same_name version_stands
version_texts = record {
  find = record { is = refl; plain = (refl, refl); unlisted = refl };
  add = record { is = refl; plain = (refl, refl); unlisted = refl };
}

pub content_texts : KnowsTexts both_schema contents_stand
unfolding understood everything same_name contents_stand
content_texts = record {
  find = record { is = refl; plain = (refl, refl); unlisted = refl };
  hash = record { is = refl; plain = (refl, refl); unlisted = refl };
  add = record { is = refl; plain = (refl, refl); unlisted = refl };
  read = record { is = refl; plain = (refl, refl); unlisted = refl };
  list = record { is = refl; plain = (refl, refl); unlisted = refl };
  remove = record { is = refl; plain = (refl, refl); unlisted = refl };
}

-- ---- of the old tables

pub old_blob_texts : KnowsOldTexts both_schema old_blobs_table old_blobs_stand blob_keys blob_bytes blob_take (codes "digest") 4
unfolding understood everything same_name old_blobs_stand
old_blob_texts = record {
  keys_mean = record { is = refl; plain = (refl, refl); unlisted = refl };
  bytes_mean = record { is = refl; plain = (refl, refl); unlisted = refl };
  take_mean = record { is = refl; plain = (refl, refl); unlisted = refl };
}

pub old_manifest_texts : KnowsOldTexts both_schema old_manifests_table old_manifests_stand manifest_keys manifest_bytes manifest_take (codes "digest") 6
unfolding understood everything same_name old_manifests_stand
old_manifest_texts = record {
  keys_mean = record { is = refl; plain = (refl, refl); unlisted = refl };
  bytes_mean = record { is = refl; plain = (refl, refl); unlisted = refl };
  take_mean = record { is = refl; plain = (refl, refl); unlisted = refl };
}

pub old_session_texts : KnowsOldTexts both_schema old_sessions_table old_sessions_stand session_keys session_bytes session_take (codes "number") 4
unfolding understood everything same_name old_sessions_stand
old_session_texts = record {
  keys_mean = record { is = refl; plain = (refl, refl); unlisted = refl };
  bytes_mean = record { is = refl; plain = (refl, refl); unlisted = refl };
  take_mean = record { is = refl; plain = (refl, refl); unlisted = refl };
}

pub raise_text : KnowsRaise both_schema version_stands
unfolding understood everything same_name version_stands
raise_text = record { is = refl; plain = (refl, refl); unlisted = refl }
