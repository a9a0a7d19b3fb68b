-- What the texts mean over the schema that a registry over a pack makes in an empty database.
use Rattle.std.proofs.Common.{refl}
use Rattle.sqlite_tied.specs.Compute.{everything}
use Rattle.sqlite_schema.specs.Names.{same_name}
use Rattle.store_schema.specs.PackSchema.{pack_schema}
use Rattle.store_schema.specs.Schema.{repos_table, grants_table, tags_table, blob_links_table, manifest_links_table, uploads_table, pieces_table, version_table}
use Rattle.store_schema.proofs.PackFresh.{repos_stand, grants_stand, tags_stand, blob_links_stand, manifest_links_stand, uploads_stand, pieces_stand, version_stands, contents_stand, places_stand, pack_stands}
use Rattle.store_schema.proofs.Meanings.{means_by}
use Rattle.sqlite.specs.Command.TheVariants.{Insert}
use Rattle.sqlite.specs.Source.TheVariants.{Values}
use Rattle.sqlite.specs.Term.{lit, col}
use Rattle.sqlite.specs.declared.types.Value.TheVariants.{Null, Int}
use Rattle.std.specs.Prelude.{◌∷◌, [], codes, pos}
use Rattle.store_schema.specs.Commands.{deletes, selects, selects_first, selects_ordered, selects_ordered_twice, updates, selects_page}
use Rattle.store_schema.specs.Layout.{equals, Means}
use Rattle.store_schema.specs.Ordered.{above}
use Rattle.store_schema.specs.PlaceTables.{contents_table, pack_table, places_table}
use Rattle.store_contents.specs.PlaceTexts.{KnowsContentTexts, KnowsPackTexts, KnowsPlaceTexts, by_first, by_id, content_add, content_add_terms, content_find, content_hash, content_list, content_remove, pack_put, pack_put_terms, pack_read, pack_set_age, pack_set_terms, place_add, place_add_terms, place_list, place_list_all, place_remove}
use Rattle.pack_opening.specs.Making.{version_add as version_three}
use Rattle.store_statements.specs.BlobTexts.{blob_find, blob_sizes, blob_digests, blob_contents, blob_add, blob_take, blob_take_all, KnowsBlobTexts}
use Rattle.store_statements.specs.GrantTexts.{grant_find, grant_known, grant_list, grant_list_all, grant_add, grant_set_level, grant_take, grant_take_all, grant_take_token, KnowsGrantTexts}
use Rattle.store_statements.specs.ManifestTexts.{manifest_find, manifest_subject, manifest_sizes, manifest_digests, manifest_contents, manifest_add, manifest_take, manifest_take_all, KnowsManifestTexts}
use Rattle.store_statements.specs.PieceTexts.{piece_list, piece_contents, piece_add, piece_take_of, piece_take_all, KnowsPieceTexts}
use Rattle.store_statements.specs.RepoTexts.{repo_find, repo_list, repo_add, repo_set_quota, repo_set_last, repo_take, KnowsRepoTexts}
use Rattle.store_statements.specs.TagTexts.{tag_find, tag_page, tag_list, tag_pairs, tag_add, tag_set_digest, tag_take, tag_take_named, tag_take_all, tag_named, KnowsTagTexts}
use Rattle.store_statements.specs.UploadTexts.{upload_find, upload_sizes, upload_add, upload_set_size, upload_take, upload_take_all, KnowsUploadTexts}
use Rattle.store_statements.specs.VersionTexts.{version_find, version_add, KnowsVersionTexts}

pub repo_texts : KnowsRepoTexts pack_schema repos_stand
unfolding everything same_name repos_stand
repo_texts = record {
  find = means_by pack_schema repo_find
      (selects pack_schema repos_table (equals 1 0 ∷ []) (col 1 2 ∷ col 1 3 ∷ []) (codes "quota" ∷ codes "last_session" ∷ [])) refl;
  list = means_by pack_schema repo_list (selects_ordered pack_schema repos_table [] (col 1 1 ∷ []) 1 (codes "name" ∷ [])) refl;
  add = means_by pack_schema repo_add (Insert repos_stand.at (Values (lit Null ∷ col 0 0 ∷ col 0 1 ∷ lit (Int (pos 0)) ∷ []) 4)) refl;
  set_quota = means_by pack_schema repo_set_quota
      (updates repos_stand.at pack_schema repos_table (equals 1 0 ∷ []) (col 1 0 ∷ col 1 0 ∷ col 1 1 ∷ col 0 1 ∷ col 1 3 ∷ [])) refl;
  set_last = means_by pack_schema repo_set_last
      (updates repos_stand.at pack_schema repos_table (equals 1 0 ∷ []) (col 1 0 ∷ col 1 0 ∷ col 1 1 ∷ col 1 2 ∷ col 0 1 ∷ [])) refl;
  take = means_by pack_schema repo_take (deletes repos_stand.at pack_schema repos_table (equals 1 0 ∷ [])) refl;
}

pub grant_texts : KnowsGrantTexts pack_schema grants_stand
unfolding everything same_name grants_stand
grant_texts = record {
  find = means_by pack_schema grant_find (selects pack_schema grants_table (equals 1 0 ∷ equals 2 1 ∷ []) (col 1 3 ∷ []) (codes "level" ∷ [])) refl;
  known = means_by pack_schema grant_known (selects_first pack_schema grants_table (equals 1 0 ∷ []) (col 1 3 ∷ []) (codes "level" ∷ [])) refl;
  list = means_by pack_schema grant_list
      (selects_ordered pack_schema grants_table (equals 2 0 ∷ []) (col 1 1 ∷ col 1 3 ∷ []) 1 (codes "token" ∷ codes "level" ∷ [])) refl;
  list_all = means_by pack_schema grant_list_all
      (selects_ordered_twice pack_schema grants_table [] (col 1 2 ∷ col 1 1 ∷ col 1 3 ∷ []) 2 1 (codes "repo" ∷ codes "token" ∷ codes "level" ∷ [])) refl;
  add = means_by pack_schema grant_add (Insert grants_stand.at (Values (lit Null ∷ col 0 0 ∷ col 0 1 ∷ col 0 2 ∷ []) 4)) refl;
  set_level = means_by pack_schema grant_set_level
      (updates grants_stand.at pack_schema grants_table (equals 1 0 ∷ equals 2 1 ∷ []) (col 1 0 ∷ col 1 0 ∷ col 1 1 ∷ col 1 2 ∷ col 0 2 ∷ [])) refl;
  take = means_by pack_schema grant_take (deletes grants_stand.at pack_schema grants_table (equals 1 0 ∷ equals 2 1 ∷ [])) refl;
  take_all = means_by pack_schema grant_take_all (deletes grants_stand.at pack_schema grants_table (equals 2 0 ∷ [])) refl;
  take_token = means_by pack_schema grant_take_token (deletes grants_stand.at pack_schema grants_table (equals 1 0 ∷ [])) refl;
}

pub tag_texts : KnowsTagTexts pack_schema tags_stand
unfolding everything same_name tags_stand
tag_texts = record {
  find = means_by pack_schema tag_find (selects pack_schema tags_table (equals 1 0 ∷ equals 2 1 ∷ []) (col 1 3 ∷ []) (codes "digest" ∷ [])) refl;
  page = means_by pack_schema tag_page (selects_page pack_schema tags_table (equals 1 0 ∷ above 2 1 ∷ []) (col 1 2 ∷ []) 2 2 (codes "tag" ∷ [])) refl;
  list = means_by pack_schema tag_list (selects pack_schema tags_table (equals 1 0 ∷ []) (col 1 2 ∷ []) (codes "tag" ∷ [])) refl;
  pairs = means_by pack_schema tag_pairs
      (selects_ordered pack_schema tags_table (equals 1 0 ∷ []) (col 1 2 ∷ col 1 3 ∷ []) 2 (codes "tag" ∷ codes "digest" ∷ [])) refl;
  add = means_by pack_schema tag_add (Insert tags_stand.at (Values (lit Null ∷ col 0 0 ∷ col 0 1 ∷ col 0 2 ∷ []) 4)) refl;
  set_digest = means_by pack_schema tag_set_digest
      (updates tags_stand.at pack_schema tags_table (equals 1 0 ∷ equals 2 1 ∷ []) (col 1 0 ∷ col 1 0 ∷ col 1 1 ∷ col 1 2 ∷ col 0 2 ∷ [])) refl;
  take = means_by pack_schema tag_take (deletes tags_stand.at pack_schema tags_table (equals 1 0 ∷ equals 2 1 ∷ [])) refl;
  take_named = means_by pack_schema tag_take_named (deletes tags_stand.at pack_schema tags_table (equals 1 0 ∷ equals 3 1 ∷ [])) refl;
  take_all = means_by pack_schema tag_take_all (deletes tags_stand.at pack_schema tags_table (equals 1 0 ∷ [])) refl;
  named = means_by pack_schema tag_named (selects pack_schema tags_table (equals 1 0 ∷ equals 3 1 ∷ []) (col 1 2 ∷ []) (codes "tag" ∷ [])) refl;
}

pub blob_texts : KnowsBlobTexts pack_schema blob_links_stand
unfolding everything same_name blob_links_stand
blob_texts = record {
  find = means_by pack_schema blob_find
      (selects pack_schema blob_links_table (equals 1 0 ∷ equals 2 1 ∷ []) (col 1 3 ∷ col 1 4 ∷ []) (codes "size" ∷ codes "content" ∷ [])) refl;
  sizes = means_by pack_schema blob_sizes (selects pack_schema blob_links_table (equals 1 0 ∷ []) (col 1 3 ∷ []) (codes "size" ∷ [])) refl;
  digests = means_by pack_schema blob_digests (selects_ordered pack_schema blob_links_table (equals 1 0 ∷ []) (col 1 2 ∷ []) 2 (codes "digest" ∷ [])) refl;
  contents = means_by pack_schema blob_contents (selects pack_schema blob_links_table [] (col 1 4 ∷ []) (codes "content" ∷ [])) refl;
  add = means_by pack_schema blob_add (Insert blob_links_stand.at (Values (lit Null ∷ col 0 0 ∷ col 0 1 ∷ col 0 2 ∷ col 0 3 ∷ []) 5)) refl;
  take = means_by pack_schema blob_take (deletes blob_links_stand.at pack_schema blob_links_table (equals 1 0 ∷ equals 2 1 ∷ [])) refl;
  take_all = means_by pack_schema blob_take_all (deletes blob_links_stand.at pack_schema blob_links_table (equals 1 0 ∷ [])) refl;
}

pub manifest_texts : KnowsManifestTexts pack_schema manifest_links_stand
unfolding everything same_name manifest_links_stand
manifest_texts = record {
  find = means_by pack_schema manifest_find
      (selects pack_schema manifest_links_table (equals 1 0 ∷ equals 2 1 ∷ []) (col 1 3 ∷ col 1 4 ∷ col 1 6 ∷ [])
      (codes "size" ∷ codes "kind" ∷ codes "content" ∷ [])) refl;
  subject = means_by pack_schema manifest_subject
      (selects_ordered pack_schema manifest_links_table (equals 1 0 ∷ equals 5 1 ∷ []) (col 1 2 ∷ col 1 6 ∷ []) 2 (codes "digest" ∷ codes "content" ∷ []))
      refl;
  sizes = means_by pack_schema manifest_sizes (selects pack_schema manifest_links_table (equals 1 0 ∷ []) (col 1 3 ∷ []) (codes "size" ∷ [])) refl;
  digests = means_by pack_schema manifest_digests
      (selects_ordered pack_schema manifest_links_table (equals 1 0 ∷ []) (col 1 2 ∷ []) 2 (codes "digest" ∷ [])) refl;
  contents = means_by pack_schema manifest_contents (selects pack_schema manifest_links_table [] (col 1 6 ∷ []) (codes "content" ∷ [])) refl;
  add = means_by pack_schema manifest_add
      (Insert manifest_links_stand.at (Values (lit Null ∷ col 0 0 ∷ col 0 1 ∷ col 0 2 ∷ col 0 3 ∷ col 0 4 ∷ col 0 5 ∷ []) 7)) refl;
  take = means_by pack_schema manifest_take (deletes manifest_links_stand.at pack_schema manifest_links_table (equals 1 0 ∷ equals 2 1 ∷ [])) refl;
  take_all = means_by pack_schema manifest_take_all (deletes manifest_links_stand.at pack_schema manifest_links_table (equals 1 0 ∷ [])) refl;
}

pub upload_texts : KnowsUploadTexts pack_schema uploads_stand
unfolding everything same_name uploads_stand
upload_texts = record {
  find = means_by pack_schema upload_find (selects pack_schema uploads_table (equals 1 0 ∷ equals 2 1 ∷ []) (col 1 3 ∷ []) (codes "size" ∷ [])) refl;
  sizes = means_by pack_schema upload_sizes (selects pack_schema uploads_table (equals 1 0 ∷ []) (col 1 3 ∷ []) (codes "size" ∷ [])) refl;
  add = means_by pack_schema upload_add (Insert uploads_stand.at (Values (lit Null ∷ col 0 0 ∷ col 0 1 ∷ lit (Int (pos 0)) ∷ []) 4)) refl;
  set_size = means_by pack_schema upload_set_size
      (updates uploads_stand.at pack_schema uploads_table (equals 1 0 ∷ equals 2 1 ∷ []) (col 1 0 ∷ col 1 0 ∷ col 1 1 ∷ col 1 2 ∷ col 0 2 ∷ [])) refl;
  take = means_by pack_schema upload_take (deletes uploads_stand.at pack_schema uploads_table (equals 1 0 ∷ equals 2 1 ∷ [])) refl;
  take_all = means_by pack_schema upload_take_all (deletes uploads_stand.at pack_schema uploads_table (equals 1 0 ∷ [])) refl;
}

pub piece_texts : KnowsPieceTexts pack_schema pieces_stand
unfolding everything same_name pieces_stand
piece_texts = record {
  list = means_by pack_schema piece_list (selects_ordered pack_schema pieces_table (equals 1 0 ∷ equals 2 1 ∷ []) (col 1 5 ∷ []) 3 (codes "content" ∷ [])) refl;
  contents = means_by pack_schema piece_contents (selects pack_schema pieces_table [] (col 1 5 ∷ []) (codes "content" ∷ [])) refl;
  add = means_by pack_schema piece_add (Insert pieces_stand.at (Values (lit Null ∷ col 0 0 ∷ col 0 1 ∷ col 0 2 ∷ col 0 3 ∷ col 0 4 ∷ []) 6)) refl;
  take_of = means_by pack_schema piece_take_of (deletes pieces_stand.at pack_schema pieces_table (equals 1 0 ∷ equals 2 1 ∷ [])) refl;
  take_all = means_by pack_schema piece_take_all (deletes pieces_stand.at pack_schema pieces_table (equals 1 0 ∷ [])) refl;
}

pub version_texts : KnowsVersionTexts pack_schema version_stands
unfolding everything same_name version_stands
version_texts = record {
  find = means_by pack_schema version_find (selects pack_schema version_table [] (col 1 1 ∷ []) (codes "version" ∷ [])) refl;
  add = means_by pack_schema version_add (Insert version_stands.at (Values (lit Null ∷ lit (Int (pos 2)) ∷ []) 2)) refl;
}

-- the version is 3
pub adds_version : Means pack_schema version_three (Insert version_stands.at (Values (lit Null ∷ lit (Int (pos 3)) ∷ []) 2))
unfolding everything same_name version_stands
adds_version = means_by pack_schema version_three (Insert version_stands.at (Values (lit Null ∷ lit (Int (pos 3)) ∷ []) 2)) refl

-- ---- contents, their places, and the pack

pub content_texts : KnowsContentTexts pack_schema contents_stand
unfolding everything same_name contents_stand
content_texts = record {
  add = means_by pack_schema content_add (Insert contents_stand.at (Values content_add_terms 4)) refl;
  remove = means_by pack_schema content_remove (deletes contents_stand.at pack_schema contents_table by_id) refl;
  find = means_by pack_schema content_find (selects pack_schema contents_table by_id (col 1 3 ∷ []) (codes "size" ∷ [])) refl;
  list = means_by pack_schema content_list (selects pack_schema contents_table [] (col 1 0 ∷ []) (codes "id" ∷ [])) refl;
  hash = means_by pack_schema content_hash (selects pack_schema contents_table by_id (col 1 2 ∷ []) (codes "sha256" ∷ [])) refl;
}

pub place_texts : KnowsPlaceTexts pack_schema places_stand
unfolding everything same_name places_stand
place_texts = record {
  add = means_by pack_schema place_add (Insert places_stand.at (Values place_add_terms 5)) refl;
  remove = means_by pack_schema place_remove (deletes places_stand.at pack_schema places_table by_first) refl;
  list = means_by pack_schema place_list (selects_ordered pack_schema places_table by_first (col 1 3 ∷ col 1 4 ∷ []) 2 (codes "size" ∷ codes "at" ∷ [])) refl;
  list_all = means_by pack_schema place_list_all (selects pack_schema places_table [] (col 1 3 ∷ col 1 4 ∷ []) (codes "size" ∷ codes "at" ∷ [])) refl;
}

pub pack_texts : KnowsPackTexts pack_schema pack_stands
unfolding everything same_name pack_stands
pack_texts = record {
  read = means_by pack_schema pack_read (selects pack_schema pack_table [] (col 1 1 ∷ col 1 2 ∷ []) (codes "mark" ∷ codes "age" ∷ [])) refl;
  put = means_by pack_schema pack_put (Insert pack_stands.at (Values pack_put_terms 3)) refl;
  set_age = means_by pack_schema pack_set_age (updates pack_stands.at pack_schema pack_table [] pack_set_terms) refl;
}
