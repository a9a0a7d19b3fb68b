-- The tables of both schemas, where a migration makes those of schema 2.
use Rattle.std.proofs.Common.{refl}
use Rattle.sqlite_tied.specs.Compute.{everything}
use Rattle.sqlite_schema.specs.Names.{same_name}
use Rattle.sqlite_value.specs.Keys.{joined}
use Rattle.store_schema.specs.Schema.{version_table, repos_table, grants_table, tags_table, contents_table, blob_links_table, manifest_links_table, uploads_table, pieces_table}
use Rattle.store_schema.specs.OldSchema.{both_schema, old_blobs_table, old_manifests_table, old_sessions_table}
use Rattle.store_schema.specs.Layout.{Stands, IsUnreferred}

-- ---- the tables stand

unfoldable pub version_stands : Stands both_schema version_table
unfolding same_name
version_stands = record { at = 0; place = refl; stored = refl }

unfoldable pub repos_stand : Stands both_schema repos_table
unfolding same_name
repos_stand = record { at = 1; place = refl; stored = refl }

unfoldable pub grants_stand : Stands both_schema grants_table
unfolding same_name
grants_stand = record { at = 2; place = refl; stored = refl }

unfoldable pub tags_stand : Stands both_schema tags_table
unfolding same_name
tags_stand = record { at = 3; place = refl; stored = refl }

unfoldable pub contents_stand : Stands both_schema contents_table
unfolding same_name
contents_stand = record { at = 7; place = refl; stored = refl }

unfoldable pub blob_links_stand : Stands both_schema blob_links_table
unfolding same_name
blob_links_stand = record { at = 8; place = refl; stored = refl }

unfoldable pub manifest_links_stand : Stands both_schema manifest_links_table
unfolding same_name
manifest_links_stand = record { at = 9; place = refl; stored = refl }

unfoldable pub uploads_stand : Stands both_schema uploads_table
unfolding same_name
uploads_stand = record { at = 10; place = refl; stored = refl }

unfoldable pub pieces_stand : Stands both_schema pieces_table
unfolding same_name
pieces_stand = record { at = 11; place = refl; stored = refl }

unfoldable pub old_blobs_stand : Stands both_schema old_blobs_table
unfolding same_name
old_blobs_stand = record { at = 4; place = refl; stored = refl }

unfoldable pub old_manifests_stand : Stands both_schema old_manifests_table
unfolding same_name
old_manifests_stand = record { at = 5; place = refl; stored = refl }

unfoldable pub old_sessions_stand : Stands both_schema old_sessions_table
unfolding same_name
old_sessions_stand = record { at = 6; place = refl; stored = refl }

-- ---- only repositories take other rows with them

pub grants_alone : IsUnreferred both_schema grants_table
unfolding joined everything same_name
grants_alone olds = refl

pub tags_alone : IsUnreferred both_schema tags_table
unfolding joined everything same_name
tags_alone olds = refl

pub contents_alone : IsUnreferred both_schema contents_table
unfolding joined everything same_name
contents_alone olds = refl

pub blob_links_alone : IsUnreferred both_schema blob_links_table
unfolding joined everything same_name
blob_links_alone olds = refl

pub manifest_links_alone : IsUnreferred both_schema manifest_links_table
unfolding joined everything same_name
manifest_links_alone olds = refl

pub uploads_alone : IsUnreferred both_schema uploads_table
unfolding joined everything same_name
uploads_alone olds = refl

pub pieces_alone : IsUnreferred both_schema pieces_table
unfolding joined everything same_name
pieces_alone olds = refl

pub old_blobs_alone : IsUnreferred both_schema old_blobs_table
unfolding joined everything same_name
old_blobs_alone olds = refl

pub old_manifests_alone : IsUnreferred both_schema old_manifests_table
unfolding joined everything same_name
old_manifests_alone olds = refl

pub old_sessions_alone : IsUnreferred both_schema old_sessions_table
unfolding joined everything same_name
old_sessions_alone olds = refl
