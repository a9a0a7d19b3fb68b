-- The tables of a registry over a pack, as it makes them in an empty database.
use Rattle.std.proofs.Common.{◌≡◌, refl}
use Rattle.sqlite_tied.specs.Compute.{everything}
use Rattle.sqlite_schema.specs.Names.{same_name}
use Rattle.sqlite_value.specs.Keys.{joined}
use Rattle.store_schema.specs.Schema.{version_table, repos_table, grants_table, tags_table, blob_links_table, manifest_links_table, uploads_table, pieces_table}
use Rattle.store_schema.specs.PlaceTables.{pack_table, contents_table, places_table}
use Rattle.store_schema.specs.PackSchema.{pack_schema}
use Rattle.store_schema.specs.Layout.{tree_of, Stands, IsUnreferred}

-- ---- the trees

pub version_tree : tree_of pack_schema version_table ≡ 0
unfolding same_name
version_tree = refl

pub repos_tree : tree_of pack_schema repos_table ≡ 1
unfolding same_name
repos_tree = refl

pub grants_tree : tree_of pack_schema grants_table ≡ 3
unfolding same_name
grants_tree = refl

pub tags_tree : tree_of pack_schema tags_table ≡ 5
unfolding same_name
tags_tree = refl

pub pack_tree : tree_of pack_schema pack_table ≡ 7
unfolding same_name
pack_tree = refl

pub contents_tree : tree_of pack_schema contents_table ≡ 8
unfolding same_name
contents_tree = refl

pub places_tree : tree_of pack_schema places_table ≡ 9
unfolding same_name
places_tree = refl

pub blob_links_tree : tree_of pack_schema blob_links_table ≡ 11
unfolding same_name
blob_links_tree = refl

pub manifest_links_tree : tree_of pack_schema manifest_links_table ≡ 13
unfolding same_name
manifest_links_tree = refl

pub uploads_tree : tree_of pack_schema uploads_table ≡ 15
unfolding same_name
uploads_tree = refl

pub pieces_tree : tree_of pack_schema pieces_table ≡ 17
unfolding same_name
pieces_tree = refl

-- ---- the tables stand

unfoldable pub version_stands : Stands pack_schema version_table
unfolding same_name
version_stands = record { at = 0; place = refl; stored = refl }

unfoldable pub repos_stand : Stands pack_schema repos_table
unfolding same_name
repos_stand = record { at = 1; place = refl; stored = refl }

unfoldable pub grants_stand : Stands pack_schema grants_table
unfolding same_name
grants_stand = record { at = 2; place = refl; stored = refl }

unfoldable pub tags_stand : Stands pack_schema tags_table
unfolding same_name
tags_stand = record { at = 3; place = refl; stored = refl }

unfoldable pub pack_stands : Stands pack_schema pack_table
unfolding same_name
pack_stands = record { at = 4; place = refl; stored = refl }

unfoldable pub contents_stand : Stands pack_schema contents_table
unfolding same_name
contents_stand = record { at = 5; place = refl; stored = refl }

unfoldable pub places_stand : Stands pack_schema places_table
unfolding same_name
places_stand = record { at = 6; place = refl; stored = refl }

unfoldable pub blob_links_stand : Stands pack_schema blob_links_table
unfolding same_name
blob_links_stand = record { at = 7; place = refl; stored = refl }

unfoldable pub manifest_links_stand : Stands pack_schema manifest_links_table
unfolding same_name
manifest_links_stand = record { at = 8; place = refl; stored = refl }

unfoldable pub uploads_stand : Stands pack_schema uploads_table
unfolding same_name
uploads_stand = record { at = 9; place = refl; stored = refl }

unfoldable pub pieces_stand : Stands pack_schema pieces_table
unfolding same_name
pieces_stand = record { at = 10; place = refl; stored = refl }

-- ---- only repositories take other rows with them

pub grants_alone : IsUnreferred pack_schema grants_table
unfolding joined everything same_name
grants_alone olds = refl

pub tags_alone : IsUnreferred pack_schema tags_table
unfolding joined everything same_name
tags_alone olds = refl

pub contents_alone : IsUnreferred pack_schema contents_table
unfolding joined everything same_name
contents_alone olds = refl

pub places_alone : IsUnreferred pack_schema places_table
unfolding joined everything same_name
places_alone olds = refl

pub blob_links_alone : IsUnreferred pack_schema blob_links_table
unfolding joined everything same_name
blob_links_alone olds = refl

pub manifest_links_alone : IsUnreferred pack_schema manifest_links_table
unfolding joined everything same_name
manifest_links_alone olds = refl

pub uploads_alone : IsUnreferred pack_schema uploads_table
unfolding joined everything same_name
uploads_alone olds = refl

pub pieces_alone : IsUnreferred pack_schema pieces_table
unfolding joined everything same_name
pieces_alone olds = refl
