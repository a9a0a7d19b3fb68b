-- What the texts that make the tables of a registry over a pack mean, each over those before it.
use Rattle.std.proofs.Common.{refl}
use Rattle.sqlite_tied.specs.Compute.{everything}
use Rattle.sqlite_schema.specs.Names.{same_name}
use Rattle.sqlite.specs.Change.{created, indexed}
use Rattle.store_schema.specs.Schema.{blob_links_text, manifest_links_text, uploads_text, pieces_text, subject_index_text, sha256_index_text, blob_links_table, manifest_links_table, uploads_table, pieces_table, subject_index, sha256_index}
use Rattle.store_schema.specs.PlaceTables.{pack_table, contents_table, places_table, pack_text, contents_text, places_text}
use Rattle.store_schema.specs.PackSchema.{placed_tables, pack_tables, pack_indexed, blob_content_index, manifest_content_index, piece_content_index, blob_content_text, manifest_content_text, piece_content_text}
use Rattle.store_schema.specs.Making.{MakesTable, MakesIndex, shared_tables}
use Rattle.store_schema.specs.Beside.{MakesNamed, MakesOne}
use Rattle.store_schema.proofs.BesideTexts.{one_blob_links, one_manifest_links, one_uploads, one_pieces, names_sha256, names_subject}
use Rattle.store_schema.proofs.Meanings.{makes_by, indexes_by, named_by}

-- ---- over any schema

pub one_pack : MakesOne pack_text pack_table
unfolding everything same_name
one_pack = record { named = named_by pack_text pack_table.name refl; defined = refl; itself = refl }

pub one_contents : MakesOne contents_text contents_table
unfolding everything same_name
one_contents = record { named = named_by contents_text contents_table.name refl; defined = refl; itself = refl }

pub one_places : MakesOne places_text places_table
unfolding everything same_name
one_places = record { named = named_by places_text places_table.name refl; defined = refl; itself = refl }

pub names_blob : MakesNamed blob_content_text blob_content_index.name
unfolding everything same_name
names_blob = named_by blob_content_text blob_content_index.name refl

pub names_manifest : MakesNamed manifest_content_text manifest_content_index.name
unfolding everything same_name
names_manifest = named_by manifest_content_text manifest_content_index.name refl

pub names_piece : MakesNamed piece_content_text piece_content_index.name
unfolding everything same_name
names_piece = named_by piece_content_text piece_content_index.name refl

-- ---- in their order

pub makes_pack : MakesTable shared_tables pack_text pack_table
unfolding everything same_name
makes_pack = makes_by shared_tables pack_text pack_table one_pack refl refl refl tt

pub makes_contents : MakesTable (created shared_tables pack_table) contents_text contents_table
unfolding everything same_name
makes_contents = makes_by (created shared_tables pack_table) contents_text contents_table one_contents refl refl refl tt

pub makes_places : MakesTable (created (created shared_tables pack_table) contents_table) places_text places_table
unfolding everything same_name
makes_places = makes_by (created (created shared_tables pack_table) contents_table) places_text places_table one_places refl refl refl (refl, tt)

pub makes_blob_links : MakesTable placed_tables blob_links_text blob_links_table
unfolding everything same_name
makes_blob_links = makes_by placed_tables blob_links_text blob_links_table one_blob_links refl refl refl (refl, tt)

pub makes_manifest_links : MakesTable (created placed_tables blob_links_table) manifest_links_text manifest_links_table
unfolding everything same_name
makes_manifest_links = makes_by (created placed_tables blob_links_table) manifest_links_text manifest_links_table one_manifest_links refl refl refl (refl, tt)

pub makes_uploads : MakesTable (created (created placed_tables blob_links_table) manifest_links_table) uploads_text uploads_table
unfolding everything same_name
makes_uploads = makes_by (created (created placed_tables blob_links_table) manifest_links_table) uploads_text uploads_table one_uploads refl refl refl
    (refl, tt)

pub makes_pieces : MakesTable (created (created (created placed_tables blob_links_table) manifest_links_table) uploads_table) pieces_text pieces_table
unfolding everything same_name
makes_pieces = makes_by (created (created (created placed_tables blob_links_table) manifest_links_table) uploads_table) pieces_text pieces_table one_pieces
    refl refl refl (refl, tt)

pub makes_sha256_index : MakesIndex pack_tables sha256_index_text 5 (record contents_table { tree = 8 }) (record sha256_index { table = 8 })
unfolding everything same_name
makes_sha256_index = indexes_by pack_tables sha256_index_text 5 (record contents_table { tree = 8 }) (record sha256_index { table = 8 }) names_sha256 refl
    refl refl refl

pub makes_subject_index : MakesIndex (indexed pack_tables (record contents_table { tree = 8 }) sha256_index) subject_index_text 8
    (record manifest_links_table { tree = 13 }) (record subject_index { table = 13 })
unfolding everything same_name
makes_subject_index = indexes_by (indexed pack_tables (record contents_table { tree = 8 }) sha256_index) subject_index_text 8
    (record manifest_links_table { tree = 13 }) (record subject_index { table = 13 }) names_subject refl refl refl refl

pub makes_blob_content : MakesIndex pack_indexed blob_content_text 7 (record blob_links_table { tree = 11 }) (record blob_content_index { table = 11 })
unfolding everything same_name
makes_blob_content = indexes_by pack_indexed blob_content_text 7 (record blob_links_table { tree = 11 }) (record blob_content_index { table = 11 })
    names_blob refl refl refl refl

pub makes_manifest_content : MakesIndex (indexed pack_indexed (record blob_links_table { tree = 11 }) blob_content_index) manifest_content_text 8
    (record manifest_links_table { tree = 13 }) (record manifest_content_index { table = 13 })
unfolding everything same_name
makes_manifest_content = indexes_by (indexed pack_indexed (record blob_links_table { tree = 11 }) blob_content_index) manifest_content_text 8
    (record manifest_links_table { tree = 13 }) (record manifest_content_index { table = 13 }) names_manifest refl refl refl refl

pub makes_piece_content : MakesIndex
    (indexed (indexed pack_indexed (record blob_links_table { tree = 11 }) blob_content_index) (record manifest_links_table { tree = 13 })
    manifest_content_index) piece_content_text 10 (record pieces_table { tree = 17 }) (record piece_content_index { table = 17 })
unfolding everything same_name
makes_piece_content = indexes_by
    (indexed (indexed pack_indexed (record blob_links_table { tree = 11 }) blob_content_index) (record manifest_links_table { tree = 13 })
    manifest_content_index) piece_content_text 10 (record pieces_table { tree = 17 }) (record piece_content_index { table = 17 }) names_piece refl refl
    refl refl
