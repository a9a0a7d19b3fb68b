-- What the texts that make the tables of schema 2 mean over those of schema 1.
use Rattle.std.proofs.Common.{refl}
use Rattle.sqlite_tied.specs.Compute.{everything}
use Rattle.sqlite_schema.specs.Names.{same_name}
use Rattle.sqlite.specs.Change.{created, indexed}
use Rattle.store_schema.specs.Schema.{contents_text, blob_links_text, manifest_links_text, uploads_text, pieces_text, subject_index_text, sha256_index_text, contents_table, blob_links_table, manifest_links_table, uploads_table, pieces_table, subject_index, sha256_index}
use Rattle.store_schema.specs.Making.{MakesTable, MakesIndex}
use Rattle.store_schema.specs.OldSchema.{old_schema, old_linked, both_tables}
use Rattle.store_schema.proofs.BesideTexts.{one_contents, one_blob_links, one_manifest_links, one_uploads, one_pieces, names_sha256, names_subject}
use Rattle.store_schema.proofs.Meanings.{makes_by, indexes_by}

pub makes_contents : MakesTable old_schema contents_text contents_table
unfolding everything same_name
makes_contents = makes_by old_schema contents_text contents_table one_contents refl refl refl tt

pub makes_blob_links : MakesTable (created old_schema contents_table) blob_links_text blob_links_table
unfolding everything same_name
makes_blob_links = makes_by (created old_schema contents_table) blob_links_text blob_links_table one_blob_links refl refl refl (refl, tt)

pub makes_manifest_links : MakesTable (created (created old_schema contents_table) blob_links_table) manifest_links_text manifest_links_table
unfolding everything same_name
makes_manifest_links = makes_by (created (created old_schema contents_table) blob_links_table) manifest_links_text manifest_links_table one_manifest_links refl refl refl (refl, tt)

pub makes_uploads : MakesTable old_linked uploads_text uploads_table
unfolding everything same_name
makes_uploads = makes_by old_linked uploads_text uploads_table one_uploads refl refl refl (refl, tt)

pub makes_pieces : MakesTable (created old_linked uploads_table) pieces_text pieces_table
unfolding everything same_name
makes_pieces = makes_by (created old_linked uploads_table) pieces_text pieces_table one_pieces refl refl refl (refl, tt)

pub makes_sha256_index : MakesIndex both_tables sha256_index_text 7 (record contents_table { tree = 14 }) (record sha256_index { table = 14 })
unfolding everything same_name
makes_sha256_index = indexes_by both_tables sha256_index_text 7 (record contents_table { tree = 14 }) (record sha256_index { table = 14 }) names_sha256 refl refl refl refl

pub makes_subject_index : MakesIndex (indexed both_tables (record contents_table { tree = 14 }) sha256_index) subject_index_text 9 (record manifest_links_table { tree = 17 }) (record subject_index { table = 17 })
unfolding everything same_name
makes_subject_index = indexes_by (indexed both_tables (record contents_table { tree = 14 }) sha256_index) subject_index_text 9 (record manifest_links_table { tree = 17 }) (record subject_index { table = 17 }) names_subject refl refl refl refl
