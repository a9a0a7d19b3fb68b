-- What the texts that make the tables mean.
use Rattle.std.proofs.Common.{refl}
use Rattle.sqlite_tied.specs.Compute.{everything}
use Rattle.store_schema.specs.Schema.{version_text, repos_text, grants_text, tags_text, contents_text, blob_links_text, manifest_links_text, uploads_text, pieces_text, subject_index_text, sha256_index_text}
use Rattle.sqlite_schema.specs.Names.{same_name}
use Rattle.sqlite.specs.Change.{created, indexed}
use Rattle.store_schema.specs.Schema.{no_schema, fresh_tables}
use Rattle.store_schema.specs.Making.{MakesTable, MakesIndex, shared_tables, linked_tables}
use Rattle.store_schema.specs.Schema.{version_table, repos_table, grants_table, tags_table, contents_table, blob_links_table, manifest_links_table, uploads_table, pieces_table, subject_index, sha256_index}
use Rattle.store_schema.proofs.BesideTexts.{one_version, one_repos, one_grants, one_tags, one_contents, one_blob_links, one_manifest_links, one_uploads, one_pieces, names_sha256, names_subject}
use Rattle.store_schema.proofs.Meanings.{makes_by, indexes_by}

pub makes_version : MakesTable (no_schema) version_text version_table
unfolding everything same_name
makes_version = makes_by (no_schema) version_text version_table one_version refl refl refl tt

pub makes_repos : MakesTable (created no_schema version_table) repos_text repos_table
unfolding everything same_name
makes_repos = makes_by (created no_schema version_table) repos_text repos_table one_repos refl refl refl (refl, tt)

pub makes_grants : MakesTable (created (created no_schema version_table) repos_table) grants_text grants_table
unfolding everything same_name
makes_grants = makes_by (created (created no_schema version_table) repos_table) grants_text grants_table one_grants refl refl refl (refl, tt)

pub makes_tags : MakesTable (created (created (created no_schema version_table) repos_table) grants_table) tags_text tags_table
unfolding everything same_name
makes_tags = makes_by (created (created (created no_schema version_table) repos_table) grants_table) tags_text tags_table one_tags refl refl refl (refl, tt)

pub makes_contents : MakesTable (shared_tables) contents_text contents_table
unfolding everything same_name
makes_contents = makes_by (shared_tables) contents_text contents_table one_contents refl refl refl tt

pub makes_blob_links : MakesTable (created shared_tables contents_table) blob_links_text blob_links_table
unfolding everything same_name
makes_blob_links = makes_by (created shared_tables contents_table) blob_links_text blob_links_table one_blob_links refl refl refl (refl, tt)

pub makes_manifest_links : MakesTable (created (created shared_tables contents_table) blob_links_table) manifest_links_text manifest_links_table
unfolding everything same_name
makes_manifest_links = makes_by (created (created shared_tables contents_table) blob_links_table) manifest_links_text manifest_links_table one_manifest_links refl refl refl (refl, tt)

pub makes_uploads : MakesTable (linked_tables) uploads_text uploads_table
unfolding everything same_name
makes_uploads = makes_by (linked_tables) uploads_text uploads_table one_uploads refl refl refl (refl, tt)

pub makes_pieces : MakesTable (created linked_tables uploads_table) pieces_text pieces_table
unfolding everything same_name
makes_pieces = makes_by (created linked_tables uploads_table) pieces_text pieces_table one_pieces refl refl refl (refl, tt)

pub makes_sha256_index : MakesIndex fresh_tables sha256_index_text 4 (record contents_table { tree = 7 }) (record sha256_index { table = 7 })
unfolding everything same_name
makes_sha256_index = indexes_by fresh_tables sha256_index_text 4 (record contents_table { tree = 7 }) (record sha256_index { table = 7 }) names_sha256 refl refl refl refl

pub makes_subject_index : MakesIndex (indexed fresh_tables (record contents_table { tree = 7 }) sha256_index) subject_index_text 6 (record manifest_links_table { tree = 10 }) (record subject_index { table = 10 })
unfolding everything same_name
makes_subject_index = indexes_by (indexed fresh_tables (record contents_table { tree = 7 }) sha256_index) subject_index_text 6 (record manifest_links_table { tree = 10 }) (record subject_index { table = 10 }) names_subject refl refl refl refl
