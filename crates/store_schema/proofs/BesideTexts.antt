-- What each text of the schema makes, over any schema.
use Rattle.std.proofs.Common.{refl}
use Rattle.sqlite_tied.specs.Compute.{everything}
use Rattle.sqlite_schema.specs.Names.{same_name}
use Rattle.store_schema.specs.Schema.{version_text, repos_text, grants_text, tags_text, contents_text, blob_links_text, manifest_links_text, uploads_text, pieces_text, subject_index_text, sha256_index_text}
use Rattle.store_schema.specs.Schema.{version_table, repos_table, grants_table, tags_table, contents_table, blob_links_table, manifest_links_table, uploads_table, pieces_table, subject_index, sha256_index}
use Rattle.store_schema.specs.Beside.{MakesNamed, MakesOne}
use Rattle.store_schema.proofs.Meanings.{named_by}

pub one_version : MakesOne version_text version_table
unfolding everything same_name
one_version = record { named = named_by version_text version_table.name refl; defined = refl; itself = refl }

pub one_repos : MakesOne repos_text repos_table
unfolding everything same_name
one_repos = record { named = named_by repos_text repos_table.name refl; defined = refl; itself = refl }

pub one_grants : MakesOne grants_text grants_table
unfolding everything same_name
one_grants = record { named = named_by grants_text grants_table.name refl; defined = refl; itself = refl }

pub one_tags : MakesOne tags_text tags_table
unfolding everything same_name
one_tags = record { named = named_by tags_text tags_table.name refl; defined = refl; itself = refl }

pub one_contents : MakesOne contents_text contents_table
unfolding everything same_name
one_contents = record { named = named_by contents_text contents_table.name refl; defined = refl; itself = refl }

pub one_blob_links : MakesOne blob_links_text blob_links_table
unfolding everything same_name
one_blob_links = record { named = named_by blob_links_text blob_links_table.name refl; defined = refl; itself = refl }

pub one_manifest_links : MakesOne manifest_links_text manifest_links_table
unfolding everything same_name
one_manifest_links = record { named = named_by manifest_links_text manifest_links_table.name refl; defined = refl; itself = refl }

pub one_uploads : MakesOne uploads_text uploads_table
unfolding everything same_name
one_uploads = record { named = named_by uploads_text uploads_table.name refl; defined = refl; itself = refl }

pub one_pieces : MakesOne pieces_text pieces_table
unfolding everything same_name
one_pieces = record { named = named_by pieces_text pieces_table.name refl; defined = refl; itself = refl }

pub names_sha256 : MakesNamed sha256_index_text sha256_index.name
unfolding everything same_name
names_sha256 = named_by sha256_index_text sha256_index.name refl

pub names_subject : MakesNamed subject_index_text subject_index.name
unfolding everything same_name
names_subject = named_by subject_index_text subject_index.name refl
