-- One row moved from a table of schema 1 to those of schema 2, as the statements say it that move it: its
-- bytes have an id, as they had or got it, a row that names them comes, and the old row goes, which is one of
-- the rows beside the tables of schema 2.
use Rattle.std.specs.Prelude.{◌≡◌, ◌<◌, ◌⊎◌, ℕ, ℤ, pos, List, [], ◌∷◌, length, find, option_map, Some}
use Rattle.sqlite.specs.declared.types.Value.TheVariants.{Int}
use Rattle.sqlite.specs.Order.{Row, column}
use Rattle.oci_types.specs.Text.{Text}
use Rattle.oci_types.specs.Manifest.{manifest_in}
use Rattle.registry_model.specs.Manifests.{kind_in}
use Rattle.registry_model.specs.Referrers.{subject_or_none}
use Rattle.store_schema.specs.Rows.{bytes_at}
use Rattle.store_statements.specs.Keys.{has_key, of_session}
use Rattle.store_statements.specs.Tables.{Tables}
use Rattle.store_statements.specs.Changes.{without, changed, with_size, blob_columns, manifest_columns, upload_columns, piece_columns, Comes, Grow}
use Rattle.store_migration.specs.OldTables.{OldTables}

-- a blob: a link to its bytes comes
pub record BlobMoved (olds news : OldTables) (t u : Tables) : Type 0 where
  pub name : Text
  pub digest : Text
  pub bytes : Text
  pub there : option_map (λ r. bytes_at r 4) (find (has_key name digest) olds.blobs) ≡ Some bytes
  pub id : ℤ
  pub grow : Grow t.contents u.contents
  pub held : u.contents id ≡ Some bytes
  pub comes : Comes t.blobs u.blobs (blob_columns name digest (length bytes) id)
  pub others : u ≡ record t { contents = u.contents; blobs = u.blobs; beside = u.beside }
  pub gone : news ≡ record olds { blobs = without (has_key name digest) olds.blobs }

-- a manifest: a link comes, with the kind and the subject as which the bytes read
pub record ManifestMoved (olds news : OldTables) (t u : Tables) : Type 0 where
  pub name : Text
  pub digest : Text
  pub bytes : Text
  pub there : option_map (λ r. bytes_at r 6) (find (has_key name digest) olds.manifests) ≡ Some bytes
  pub id : ℤ
  pub grow : Grow t.contents u.contents
  pub held : u.contents id ≡ Some bytes
  pub comes : Comes t.manifests u.manifests
      (manifest_columns name digest (length bytes) (kind_in bytes) (subject_or_none (manifest_in bytes)) id)
  pub others : u ≡ record t { contents = u.contents; manifests = u.manifests; beside = u.beside }
  pub gone : news ≡ record olds { manifests = without (has_key name digest) olds.manifests }

-- the bytes of a session become its one piece, and its size is theirs
pub record Filled (t u : Tables) (name : Text) (number : ℕ) (bytes : Text) (uploads : List Row) : Type 0 where
  pub more : 0 < length bytes
  pub id : ℤ
  pub grow : Grow t.contents u.contents
  pub held : u.contents id ≡ Some bytes
  pub comes : Comes t.pieces u.pieces (piece_columns name number 0 (length bytes) id)
  pub others : u ≡ record t {
    contents = u.contents;
    pieces = u.pieces;
    uploads = changed (of_session name number) (with_size (length bytes)) uploads;
    beside = u.beside;
  }

-- there are none
pub record LeftEmpty (t u : Tables) (bytes : Text) (uploads : List Row) : Type 0 where
  pub none : bytes ≡ []
  pub others : u ≡ record t { uploads = uploads; beside = u.beside }

-- an upload session: it is opened under its number, and no number is given out; then its bytes come
pub record SessionMoved (olds news : OldTables) (t u : Tables) : Type 0 where
  pub name : Text
  pub number : ℕ
  pub bytes : Text
  pub there : option_map (λ r. bytes_at r 4) (find (of_session name number) olds.sessions) ≡ Some bytes
  pub uploads : List Row
  pub opens : Comes t.uploads uploads (upload_columns name number)
  pub filled : LeftEmpty t u bytes uploads ⊎ Filled t u name number bytes uploads
  pub gone : news ≡ record olds { sessions = without (of_session name number) olds.sessions }

abbrev pub Moved : OldTables → OldTables → Tables → Tables → Type 0
Moved olds news t u = BlobMoved olds news t u ⊎ (ManifestMoved olds news t u ⊎ SessionMoved olds news t u)

-- ---- many rows, one after the other

-- the tables of both schemas
pub record Stage : Type 0 where
  pub old : OldTables
  pub tables : Tables

-- through these stages
abbrev pub MovesThrough : Stage → List Stage → Stage → Type 0
MovesThrough first [] last = first ≡ last
MovesThrough first (next ∷ stages) last =
    Moved first.old next.old first.tables next.tables × MovesThrough next stages last

-- ---- the version, which is written last

abbrev pub with_version_two : Row → Row
with_version_two r = column r 0 ∷ Int (pos 2) ∷ []
