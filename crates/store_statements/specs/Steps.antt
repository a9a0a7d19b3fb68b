-- What the store's statements make of the tables.
use Rattle.std.specs.Prelude.{◌≡◌, ◌≢◌, ℤ, pos, Bool, List, ◌∷◌, [], ◌&&◌, bytes_eq, ◌+◌, ℕ, Some, length}
use Rattle.sqlite.specs.declared.types.Value.TheVariants.{Int}
use Rattle.sqlite.specs.Order.{Row}
use Rattle.sqlite.specs.State.{State}
use Rattle.oci_types.specs.Text.{Text}
use Rattle.store_schema.specs.Rows.{PutsRow, bytes_at}
use Rattle.store_statements.specs.Keys.{of_first, of_session, has_key}
use Rattle.store_statements.specs.Tables.{Tables, IsEmptyBeside, new_tables}
use Rattle.store_statements.specs.Registry.{IsOfSchemaTwo}
use Rattle.store_statements.specs.Changes.{without, changed, Comes, with_last, with_size, upload_columns, blob_columns, piece_columns, Grow}
use Rattle.store_statements.specs.PlaceChanges.{AddsRuns}
use Rattle.store_contents.specs.Layouts.{Layout}
use Rattle.store_statements.specs.Held.{IsReady, held}

-- a tag of the repository names the digest, in column 3
abbrev pub names_digest : Text → Text → Row → Bool
names_digest name digest r = of_first name r && bytes_eq (bytes_at r 3) digest

abbrev pub tags_without : (Row → Bool) → Tables → Tables
tags_without p t = record t { tags = without p t.tags }

abbrev pub tags_changed : (Row → Bool) → (Row → Row) → Tables → Tables
tags_changed p f t = record t { tags = changed p f t.tags }

-- one row came into the table, and the others stay
pub record TagComes (l : Layout) (old new : State) (columns : Row) : Type 0 where
  pub ready : IsReady l new
  pub comes : Comes (held l old).tags (held l new).tags columns
  pub others : held l new ≡ record (held l old) { tags = (held l new).tags }

-- ---- repositories

abbrev pub repos_without : (Row → Bool) → Tables → Tables
repos_without p t = record t { repos = without p t.repos }

abbrev pub repos_changed : (Row → Bool) → (Row → Row) → Tables → Tables
repos_changed p f t = record t { repos = changed p f t.repos }

pub record RepoComes (l : Layout) (old new : State) (columns : Row) : Type 0 where
  pub ready : IsReady l new
  pub comes : Comes (held l old).repos (held l new).repos columns
  pub others : held l new ≡ record (held l old) { repos = (held l new).repos }

-- ---- grants

abbrev pub grants_without : (Row → Bool) → Tables → Tables
grants_without p t = record t { grants = without p t.grants }

abbrev pub grants_changed : (Row → Bool) → (Row → Row) → Tables → Tables
grants_changed p f t = record t { grants = changed p f t.grants }

pub record GrantComes (l : Layout) (old new : State) (columns : Row) : Type 0 where
  pub ready : IsReady l new
  pub comes : Comes (held l old).grants (held l new).grants columns
  pub others : held l new ≡ record (held l old) { grants = (held l new).grants }

-- ---- links to blobs

abbrev pub blobs_without : (Row → Bool) → Tables → Tables
blobs_without p t = record t { blobs = without p t.blobs }

pub record BlobComes (l : Layout) (old new : State) (columns : Row) : Type 0 where
  pub ready : IsReady l new
  pub comes : Comes (held l old).blobs (held l new).blobs columns
  pub others : held l new ≡ record (held l old) { blobs = (held l new).blobs }

-- ---- upload sessions

abbrev pub uploads_without : (Row → Bool) → Tables → Tables
uploads_without p t = record t { uploads = without p t.uploads }

abbrev pub uploads_changed : (Row → Bool) → (Row → Row) → Tables → Tables
uploads_changed p f t = record t { uploads = changed p f t.uploads }

pub record UploadComes (l : Layout) (old new : State) (columns : Row) : Type 0 where
  pub ready : IsReady l new
  pub comes : Comes (held l old).uploads (held l new).uploads columns
  pub others : held l new ≡ record (held l old) { uploads = (held l new).uploads }

-- ---- the pieces of upload sessions

abbrev pub pieces_without : (Row → Bool) → Tables → Tables
pieces_without p t = record t { pieces = without p t.pieces }

pub record PieceComes (l : Layout) (old new : State) (columns : Row) : Type 0 where
  pub ready : IsReady l new
  pub comes : Comes (held l old).pieces (held l new).pieces columns
  pub others : held l new ≡ record (held l old) { pieces = (held l new).pieces }

-- ---- which schema it is

pub record VersionComes (l : Layout) (old new : State) : Type 0 where
  pub ready : IsReady l new
  pub id : ℤ
  pub puts : PutsRow (held l old).version (held l new).version id (Int (pos 2) ∷ [])
  pub others : held l new ≡ record (held l old) { version = (held l new).version }

-- the tables were just made, beside further ones without rows
pub record IsNew (l : Layout) (s : State) : Type 0 where
  pub ready : IsReady l s
  pub version : IsOfSchemaTwo (held l s).version
  pub beside : IsEmptyBeside (held l s).beside
  pub tables : held l s ≡ new_tables (held l s).version (held l s).beside

-- ---- links to manifests

abbrev pub manifests_without : (Row → Bool) → Tables → Tables
manifests_without p t = record t { manifests = without p t.manifests }

pub record ManifestComes (l : Layout) (old new : State) (columns : Row) : Type 0 where
  pub ready : IsReady l new
  pub comes : Comes (held l old).manifests (held l new).manifests columns
  pub others : held l new ≡ record (held l old) { manifests = (held l new).manifests }

-- upload sessions with their pieces
abbrev pub sessions_without : (Row → Bool) → Tables → Tables
sessions_without p t = record t { pieces = without p t.pieces; uploads = without p t.uploads }

-- a session comes, and its number is the last of its repository
pub record SessionOpened (old new : Tables) (name : Text) (number : ℕ) : Type 0 where
  pub comes : Comes old.uploads new.uploads (upload_columns name number)
  pub others : new ≡ record old {
    repos = changed (of_first name) (with_last number) old.repos;
    uploads = new.uploads;
  }

-- ---- bytes that come with what names them

-- the bytes have an id, as they had or got it, and no other content comes or goes; of places those of these
-- runs come
pub record ContentKept (old new : Tables) (id : ℤ) (bytes : Text) (runs : List (ℕ × ℕ)) : Type 0 where
  pub grow : Grow old.contents new.contents
  pub there : new.contents id ≡ Some bytes
  pub rest : (i : ℤ) → i ≢ id → new.contents i ≡ old.contents i
  pub placed : AddsRuns runs old new
  pub others : new ≡ record old { contents = new.contents; places = new.places }

pub record BlobStored (old new : Tables) (name digest bytes : Text) (runs : List (ℕ × ℕ)) : Type 0 where
  pub id : ℤ
  pub grow : Grow old.contents new.contents
  pub there : new.contents id ≡ Some bytes
  pub rest : (i : ℤ) → i ≢ id → new.contents i ≡ old.contents i
  pub placed : AddsRuns runs old new
  pub comes : Comes old.blobs new.blobs (blob_columns name digest (length bytes) id)
  pub others : new ≡ record old { contents = new.contents; places = new.places; blobs = new.blobs }

pub record PieceStored (old new : Tables) (name : Text) (number start : ℕ) (bytes : Text)
    (runs : List (ℕ × ℕ)) : Type 0 where
  pub id : ℤ
  pub grow : Grow old.contents new.contents
  pub there : new.contents id ≡ Some bytes
  pub rest : (i : ℤ) → i ≢ id → new.contents i ≡ old.contents i
  pub placed : AddsRuns runs old new
  pub comes : Comes old.pieces new.pieces (piece_columns name number start (length bytes) id)
  pub others : new ≡ record old { contents = new.contents; places = new.places; pieces = new.pieces }

-- the session's size is set, and a piece comes that begins where it ended
abbrev pub Appended : Tables → Tables → Text → ℕ → ℕ → Text → List (ℕ × ℕ) → Type 0
Appended old new name number size bytes runs =
    PieceStored (uploads_changed (of_session name number) (with_size (size + length bytes)) old)
    new name number size bytes runs

-- the session ends, and the blob comes
abbrev pub Finished : Tables → Tables → Text → ℕ → Text → Text → List (ℕ × ℕ) → Type 0
Finished old new name number digest bytes runs =
    BlobStored (sessions_without (of_session name number) old) new name digest bytes runs

-- the link to the digest goes, and each tag that names it
abbrev pub without_manifest : Text → Text → Tables → Tables
without_manifest name digest t =
    tags_without (names_digest name digest) (manifests_without (has_key name digest) t)
