-- The three tables that schema 1 alone has: each row of a blob, a manifest or an upload session has its whole
-- bytes, and so equal bytes stand in as many rows as have them. The four tables that both schemas have
-- (the version, repositories, grants, tags) are those of `Tables`.
use Rattle.std.specs.Prelude.{◌≡◌, ◌≤◌, pos, List, [], ◌∷◌, length, map}
use Rattle.std.specs.List.{AllByRecursion}
use Rattle.sqlite.specs.declared.types.Value.TheVariants.{Int}
use Rattle.sqlite.specs.Order.{Row, column}
use Rattle.oci_types.specs.Manifest.{manifest_in}
use Rattle.registry_model.specs.Manifests.{kind_in}
use Rattle.registry_model.specs.Referrers.{subject_or_none}
use Rattle.store_schema.specs.Rows.{bytes_at, natural_at, IsTextAt, IsBlobAt, IsNaturalAt}
use Rattle.store_statements.specs.Keys.{same_first, same_key, same_session}
use Rattle.store_statements.specs.Tables.{Tables, AreRows, IsRepoRow, IsGrantRow, IsTagRow}
use Rattle.store_statements.specs.Registry.{HaveRepo, HaveGranted, last_in, kind_number, optional_text}

pub record OldTables : Type 0 where
  pub blobs : List Row
  pub manifests : List Row
  pub sessions : List Row

abbrev pub no_old_tables : OldTables
no_old_tables = record { blobs = []; manifests = []; sessions = [] }

-- ---- the columns of each table

-- repo, digest, size, bytes
pub record IsOldBlobRow (r : Row) : Type 0 where
  pub repo : IsTextAt r 1
  pub digest : IsTextAt r 2
  pub size : column r 3 ≡ Int (pos (length (bytes_at r 4)))
  pub bytes : IsBlobAt r 4

-- repo, digest, size, kind, subject, bytes: the kind and the subject as which the bytes read
pub record IsOldManifestRow (r : Row) : Type 0 where
  pub repo : IsTextAt r 1
  pub digest : IsTextAt r 2
  pub size : column r 3 ≡ Int (pos (length (bytes_at r 6)))
  pub kind : column r 4 ≡ Int (pos (kind_number (kind_in (bytes_at r 6))))
  pub subject : column r 5 ≡ optional_text (subject_or_none (manifest_in (bytes_at r 6)))
  pub bytes : IsBlobAt r 6

-- repo, number, size, bytes
pub record IsOldSessionRow (r : Row) : Type 0 where
  pub repo : IsTextAt r 1
  pub number : IsNaturalAt r 2
  pub size : column r 3 ≡ Int (pos (length (bytes_at r 4)))
  pub bytes : IsBlobAt r 4

-- ---- what is kept true of them, beside the repositories

-- a session's number was given out
abbrev pub WasGiven : List Row → Row → Type 0
WasGiven repos r = natural_at r 2 ≤ last_in repos (bytes_at r 1)

pub record AreOldTables (repos : List Row) (old : OldTables) : Type 0 where
  pub blobs : AreRows IsOldBlobRow same_key old.blobs
  pub manifests : AreRows IsOldManifestRow same_key old.manifests
  pub sessions : AreRows IsOldSessionRow same_session old.sessions
  pub blobs_repo : HaveRepo repos old.blobs
  pub manifests_repo : HaveRepo repos old.manifests
  pub sessions_repo : HaveRepo repos old.sessions
  pub given : AllByRecursion (WasGiven repos) old.sessions

-- one row says that the tables are of schema 1, and no other says anything
abbrev pub IsOfSchemaOne : List Row → Type 0
IsOfSchemaOne rows = map {B = Row} (λ r. column r 1 ∷ []) rows ≡ (Int (pos 1) ∷ []) ∷ []

-- the tables stand for a world by schema 1: no table that schema 2 alone has is looked at
pub record IsOldRegistry (old : OldTables) (t : Tables) : Type 0 where
  pub version : IsOfSchemaOne t.version
  pub repos : AreRows IsRepoRow same_first t.repos
  pub grants : AreRows IsGrantRow same_key t.grants
  pub tags : AreRows IsTagRow same_key t.tags
  pub granted : HaveGranted t.repos t.grants
  pub tagged : HaveRepo t.repos t.tags
  pub olds : AreOldTables t.repos old
