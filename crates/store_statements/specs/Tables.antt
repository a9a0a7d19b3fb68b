-- The rows of a registry's tables, each of the types of its columns, under keys that stand once.
use Rattle.std.specs.Prelude.{◌≡◌, ◌⊎◌, ℕ, ℤ, pos, Bool, false, List, [], ◌==◌, Option, None, if◌then◌else◌}
use Rattle.std.specs.List.{AllByRecursion}
use Rattle.sqlite.specs.declared.types.Value.TheVariants.{Null, Int}
use Rattle.sqlite.specs.Order.{Row, column}
use Rattle.sqlite.specs.Tree.{IsAscending}
use Rattle.sqlite.specs.Schema.{Schema}
use Rattle.oci_types.specs.Text.{Text}
use Rattle.registry_model.specs.declared.level.Level.{Level}
use Rattle.registry_model.specs.declared.level.Level.TheVariants.{Pull, Push, Delete}
use Rattle.store_schema.specs.Schema.{no_schema}
use Rattle.store_schema.specs.Rows.{IsTextAt, IsNaturalAt, IsIntegerAt, natural_at, HaveIds}
use Rattle.store_statements.specs.Keys.{same_first, same_key, same_session, same_start}

-- what the nine tables stand among: the whole schema, and the rows of each further table whose rows may go
-- with a repository
pub record Beside : Type 0 where
  pub schema : Schema
  pub rows : List (List Row)

abbrev pub nothing_beside : Beside
nothing_beside = record { schema = no_schema; rows = [] }

-- `number` is that of the schema. `contents` is the bytes by their ids; `blobs` and `manifests` are the links
-- to them. `places` and `packs` are the rows that say where bytes stand in a pack, and in which.
pub record Tables : Type 0 where
  pub number : ℕ
  pub version : List Row
  pub repos : List Row
  pub grants : List Row
  pub tags : List Row
  pub contents : ℤ → Option Text
  pub places : List Row
  pub packs : List Row
  pub blobs : List Row
  pub manifests : List Row
  pub uploads : List Row
  pub pieces : List Row
  pub beside : Beside

abbrev pub no_tables : Tables
no_tables = record {
  number = 2;
  version = [];
  repos = [];
  grants = [];
  tags = [];
  contents = λ id. None;
  places = [];
  packs = [];
  blobs = [];
  manifests = [];
  uploads = [];
  pieces = [];
  beside = nothing_beside;
}

-- without rows, but for those of `registry_schema`, and beside further tables
abbrev pub new_tables : List Row → Beside → Tables
new_tables version beside = record no_tables { version = version; beside = beside }

-- no further table has a row
abbrev pub IsEmptyBeside : Beside → Type 0
IsEmptyBeside beside = AllByRecursion (λ (rows : List Row). rows ≡ []) beside.rows

-- ---- the columns of each table

-- name, quota, last_session
pub record IsRepoRow (r : Row) : Type 0 where
  pub name : IsTextAt r 1
  pub quota : IsNaturalAt r 2
  pub last : IsNaturalAt r 3

-- a level as a column has it
abbrev pub level_number : Level → ℕ
level_number Pull = 1
level_number Push = 2
level_number Delete = 3

abbrev pub level_of : ℕ → Level
level_of n = if n == 1 then Pull else (if n == 2 then Push else Delete)

-- token, repo, level
pub record IsGrantRow (r : Row) : Type 0 where
  pub token : IsTextAt r 1
  pub repo : IsTextAt r 2
  pub level : column r 3 ≡ Int (pos (level_number (level_of (natural_at r 3))))

-- repo, tag, digest
pub record IsTagRow (r : Row) : Type 0 where
  pub repo : IsTextAt r 1
  pub tag : IsTextAt r 2
  pub digest : IsTextAt r 3

-- repo, digest, size, content
pub record IsBlobRow (r : Row) : Type 0 where
  pub repo : IsTextAt r 1
  pub digest : IsTextAt r 2
  pub size : IsNaturalAt r 3
  pub content : IsIntegerAt r 4

-- repo, digest, size, kind, subject, content
pub record IsManifestRow (r : Row) : Type 0 where
  pub repo : IsTextAt r 1
  pub digest : IsTextAt r 2
  pub size : IsNaturalAt r 3
  pub kind : IsNaturalAt r 4
  pub subject : (column r 5 ≡ Null) ⊎ IsTextAt r 5
  pub content : IsIntegerAt r 6

-- repo, number, size
pub record IsUploadRow (r : Row) : Type 0 where
  pub repo : IsTextAt r 1
  pub number : IsNaturalAt r 2
  pub size : IsNaturalAt r 3

-- repo, number, start, size, content
pub record IsPieceRow (r : Row) : Type 0 where
  pub repo : IsTextAt r 1
  pub number : IsNaturalAt r 2
  pub start : IsNaturalAt r 3
  pub size : IsNaturalAt r 4
  pub content : IsIntegerAt r 5

-- version
pub record IsVersionRow (r : Row) : Type 0 where
  pub version : IsIntegerAt r 1

-- ---- the rows of a table

-- each row is of its types, no two have one key, and their rowids rise
pub record AreRows (Is : Row → Type 0) (same : Row → Row → Bool) (rows : List Row) : Type 0 where
  pub types : AllByRecursion Is rows
  pub apart : IsAscending (λ a b. same a b ≡ false) rows
  pub ids : HaveIds rows

pub record AreTables (t : Tables) : Type 0 where
  pub repos : AreRows IsRepoRow same_first t.repos
  pub grants : AreRows IsGrantRow same_key t.grants
  pub tags : AreRows IsTagRow same_key t.tags
  pub blobs : AreRows IsBlobRow same_key t.blobs
  pub manifests : AreRows IsManifestRow same_key t.manifests
  pub uploads : AreRows IsUploadRow same_session t.uploads
  pub pieces : AreRows IsPieceRow same_start t.pieces
