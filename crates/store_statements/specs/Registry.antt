-- What is kept true from table to table, so that the rows stand for a world: each row that names a repository
-- names one that is there, each link and each piece names a content, sizes and what is known of a manifest
-- agree with the bytes, the pieces of a session lie one behind the other, and no further table has a row that
-- goes with a repository.
use Rattle.std.specs.Prelude.{◌≡◌, ◌≤◌, ◌<◌, ◌+◌, ℕ, ℤ, pos, Bool, true, List, [], ◌∷◌, ◌==◌, if◌then◌else◌, find, is_some, length, map, Option, Some, None}
use Rattle.std.specs.Option.{option_map_or}
use Rattle.std.specs.List.{AllByRecursion}
use Rattle.sqlite.specs.declared.types.Value.{Value}
use Rattle.sqlite.specs.declared.types.Value.TheVariants.{Null, Int}
use Rattle.sqlite.specs.declared.types.Value.TheVariants as value
use Rattle.sqlite.specs.Order.{Row, column}
use Rattle.oci_types.specs.Text.{Text}
use Rattle.oci_types.specs.declared.kind.Kind.{Kind}
use Rattle.oci_types.specs.declared.kind.Kind.TheVariants.{Image, Index}
use Rattle.oci_types.specs.Manifest.{manifest_in}
use Rattle.registry_model.specs.Manifests.{kind_in}
use Rattle.registry_model.specs.Referrers.{subject_or_none}
use Rattle.store_schema.specs.Rows.{bytes_at, natural_at, integer_at}
use Rattle.store_statements.specs.Keys.{of_first, of_session}
use Rattle.store_statements.specs.Tables.{Tables, AreTables, IsEmptyBeside}
use Rattle.store_statements.specs.World.{pieces_of}

-- ---- repositories

abbrev pub is_repo : List Row → Text → Bool
is_repo repos name = is_some (find (of_first name) repos)

-- the last number that a session of the repository got
abbrev pub last_in : List Row → Text → ℕ
last_in repos name = option_map_or (λ r. natural_at r 3) (find (of_first name) repos) 0

-- column 1 names a repository
abbrev pub HaveRepo : List Row → List Row → Type 0
HaveRepo repos rows = AllByRecursion (λ r. is_repo repos (bytes_at r 1) ≡ true) rows

-- and of grants column 2
abbrev pub HaveGranted : List Row → List Row → Type 0
HaveGranted repos rows = AllByRecursion (λ r. is_repo repos (bytes_at r 2) ≡ true) rows

-- ---- links

-- a blob's link has the size of its content
pub record BlobAgrees (contents : ℤ → Option Text) (r : Row) : Type 0 where
  pub bytes : Text
  pub there : contents (integer_at r 4) ≡ Some bytes
  pub size : natural_at r 3 ≡ length bytes

-- a kind as a column has it (profile)
abbrev pub kind_number : Kind → ℕ
kind_number Image = 1
kind_number Index = 2

abbrev pub kind_of : ℕ → Kind
kind_of n = if n == 1 then Image else Index

abbrev pub optional_text : Option Text → Value
optional_text None = Null
optional_text (Some t) = value.Text t

-- a manifest's link also has the kind and the subject as which its content reads
pub record ManifestAgrees (contents : ℤ → Option Text) (r : Row) : Type 0 where
  pub bytes : Text
  pub there : contents (integer_at r 6) ≡ Some bytes
  pub size : natural_at r 3 ≡ length bytes
  pub kind : column r 4 ≡ Int (pos (kind_number (kind_in bytes)))
  pub subject : column r 5 ≡ optional_text (subject_or_none (manifest_in bytes))

-- ---- upload sessions

-- a piece is not empty, and has the size of its content
pub record PieceAgrees (contents : ℤ → Option Text) (r : Row) : Type 0 where
  pub bytes : Text
  pub there : contents (integer_at r 5) ≡ Some bytes
  pub size : natural_at r 4 ≡ length bytes
  pub more : 0 < natural_at r 4

-- from one place to another, each piece begins where the one before it ends
abbrev pub Reach : ℕ → List Row → ℕ → Type 0
Reach from [] end = from ≡ end
Reach from (p ∷ ps) end = (natural_at p 3 ≡ from) × Reach (from + natural_at p 4) ps end

-- the pieces of an upload make up its size, and its number was given out
pub record UploadAgrees (repos pieces : List Row) (r : Row) : Type 0 where
  pub whole : Reach 0 (pieces_of pieces (bytes_at r 1) (natural_at r 2)) (natural_at r 3)
  pub given : natural_at r 2 ≤ last_in repos (bytes_at r 1)

-- a piece is of an open session
abbrev pub IsOpen : List Row → Row → Type 0
IsOpen uploads p = is_some (find (of_session (bytes_at p 1) (natural_at p 2)) uploads) ≡ true

-- ---- the schema

-- one row says of which schema the tables are, and no other says anything
abbrev pub IsOfSchema : ℕ → List Row → Type 0
IsOfSchema number rows = map {B = Row} (λ r. column r 1 ∷ []) rows ≡ (Int (pos number) ∷ []) ∷ []

abbrev pub IsOfSchemaTwo : List Row → Type 0
IsOfSchemaTwo = IsOfSchema 2

-- ---- all of it

pub record Agree (t : Tables) : Type 0 where
  pub version : IsOfSchema t.number t.version
  pub granted : HaveGranted t.repos t.grants
  pub tagged : HaveRepo t.repos t.tags
  pub blobs_repo : HaveRepo t.repos t.blobs
  pub manifests_repo : HaveRepo t.repos t.manifests
  pub uploads_repo : HaveRepo t.repos t.uploads
  pub blobs : AllByRecursion (BlobAgrees t.contents) t.blobs
  pub manifests : AllByRecursion (ManifestAgrees t.contents) t.manifests
  pub uploads : AllByRecursion (UploadAgrees t.repos t.pieces) t.uploads
  pub pieces : AllByRecursion (PieceAgrees t.contents) t.pieces
  pub pieces_open : AllByRecursion (IsOpen t.uploads) t.pieces
  pub beside : IsEmptyBeside t.beside

-- the tables stand for a world
pub record IsRegistry (t : Tables) : Type 0 where
  pub tables : AreTables t
  pub agree : Agree t
