-- What the store's statements change of the rows.
use Rattle.std.specs.Prelude.{◌≡◌, ℕ, ℤ, pos, Bool, not, List, [], ◌∷◌, map, filter, Option, Some, if◌then◌else◌}
use Rattle.sqlite.specs.declared.types.Value.TheVariants.{Int}
use Rattle.sqlite.specs.declared.types.Value.TheVariants as value
use Rattle.sqlite.specs.Order.{Row, column}
use Rattle.oci_types.specs.Text.{Text}
use Rattle.oci_types.specs.declared.kind.Kind.{Kind}
use Rattle.registry_model.specs.declared.level.Level.{Level}
use Rattle.store_schema.specs.Rows.{HaveIds, PutsRow}
use Rattle.store_statements.specs.Tables.{level_number}
use Rattle.store_statements.specs.Registry.{kind_number, optional_text}

-- ---- rows that go

abbrev pub without : (Row → Bool) → List Row → List Row
without p rows = filter (λ r. not (p r)) rows

-- ---- rows that change

abbrev pub changed : (Row → Bool) → (Row → Row) → List Row → List Row
changed p f rows = map (λ r. if p r then f r else r) rows

-- of a repository
abbrev pub with_quota : ℕ → Row → Row
with_quota quota r = column r 0 ∷ column r 1 ∷ Int (pos quota) ∷ column r 3 ∷ []

abbrev pub with_last : ℕ → Row → Row
with_last last r = column r 0 ∷ column r 1 ∷ column r 2 ∷ Int (pos last) ∷ []

-- of a grant
abbrev pub with_level : Level → Row → Row
with_level level r = column r 0 ∷ column r 1 ∷ column r 2 ∷ Int (pos (level_number level)) ∷ []

-- of a tag
abbrev pub with_digest : Text → Row → Row
with_digest digest r = column r 0 ∷ column r 1 ∷ column r 2 ∷ value.Text digest ∷ []

-- of an upload
abbrev pub with_size : ℕ → Row → Row
with_size size r = column r 0 ∷ column r 1 ∷ column r 2 ∷ Int (pos size) ∷ []

-- ---- rows that come, without their rowids

abbrev pub repo_columns : Text → ℕ → Row
repo_columns name quota = value.Text name ∷ Int (pos quota) ∷ Int (pos 0) ∷ []

abbrev pub grant_columns : Text → Text → Level → Row
grant_columns token name level = value.Text token ∷ value.Text name ∷ Int (pos (level_number level)) ∷ []

abbrev pub tag_columns : Text → Text → Text → Row
tag_columns name tag digest = value.Text name ∷ value.Text tag ∷ value.Text digest ∷ []

abbrev pub blob_columns : Text → Text → ℕ → ℤ → Row
blob_columns name digest size content =
    value.Text name ∷ value.Text digest ∷ Int (pos size) ∷ Int content ∷ []

abbrev pub manifest_columns : Text → Text → ℕ → Kind → Option Text → ℤ → Row
manifest_columns name digest size kind subject content =
    value.Text name ∷ value.Text digest ∷ Int (pos size) ∷ Int (pos (kind_number kind))
    ∷ optional_text subject ∷ Int content ∷ []

abbrev pub upload_columns : Text → ℕ → Row
upload_columns name number = value.Text name ∷ Int (pos number) ∷ Int (pos 0) ∷ []

abbrev pub piece_columns : Text → ℕ → ℕ → ℕ → ℤ → Row
piece_columns name number start size content =
    value.Text name ∷ Int (pos number) ∷ Int (pos start) ∷ Int (pos size) ∷ Int content ∷ []

-- one row came, anywhere among the others
pub record Comes (olds news : List Row) (columns : Row) : Type 0 where
  pub id : ℤ
  pub puts : PutsRow olds news id columns
  pub ids : HaveIds news

-- contents came, and those that were there keep their bytes
abbrev pub Grow : (ℤ → Option Text) → (ℤ → Option Text) → Type 0
Grow olds news = (id : ℤ) (bytes : Text) → olds id ≡ Some bytes → news id ≡ Some bytes
