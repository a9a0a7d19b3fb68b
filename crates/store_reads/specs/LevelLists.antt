-- Tokens with their levels, as rows of grants have them.
use Rattle.sqlite.specs.Order.{Row}
use Rattle.oci_types.specs.Text.{Text}
use Rattle.registry_model.specs.declared.level.Level.{Level}
use Rattle.store_schema.specs.Rows.{bytes_at, natural_at}
use Rattle.store_statements.specs.Tables.{level_of}

-- of a row of the table
abbrev pub token_level : Row → Text × Level
token_level r = (bytes_at r 1, level_of (natural_at r 3))

-- of a row that shows the token and the level
abbrev pub token_level_shown : Row → Text × Level
token_level_shown row = (bytes_at row 0, level_of (natural_at row 1))
