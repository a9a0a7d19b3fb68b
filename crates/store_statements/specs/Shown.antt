-- What the columns of a row read as.
use Rattle.std.specs.Prelude.{ℕ}
use Rattle.std.specs.declared.cmp.Ordering.{Ordering}
use Rattle.std.specs.Ordering.{ordering_then}
use Rattle.sqlite.specs.Order.{Row}
use Rattle.registry_model.specs.World.{text_cmp}
use Rattle.registry_model.specs.declared.grant.Grant.{Grant}
use Rattle.store_schema.specs.Rows.{bytes_at, natural_at, integer_at}
use Rattle.store_contents.specs.declared.content_id.ContentId.{ContentId}
use Rattle.store_statements.specs.declared.blobs.BlobLink.{BlobLink}
use Rattle.store_statements.specs.declared.repos.RepoRow.{RepoRow}
use Rattle.store_statements.specs.Tables.{level_of}

-- the content that a column names
abbrev pub content_named : ℕ → Row → ContentId
content_named at r = record { id = integer_at r at }

abbrev pub blob_link : Row → BlobLink
blob_link r = record { size = natural_at r 3; content = content_named 4 r }

abbrev pub repo_row : Row → RepoRow
repo_row r = record { quota = natural_at r 2; last = natural_at r 3 }

-- repositories in the order of their names
abbrev pub by_name : Row → Row → Ordering
by_name a b = text_cmp (bytes_at a 1) (bytes_at b 1)

-- grants in the order of their tokens
abbrev pub by_token : Row → Row → Ordering
by_token a b = text_cmp (bytes_at a 1) (bytes_at b 1)

-- in the order of their repositories, and on each of their tokens
abbrev pub by_repo_and_token : Row → Row → Ordering
by_repo_and_token a b =
    ordering_then (text_cmp (bytes_at a 2) (bytes_at b 2)) (text_cmp (bytes_at a 1) (bytes_at b 1))

-- of a row of the table
abbrev pub grant_row : Row → Grant
grant_row r = record { repo = bytes_at r 2; token = bytes_at r 1; level = level_of (natural_at r 3) }

-- of a row that shows repository, token and level
abbrev pub grant_shown : Row → Grant
grant_shown r = record { repo = bytes_at r 0; token = bytes_at r 1; level = level_of (natural_at r 2) }
