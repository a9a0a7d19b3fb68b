-- What a row that a query showed reads as.
use Rattle.sqlite.specs.Order.{Row}
use Rattle.store_schema.specs.Rows.{natural_at}
use Rattle.store_statements.specs.declared.blobs.BlobLink.{BlobLink}
use Rattle.store_statements.specs.declared.repos.RepoRow.{RepoRow}
use Rattle.store_statements.specs.Shown.{content_named}

-- of a row that shows the size and the content
abbrev pub blob_shown : Row → BlobLink
blob_shown row = record { size = natural_at row 0; content = content_named 1 row }

-- of a row that shows the quota and the last number
abbrev pub repo_shown : Row → RepoRow
repo_shown row = record { quota = natural_at row 0; last = natural_at row 1 }
