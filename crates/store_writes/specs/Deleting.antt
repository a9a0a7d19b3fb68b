-- What the deletion of several blobs makes of the tables.
use Rattle.std.specs.Prelude.{List, [], ◌∷◌}
use Rattle.oci_types.specs.Text.{Text}
use Rattle.store_statements.specs.Keys.{has_key}
use Rattle.store_statements.specs.Tables.{Tables}
use Rattle.store_statements.specs.Steps.{blobs_without}

-- one link goes after the other; contents stay
abbrev pub without_blob_links : Text → List Text → Tables → Tables
without_blob_links name [] t = t
without_blob_links name (digest ∷ digests) t =
    without_blob_links name digests (blobs_without (has_key name digest) t)
