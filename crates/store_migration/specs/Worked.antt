-- A migration written out: `team/app` has the blob `abc` and the upload sessions 1 (`hel`) and 2 (empty),
-- and 2 is the last number that a session of it got; `other` has the blob `abc` too.
use Rattle.std.specs.Prelude.{ℕ, ℤ, pos, if◌then◌else◌, [], ◌∷◌, Option, Some, None, codes}
use Rattle.std.specs.Ordering.{int_eq}
use Rattle.std.specs.FinMap.{empty, insert}
use Rattle.sqlite.specs.declared.types.Value.TheVariants.{Int, Blob}
use Rattle.sqlite.specs.declared.types.Value.TheVariants as value
use Rattle.sqlite.specs.Order.{Row}
use Rattle.oci_types.specs.Text.{Text}
use Rattle.registry_model.specs.World.{Repo, World, new_repo}
use Rattle.registry_model.specs.Worked.{app, abc_digest}
use Rattle.store_statements.specs.Tables.{Tables, no_tables}
use Rattle.store_statements.specs.Changes.{blob_columns, piece_columns}
use Rattle.store_migration.specs.OldTables.{OldTables, no_old_tables}
use Rattle.store_migration.specs.Both.{emptied}
use Rattle.store_migration.specs.Moves.{Stage}

abbrev pub other : Text
other = codes "other"

abbrev pub abc : Text
abc = codes "abc"

abbrev pub hel : Text
hel = codes "hel"

-- ---- the tables of schema 1

abbrev pub repo_row : ℕ → Text → ℕ → Row
repo_row id name last = Int (pos id) ∷ value.Text name ∷ Int (pos 1000) ∷ Int (pos last) ∷ []

-- version 1, and two repositories with a quota of 1,000 bytes
abbrev pub shared : Tables
shared = record no_tables {
  version = (Int (pos 1) ∷ Int (pos 1) ∷ []) ∷ [];
  repos = repo_row 1 app 2 ∷ repo_row 2 other 0 ∷ [];
}

abbrev pub old_blob_row : ℕ → Text → Row
old_blob_row id name =
    Int (pos id) ∷ value.Text name ∷ value.Text abc_digest ∷ Int (pos 3) ∷ Blob abc ∷ []

abbrev pub old_session_row : ℕ → ℕ → Text → Row
old_session_row number size bytes =
    Int (pos number) ∷ value.Text app ∷ Int (pos number) ∷ Int (pos size) ∷ Blob bytes ∷ []

abbrev pub old_rows : OldTables
old_rows = record {
  blobs = old_blob_row 1 app ∷ old_blob_row 2 other ∷ [];
  manifests = [];
  sessions = old_session_row 1 3 hel ∷ old_session_row 2 0 [] ∷ [];
}

-- ---- the tables of schema 2

-- `abc` under 1
abbrev pub one_content : ℤ → Option Text
one_content id = if int_eq (pos 1) id then Some abc else None

-- and `hel` under 2
abbrev pub two_contents : ℤ → Option Text
two_contents id = if int_eq (pos 2) id then Some hel else one_content id

abbrev pub link_row : ℕ → Text → Row
link_row id name = Int (pos id) ∷ blob_columns name abc_digest 3 (pos 1)

abbrev pub upload_row : ℕ → ℕ → Row
upload_row number size = Int (pos number) ∷ value.Text app ∷ Int (pos number) ∷ Int (pos size) ∷ []

-- both links name one content, and the empty session has no piece
abbrev pub new_rows : Tables
new_rows = record shared {
  contents = two_contents;
  blobs = link_row 1 app ∷ link_row 2 other ∷ [];
  uploads = upload_row 1 3 ∷ upload_row 2 0 ∷ [];
  pieces = (Int (pos 1) ∷ piece_columns app 1 0 3 (pos 2)) ∷ [];
}

-- ---- between them

abbrev pub begun : Stage
begun = record { old = old_rows; tables = emptied shared }

abbrev pub one_blob_moved : Stage
one_blob_moved = record {
  old = record old_rows { blobs = old_blob_row 2 other ∷ [] };
  tables = record shared { contents = one_content; blobs = link_row 1 app ∷ [] };
}

abbrev pub blobs_moved : Stage
blobs_moved = record {
  old = record old_rows { blobs = [] };
  tables = record shared { contents = one_content; blobs = link_row 1 app ∷ link_row 2 other ∷ [] };
}

abbrev pub one_session_moved : Stage
one_session_moved = record {
  old = record no_old_tables { sessions = old_session_row 2 0 [] ∷ [] };
  tables = record new_rows { uploads = upload_row 1 3 ∷ [] };
}

abbrev pub ended : Stage
ended = record { old = no_old_tables; tables = new_rows }

-- ---- the world

abbrev pub holding_abc : Repo
holding_abc = record (new_repo 1000) { blobs = insert empty abc_digest abc }

-- before and after
abbrev pub world : World
world = record {
  repos = insert (insert empty other holding_abc) app
      (record holding_abc { sessions = insert (insert empty 2 []) 1 hel; last = 2 });
  grants = λ token. empty;
}
