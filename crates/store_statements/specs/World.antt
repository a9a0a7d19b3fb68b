-- The world that the rows of the tables stand for: a blob or manifest is the bytes of the content that its
-- link names, and an upload session the bytes of its pieces in order of where they begin. A content that
-- nothing names adds nothing.
use Rattle.std.specs.Prelude.{ℕ, ℤ, List, [], map, filter, Option, unwrap_or}
use Rattle.std.specs.List.{concat}
use Rattle.std.specs.Ordering.{nat_cmp}
use Rattle.std.specs.declared.cmp.Ordering.{Ordering}
use Rattle.std.specs.FinMap.{FinMap, from_entries}
use Rattle.sqlite.specs.Order.{Row}
use Rattle.sqlite_keyed.specs.Lists.{sort_by}
use Rattle.oci_types.specs.Text.{Text}
use Rattle.registry_model.specs.declared.level.Level.{Level}
use Rattle.registry_model.specs.World.{text_cmp, Repo, Grants, World}
use Rattle.store_schema.specs.Rows.{bytes_at, natural_at, integer_at}
use Rattle.store_statements.specs.Keys.{of_first, of_session}
use Rattle.store_statements.specs.Tables.{Tables, level_of}

-- the bytes under an id
abbrev pub content_at : (ℤ → Option Text) → ℤ → Text
content_at contents id = unwrap_or (contents id) []

abbrev pub blob_entry : (ℤ → Option Text) → Row → Text × Text
blob_entry contents r = (bytes_at r 2, content_at contents (integer_at r 4))

abbrev pub manifest_entry : (ℤ → Option Text) → Row → Text × Text
manifest_entry contents r = (bytes_at r 2, content_at contents (integer_at r 6))

abbrev pub tag_entry : Row → Text × Text
tag_entry r = (bytes_at r 2, bytes_at r 3)

-- ---- upload sessions

abbrev pub by_start : Row → Row → Ordering
by_start a b = nat_cmp (natural_at a 3) (natural_at b 3)

-- the pieces of a session, in the order in which they were appended
abbrev pub pieces_of : List Row → Text → ℕ → List Row
pieces_of pieces name number = sort_by by_start (filter (of_session name number) pieces)

abbrev pub piece_bytes : (ℤ → Option Text) → Row → Text
piece_bytes contents p = content_at contents (integer_at p 5)

abbrev pub joined : (ℤ → Option Text) → List Row → Text
joined contents pieces = concat (map (piece_bytes contents) pieces)

abbrev pub session_entry : (ℤ → Option Text) → List Row → Row → ℕ × Text
session_entry contents pieces r =
    (natural_at r 2, joined contents (pieces_of pieces (bytes_at r 1) (natural_at r 2)))

-- ---- what a repository has, by its name

abbrev pub blobs_of : (ℤ → Option Text) → List Row → Text → FinMap text_cmp Text
blobs_of contents rows name = from_entries (map (blob_entry contents) (filter (of_first name) rows))

abbrev pub manifests_of : (ℤ → Option Text) → List Row → Text → FinMap text_cmp Text
manifests_of contents rows name = from_entries (map (manifest_entry contents) (filter (of_first name) rows))

abbrev pub tags_of : List Row → Text → FinMap text_cmp Text
tags_of rows name = from_entries (map tag_entry (filter (of_first name) rows))

abbrev pub sessions_of : (ℤ → Option Text) → List Row → List Row → Text → FinMap nat_cmp Text
sessions_of contents pieces rows name =
    from_entries (map (session_entry contents pieces) (filter (of_first name) rows))

-- the repository of this row
abbrev pub repo_in : Tables → Row → Repo
repo_in t r = record {
  blobs = blobs_of t.contents t.blobs (bytes_at r 1);
  manifests = manifests_of t.contents t.manifests (bytes_at r 1);
  tags = tags_of t.tags (bytes_at r 1);
  sessions = sessions_of t.contents t.pieces t.uploads (bytes_at r 1);
  last = natural_at r 3;
  quota = natural_at r 2;
}

abbrev pub repo_entry : Tables → Row → Text × Repo
repo_entry t r = (bytes_at r 1, repo_in t r)

-- ---- grants

abbrev pub grant_entry : Row → Text × Level
grant_entry r = (bytes_at r 2, level_of (natural_at r 3))

abbrev pub grants_of : List Row → Text → Grants
grants_of rows token = from_entries (map grant_entry (filter (of_first token) rows))

-- ---- the world

abbrev pub world_of : Tables → World
world_of t = record {
  repos = from_entries (map (repo_entry t) t.repos);
  grants = grants_of t.grants;
}
