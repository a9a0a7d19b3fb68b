-- A repository goes with all that it has.
use Rattle.std.specs.Prelude.{◌≡◌, ℕ, false, List}
use Rattle.std.specs.List.{AllByRecursion}
use Rattle.store_statements.specs.Keys.{of_first, of_second}
use Rattle.store_statements.specs.Tables.{Tables, IsEmptyBeside}
use Rattle.store_statements.specs.Changes.{without}

-- no row of another table names the repository, and no further table has one that might go with it
pub record HasNoChildren (t : Tables) (name : List ℕ) : Type 0 where
  pub grants : AllByRecursion (λ r. of_second name r ≡ false) t.grants
  pub tags : AllByRecursion (λ r. of_first name r ≡ false) t.tags
  pub blobs : AllByRecursion (λ r. of_first name r ≡ false) t.blobs
  pub manifests : AllByRecursion (λ r. of_first name r ≡ false) t.manifests
  pub uploads : AllByRecursion (λ r. of_first name r ≡ false) t.uploads
  pub pieces : AllByRecursion (λ r. of_first name r ≡ false) t.pieces
  pub beside : IsEmptyBeside t.beside

-- the tables without each row that names it; contents stay
abbrev pub dropped : List ℕ → Tables → Tables
dropped name t = record t {
  repos = without (of_first name) t.repos;
  grants = without (of_second name) t.grants;
  tags = without (of_first name) t.tags;
  blobs = without (of_first name) t.blobs;
  manifests = without (of_first name) t.manifests;
  uploads = without (of_first name) t.uploads;
  pieces = without (of_first name) t.pieces;
}

-- ---- on the way

abbrev pub without_links : List ℕ → Tables → Tables
without_links name t = record t {
  tags = without (of_first name) t.tags;
  manifests = without (of_first name) t.manifests;
  blobs = without (of_first name) t.blobs;
}

abbrev pub without_sessions : List ℕ → Tables → Tables
without_sessions name t = record t {
  pieces = without (of_first name) t.pieces;
  uploads = without (of_first name) t.uploads;
}

abbrev pub without_children : List ℕ → Tables → Tables
without_children name t = record (without_sessions name (without_links name t)) {
  grants = without (of_second name) t.grants;
}
