-- Keys of the old rows are free in the tables of schema 2, and their repositories are there.
use Rattle.std.proofs.Common.{◌≡◌, ℕ, true, None}
use Rattle.std.specs.Prelude.{find, is_some}
use Rattle.oci_types.specs.Text.{Text}
use Rattle.store_statements.specs.Keys.{has_key, of_session}
use Rattle.store_statements.specs.Tables.{Tables}
use Rattle.store_statements.specs.Registry.{is_repo}
use Rattle.store_statements.proofs.Others.{within_key, within_session}
use Rattle.store_statements.proofs.Children.{some_is, repo_of_found}
use Rattle.store_migration.specs.OldTables.{OldTables}
use Rattle.store_migration.specs.Both.{AreBoth}
use Rattle.store_migration.proofs.BlobMoves.{key_free}
use Rattle.store_migration.proofs.SessionMoves.{session_free}

pub blob_free : (old : OldTables) (t : Tables) (name digest : Text) → AreBoth old t → is_some (find (has_key name digest) old.blobs) ≡ true → (is_repo t.repos name ≡ true) × (find (has_key name digest) t.blobs ≡ None)
blob_free old t name digest both e =
    let row = some_is (find (has_key name digest) old.blobs) e in
    (repo_of_found t.repos old.blobs name (has_key name digest) row.0 (within_key name digest) both.olds.blobs_repo row.1, key_free name digest old.blobs t.blobs row.0 both.blobs row.1)

pub manifest_free : (old : OldTables) (t : Tables) (name digest : Text) → AreBoth old t → is_some (find (has_key name digest) old.manifests) ≡ true → (is_repo t.repos name ≡ true) × (find (has_key name digest) t.manifests ≡ None)
manifest_free old t name digest both e =
    let row = some_is (find (has_key name digest) old.manifests) e in
    (repo_of_found t.repos old.manifests name (has_key name digest) row.0 (within_key name digest) both.olds.manifests_repo row.1, key_free name digest old.manifests t.manifests row.0 both.manifests row.1)

pub number_free : (old : OldTables) (t : Tables) (name : Text) (number : ℕ) → AreBoth old t → is_some (find (of_session name number) old.sessions) ≡ true → (is_repo t.repos name ≡ true) × (find (of_session name number) t.uploads ≡ None)
number_free old t name number both e =
    let row = some_is (find (of_session name number) old.sessions) e in
    (repo_of_found t.repos old.sessions name (of_session name number) row.0 (within_session name number) both.olds.sessions_repo row.1, session_free name number old.sessions t.uploads row.0 both.sessions row.1)
