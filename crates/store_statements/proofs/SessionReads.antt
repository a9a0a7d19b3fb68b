-- What is found of upload sessions, in the rows of uploads and pieces.
use Rattle.std.proofs.Common.{◌≡◌, ◌==◌, ◌&&◌, ℕ, List, length, true, false, Option, None, Some, refl, sym, ap, subst, ◌∙◌}
use Rattle.std.specs.Prelude.{find, filter, option_map, is_some}
use Rattle.std.specs.Option.{option_map_or}
use Rattle.std.specs.List.{AllByRecursion}
use Rattle.std.specs.Ordering.{eq_by_cmp, nat_cmp}
use Rattle.std.specs.FinMap.{get, len}
use Rattle.std.proofs.lemmas.Cmp.{nat_cmp_total}
use Rattle.std.proofs.lemmas.List.{length-map}
use Rattle.sqlite.specs.Order.{Row}
use Rattle.sqlite.specs.Tree.{IsAscending}
use Rattle.sqlite_trees.proofs.ListLemmas.{ascending-map}
use Rattle.oci_types.specs.Text.{Text}
use Rattle.registry_model.specs.Lookups.{session_at, session_size_at, sessions_open_at}
use Rattle.store_schema.specs.Rows.{bytes_at, natural_at}
use Rattle.store_statements.specs.Keys.{of_first, of_session, same_session}
use Rattle.store_statements.specs.Tables.{Tables}
use Rattle.store_statements.specs.World.{pieces_of, joined, session_entry, sessions_of, repo_in, world_of}
use Rattle.store_statements.specs.Registry.{is_repo, PieceAgrees, UploadAgrees, Reach, IsRegistry}
use Rattle.store_statements.proofs.Found.{found_all, found_passes, has_first, is_session, number_tie}
use Rattle.store_statements.proofs.Base.{repo_found, found_named, session_found}
use Rattle.store_statements.proofs.Others.{within_session}
use Rattle.store_statements.proofs.Children.{repo_of_found, child_found, no_children}
use Rattle.store_statements.proofs.ContentWorlds.{all-pieces_of}
use Rattle.store_statements.proofs.Apart.{apart_within, len_apart}
use Rattle.store_statements.proofs.PieceWorlds.{joined_length}

-- what an upload's row says of its pieces
pub upload_reach : (t : Tables) (name : Text) (number : ℕ) (r : Row) → IsRegistry t → find (of_session name number) t.uploads ≡ Some r → Reach 0 (pieces_of t.pieces name number) (natural_at r 3)
upload_reach t name number r is e =
    let agrees = found_all (UploadAgrees t.repos t.pieces) (of_session name number) t.uploads r is.agree.uploads e in
    let key = is_session name number r (found_passes (of_session name number) t.uploads r e) in
    subst (λ n. Reach 0 (pieces_of t.pieces n number) (natural_at r 3)) key.0 (subst (λ k. Reach 0 (pieces_of t.pieces (bytes_at r 1) k) (natural_at r 3)) key.1 agrees.whole)

-- the bytes of a session
pub session_at_found : (t : Tables) (name : Text) (number : ℕ) → IsRegistry t → session_at (world_of t) name number ≡ option_map (λ r. joined t.contents (pieces_of t.pieces name number)) (find (of_session name number) t.uploads)
session_at_found t name number is =
    child_found t name t.uploads (of_session name number) (λ r. joined t.contents (pieces_of t.pieces name number)) (λ r. get r.sessions number) is.agree.uploads_repo (within_session name number)
    (λ r e. ap (λ n. get (sessions_of t.contents t.pieces t.uploads n) number) e ∙ session_found t.contents t.pieces t.uploads name number)

-- a session is there where an upload's row is
pub session_there : (t : Tables) (name : Text) (number : ℕ) → IsRegistry t → is_some (session_at (world_of t) name number) ≡ is_some (find (of_session name number) t.uploads)
session_there t name number is = ap is_some (session_at_found t name number is) ∙ mapped (find (of_session name number) t.uploads)
  where
    mapped : (o : Option Row) → is_some (option_map (λ r. joined t.contents (pieces_of t.pieces name number)) o) ≡ is_some o
    mapped None = refl
    mapped (Some r) = refl

-- and its repository is there too
pub session_repo : (t : Tables) (name : Text) (number : ℕ) (r : Row) → IsRegistry t → find (of_session name number) t.uploads ≡ Some r → is_repo t.repos name ≡ true
session_repo t name number r is e = repo_of_found t.repos t.uploads name (of_session name number) r (within_session name number) is.agree.uploads_repo e

-- each of its pieces names a content
pub session_pieces : (t : Tables) (name : Text) (number : ℕ) → IsRegistry t → AllByRecursion (PieceAgrees t.contents) (pieces_of t.pieces name number)
session_pieces t name number is = all-pieces_of (PieceAgrees t.contents) t.pieces name number is.agree.pieces

-- how many bytes they are
pub session_size_found : (t : Tables) (name : Text) (number : ℕ) → IsRegistry t → session_size_at (world_of t) name number ≡ option_map (λ r. natural_at r 3) (find (of_session name number) t.uploads)
session_size_found t name number is = ap (option_map length) (session_at_found t name number is) ∙ go (find (of_session name number) t.uploads) refl
  where
    go : (o : Option Row) → find (of_session name number) t.uploads ≡ o → option_map length (option_map (λ r. joined t.contents (pieces_of t.pieces name number)) o) ≡ option_map (λ r. natural_at r 3) o
    go None e = refl
    go (Some r) e = ap Some (joined_length t.contents t.pieces name number (natural_at r 3) is.agree.pieces (upload_reach t name number r is e))

-- ---- how many sessions are open

-- of one repository, no two sessions have one number
numbers_apart : (name : Text) (rows : List Row) → IsAscending (λ a b. same_session a b ≡ false) rows → IsAscending (λ a b. eq_by_cmp nat_cmp (natural_at a 2) (natural_at b 2) ≡ false) (filter (of_first name) rows)
numbers_apart name rows h = apart_within (of_first name) _ (λ a b. eq_by_cmp nat_cmp (natural_at a 2) (natural_at b 2) ≡ false) (λ a b on off apart.
    let first : of_first (bytes_at a 1) b ≡ true = ap (λ n. of_first n b) (has_first name a on) ∙ off in
    number_tie (natural_at a 2) (natural_at b 2) ∙ ap (λ t. t && natural_at b 2 == natural_at a 2) (sym first) ∙ apart) rows h

pub sessions_open_found : (t : Tables) (name : Text) → IsRegistry t → sessions_open_at (world_of t) name ≡ length (filter (of_first name) t.uploads)
sessions_open_found t name is = ap (λ o. option_map_or (λ r. len r.sessions) o 0) (repo_found t name) ∙ go (find (of_first name) t.repos) refl
  where
    go : (o : Option Row) → find (of_first name) t.repos ≡ o → option_map_or (λ r. len r.sessions) (option_map (repo_in t) o) 0 ≡ length (filter (of_first name) t.uploads)
    go None e = sym (ap length (no_children t.repos t.uploads name is.agree.uploads_repo e))
    go (Some r) e = ap (λ n. len (sessions_of t.contents t.pieces t.uploads n)) (found_named t.repos name r e)
        ∙ len_apart nat_cmp_total _ (ascending-map (λ (a b : ℕ × Text). eq_by_cmp nat_cmp a.0 b.0 ≡ false) (session_entry t.contents t.pieces) _ (numbers_apart name t.uploads is.tables.uploads.apart))
        ∙ length-map (filter (of_first name) t.uploads) (session_entry t.contents t.pieces)
