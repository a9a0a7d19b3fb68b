-- What the writes of upload sessions make of the world that the rows stand for.
use Rattle.std.proofs.Common.{◌≡◌, ◌+◌, ◌==◌, ◌&&◌, ℕ, ℤ, List, [], ◌++◌, length, Bool, true, false, cond, None, Some, refl, sym, ap, ◌∙◌, arith}
use Rattle.std.specs.Prelude.{bytes_eq, find}
use Rattle.std.specs.Option.{option_map_or}
use Rattle.std.specs.List.{AllByRecursion}
use Rattle.std.specs.Ordering.{eq_by_cmp, nat_cmp}
use Rattle.std.specs.FinMap.{FinMap, get, insert, remove, empty}
use Rattle.std.proofs.lemmas.Map.Lookups.{exact_unsigned}
use Rattle.store_schema.proofs.Ids.{is_eq_equal}
use Rattle.sqlite.specs.Order.{Row}
use Rattle.oci_types.specs.Text.{Text}
use Rattle.registry_model.specs.World.{Repo, repo_at, update_repo}
use Rattle.registry_model.specs.Sessions as model
use Rattle.registry_model.specs.Lookups.{open_session, append, bytes_or_none}
use Rattle.registry_model.specs.Command.{drop_sessions, without_sessions}
use Rattle.store_schema.specs.Rows.{bytes_at, natural_at}
use Rattle.store_schema.proofs.Lists.{bytes_eq-sym}
use Rattle.store_statements.specs.Keys.{of_first, of_session}
use Rattle.store_statements.specs.Tables.{Tables}
use Rattle.store_statements.specs.World.{pieces_of, joined, blobs_of, manifests_of, tags_of, sessions_of, repo_in, world_of}
use Rattle.store_statements.specs.Registry.{last_in, Reach, PieceAgrees, IsRegistry}
use Rattle.store_statements.specs.Changes.{without, changed, with_last, with_size, upload_columns, piece_columns, Comes}
use Rattle.store_statements.proofs.Base.{found_named, updated, updated_in_place}
use Rattle.store_statements.proofs.Others.{none_left}
use Rattle.store_statements.proofs.PieceWorlds.{pieces_other, joined_put}
use Rattle.store_statements.proofs.SessionMaps.{has_session, session_get, same_sessions, sessions_set, sessions_less, sessions_none}
use Rattle.store_statements.proofs.SessionRows.{number_came, number_gone, has_came, has_changed, has_without, has_without_all, pieces_without, pieces_without_all, no_pieces, number_free}

-- ---- a change of sessions alone

-- the tables after it
abbrev pub with_sessions : Tables → List Row → List Row → Tables
with_sessions t pieces uploads = record t { pieces = pieces; uploads = uploads }

-- the sessions of other repositories are as they were
abbrev pub SessionsStay : Tables → List Row → List Row → Text → Type 0
SessionsStay t pieces uploads name = (other : Text) → bytes_eq other name ≡ false → sessions_of t.contents pieces uploads other ≡ sessions_of t.contents t.pieces t.uploads other

pub sessions_updated : (t : Tables) (pieces uploads : List Row) (name : Text) (change : Repo → Repo) → SessionsStay t pieces uploads name
    → ((r : Row) → find (of_first name) t.repos ≡ Some r → repo_in (with_sessions t pieces uploads) r ≡ change (repo_in t r)) → world_of (with_sessions t pieces uploads) ≡ update_repo (world_of t) name change (repo_at (world_of t) name)
sessions_updated t pieces uploads name change stay mine =
    updated_in_place t (with_sessions t pieces uploads) name change refl refl (record { blobs = λ o e. refl; manifests = λ o e. refl; tags = λ o e. refl; sessions = stay }) mine

-- in the row's own name
pub named_sessions : (t : Tables) (pieces uploads : List Row) (name : Text) (r : Row) → find (of_first name) t.repos ≡ Some r → sessions_of t.contents pieces uploads (bytes_at r 1) ≡ sessions_of t.contents pieces uploads name
named_sessions t pieces uploads name r e = ap (λ n. sessions_of t.contents pieces uploads n) (found_named t.repos name r e)

-- the repository has other sessions, and all else as it was
pub other_sessions : (t : Tables) (pieces uploads : List Row) (name : Text) (r : Row) → find (of_first name) t.repos ≡ Some r → (change : FinMap nat_cmp Text → FinMap nat_cmp Text)
    → sessions_of t.contents pieces uploads name ≡ change (sessions_of t.contents t.pieces t.uploads name) → repo_in (with_sessions t pieces uploads) r ≡ record (repo_in t r) { sessions = change (repo_in t r).sessions }
other_sessions t pieces uploads name r e change h =
    let sessions = named_sessions t pieces uploads name r e ∙ h ∙ ap change (sym (named_sessions t t.pieces t.uploads name r e)) in
    λ i. record {
      blobs = blobs_of t.contents t.blobs (bytes_at r 1);
      manifests = manifests_of t.contents t.manifests (bytes_at r 1);
      tags = tags_of t.tags (bytes_at r 1);
      sessions = sessions i;
      last = natural_at r 3;
      quota = natural_at r 2;
    }

-- ---- a session is opened

-- the number that comes next
abbrev pub next_in : Tables → Text → ℕ
next_in t name = last_in t.repos name + 1

abbrev pub tables_opened : Tables → Text → List Row → Tables
tables_opened t name uploads = record t { repos = changed (of_first name) (with_last (next_in t name)) t.repos; uploads = uploads }

pub world_opened : (t : Tables) (name : Text) (uploads : List Row) → IsRegistry t → Comes t.uploads uploads (upload_columns name (next_in t name)) → world_of (tables_opened t name uploads) ≡ open_session (world_of t) name
world_opened t name uploads is c = updated t (tables_opened t name uploads) name model.opened (with_last number) refl refl (λ r. refl) (record { blobs = λ o e. refl; manifests = λ o e. refl; tags = λ o e. refl; sessions = others }) mine
  where
    number : ℕ
    number = next_in t name

    free : find (of_session name number) t.uploads ≡ None
    free = number_free t name number is (omega arith)

    others : SessionsStay t t.pieces uploads name
    others other e = same_sessions t.contents t.pieces t.pieces t.uploads uploads other (λ q. has_came t.uploads uploads name number c free other q
        ∙ ap (λ b. cond (b && number == q) true (has_session t.uploads other q)) (bytes_eq-sym name other ∙ e)) (λ q. refl)

    more : sessions_of t.contents t.pieces uploads name ≡ insert (sessions_of t.contents t.pieces t.uploads name) number []
    more = sessions_set t.contents t.pieces t.pieces t.uploads uploads name number []
        (λ q. has_came t.uploads uploads name number c free name q ∙ ap (λ b. cond b true (has_session t.uploads name q)) (number_came name number q))
        (ap (joined t.contents) (no_pieces t.uploads t.pieces name number is.agree.pieces_open free)) (λ q e. refl)

    mine : (r : Row) → find (of_first name) t.repos ≡ Some r → repo_in (tables_opened t name uploads) (with_last number r) ≡ model.opened (repo_in t r)
    mine r e =
        let last : number ≡ natural_at r 3 + 1 = ap (λ o. option_map_or (λ x. natural_at x 3) o 0 + 1) e in
        let was = sym (named_sessions t t.pieces t.uploads name r e) in
        let sessions : sessions_of t.contents t.pieces uploads (bytes_at r 1) ≡ insert (sessions_of t.contents t.pieces t.uploads (bytes_at r 1)) (natural_at r 3 + 1) [] =
        named_sessions t t.pieces uploads name r e ∙ more ∙ (λ i. insert (was i) (last i) []) in
        λ i. record {
          blobs = blobs_of t.contents t.blobs (bytes_at r 1);
          manifests = manifests_of t.contents t.manifests (bytes_at r 1);
          tags = tags_of t.tags (bytes_at r 1);
          sessions = sessions i;
          last = last i;
          quota = natural_at r 2;
        }

-- ---- a session grows

abbrev pub tables_appended : Tables → Text → ℕ → ℕ → List Row → Tables
tables_appended t name number size pieces = with_sessions t pieces (changed (of_session name number) (with_size size) t.uploads)

pub world_appended : (t : Tables) (name : Text) (number size : ℕ) (bytes : Text) (id : ℤ) (pieces : List Row) → AllByRecursion (PieceAgrees t.contents) t.pieces → Reach 0 (pieces_of t.pieces name number) size
    → has_session t.uploads name number ≡ true → t.contents id ≡ Some bytes → Comes t.pieces pieces (piece_columns name number size (length bytes) id)
    → world_of (tables_appended t name number (size + length bytes) pieces) ≡ append (world_of t) name number bytes
world_appended t name number size bytes id pieces agree reach there has c = sessions_updated t pieces uploads name (λ r. model.appended r number (bytes_or_none (get r.sessions number) ++ bytes)) others mine
  where
    uploads : List Row
    uploads = changed (of_session name number) (with_size (size + length bytes)) t.uploads

    same : (other : Text) (q : ℕ) → has_session uploads other q ≡ has_session t.uploads other q
    same other q = has_changed (of_session name number) (size + length bytes) t.uploads other q

    others : SessionsStay t pieces uploads name
    others other e = same_sessions t.contents t.pieces pieces t.uploads uploads other (same other) (λ q. pieces_other t.pieces pieces name number size (length bytes) id c other q (ap (λ b. b && number == q) (bytes_eq-sym name other ∙ e)))

    old : Text
    old = joined t.contents (pieces_of t.pieces name number)

    grown : (q : ℕ) → has_session uploads name q ≡ cond (eq_by_cmp nat_cmp q number) true (has_session t.uploads name q)
    grown q = same name q ∙ step (eq_by_cmp nat_cmp q number) refl
      where
        step : (b : Bool) → eq_by_cmp nat_cmp q number ≡ b → has_session t.uploads name q ≡ cond b true (has_session t.uploads name q)
        step true e = ap (has_session t.uploads name) (exact_unsigned q number (is_eq_equal _ e)) ∙ there
        step false e = refl

    more : sessions_of t.contents pieces uploads name ≡ insert (sessions_of t.contents t.pieces t.uploads name) number (old ++ bytes)
    more = sessions_set t.contents t.pieces pieces t.uploads uploads name number (old ++ bytes) grown (joined_put t.contents t.pieces pieces name number size bytes id c agree reach has)
        (λ q e. pieces_other t.pieces pieces name number size (length bytes) id c name q (number_came name number q ∙ e))

    was : bytes_or_none (get (sessions_of t.contents t.pieces t.uploads name) number) ≡ old
    was = ap bytes_or_none (session_get t.contents t.pieces t.uploads name number ∙ ap (λ b. cond b (Some old) None) there)

    mine : (r : Row) → find (of_first name) t.repos ≡ Some r → repo_in (with_sessions t pieces uploads) r ≡ model.appended (repo_in t r) number (bytes_or_none (get (repo_in t r).sessions number) ++ bytes)
    mine r e = other_sessions t pieces uploads name r e (λ m. insert m number (bytes_or_none (get m number) ++ bytes)) (more ∙ ap (λ b. insert (sessions_of t.contents t.pieces t.uploads name) number (b ++ bytes)) (sym was))

-- ---- a session ends

abbrev pub tables_ended : Tables → Text → ℕ → Tables
tables_ended t name number = with_sessions t (without (of_session name number) t.pieces) (without (of_session name number) t.uploads)

abbrev pub without_session : ℕ → Repo → Repo
without_session number r = record r { sessions = remove r.sessions number }

pub world_ended : (t : Tables) (name : Text) (number : ℕ) → world_of (tables_ended t name number) ≡ update_repo (world_of t) name (without_session number) (repo_at (world_of t) name)
world_ended t name number = sessions_updated t pieces uploads name (without_session number) others (λ r e. other_sessions t pieces uploads name r e (λ m. remove m number) less)
  where
    pieces : List Row
    pieces = without (of_session name number) t.pieces

    uploads : List Row
    uploads = without (of_session name number) t.uploads

    others : SessionsStay t pieces uploads name
    others other e = same_sessions t.contents t.pieces pieces t.uploads uploads other (λ q. has_without name number t.uploads other q ∙ ap (λ b. cond (b && q == number) false (has_session t.uploads other q)) e)
        (λ q. pieces_without name number t.pieces other q (ap (λ b. b && q == number) e))

    less : sessions_of t.contents pieces uploads name ≡ remove (sessions_of t.contents t.pieces t.uploads name) number
    less = sessions_less t.contents t.pieces pieces t.uploads uploads name number (λ q. has_without name number t.uploads name q ∙ ap (λ b. cond b false (has_session t.uploads name q)) (number_gone name number q))
        (λ q e. pieces_without name number t.pieces name q (number_gone name number q ∙ e))

-- ---- every session of a repository ends

abbrev pub tables_cleared : Tables → Text → Tables
tables_cleared t name = with_sessions t (without (of_first name) t.pieces) (without (of_first name) t.uploads)

pub world_cleared : (t : Tables) (name : Text) → world_of (tables_cleared t name) ≡ drop_sessions (world_of t) name
world_cleared t name = sessions_updated t pieces uploads name without_sessions others (λ r e. other_sessions t pieces uploads name r e (λ m. empty) (sessions_none t.contents pieces uploads name (none_left (of_first name) t.uploads)))
  where
    pieces : List Row
    pieces = without (of_first name) t.pieces

    uploads : List Row
    uploads = without (of_first name) t.uploads

    others : SessionsStay t pieces uploads name
    others other e = same_sessions t.contents t.pieces pieces t.uploads uploads other (λ q. has_without_all name t.uploads other q ∙ ap (λ b. cond b false (has_session t.uploads other q)) e)
        (λ q. pieces_without_all name t.pieces other q e)
