-- What is kept true of the rows by the writes of upload sessions.
use Rattle.std.proofs.Common.{◌≡◌, ◌<◌, ◌≤◌, ◌+◌, ◌==◌, ◌&&◌, ℕ, ℤ, List, [], ◌∷◌, length, Bool, true, false, cond, Option, None, Some, refl, sym, ap, subst, ◌∙◌, true≢false, arith}
use Rattle.std.specs.Prelude.{bytes_eq, find, not, option_map, is_some}
use Rattle.std.specs.Option.{option_map_or}
use Rattle.std.specs.List.{AllByRecursion}
use Rattle.std.specs.Cmp.{unsigned_tied}
use Rattle.sqlite.specs.declared.types.Value.TheVariants.{Int}
use Rattle.sqlite.specs.Order.{Row}
use Rattle.sqlite_trees.proofs.ListLemmas.{all_weaker, all-map}
use Rattle.oci_types.specs.Text.{Text}
use Rattle.store_schema.specs.Rows.{bytes_at, natural_at}
use Rattle.store_schema.proofs.Lists.{bytes_eq-sym}
use Rattle.store_statements.specs.Keys.{of_first, of_session, same_first, same_session, same_start}
use Rattle.store_statements.specs.Tables.{Tables, AreRows, IsRepoRow, IsUploadRow, IsPieceRow}
use Rattle.store_statements.specs.World.{pieces_of}
use Rattle.store_statements.specs.Registry.{is_repo, last_in, HaveRepo, Reach, PieceAgrees, UploadAgrees, IsOpen, IsRegistry}
use Rattle.store_statements.specs.Changes.{without, changed, with_last, with_size, upload_columns, piece_columns, Comes}
use Rattle.store_statements.proofs.Found.{found_passes, has_first, is_session, number_tie, find_changed}
use Rattle.store_statements.proofs.Base.{found_named}
use Rattle.store_statements.proofs.Kept.{all_without, all_changed, all_came, rows_without, rows_changed, rows_came, same_session-sym, same_start-sym}
use Rattle.store_statements.proofs.PieceWorlds.{pieces_other, reach_put, piece_fresh}
use Rattle.store_statements.proofs.SessionMaps.{has_session}
use Rattle.store_statements.proofs.SessionRows.{has_came, has_changed, has_without, has_without_all, pieces_without, pieces_without_all, no_pieces, number_free}
use Rattle.store_statements.proofs.SessionWorlds.{next_in, tables_opened, tables_appended, tables_ended, tables_cleared, with_sessions}

-- ---- a registry of which the rows of pieces and uploads are replaced

pub with_sessions_rows : (t : Tables) (pieces uploads : List Row) → IsRegistry t → AreRows IsPieceRow same_start pieces → AreRows IsUploadRow same_session uploads → HaveRepo t.repos uploads
    → AllByRecursion (UploadAgrees t.repos pieces) uploads → AllByRecursion (PieceAgrees t.contents) pieces → AllByRecursion (IsOpen uploads) pieces → IsRegistry (with_sessions t pieces uploads)
with_sessions_rows t pieces uploads is are_pieces are_uploads have agrees pieces_agree opens = record {
  tables = record { repos = is.tables.repos; grants = is.tables.grants; tags = is.tables.tags; blobs = is.tables.blobs; manifests = is.tables.manifests; uploads = are_uploads; pieces = are_pieces };
  agree = record {
    version = is.agree.version;
    granted = is.agree.granted;
    tagged = is.agree.tagged;
    blobs_repo = is.agree.blobs_repo;
    manifests_repo = is.agree.manifests_repo;
    uploads_repo = have;
    blobs = is.agree.blobs;
    manifests = is.agree.manifests;
    uploads = agrees;
    pieces = pieces_agree;
    pieces_open = opens;
    beside = is.agree.beside;
  };
}

-- ---- a session is opened

-- what numbers were given out, after the last number of a repository rose
last_rises : (repos : List Row) (name : Text) (number : ℕ) → last_in repos name ≤ number → (other : Text) → last_in repos other ≤ last_in (changed (of_first name) (with_last number) repos) other
last_rises repos name number above other =
    subst (λ (o : Option Row). last_in repos other ≤ option_map_or (λ r. natural_at r 3) o 0) (sym (find_changed (of_first name) (of_first other) (with_last number) (λ r. refl) repos)) (go (find (of_first other) repos) refl)
  where
    step : (r : Row) (b : Bool) → of_first name r ≡ b → find (of_first other) repos ≡ Some r → natural_at r 3 ≤ natural_at (cond b (with_last number r) r) 3
    step r true e f =
        let same : other ≡ name = sym (found_named repos other r f) ∙ has_first name r e in
        let last : last_in repos name ≡ natural_at r 3 = ap (last_in repos) (sym same) ∙ ap (λ o. option_map_or (λ x. natural_at x 3) o 0) f in
        omega (arith, last, above)
    step r false e f = omega arith

    go : (o : Option Row) → find (of_first other) repos ≡ o → last_in repos other ≤ option_map_or (λ r. natural_at r 3) (option_map (λ r. cond (of_first name r) (with_last number r) r) o) 0
    go None e = let none = ap (λ o. option_map_or (λ (x : Row). natural_at x 3) o 0) e in omega (arith, none)
    go (Some r) e = let last = ap (λ o. option_map_or (λ (x : Row). natural_at x 3) o 0) e in let up = step r (of_first name r) refl e in omega (arith, last, up)

last_given : (repos : List Row) (name : Text) (number : ℕ) → is_repo repos name ≡ true → last_in (changed (of_first name) (with_last number) repos) name ≡ number
last_given repos name number there = ap (λ o. option_map_or (λ r. natural_at r 3) o 0) (find_changed (of_first name) (of_first name) (with_last number) (λ r. refl) repos) ∙ go (find (of_first name) repos) refl
  where
    go : (o : Option Row) → find (of_first name) repos ≡ o → option_map_or (λ r. natural_at r 3) (option_map (λ r. cond (of_first name r) (with_last number r) r) o) 0 ≡ number
    go None e = absurd (true≢false (sym there ∙ ap is_some e))
    go (Some r) e = ap (λ b. natural_at (cond b (with_last number r) r) 3) (found_passes (of_first name) repos r e)

-- the repositories are those that were there
repos_kept : (repos : List Row) (name : Text) (number : ℕ) (other : Text) → is_repo repos other ≡ true → is_repo (changed (of_first name) (with_last number) repos) other ≡ true
repos_kept repos name number other there = ap is_some (find_changed (of_first name) (of_first other) (with_last number) (λ r. refl) repos) ∙ mapped (find (of_first other) repos) ∙ there
  where
    mapped : (o : Option Row) → is_some (option_map (λ r. cond (of_first name r) (with_last number r) r) o) ≡ is_some o
    mapped None = refl
    mapped (Some r) = refl

pub registry_opened : (t : Tables) (name : Text) (uploads : List Row) → IsRegistry t → is_repo t.repos name ≡ true → Comes t.uploads uploads (upload_columns name (next_in t name)) → IsRegistry (tables_opened t name uploads)
registry_opened t name uploads is there c = record {
  tables = record {
    repos = rows_changed IsRepoRow same_first (of_first name) (with_last number) t.repos (λ r h. record { name = h.name; quota = h.quota; last = refl }) (λ a b. refl) (λ a b. refl) (λ r. refl) is.tables.repos;
    grants = is.tables.grants;
    tags = is.tables.tags;
    blobs = is.tables.blobs;
    manifests = is.tables.manifests;
    uploads = rows_came IsUploadRow same_session t.uploads uploads (upload_columns name number) c same_session-sym (λ id. record { repo = refl; number = refl; size = refl }) free is.tables.uploads;
    pieces = is.tables.pieces;
  };
  agree = record {
    version = is.agree.version;
    granted = all_weaker _ (λ r. is_repo repos (bytes_at r 2) ≡ true) (λ r h. repos_kept t.repos name number (bytes_at r 2) h) t.grants is.agree.granted;
    tagged = have t.tags is.agree.tagged;
    blobs_repo = have t.blobs is.agree.blobs_repo;
    manifests_repo = have t.manifests is.agree.manifests_repo;
    uploads_repo = all_came (λ r. is_repo repos (bytes_at r 1) ≡ true) t.uploads uploads (upload_columns name number) c (repos_kept t.repos name number name there) (have t.uploads is.agree.uploads_repo);
    blobs = is.agree.blobs;
    manifests = is.agree.manifests;
    uploads = all_came (UploadAgrees repos t.pieces) t.uploads uploads (upload_columns name number) c new (all_weaker (UploadAgrees t.repos t.pieces) (UploadAgrees repos t.pieces) old t.uploads is.agree.uploads);
    pieces = is.agree.pieces;
    pieces_open = all_weaker (IsOpen t.uploads) (IsOpen uploads) opens t.pieces is.agree.pieces_open;
    beside = is.agree.beside;
  };
}
  where
    number : ℕ
    number = next_in t name

    repos : List Row
    repos = changed (of_first name) (with_last number) t.repos

    free : find (of_session name number) t.uploads ≡ None
    free = number_free t name number is (omega arith)

    have : (rows : List Row) → HaveRepo t.repos rows → HaveRepo repos rows
    have rows h = all_weaker (λ r. is_repo t.repos (bytes_at r 1) ≡ true) (λ r. is_repo repos (bytes_at r 1) ≡ true) (λ r e. repos_kept t.repos name number (bytes_at r 1) e) rows h

    new : UploadAgrees repos t.pieces (Int c.id ∷ upload_columns name number)
    new = record {
      whole = subst (λ ps. Reach 0 ps 0) (sym (no_pieces t.uploads t.pieces name number is.agree.pieces_open free)) refl;
      given = let last = last_given t.repos name number there in omega (arith, last);
    }

    old : (r : Row) → UploadAgrees t.repos t.pieces r → UploadAgrees repos t.pieces r
    old r h = record { whole = h.whole; given = let given = h.given in let up = last_rises t.repos name number (omega arith) (bytes_at r 1) in omega (arith, given, up) }

    opens : (p : Row) → IsOpen t.uploads p → IsOpen uploads p
    opens p h = has_came t.uploads uploads name number c free (bytes_at p 1) (natural_at p 2) ∙ step (bytes_eq name (bytes_at p 1) && number == natural_at p 2)
      where
        step : (b : Bool) → cond b true (has_session t.uploads (bytes_at p 1) (natural_at p 2)) ≡ true
        step true = refl
        step false = h

-- ---- a session grows

equal-sym : (m n : ℕ) → (m == n) ≡ (n == m)
equal-sym m n = sym (unsigned_tied m n) ∙ number_tie m n

pub registry_appended : (t : Tables) (name : Text) (number size : ℕ) (bytes : Text) (id : ℤ) (pieces : List Row) → IsRegistry t → Reach 0 (pieces_of t.pieces name number) size → has_session t.uploads name number ≡ true
    → 0 < length bytes → t.contents id ≡ Some bytes → Comes t.pieces pieces (piece_columns name number size (length bytes) id) → IsRegistry (tables_appended t name number (size + length bytes) pieces)
registry_appended t name number size bytes id pieces is reach there more has c = with_sessions_rows t pieces uploads is
    (rows_came IsPieceRow same_start t.pieces pieces columns c same_start-sym (λ i. record { repo = refl; number = refl; start = refl; size = refl; content = refl })
    (piece_fresh t.contents t.pieces name number size agree reach) is.tables.pieces)
    (rows_changed IsUploadRow same_session here (with_size end) t.uploads (λ r h. record { repo = h.repo; number = h.number; size = refl }) (λ a b. refl) (λ a b. refl) (λ r. refl) is.tables.uploads)
    (all_changed (λ r. is_repo t.repos (bytes_at r 1) ≡ true) here (with_size end) t.uploads (λ r h. h) is.agree.uploads_repo)
    (all-map (UploadAgrees t.repos pieces) (λ r. cond (here r) (with_size end r) r) t.uploads (all_weaker (UploadAgrees t.repos t.pieces) (λ r. UploadAgrees t.repos pieces (cond (here r) (with_size end r) r)) (λ r h. each r (here r) refl h) t.uploads is.agree.uploads))
    (all_came (PieceAgrees t.contents) t.pieces pieces columns c (record { bytes = bytes; there = has; size = refl; more = more }) agree)
    (all_came (IsOpen uploads) t.pieces pieces columns c (has_changed here end t.uploads name number ∙ there)
    (all_weaker (IsOpen t.uploads) (IsOpen uploads) (λ p h. has_changed here end t.uploads (bytes_at p 1) (natural_at p 2) ∙ h) t.pieces is.agree.pieces_open))
  where
    here : Row → Bool
    here = of_session name number

    end : ℕ
    end = size + length bytes

    columns : Row
    columns = piece_columns name number size (length bytes) id

    uploads : List Row
    uploads = changed here (with_size end) t.uploads

    agree : AllByRecursion (PieceAgrees t.contents) t.pieces
    agree = is.agree.pieces

    each : (r : Row) (b : Bool) → here r ≡ b → UploadAgrees t.repos t.pieces r → UploadAgrees t.repos pieces (cond b (with_size end r) r)
    each r true e h =
        let key = is_session name number r e in
        let whole : Reach 0 (pieces_of pieces name number) end = reach_put t.contents t.pieces pieces name number size (length bytes) id c agree reach in
        record { whole = subst (λ k. Reach 0 (pieces_of pieces (bytes_at r 1) k) end) (sym key.1) (subst (λ n. Reach 0 (pieces_of pieces n number) end) (sym key.0) whole); given = h.given }
    each r false e h =
        let apart : (bytes_eq name (bytes_at r 1) && number == natural_at r 2) ≡ false = (λ i. bytes_eq-sym name (bytes_at r 1) i && equal-sym number (natural_at r 2) i) ∙ e in
        record { whole = subst (λ ps. Reach 0 ps (natural_at r 3)) (sym (pieces_other t.pieces pieces name number size (length bytes) id c (bytes_at r 1) (natural_at r 2) apart)) h.whole; given = h.given }

-- ---- sessions end

-- what is left fails the test
all_left : (P Q : Row → Type 0) (p : Row → Bool) → ((r : Row) → p r ≡ false → P r → Q r) → (rows : List Row) → AllByRecursion P rows → AllByRecursion Q (without p rows)
all_left P Q p gives [] h = tt
all_left P Q p gives (r ∷ rs) h = step (p r) refl (all_left P Q p gives rs h.1)
  where
    step : (b : Bool) → p r ≡ b → AllByRecursion Q (without p rs) → AllByRecursion Q (cond (not b) (r ∷ without p rs) (without p rs))
    step true e more = more
    step false e more = (gives r e h.0, more)

-- the rows of pieces and uploads that pass a test of their sessions go
registry_left : (t : Tables) (p : Row → Bool) → IsRegistry t → ((r : Row) → p r ≡ false → pieces_of (without p t.pieces) (bytes_at r 1) (natural_at r 2) ≡ pieces_of t.pieces (bytes_at r 1) (natural_at r 2))
    → ((r : Row) → p r ≡ false → has_session (without p t.uploads) (bytes_at r 1) (natural_at r 2) ≡ has_session t.uploads (bytes_at r 1) (natural_at r 2)) → IsRegistry (with_sessions t (without p t.pieces) (without p t.uploads))
registry_left t p is whole opens = with_sessions_rows t (without p t.pieces) (without p t.uploads) is
    (rows_without IsPieceRow same_start p t.pieces is.tables.pieces)
    (rows_without IsUploadRow same_session p t.uploads is.tables.uploads)
    (all_without (λ r. is_repo t.repos (bytes_at r 1) ≡ true) p t.uploads is.agree.uploads_repo)
    (all_left (UploadAgrees t.repos t.pieces) (UploadAgrees t.repos (without p t.pieces)) p (λ r e h. record { whole = subst (λ ps. Reach 0 ps (natural_at r 3)) (sym (whole r e)) h.whole; given = h.given }) t.uploads is.agree.uploads)
    (all_without (PieceAgrees t.contents) p t.pieces is.agree.pieces)
    (all_left (IsOpen t.uploads) (IsOpen (without p t.uploads)) p (λ r e h. opens r e ∙ h) t.pieces is.agree.pieces_open)

pub registry_ended : (t : Tables) (name : Text) (number : ℕ) → IsRegistry t → IsRegistry (tables_ended t name number)
registry_ended t name number is = registry_left t (of_session name number) is (λ r e. pieces_without name number t.pieces (bytes_at r 1) (natural_at r 2) e)
    (λ r e. has_without name number t.uploads (bytes_at r 1) (natural_at r 2) ∙ ap (λ b. cond b false (has_session t.uploads (bytes_at r 1) (natural_at r 2))) e)

pub registry_cleared : (t : Tables) (name : Text) → IsRegistry t → IsRegistry (tables_cleared t name)
registry_cleared t name is = registry_left t (of_first name) is (λ r e. pieces_without_all name t.pieces (bytes_at r 1) (natural_at r 2) e)
    (λ r e. has_without_all name t.uploads (bytes_at r 1) (natural_at r 2) ∙ ap (λ b. cond b false (has_session t.uploads (bytes_at r 1) (natural_at r 2))) e)
