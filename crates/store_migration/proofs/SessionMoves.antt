-- An upload session is moved: the world of both schemas stays, and what is kept true is kept.
use Rattle.std.proofs.Common.{◌≡◌, ◌<◌, ◌≤◌, ◌+◌, ◌==◌, ◌&&◌, ◌⊎◌, inl, inr, ℕ, ℤ, List, [], ◌++◌, map, length, Bool, true, false, cond, None, Some, refl, sym, ap, subst, ◌∙◌, arith}
use Rattle.std.specs.Prelude.{bytes_eq, filter, find, option_map}
use Rattle.std.specs.List.{AllByRecursion}
use Rattle.std.specs.Ordering.{eq_by_cmp, nat_cmp}
use Rattle.std.specs.Cmp.{unsigned_tied}
use Rattle.std.specs.FinMap.{get, insert, remove, from_entries}
use Rattle.std.proofs.lemmas.Cmp.{nat_cmp_total, eq_by_cmp_equiv}
use Rattle.std.proofs.lemmas.Map.Lookups.{exact_unsigned}
use Rattle.sqlite.specs.Order.{Row}
use Rattle.sqlite_trees.proofs.ListLemmas.{all_weaker}
use Rattle.oci_types.specs.Text.{Text}
use Rattle.store_schema.specs.Rows.{bytes_at, natural_at}
use Rattle.store_schema.proofs.Lists.{bytes_eq_true, bytes_eq-sym}
use Rattle.store_statements.specs.Keys.{of_first, of_session, same_session}
use Rattle.store_statements.specs.Tables.{Tables, IsUploadRow}
use Rattle.store_statements.specs.World.{pieces_of, joined, sessions_of}
use Rattle.store_statements.specs.Registry.{is_repo, last_in, Reach, UploadAgrees, IsOpen, PieceAgrees, IsRegistry}
use Rattle.store_statements.specs.Changes.{without, changed, with_size, upload_columns, piece_columns, Comes}
use Rattle.store_statements.proofs.Found.{get_found, find_filter, found_all, found_passes, is_session, number_tie, find_changed, map_without}
use Rattle.store_statements.proofs.Others.{within_session, others_without}
use Rattle.store_statements.proofs.Kept.{all_without, all_came, rows_without, rows_came, same_session-sym}
use Rattle.store_statements.proofs.Children.{repo_of_found}
use Rattle.store_statements.proofs.Named.{filter_within}
use Rattle.store_statements.proofs.PieceWorlds.{pieces_other, joined_put}
use Rattle.store_statements.proofs.SessionMaps.{has_session, same_sessions, sessions_set}
use Rattle.store_statements.proofs.SessionRows.{number_came, has_came, has_changed, no_pieces}
use Rattle.store_statements.proofs.SessionsKept.{with_sessions_rows, registry_appended}
use Rattle.store_migration.specs.OldTables.{OldTables, IsOldSessionRow, WasGiven}
use Rattle.store_migration.specs.OldWorld.{old_session_entry, old_sessions}
use Rattle.store_migration.specs.Both.{both_sessions, world_of_both, AreUnmoved, IsRegistryOnceTwo, AreBoth}
use Rattle.store_migration.specs.Moves.{LeftEmpty, Filled, SessionMoved}
use Rattle.store_migration.proofs.Merged.{both_stay, both_moved}
use Rattle.store_migration.proofs.BothWorlds.{grown, once_two, worlds_agree, world_grown, both_grown, beside_free}
use Rattle.store_migration.proofs.Unmoved.{row_of, unmoved_left}

-- ---- numbers

-- of a row that has one number no upload is found by it
pub session_free : (name : Text) (number : ℕ) (olds news : List Row) (r : Row) → AreUnmoved same_session olds news → find (of_session name number) olds ≡ Some r → find (of_session name number) news ≡ None
session_free name number olds news r unmoved e =
    let is = is_session name number r (found_passes (of_session name number) olds r e) in
    (λ i. find (of_session (sym is.0 i) (sym is.1 i)) news) ∙ found_all (λ x. find (same_session x) news ≡ None) (of_session name number) olds r unmoved e

equal-sym : (m n : ℕ) → (m == n) ≡ (n == m)
equal-sym m n = sym (unsigned_tied m n) ∙ number_tie m n

session_turned : (name : Text) (number : ℕ) (r : Row) → (bytes_eq name (bytes_at r 1) && number == natural_at r 2) ≡ of_session name number r
session_turned name number r = λ i. bytes_eq-sym name (bytes_at r 1) i && equal-sym number (natural_at r 2) i

-- what the old rows of a name have under a number
in_old_sessions : (rows : List Row) (name : Text) (number : ℕ) → get (from_entries {R = nat_cmp} (map old_session_entry (filter (of_first name) rows))) number ≡ option_map (λ r. bytes_at r 4) (find (of_session name number) rows)
in_old_sessions rows name number =
    get_found nat_cmp_total exact_unsigned (λ r. natural_at r 2) (λ r. bytes_at r 4) (λ q r. natural_at r 2 == q) (λ q r. number_tie q (natural_at r 2)) number (filter (of_first name) rows)
    ∙ ap (option_map (λ r. bytes_at r 4)) (find_filter (of_first name) (λ r. natural_at r 2 == number) rows)

old_sessions_left : (rows : List Row) (name : Text) (number : ℕ) → from_entries {R = nat_cmp} (map old_session_entry (filter (of_first name) (without (of_session name number) rows))) ≡ remove (from_entries (map old_session_entry (filter (of_first name) rows))) number
old_sessions_left rows name number = ap (λ xs. from_entries (map old_session_entry xs)) (filter_within (of_first name) (λ r. natural_at r 2 == number) rows)
    ∙ map_without nat_cmp_total exact_unsigned (λ r. natural_at r 2) (λ r. bytes_at r 4) (λ q r. natural_at r 2 == q) (λ q r. number_tie q (natural_at r 2)) number (filter (of_first name) rows)

-- ---- the sessions of both, where one goes from the old rows to the uploads

module _ (old : OldTables) (t : Tables) (name : Text) (number : ℕ) (bytes : Text) (row : Row) (found : find (of_session name number) old.sessions ≡ Some row) (is : bytes_at row 4 ≡ bytes) where
  abbrev pub left : OldTables
  left = record old { sessions = without (of_session name number) old.sessions }

  pub session_world : (pieces uploads : List Row) → sessions_of t.contents pieces uploads name ≡ insert (sessions_of t.contents t.pieces t.uploads name) number bytes
      → ((other : Text) → bytes_eq other name ≡ false → sessions_of t.contents pieces uploads other ≡ sessions_of t.contents t.pieces t.uploads other)
      → world_of_both left (record t { pieces = pieces; uploads = uploads }) ≡ world_of_both old t
  session_world pieces uploads mine others = worlds_agree old left t t.contents t.blobs t.manifests uploads pieces (λ other. refl) (λ other. refl) (λ other. each other (bytes_eq other name) refl)
    where
      after : Tables
      after = record t { pieces = pieces; uploads = uploads }

      here : both_sessions left after name ≡ both_sessions old t name
      here = both_moved nat_cmp_total exact_unsigned number bytes (old_sessions old name) _ (old_sessions left name) _
          (in_old_sessions old.sessions name number ∙ ap (option_map (λ r. bytes_at r 4)) found ∙ ap Some is) (old_sessions_left old.sessions name number) mine

      each : (other : Text) (b : Bool) → bytes_eq other name ≡ b → both_sessions left after other ≡ both_sessions old t other
      each other true e = subst (λ n. both_sessions left after n ≡ both_sessions old t n) (sym (bytes_eq_true other name e)) here
      each other false e = both_stay nat_cmp_total exact_unsigned (old_sessions old other) _ (old_sessions left other) _
          (ap (λ xs. from_entries (map old_session_entry xs)) (others_without name other (of_session name number) old.sessions (within_session name number) e)) (others other e)

-- ---- a session is opened, with nothing in it, and its number was given out before

module _ (t : Tables) (name : Text) (number : ℕ) (uploads : List Row) (c : Comes t.uploads uploads (upload_columns name number)) (free : find (of_session name number) t.uploads ≡ None) where
  opens : (p : Row) → IsOpen t.uploads p → IsOpen uploads p
  opens p h = has_came t.uploads uploads name number c free (bytes_at p 1) (natural_at p 2) ∙ step (bytes_eq name (bytes_at p 1) && number == natural_at p 2)
    where
      step : (b : Bool) → cond b true (has_session t.uploads (bytes_at p 1) (natural_at p 2)) ≡ true
      step true = refl
      step false = h

  registry_reopened : IsRegistry t → is_repo t.repos name ≡ true → number ≤ last_in t.repos name → IsRegistry (record t { uploads = uploads })
  registry_reopened is there given = with_sessions_rows t t.pieces uploads is is.tables.pieces
      (rows_came IsUploadRow same_session t.uploads uploads (upload_columns name number) c same_session-sym (λ id. record { repo = refl; number = refl; size = refl }) free is.tables.uploads)
      (all_came (λ r. is_repo t.repos (bytes_at r 1) ≡ true) t.uploads uploads (upload_columns name number) c there is.agree.uploads_repo)
      (all_came (UploadAgrees t.repos t.pieces) t.uploads uploads (upload_columns name number) c
      (record { whole = subst (λ ps. Reach 0 ps 0) (sym (no_pieces t.uploads t.pieces name number is.agree.pieces_open free)) refl; given = given }) is.agree.uploads)
      is.agree.pieces (all_weaker (IsOpen t.uploads) (IsOpen uploads) opens t.pieces is.agree.pieces_open)

  -- it is there from then on
  reopened_there : has_session uploads name number ≡ true
  reopened_there = has_came t.uploads uploads name number c free name number ∙ ap (λ b. cond b true (has_session t.uploads name number)) (number_came name number number ∙ (eq_by_cmp_equiv nat_cmp_total).refl number)

  reopened_has : (other : Text) → bytes_eq other name ≡ false → (q : ℕ) → has_session uploads other q ≡ has_session t.uploads other q
  reopened_has other e q = has_came t.uploads uploads name number c free other q ∙ ap (λ b. cond (b && number == q) true (has_session t.uploads other q)) (bytes_eq-sym name other ∙ e)

  reopened_mine : (q : ℕ) → has_session uploads name q ≡ cond (eq_by_cmp nat_cmp q number) true (has_session t.uploads name q)
  reopened_mine q = has_came t.uploads uploads name number c free name q ∙ ap (λ b. cond b true (has_session t.uploads name q)) (number_came name number q)

-- ---- one session, whose content is there

module _ (old : OldTables) (t : Tables) (name : Text) (number : ℕ) (bytes : Text) (both : AreBoth old t) (row : Row) (found : find (of_session name number) old.sessions ≡ Some row) (is : bytes_at row 4 ≡ bytes)
    (uploads : List Row) (c : Comes t.uploads uploads (upload_columns name number)) where
  free : find (of_session name number) t.uploads ≡ None
  free = session_free name number old.sessions t.uploads row both.sessions found

  repo : is_repo t.repos name ≡ true
  repo = repo_of_found t.repos old.sessions name (of_session name number) row (within_session name number) both.olds.sessions_repo found

  given : number ≤ last_in t.repos name
  given =
      let key = is_session name number row (found_passes (of_session name number) old.sessions row found) in
      let was = found_all (WasGiven t.repos) (of_session name number) old.sessions row both.olds.given found in
      let last = ap (λ n. last_in t.repos n) key.0 in
      let same = key.1 in
      omega (arith, was, last, same)

  no_piece : pieces_of t.pieces name number ≡ []
  no_piece = no_pieces t.uploads t.pieces name number (once_two t both.news).agree.pieces_open free

  -- what is kept true of the rest
  left_both : (pieces rows : List Row) → IsRegistryOnceTwo (record t { pieces = pieces; uploads = rows }) → AreUnmoved same_session (without (of_session name number) old.sessions) rows
      → AreBoth (left old t name number bytes row found is) (record t { pieces = pieces; uploads = rows })
  left_both pieces rows ready unmoved = record {
    version = both.version;
    olds = record {
      blobs = both.olds.blobs;
      manifests = both.olds.manifests;
      sessions = rows_without IsOldSessionRow same_session (of_session name number) old.sessions both.olds.sessions;
      blobs_repo = both.olds.blobs_repo;
      manifests_repo = both.olds.manifests_repo;
      sessions_repo = all_without _ (of_session name number) old.sessions both.olds.sessions_repo;
      given = all_without _ (of_session name number) old.sessions both.olds.given;
    };
    news = ready;
    blobs = both.blobs;
    manifests = both.manifests;
    sessions = unmoved;
  }

  opened_unmoved : AreUnmoved same_session (without (of_session name number) old.sessions) uploads
  opened_unmoved = unmoved_left same_session (of_session name number) old.sessions t.uploads uploads (upload_columns name number) c (λ r. session_turned name number r) both.sessions

  opened_ready : IsRegistryOnceTwo (record t { uploads = uploads })
  opened_ready version beside two none = registry_reopened (record t { version = version; beside = beside }) name number uploads c free (both.news version beside two none) repo given

  -- ---- it is empty

  pub empty_world : bytes ≡ [] → world_of_both (left old t name number bytes row found is) (record t { uploads = uploads }) ≡ world_of_both old t
  empty_world none = session_world old t name number bytes row found is t.pieces uploads
      (sessions_set t.contents t.pieces t.pieces t.uploads uploads name number bytes (reopened_mine t name number uploads c free) (ap (joined t.contents) no_piece ∙ sym none) (λ q e. refl))
      (λ other e. same_sessions t.contents t.pieces t.pieces t.uploads uploads other (reopened_has t name number uploads c free other e) (λ q. refl))

  pub empty_both : AreBoth (left old t name number bytes row found is) (record t { uploads = uploads })
  empty_both = left_both t.pieces uploads opened_ready opened_unmoved

  -- ---- it has bytes

  module _ (more : 0 < length bytes) (id : ℤ) (held : t.contents id ≡ Some bytes) (pieces : List Row) (d : Comes t.pieces pieces (piece_columns name number 0 (length bytes) id)) where
    abbrev sized : List Row
    sized = changed (of_session name number) (with_size (length bytes)) uploads

    agree : AllByRecursion (PieceAgrees t.contents) t.pieces
    agree = (once_two t both.news).agree.pieces

    reach : Reach 0 (pieces_of t.pieces name number) 0
    reach = subst (λ ps. Reach 0 ps 0) (sym no_piece) refl

    has_sized : (other : Text) (q : ℕ) → has_session sized other q ≡ has_session uploads other q
    has_sized other q = has_changed (of_session name number) (length bytes) uploads other q

    pub filled_world : world_of_both (left old t name number bytes row found is) (record t { pieces = pieces; uploads = sized }) ≡ world_of_both old t
    filled_world = session_world old t name number bytes row found is pieces sized
        (sessions_set t.contents t.pieces pieces t.uploads sized name number bytes (λ q. has_sized name q ∙ reopened_mine t name number uploads c free q)
        (joined_put t.contents t.pieces pieces name number 0 bytes id d agree reach held ∙ ap (λ ps. joined t.contents ps ++ bytes) no_piece)
        (λ q e. pieces_other t.pieces pieces name number 0 (length bytes) id d name q (number_came name number q ∙ e)))
        (λ other e. same_sessions t.contents t.pieces pieces t.uploads sized other (λ q. has_sized other q ∙ reopened_has t name number uploads c free other e q)
        (λ q. pieces_other t.pieces pieces name number 0 (length bytes) id d other q (ap (λ b. b && number == q) (bytes_eq-sym name other ∙ e))))

    end : 0 + length bytes ≡ length bytes
    end = omega arith

    filled_ready : IsRegistryOnceTwo (record t { pieces = pieces; uploads = sized })
    filled_ready version beside two none = subst (λ n. IsRegistry (record t { version = version; beside = beside; pieces = pieces; uploads = changed (of_session name number) (with_size n) uploads })) end
        (registry_appended (record t { version = version; beside = beside; uploads = uploads }) name number 0 bytes id pieces (opened_ready version beside two none) reach (reopened_there t name number uploads c free) more held d)

    unmoved_sized : (r : Row) → find (same_session r) uploads ≡ None → find (same_session r) sized ≡ None
    unmoved_sized r none = find_changed (of_session name number) (same_session r) (with_size (length bytes)) (λ x. refl) uploads ∙ ap (option_map (λ x. cond (of_session name number x) (with_size (length bytes) x) x)) none

    pub filled_both : AreBoth (left old t name number bytes row found is) (record t { pieces = pieces; uploads = sized })
    filled_both = left_both pieces sized filled_ready
        (all_weaker (λ r. find (same_session r) uploads ≡ None) (λ r. find (same_session r) sized ≡ None) unmoved_sized (without (of_session name number) old.sessions) opened_unmoved)

-- ---- one session

abbrev Keeps : OldTables → OldTables → Tables → Tables → Type 0
Keeps olds news t u = (world_of_both news u ≡ world_of_both olds t) × AreBoth news u

pub session_moves : (olds news : OldTables) (t u : Tables) → AreBoth olds t → SessionMoved olds news t u → (world_of_both news u ≡ world_of_both olds t) × AreBoth news u
session_moves olds news t u both m = go m.filled
  where
    row : (r : Row) × (find (of_session m.name m.number) olds.sessions ≡ Some r) × (bytes_at r 4 ≡ m.bytes)
    row = row_of (λ r. bytes_at r 4) (find (of_session m.name m.number) olds.sessions) m.bytes m.there

    less : OldTables
    less = record olds { sessions = without (of_session m.name m.number) olds.sessions }

    go : LeftEmpty t u m.bytes m.uploads ⊎ Filled t u m.name m.number m.bytes m.uploads → Keeps olds news t u
    go (inl n) = subst (λ x. Keeps olds news t x) (sym n.others) (subst (λ o. Keeps olds o t (record t { uploads = m.uploads; beside = u.beside })) (sym m.gone) (
      empty_world olds t m.name m.number m.bytes both row.0 row.1 row.2 m.uploads m.opens n.none,
      beside_free _ (record t { uploads = m.uploads }) u.beside (empty_both olds t m.name m.number m.bytes both row.0 row.1 row.2 m.uploads m.opens),
    ))
    go (inr p) = subst (λ x. Keeps olds news t x) (sym p.others) (subst (λ o. Keeps olds o t target) (sym m.gone) (
      filled_world olds mid m.name m.number m.bytes ready row.0 row.1 row.2 m.uploads m.opens p.more p.id p.held u.pieces p.comes ∙ world_grown olds t u.contents both p.grow,
      beside_free _ (record mid { pieces = u.pieces; uploads = changed (of_session m.name m.number) (with_size (length m.bytes)) m.uploads }) u.beside (filled_both olds mid m.name m.number m.bytes ready row.0 row.1 row.2 m.uploads m.opens p.more p.id p.held u.pieces p.comes),
    ))
      where
        mid : Tables
        mid = grown t u.contents

        ready : AreBoth olds mid
        ready = both_grown olds t u.contents both p.grow

        target : Tables
        target = record t { contents = u.contents; pieces = u.pieces; uploads = changed (of_session m.name m.number) (with_size (length m.bytes)) m.uploads; beside = u.beside }

-- no number is given out by it
pub session_repos : (olds news : OldTables) (t u : Tables) → SessionMoved olds news t u → u.repos ≡ t.repos
session_repos olds news t u m = go m.filled
  where
    go : LeftEmpty t u m.bytes m.uploads ⊎ Filled t u m.name m.number m.bytes m.uploads → u.repos ≡ t.repos
    go (inl n) = ap (λ (x : Tables). x.repos) n.others
    go (inr p) = ap (λ (x : Tables). x.repos) p.others
