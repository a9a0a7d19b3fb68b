-- An upload session is opened under the key of an old row, and the row goes: it is moved.
use Rattle.std.proofs.Common.{◌≡◌, ◌⊎◌, ◌∙◌, ◌<◌, ◌==◌, inl, inr, ℕ, ℤ, List, [], ◌∷◌, length, false, arith, None, Some, Ok, Err, Result, OnOk, refl, sym, ap, subst}
use Rattle.std.specs.Prelude.{find, option_map}
use Rattle.sqlite.specs.Order.{Row}
use Rattle.sqlite.specs.Effect.{Database}
use Rattle.sqlite.specs.State.{State, IsUnchanged}
use Rattle.oci_types.specs.Text.{Text}
use Rattle.store_schema.specs.Rows.{bytes_at}
use Rattle.store_contents.specs.Layouts.{InTables}
use Rattle.store_statements.specs.Keys.{of_session, has_start, same_session}
use Rattle.store_statements.specs.Tables.{Tables}
use Rattle.store_statements.specs.Registry.{Reach}
use Rattle.store_statements.specs.Changes.{changed, with_size, upload_columns, piece_columns, Comes, Grow}
use Rattle.store_statements.proofs.PlacesKept.{runs_then}
use Rattle.store_statements.proofs.Kept.{rows_without}
use Rattle.store_statements.proofs.PieceWorlds.{piece_fresh}
use Rattle.store_statements.proofs.SessionRows.{no_pieces}
use Rattle.store_statements.specs.Held.{IsReady, Becomes, held, tables_in}
use Rattle.store_statements.specs.Steps.{ContentKept, PieceStored, PieceComes, UploadComes, uploads_changed}
use Rattle.store_migration.specs.OldTables.{IsOldSessionRow}
use Rattle.store_migration.specs.Moves.{SessionMoved, LeftEmpty, Filled}
use Rattle.store_migration.proofs.BothWorlds.{once_two}
use Rattle.store_migration.proofs.SessionMoves.{session_moves}
use Rattle.store_migration.proofs.Free.{number_free}
use Rattle.store_migration.proofs.Listed.{gone_stays}
use Rattle.store_migration.specs.Olds.{HasOlds, old_of, olds_of, with_olds}
use Rattle.store_migration.specs.Moving.{IsUnderway, SessionStored, Moves, without_session}
use Rattle.store_migration.proofs.Underway.{olds_kept, ready_read, some_of, none_of}

-- ---- its piece comes

pub start_fresh : (old mid : Tables) (name : Text) (number : ℕ) (bytes : Text) (id : ℤ) → ContentKept old mid id bytes [] → find (has_start name number 0) old.pieces ≡ None → find (has_start name number 0) mid.pieces ≡ None
start_fresh old mid name number bytes id kept fresh = ap (λ (t : Tables). find (has_start name number 0) t.pieces) kept.others ∙ fresh

pieced : (old mid new : Tables) (id : ℤ) (name : Text) (number : ℕ) (bytes : Text) → ContentKept old mid id bytes [] → Comes mid.pieces new.pieces (piece_columns name number 0 (length bytes) id) → new ≡ record mid { pieces = new.pieces } → PieceStored old new name number 0 bytes []
pieced old mid new id name number bytes kept comes others =
    let same : new.contents ≡ mid.contents = ap (λ (t : Tables). t.contents) others in
    let placed : new.places ≡ mid.places = ap (λ (t : Tables). t.places) others in
    record {
      id = id;
      grow = subst (Grow old.contents) (sym same) kept.grow;
      there = ap (λ contents. contents id) same ∙ kept.there;
      rest = λ i other. ap (λ contents. contents i) same ∙ kept.rest i other;
      placed = runs_then [] old mid new kept.placed placed (ap (λ (t : Tables). t.packs) others);
      comes = subst (λ rows. Comes rows new.pieces (piece_columns name number 0 (length bytes) id)) (ap (λ (t : Tables). t.pieces) kept.others) comes;
      others = others ∙ ap (λ (t : Tables). record t { pieces = new.pieces }) kept.others ∙ (λ i. record old { contents = sym same i; places = sym placed i; pieces = new.pieces });
    }

pub pieced_if : {A E : Type 0} (old mid new : State) (id : ℤ) (name : Text) (number : ℕ) (bytes : Text) (r : Result A E) → ContentKept (held InTables old) (held InTables mid) id bytes [] → OnOk r (PieceComes InTables mid new (piece_columns name number 0 (length bytes) id))
    → OnOk r (IsReady InTables new × PieceStored (held InTables old) (held InTables new) name number 0 bytes [])
pieced_if old mid new id name number bytes (Ok x) kept h = (h.ready, pieced (held InTables old) (held InTables mid) (held InTables new) id name number bytes kept h.comes h.others)
pieced_if old mid new id name number bytes (Err e) kept h = tt

-- the size is set, and pieces stay
abbrev pub sized : Text → ℕ → Text → Tables → Tables
sized name number bytes t = uploads_changed (of_session name number) (with_size (length bytes)) t

pub sized_fresh : (t u : Tables) (name : Text) (number : ℕ) (bytes : Text) → u ≡ sized name number bytes t → find (has_start name number 0) t.pieces ≡ None → find (has_start name number 0) u.pieces ≡ None
sized_fresh t u name number bytes e fresh = ap (λ (x : Tables). find (has_start name number 0) x.pieces) e ∙ fresh

pub sized_if : {A E : Type 0} (mid new : State) (t : Tables) (name : Text) (number : ℕ) (bytes : Text) (r : Result A E) → held InTables mid ≡ sized name number bytes t → OnOk r (IsReady InTables new × PieceStored (held InTables mid) (held InTables new) name number 0 bytes [])
    → OnOk r (IsReady InTables new × PieceStored (sized name number bytes t) (held InTables new) name number 0 bytes [])
sized_if mid new t name number bytes (Ok x) e h = (h.0, subst (λ (s : Tables). PieceStored s (held InTables new) name number 0 bytes []) e h.1)
sized_if mid new t name number bytes (Err x) e h = tt

-- ---- whether there are bytes

pub no_bytes : (bytes : Text) → length bytes ≡ 0 → bytes ≡ []
no_bytes [] e = refl
no_bytes (b ∷ bs) e = absurd (omega (arith, e))

pub some_bytes : (bytes : Text) → (length bytes == 0) ≡ false → 0 < length bytes
some_bytes [] e = absurd cc
some_bytes (b ∷ bs) e = omega arith

-- ---- it is opened

pub upload_pieces : (old mid : Tables) (name : Text) (number : ℕ) → mid ≡ record old { uploads = mid.uploads } → find (has_start name number 0) old.pieces ≡ None → find (has_start name number 0) mid.pieces ≡ None
upload_pieces old mid name number others fresh = ap (λ (t : Tables). find (has_start name number 0) t.pieces) others ∙ fresh

-- and stays empty
pub stored_empty : (old new : State) (name : Text) (number : ℕ) (bytes : Text) → bytes ≡ [] → UploadComes InTables old new (upload_columns name number) → IsReady InTables new × SessionStored (held InTables old) (held InTables new) name number bytes
stored_empty old new name number bytes none h = (
  h.ready,
  record {
    uploads = (held InTables new).uploads;
    opens = h.comes;
    filled = inl (record {
      none = none;
      others = h.others ∙ ap (λ b. record (held InTables old) { uploads = (held InTables new).uploads; beside = b }) (sym (ap (λ (t : Tables). t.beside) h.others));
    });
    beside = ap (λ (t : Tables). t.beside) h.others;
  },
)

filled_of : (t m u : Tables) (name : Text) (number : ℕ) (bytes : Text) → 0 < length bytes → m ≡ record t { uploads = m.uploads } → PieceStored (sized name number bytes m) u name number 0 bytes [] → u.places ≡ t.places → Filled t u name number bytes m.uploads
filled_of t m u name number bytes more e s placed =
    let b : u.beside ≡ t.beside = ap (λ (x : Tables). x.beside) s.others ∙ ap (λ (x : Tables). x.beside) e in
    record {
      more = more;
      id = s.id;
      grow = subst (λ contents. Grow contents u.contents) (ap (λ (x : Tables). x.contents) e) s.grow;
      held = s.there;
      comes = subst (λ rows. Comes rows u.pieces (piece_columns name number 0 (length bytes) s.id)) (ap (λ (x : Tables). x.pieces) e) s.comes;
      others = s.others ∙ ap (λ (x : Tables). record x { contents = u.contents; places = u.places; pieces = u.pieces; uploads = changed (of_session name number) (with_size (length bytes)) m.uploads }) e
          ∙ (λ i. record t { contents = u.contents; places = placed i; pieces = u.pieces; uploads = changed (of_session name number) (with_size (length bytes)) m.uploads; beside = sym b i });
    }

-- or gets its bytes
pub stored_filled : {A E : Type 0} (old mid new : State) (name : Text) (number : ℕ) (bytes : Text) (r : Result A E) → 0 < length bytes → UploadComes InTables old mid (upload_columns name number) → OnOk r (IsReady InTables new × PieceStored (sized name number bytes (held InTables mid)) (held InTables new) name number 0 bytes [])
    → OnOk r (IsReady InTables new × SessionStored (held InTables old) (held InTables new) name number bytes)
stored_filled old mid new name number bytes (Ok x) more h s = (
  s.0,
  record {
    uploads = (held InTables mid).uploads;
    opens = h.comes;
    filled = inr (filled_of (held InTables old) (held InTables mid) (held InTables new) name number bytes more h.others s.1 refl);
    beside = ap (λ (t : Tables). t.beside) s.1.others ∙ ap (λ (t : Tables). t.beside) h.others;
  },
)
stored_filled old mid new name number bytes (Err e) more h s = tt

-- ---- under the key of an old row

-- the row is there, with these bytes
abbrev pub Found : Tables → Text → ℕ → Text → Type 0
Found t name number bytes = option_map (λ r. bytes_at r 4) (find (of_session name number) (old_of t).sessions) ≡ Some bytes

pub free : (t : Tables) (name : Text) (number : ℕ) (bytes : Text) → IsUnderway t → Found t name number bytes → find (of_session name number) t.uploads ≡ None
free t name number bytes under found = (number_free (old_of t) t name number under.both (some_of (λ r. bytes_at r 4) (find (of_session name number) (old_of t).sessions) bytes found)).1

-- so it has no piece
pub no_start : (t : Tables) (name : Text) (number : ℕ) → IsUnderway t → find (of_session name number) t.uploads ≡ None → find (has_start name number 0) t.pieces ≡ None
no_start t name number under none =
    let agree = (once_two t under.both.news).agree in
    piece_fresh t.contents t.pieces name number 0 agree.pieces (subst (λ ps. Reach 0 ps 0) (sym (no_pieces t.uploads t.pieces name number agree.pieces_open none)) refl)

stored_version : (t w : Tables) (name : Text) (number : ℕ) (bytes : Text) → SessionStored t w name number bytes → w.version ≡ t.version
stored_version t w name number bytes s = go s.filled
  where
    go : LeftEmpty t w bytes s.uploads ⊎ Filled t w name number bytes s.uploads → w.version ≡ t.version
    go (inl n) = ap (λ (x : Tables). x.version) n.others
    go (inr p) = ap (λ (x : Tables). x.version) p.others

pub olds_after : (t w : Tables) (name : Text) (number : ℕ) (bytes : Text) → IsUnderway t → SessionStored t w name number bytes → HasOlds w
olds_after t w name number bytes under s = olds_kept t w under.olds s.beside (stored_version t w name number bytes s)

module _ (t w u : Tables) (name : Text) (number : ℕ) (bytes : Text) (under : IsUnderway t) (found : Found t name number bytes) (s : SessionStored t w name number bytes) (is : u ≡ with_olds w (without_session name number (old_of w))) where
  -- the tables are those before, but for what stands beside them
  rest : u ≡ record w { beside = u.beside }
  rest = is ∙ ap (λ x. record w { beside = x }) (sym (ap (λ (x : Tables). x.beside) is))

  filled : LeftEmpty t w bytes s.uploads ⊎ Filled t w name number bytes s.uploads → LeftEmpty t u bytes s.uploads ⊎ Filled t u name number bytes s.uploads
  filled (inl n) = inl (record { none = n.none; others = rest ∙ ap (λ (x : Tables). record x { beside = u.beside }) n.others })
  filled (inr p) =
      let cs : u.contents ≡ w.contents = ap (λ (x : Tables). x.contents) rest in
      let ps : u.pieces ≡ w.pieces = ap (λ (x : Tables). x.pieces) rest in
      inr (record {
        more = p.more;
        id = p.id;
        grow = subst (Grow t.contents) (sym cs) p.grow;
        held = ap (λ contents. contents p.id) cs ∙ p.held;
        comes = subst (λ rows. Comes t.pieces rows (piece_columns name number 0 (length bytes) p.id)) (sym ps) p.comes;
        others = rest ∙ ap (λ (x : Tables). record x { beside = u.beside }) p.others
            ∙ (λ i. record t { contents = sym cs i; pieces = sym ps i; uploads = changed (of_session name number) (with_size (length bytes)) s.uploads; beside = u.beside });
      })

  left : old_of u ≡ without_session name number (old_of t)
  left = ap old_of is ∙ ap (λ x. without_session name number (olds_of x)) s.beside

  moved : SessionMoved (old_of t) (old_of u) t u
  moved = record { name = name; number = number; bytes = bytes; there = found; uploads = s.uploads; opens = s.opens; filled = filled s.filled; gone = left }

  olds : HasOlds u
  olds =
      let o = olds_after t w name number bytes under s in
      subst HasOlds (sym is) (record {
        known = o.known;
        version = o.version;
        rows = record {
          blobs = o.rows.blobs;
          manifests = o.rows.manifests;
          sessions = rows_without IsOldSessionRow same_session (of_session name number) (old_of w).sessions o.rows.sessions;
        };
      })

  moves : Moves (without_session name number) t u
  moves =
      let law = session_moves (old_of t) (old_of u) t u under.both moved in
      record { underway = record { olds = olds; both = law.1 }; world = law.0; left = left }

pub moved_if : {A E : Type 0} (old mid new : State) (name : Text) (number : ℕ) (bytes : Text) (r : Result A E) → IsUnderway (held InTables old) → Found (held InTables old) name number bytes → SessionStored (held InTables old) (held InTables mid) name number bytes
    → OnOk r (Becomes InTables new (with_olds (held InTables mid) (without_session name number (old_of (held InTables mid))))) → OnOk r (IsReady InTables new × Moves (without_session name number) (held InTables old) (held InTables new))
moved_if old mid new name number bytes (Ok x) under found s h = (h.0, moves (held InTables old) (held InTables mid) (held InTables new) name number bytes under found s h.1)
moved_if old mid new name number bytes (Err e) under found s h = tt

-- ---- as its bytes were read

pub found_read : (old mid : State) (name : Text) (number : ℕ) (bytes : Text) → IsUnchanged old mid → Found (held InTables old) name number bytes → Found (held InTables mid) name number bytes
found_read old mid name number bytes u found = subst (λ (d : Database). Found (tables_in InTables d) name number bytes) (sym u.0.now_is) found

-- the key has no row
pub not_there : (old new : State) (name : Text) (number : ℕ) → IsReady InTables old → IsUnderway (held InTables old) → IsUnchanged old new → None ≡ option_map (λ r. bytes_at r 4) (find (of_session name number) (old_of (held InTables old)).sessions) → IsReady InTables new × Moves (without_session name number) (held InTables old) (held InTables new)
not_there old new name number is under u none = (
  ready_read old new is u,
  subst (λ (d : Database). Moves (without_session name number) (held InTables old) (tables_in InTables d)) (sym u.0.now_is) (record {
    underway = under;
    world = refl;
    left = sym (ap (λ (rows : List Row). record (old_of (held InTables old)) { sessions = rows }) (gone_stays (of_session name number) (old_of (held InTables old)).sessions (none_of (λ r. bytes_at r 4) (find (of_session name number) (old_of (held InTables old)).sessions) none)));
  }),
)
