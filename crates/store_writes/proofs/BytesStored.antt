-- Bytes that come into the contents, and the piece that names them: one step of the tables.
use Rattle.std.proofs.Common.{◌≡◌, ◌∙◌, ℕ, ℤ, List, length, Ok, Err, Result, OnOk, None, sym, ap, subst}
use Rattle.std.specs.Prelude.{find}
use Rattle.sqlite.specs.State.{State}
use Rattle.oci_types.specs.Text.{Text}
use Rattle.store_contents.specs.Layouts.{Layout}
use Rattle.store_statements.specs.Keys.{of_first, has_start}
use Rattle.store_statements.specs.Tables.{Tables}
use Rattle.store_statements.specs.Changes.{with_last, piece_columns, upload_columns, Comes, Grow}
use Rattle.store_statements.specs.Held.{IsReady, held}
use Rattle.store_statements.proofs.PlacesKept.{runs_then}
use Rattle.store_statements.specs.Steps.{ContentKept, PieceStored, SessionOpened, PieceComes, UploadComes, repos_changed}

-- other rows are as they were while a content comes

pub piece_fresh : (old mid : Tables) (id : ℤ) (name : Text) (number start : ℕ) (bytes : Text) {runs : List (ℕ × ℕ)} → ContentKept old mid id bytes runs → find (has_start name number start) old.pieces ≡ None → find (has_start name number start) mid.pieces ≡ None
piece_fresh old mid id name number start bytes kept fresh = ap (λ (t : Tables). find (has_start name number start) t.pieces) kept.others ∙ fresh

piece_step : (old mid new : Tables) (id : ℤ) (name : Text) (number start : ℕ) (bytes : Text) (runs : List (ℕ × ℕ)) → ContentKept old mid id bytes runs → Comes mid.pieces new.pieces (piece_columns name number start (length bytes) id) → new ≡ record mid { pieces = new.pieces } → PieceStored old new name number start bytes runs
piece_step old mid new id name number start bytes runs kept comes others =
    let same : new.contents ≡ mid.contents = ap (λ (t : Tables). t.contents) others in
    let placed : new.places ≡ mid.places = ap (λ (t : Tables). t.places) others in
    record {
      id = id;
      grow = subst (Grow old.contents) (sym same) kept.grow;
      there = ap (λ contents. contents id) same ∙ kept.there;
      rest = λ i other. ap (λ contents. contents i) same ∙ kept.rest i other;
      placed = runs_then runs old mid new kept.placed placed (ap (λ (t : Tables). t.packs) others);
      comes = subst (λ rows. Comes rows new.pieces (piece_columns name number start (length bytes) id)) (ap (λ (t : Tables). t.pieces) kept.others) comes;
      others = others ∙ ap (λ (t : Tables). record t { pieces = new.pieces }) kept.others ∙ (λ i. record old { contents = sym same i; places = sym placed i; pieces = new.pieces });
    }

pub piece_stored_if : (l : Layout) → {A E : Type 0} (old mid new : State) (id : ℤ) (name : Text) (number start : ℕ) (bytes : Text) (runs : List (ℕ × ℕ)) (r : Result A E) → ContentKept (held l old) (held l mid) id bytes runs → OnOk r (PieceComes l mid new (piece_columns name number start (length bytes) id))
    → OnOk r (IsReady l new × PieceStored (held l old) (held l new) name number start bytes runs)
piece_stored_if l old mid new id name number start bytes runs (Ok x) kept h = (h.ready, piece_step (held l old) (held l mid) (held l new) id name number start bytes runs kept h.comes h.others)
piece_stored_if l old mid new id name number start bytes runs (Err e) kept h = tt

-- ---- a step of the tables, and then one that is said of them

pub after_step : (l : Layout) → {A E : Type 0} (R : Tables → Tables → Type 0) (t : Tables) (mid new : State) (r : Result A E) → held l mid ≡ t → OnOk r (IsReady l new × R (held l mid) (held l new)) → OnOk r (IsReady l new × R t (held l new))
after_step l R t mid new (Ok x) e h = (h.0, subst (λ (s : Tables). R s (held l new)) e h.1)
after_step l R t mid new (Err x) e h = tt

pub opened_if : (l : Layout) → {A E : Type 0} (t : Tables) (mid new : State) (name : Text) (number : ℕ) (r : Result A E) → held l mid ≡ repos_changed (of_first name) (with_last number) t → OnOk r (UploadComes l mid new (upload_columns name number))
    → OnOk r (IsReady l new × SessionOpened t (held l new) name number)
opened_if l t mid new name number (Ok x) e h = (
  h.ready,
  record {
    comes = subst (λ rows. Comes rows (held l new).uploads (upload_columns name number)) (ap (λ (s : Tables). s.uploads) e) h.comes;
    others = h.others ∙ ap (λ (s : Tables). record s { uploads = (held l new).uploads }) e;
  },
)
opened_if l t mid new name number (Err x) e h = tt
