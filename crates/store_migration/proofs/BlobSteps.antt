-- A blob comes under the key of an old row, and the row goes: it is moved.
use Rattle.std.proofs.Common.{◌≡◌, ◌∙◌, List, [], length, None, Some, Ok, Err, Result, OnOk, refl, sym, ap, subst}
use Rattle.std.specs.Prelude.{find, option_map}
use Rattle.sqlite.specs.Order.{Row}
use Rattle.sqlite.specs.Effect.{Database}
use Rattle.sqlite.specs.State.{State, IsUnchanged}
use Rattle.oci_types.specs.Text.{Text}
use Rattle.store_schema.specs.Rows.{bytes_at}
use Rattle.store_contents.specs.Layouts.{InTables}
use Rattle.store_statements.specs.Keys.{has_key, same_key}
use Rattle.store_statements.specs.Tables.{Tables}
use Rattle.store_statements.specs.Changes.{blob_columns, Comes, Grow}
use Rattle.store_statements.proofs.PlacesKept.{runs_then}
use Rattle.store_statements.proofs.Kept.{rows_without}
use Rattle.store_statements.specs.Held.{IsReady, Becomes, held, tables_in}
use Rattle.store_statements.specs.Steps.{ContentKept, BlobStored, BlobComes}
use Rattle.store_migration.specs.OldTables.{OldTables, IsOldBlobRow}
use Rattle.store_migration.specs.Both.{world_of_both, AreBoth}
use Rattle.store_migration.specs.Moves.{BlobMoved}
use Rattle.store_migration.proofs.BlobMoves.{blob_moves}
use Rattle.store_migration.proofs.Free.{blob_free}
use Rattle.store_migration.proofs.Listed.{gone_stays}
use Rattle.store_migration.specs.Olds.{HasOlds, old_of, with_olds}
use Rattle.store_migration.specs.Moving.{IsUnderway, Moves, without_blob}
use Rattle.store_migration.proofs.Underway.{olds_kept, ready_read, some_of, none_of}

-- ---- the blob comes

blob_fresh : (old mid : Tables) (name digest bytes : Text) (id : Rattle.std.proofs.Common.ℤ) → ContentKept old mid id bytes [] → find (has_key name digest) old.blobs ≡ None → find (has_key name digest) mid.blobs ≡ None
blob_fresh old mid name digest bytes id kept fresh = ap (λ (t : Tables). find (has_key name digest) t.blobs) kept.others ∙ fresh

stored : (old mid new : Tables) (id : Rattle.std.proofs.Common.ℤ) (name digest bytes : Text) → ContentKept old mid id bytes [] → Comes mid.blobs new.blobs (blob_columns name digest (length bytes) id) → new ≡ record mid { blobs = new.blobs } → BlobStored old new name digest bytes []
stored old mid new id name digest bytes kept comes others =
    let same : new.contents ≡ mid.contents = ap (λ (t : Tables). t.contents) others in
    let placed : new.places ≡ mid.places = ap (λ (t : Tables). t.places) others in
    record {
      id = id;
      grow = subst (Grow old.contents) (sym same) kept.grow;
      there = ap (λ contents. contents id) same ∙ kept.there;
      rest = λ i other. ap (λ contents. contents i) same ∙ kept.rest i other;
      placed = runs_then [] old mid new kept.placed placed (ap (λ (t : Tables). t.packs) others);
      comes = subst (λ rows. Comes rows new.blobs (blob_columns name digest (length bytes) id)) (ap (λ (t : Tables). t.blobs) kept.others) comes;
      others = others ∙ ap (λ (t : Tables). record t { blobs = new.blobs }) kept.others ∙ (λ i. record old { contents = sym same i; places = sym placed i; blobs = new.blobs });
    }

-- ---- under the key of an old row

-- the row is there, with these bytes
abbrev pub Found : Tables → Text → Text → Text → Type 0
Found t name digest bytes = option_map (λ r. bytes_at r 4) (find (has_key name digest) (old_of t).blobs) ≡ Some bytes

free : (t : Tables) (name digest bytes : Text) → IsUnderway t → Found t name digest bytes → find (has_key name digest) t.blobs ≡ None
free t name digest bytes under found = (blob_free (old_of t) t name digest under.both (some_of (λ r. bytes_at r 4) (find (has_key name digest) (old_of t).blobs) bytes found)).1

-- so a row of its key can come, once its content is kept
pub free_after : (t m : Tables) (name digest bytes : Text) (id : Rattle.std.proofs.Common.ℤ) → IsUnderway t → Found t name digest bytes → ContentKept t m id bytes [] → find (has_key name digest) m.blobs ≡ None
free_after t m name digest bytes id under found kept = blob_fresh t m name digest bytes id kept (free t name digest bytes under found)

olds_after : (t w : Tables) (name digest bytes : Text) → IsUnderway t → BlobStored t w name digest bytes [] → HasOlds w
olds_after t w name digest bytes under s = olds_kept t w under.olds (ap (λ (x : Tables). x.beside) s.others) (ap (λ (x : Tables). x.version) s.others)

moves : (t w u : Tables) (name digest bytes : Text) → IsUnderway t → Found t name digest bytes → BlobStored t w name digest bytes [] → w.places ≡ t.places → u ≡ with_olds w (without_blob name digest (old_of w)) → Moves (without_blob name digest) t u
moves t w u name digest bytes under found s placed is = subst (Moves (without_blob name digest) t) (sym same) (record {
  underway = record { olds = olds; both = law.1 };
  world = law.0;
  left = refl;
})
  where
    less : OldTables
    less = without_blob name digest (old_of t)

    target : Tables
    target = with_olds (record t { contents = w.contents; blobs = w.blobs }) less

    same : u ≡ target
    same = is ∙ ap (λ (x : Tables). with_olds x (without_blob name digest (old_of x))) s.others ∙ (λ i. with_olds (record t { contents = w.contents; places = placed i; blobs = w.blobs }) less)

    moved : BlobMoved (old_of t) less t target
    moved = record { name = name; digest = digest; bytes = bytes; there = found; id = s.id; grow = s.grow; held = s.there; comes = s.comes; others = refl; gone = refl }

    law : (world_of_both less target ≡ world_of_both (old_of t) t) × AreBoth less target
    law = blob_moves (old_of t) less t target under.both moved

    olds : HasOlds target
    olds = record {
      known = under.olds.known;
      version = under.olds.version;
      rows = record {
        blobs = rows_without IsOldBlobRow same_key (has_key name digest) (old_of t).blobs under.olds.rows.blobs;
        manifests = under.olds.rows.manifests;
        sessions = under.olds.rows.sessions;
      };
    }

moved_if : {A E : Type 0} (old mid new : State) (name digest bytes : Text) (r : Result A E) → IsUnderway (held InTables old) → Found (held InTables old) name digest bytes → BlobStored (held InTables old) (held InTables mid) name digest bytes []
    → OnOk r (Becomes InTables new (with_olds (held InTables mid) (without_blob name digest (old_of (held InTables mid))))) → OnOk r (IsReady InTables new × Moves (without_blob name digest) (held InTables old) (held InTables new))
moved_if old mid new name digest bytes (Ok x) under found s h = (h.0, moves (held InTables old) (held InTables mid) (held InTables new) name digest bytes under found s refl h.1)
moved_if old mid new name digest bytes (Err e) under found s h = tt

-- its content is kept, it comes, and the row goes
pub moved_then : {A E : Type 0} (old mid late new : State) (id : Rattle.std.proofs.Common.ℤ) (name digest bytes : Text) (r : Result A E) → IsUnderway (held InTables old) → Found (held InTables old) name digest bytes → ContentKept (held InTables old) (held InTables mid) id bytes [] → BlobComes InTables mid late (blob_columns name digest (length bytes) id)
    → (IsReady InTables late → HasOlds (held InTables late) → OnOk r (Becomes InTables new (with_olds (held InTables late) (without_blob name digest (old_of (held InTables late)))))) → OnOk r (IsReady InTables new × Moves (without_blob name digest) (held InTables old) (held InTables new))
moved_then old mid late new id name digest bytes r under found kept comes take =
    let s : BlobStored (held InTables old) (held InTables late) name digest bytes [] = stored (held InTables old) (held InTables mid) (held InTables late) id name digest bytes kept comes.comes comes.others in
    moved_if old late new name digest bytes r under found s (take comes.ready (olds_after (held InTables old) (held InTables late) name digest bytes under s))

-- ---- as its bytes were read

pub found_read : (old mid : State) (name digest bytes : Text) → IsUnchanged old mid → Found (held InTables old) name digest bytes → Found (held InTables mid) name digest bytes
found_read old mid name digest bytes u found = subst (λ (d : Database). Found (tables_in InTables d) name digest bytes) (sym u.0.now_is) found

-- the key has no row
pub not_there : (old new : State) (name digest : Text) → IsReady InTables old → IsUnderway (held InTables old) → IsUnchanged old new → None ≡ option_map (λ r. bytes_at r 4) (find (has_key name digest) (old_of (held InTables old)).blobs) → IsReady InTables new × Moves (without_blob name digest) (held InTables old) (held InTables new)
not_there old new name digest is under u none = (
  ready_read old new is u,
  subst (λ (d : Database). Moves (without_blob name digest) (held InTables old) (tables_in InTables d)) (sym u.0.now_is) (record {
    underway = under;
    world = refl;
    left = sym (ap (λ (rows : List Row). record (old_of (held InTables old)) { blobs = rows }) (gone_stays (has_key name digest) (old_of (held InTables old)).blobs (none_of (λ r. bytes_at r 4) (find (has_key name digest) (old_of (held InTables old)).blobs) none)));
  }),
)
