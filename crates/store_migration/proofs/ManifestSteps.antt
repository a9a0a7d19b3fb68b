-- A manifest comes under the key of an old row, and the row goes: it is moved.
use Rattle.std.proofs.Common.{◌≡◌, ◌∙◌, ℤ, List, [], length, None, Some, Ok, Err, Result, OnOk, refl, sym, ap, subst}
use Rattle.std.specs.Prelude.{find, option_map, Option}
use Rattle.sqlite.specs.Order.{Row}
use Rattle.sqlite.specs.Effect.{Database}
use Rattle.sqlite.specs.State.{State, IsUnchanged}
use Rattle.oci_types.specs.Text.{Text}
use Rattle.oci_types.specs.declared.kind.Kind.{Kind}
use Rattle.oci_types.specs.Manifest.{manifest_in}
use Rattle.registry_model.specs.Manifests.{kind_in}
use Rattle.registry_model.specs.Referrers.{subject_or_none}
use Rattle.store_schema.specs.Rows.{bytes_at}
use Rattle.store_contents.specs.Layouts.{InTables}
use Rattle.store_statements.specs.Keys.{has_key, same_key}
use Rattle.store_statements.specs.Tables.{Tables}
use Rattle.store_statements.specs.Changes.{manifest_columns, Comes, Grow}
use Rattle.store_statements.proofs.Kept.{rows_without}
use Rattle.store_statements.specs.Held.{IsReady, Becomes, held, tables_in}
use Rattle.store_statements.specs.Steps.{ContentKept, ManifestComes}
use Rattle.store_migration.specs.OldTables.{OldTables, IsOldManifestRow}
use Rattle.store_migration.specs.Both.{world_of_both, AreBoth}
use Rattle.store_migration.specs.Moves.{ManifestMoved}
use Rattle.store_migration.proofs.ManifestMoves.{manifest_moves}
use Rattle.store_migration.proofs.Free.{manifest_free}
use Rattle.store_migration.proofs.Listed.{gone_stays}
use Rattle.store_migration.specs.Olds.{HasOlds, old_of, with_olds}
use Rattle.store_migration.specs.Moving.{IsUnderway, ManifestStored, Moves, without_manifest}
use Rattle.store_migration.proofs.Underway.{olds_kept, ready_read, some_of, none_of}

-- ---- the manifest comes

manifest_fresh : (old mid : Tables) (name digest bytes : Text) (id : ℤ) → ContentKept old mid id bytes [] → find (has_key name digest) old.manifests ≡ None → find (has_key name digest) mid.manifests ≡ None
manifest_fresh old mid name digest bytes id kept fresh = ap (λ (t : Tables). find (has_key name digest) t.manifests) kept.others ∙ fresh

-- the columns by what the bytes read as
abbrev read_columns : Text → Text → Text → ℤ → Row
read_columns name digest bytes id = manifest_columns name digest (length bytes) (kind_in bytes) (subject_or_none (manifest_in bytes)) id

stored : (old mid new : Tables) (id : ℤ) (name digest bytes : Text) → ContentKept old mid id bytes [] → mid.places ≡ old.places → Comes mid.manifests new.manifests (read_columns name digest bytes id) → new ≡ record mid { manifests = new.manifests } → ManifestStored old new name digest bytes
stored old mid new id name digest bytes kept placed comes others =
    let same : new.contents ≡ mid.contents = ap (λ (t : Tables). t.contents) others in
    record {
      id = id;
      grow = subst (Grow old.contents) (sym same) kept.grow;
      there = ap (λ contents. contents id) same ∙ kept.there;
      comes = subst (λ rows. Comes rows new.manifests (read_columns name digest bytes id)) (ap (λ (t : Tables). t.manifests) kept.others) comes;
      others = others ∙ ap (λ (t : Tables). record t { manifests = new.manifests }) kept.others ∙ (λ i. record old { contents = sym same i; places = placed i; manifests = new.manifests });
    }

came : (old mid new : State) (id : ℤ) (name digest bytes : Text) (kind : Kind) (subject : Option Text) → kind ≡ kind_in bytes → subject ≡ subject_or_none (manifest_in bytes) → ContentKept (held InTables old) (held InTables mid) id bytes []
    → ManifestComes InTables mid new (manifest_columns name digest (length bytes) kind subject id) → ManifestStored (held InTables old) (held InTables new) name digest bytes
came old mid new id name digest bytes kind subject k s kept h =
    let columns : manifest_columns name digest (length bytes) kind subject id ≡ read_columns name digest bytes id = λ i. manifest_columns name digest (length bytes) (k i) (s i) id in
    stored (held InTables old) (held InTables mid) (held InTables new) id name digest bytes kept refl (subst (Comes (held InTables mid).manifests (held InTables new).manifests) columns h.comes) h.others

-- ---- under the key of an old row

-- the row is there, with these bytes
abbrev pub Found : Tables → Text → Text → Text → Type 0
Found t name digest bytes = option_map (λ r. bytes_at r 6) (find (has_key name digest) (old_of t).manifests) ≡ Some bytes

free : (t : Tables) (name digest bytes : Text) → IsUnderway t → Found t name digest bytes → find (has_key name digest) t.manifests ≡ None
free t name digest bytes under found = (manifest_free (old_of t) t name digest under.both (some_of (λ r. bytes_at r 6) (find (has_key name digest) (old_of t).manifests) bytes found)).1

-- so a row of its key can come, once its content is kept
pub free_after : (t m : Tables) (name digest bytes : Text) (id : ℤ) → IsUnderway t → Found t name digest bytes → ContentKept t m id bytes [] → find (has_key name digest) m.manifests ≡ None
free_after t m name digest bytes id under found kept = manifest_fresh t m name digest bytes id kept (free t name digest bytes under found)

olds_after : (t w : Tables) (name digest bytes : Text) → IsUnderway t → ManifestStored t w name digest bytes → HasOlds w
olds_after t w name digest bytes under s = olds_kept t w under.olds (ap (λ (x : Tables). x.beside) s.others) (ap (λ (x : Tables). x.version) s.others)

moves : (t w u : Tables) (name digest bytes : Text) → IsUnderway t → Found t name digest bytes → ManifestStored t w name digest bytes → u ≡ with_olds w (without_manifest name digest (old_of w)) → Moves (without_manifest name digest) t u
moves t w u name digest bytes under found s is = subst (Moves (without_manifest name digest) t) (sym same) (record {
  underway = record { olds = olds; both = law.1 };
  world = law.0;
  left = refl;
})
  where
    less : OldTables
    less = without_manifest name digest (old_of t)

    target : Tables
    target = with_olds (record t { contents = w.contents; manifests = w.manifests }) less

    same : u ≡ target
    same = is ∙ ap (λ (x : Tables). with_olds x (without_manifest name digest (old_of x))) s.others

    moved : ManifestMoved (old_of t) less t target
    moved = record { name = name; digest = digest; bytes = bytes; there = found; id = s.id; grow = s.grow; held = s.there; comes = s.comes; others = refl; gone = refl }

    law : (world_of_both less target ≡ world_of_both (old_of t) t) × AreBoth less target
    law = manifest_moves (old_of t) less t target under.both moved

    olds : HasOlds target
    olds = record {
      known = under.olds.known;
      version = under.olds.version;
      rows = record {
        blobs = under.olds.rows.blobs;
        manifests = rows_without IsOldManifestRow same_key (has_key name digest) (old_of t).manifests under.olds.rows.manifests;
        sessions = under.olds.rows.sessions;
      };
    }

moved_if : {A E : Type 0} (old mid new : State) (name digest bytes : Text) (r : Result A E) → IsUnderway (held InTables old) → Found (held InTables old) name digest bytes → ManifestStored (held InTables old) (held InTables mid) name digest bytes
    → OnOk r (Becomes InTables new (with_olds (held InTables mid) (without_manifest name digest (old_of (held InTables mid))))) → OnOk r (IsReady InTables new × Moves (without_manifest name digest) (held InTables old) (held InTables new))
moved_if old mid new name digest bytes (Ok x) under found s h = (h.0, moves (held InTables old) (held InTables mid) (held InTables new) name digest bytes under found s h.1)
moved_if old mid new name digest bytes (Err e) under found s h = tt

-- its content is kept, it comes, and the row goes
pub moved_then : {A E : Type 0} (old mid late new : State) (id : ℤ) (name digest bytes : Text) (kind : Kind) (subject : Option Text) (r : Result A E) → kind ≡ kind_in bytes → subject ≡ subject_or_none (manifest_in bytes) → IsUnderway (held InTables old) → Found (held InTables old) name digest bytes
    → ContentKept (held InTables old) (held InTables mid) id bytes [] → ManifestComes InTables mid late (manifest_columns name digest (length bytes) kind subject id)
    → (IsReady InTables late → HasOlds (held InTables late) → OnOk r (Becomes InTables new (with_olds (held InTables late) (without_manifest name digest (old_of (held InTables late)))))) → OnOk r (IsReady InTables new × Moves (without_manifest name digest) (held InTables old) (held InTables new))
moved_then old mid late new id name digest bytes kind subject r k sub under found kept comes take =
    let s : ManifestStored (held InTables old) (held InTables late) name digest bytes = came old mid late id name digest bytes kind subject k sub kept comes in
    moved_if old late new name digest bytes r under found s (take comes.ready (olds_after (held InTables old) (held InTables late) name digest bytes under s))

-- ---- as its bytes were read

pub found_read : (old mid : State) (name digest bytes : Text) → IsUnchanged old mid → Found (held InTables old) name digest bytes → Found (held InTables mid) name digest bytes
found_read old mid name digest bytes u found = subst (λ (d : Database). Found (tables_in InTables d) name digest bytes) (sym u.0.now_is) found

-- the key has no row
pub not_there : (old new : State) (name digest : Text) → IsReady InTables old → IsUnderway (held InTables old) → IsUnchanged old new → None ≡ option_map (λ r. bytes_at r 6) (find (has_key name digest) (old_of (held InTables old)).manifests) → IsReady InTables new × Moves (without_manifest name digest) (held InTables old) (held InTables new)
not_there old new name digest is under u none = (
  ready_read old new is u,
  subst (λ (d : Database). Moves (without_manifest name digest) (held InTables old) (tables_in InTables d)) (sym u.0.now_is) (record {
    underway = under;
    world = refl;
    left = sym (ap (λ (rows : List Row). record (old_of (held InTables old)) { manifests = rows }) (gone_stays (has_key name digest) (old_of (held InTables old)).manifests (none_of (λ r. bytes_at r 6) (find (has_key name digest) (old_of (held InTables old)).manifests) none)));
  }),
)
