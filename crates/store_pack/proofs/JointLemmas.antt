-- Places and their bytes, through a call of the file or of the database, and in each outcome of a crash.
use Rattle.std.proofs.Common.{◌≡◌, ◌⊎◌, inl, inr, ℕ, ℤ, ◌+◌, List, [], ◌∷◌, ◌++◌, cond, map, Option, None, Some, Ok, Err, Result, IfOk, length, slice_range, refl, sym, ap, subst, ◌∙◌, arith}
use Rattle.std.specs.Prelude.{filter, find, not, option_map, IsTrue, OnOk, ⊤}
use Rattle.std.specs.List.{AllByRecursion}
use Rattle.std.specs.Ordering.{int_eq}
use Rattle.std.proofs.lemmas.List.Sorted.{IsPermutation-sym}
use Rattle.sqlite.specs.Order.{Row}
use Rattle.sqlite.specs.Tree.{Trees, has_rowid}
use Rattle.sqlite.specs.Effect.{Database}
use Rattle.sqlite.specs.State.{State}
use Rattle.sqlite_disk.specs.declared.Disk.{Ghosts}
use Rattle.sqlite_disk.specs.Disk.{Holds}
use Rattle.sqlite_trees.proofs.ListLemmas.{all-filter, all-permutation}
use Rattle.registry_pack.specs.declared.extent.Extent.{Extent}
use Rattle.registry_pack.specs.Extents.{AreApart, AreWithin, bytes_at}
use Rattle.registry_pack.specs.Heads.{head_bytes, offset_of}
use Rattle.registry_pack.specs.Standing.{Lasts, KeepsAll, KeepsElsewhere}
use Rattle.registry_pack.proofs.RangeLemmas.{length-range, Holds-range, range_is}
use Rattle.oci_types.specs.declared.fault.Fault.{Fault}
use Rattle.oci_types.specs.declared.fault.Fault.TheVariants.{Memory, Storage}
use Rattle.store_contents.specs.declared.content_id.ContentId.{ContentId}
use Rattle.store_pack.specs.Commits.{IsSettled, Stays, Becomes, Outcomes, with_trees}
use Rattle.store_contents.specs.Places.{of_content, places_of, joined, bytes_of, bytes_in, runs_of, content_rows, place_rows}
use Rattle.store_places.specs.Places.{Adds, Removes, runs_at}
use Rattle.store_pack.specs.Joint.{IsKept, AreKept, IsJoint, IsSame, HasMore, HasLess, CrashesInto, IsDurable, IsFree, Older, IsRefused, AreAged, AreAside}
use Rattle.store_bytes.proofs.KeepingLemmas.{run_of, runs_of_content}

-- what holds of each place holds of what it names, and the other way round
all_mapped : {A B : Type 0} (P : B → Type 0) (f : A → B) (xs : List A) → AllByRecursion (λ x. P (f x)) xs → AllByRecursion P (map f xs)
all_mapped P f [] all = tt
all_mapped P f (x ∷ xs) all = (all.0, all_mapped P f xs all.1)

all_from_mapped : {A B : Type 0} (P : B → Type 0) (f : A → B) (xs : List A) → AllByRecursion P (map f xs) → AllByRecursion (λ x. P (f x)) xs
all_from_mapped P f [] all = tt
all_from_mapped P f (x ∷ xs) all = (all.0, all_from_mapped P f xs all.1)

all_both : {A : Type 0} (P : A → Type 0) (xs ys : List A) → AllByRecursion P xs → AllByRecursion P ys → AllByRecursion P (xs ++ ys)
all_both P [] ys h k = k
all_both P (x ∷ xs) ys h k = (h.0, all_both P xs ys h.1 k)

-- ---- what is kept has its bytes in each outcome

module _ {D : Type 0} (g : Ghosts D) where
  run_same : (file : D) (c : List ℕ) → g.may_leave file c → (run : ℕ × ℕ) → IsKept g file run → slice_range c run.0 (run.0 + run.1) ≡ slice_range (g.seen file) run.0 (run.0 + run.1)
  run_same file c may run it =
      range_is c (slice_range (g.seen file) run.0 (run.0 + run.1)) run.0 run.1 (length-range (g.seen file) run.0 run.1 it.within) (it.lasts.after c may)

  pub joined_same : (file : D) (c : List ℕ) → g.may_leave file c → (rows : List Row) → AreKept g file (runs_of rows) → joined c rows ≡ joined (g.seen file) rows
  joined_same file c may [] all = refl
  joined_same file c may (r ∷ rs) all = ap (λ (l : List ℕ). l ++ joined c rs) (run_same file c may (run_of r) all.0) ∙ ap (λ l. bytes_of (g.seen file) r ++ l) (joined_same file c may rs all.1)

  extents_same : (file : D) (c : List ℕ) → g.may_leave file c → (es : List Extent) → AreKept g file (runs_at es) → bytes_at c es ≡ bytes_at (g.seen file) es
  extents_same file c may [] all = refl
  extents_same file c may (e ∷ es) all =
      ap (λ (l : List ℕ). l ++ bytes_at c es) (run_same file c may (e.at, e.size) all.0) ∙ ap (λ l. slice_range (g.seen file) e.at (e.at + e.size) ++ l) (extents_same file c may es all.1)

  -- the places of a content are among all
  kept_of : (file : D) (rows : List Row) (id : ℤ) → AreKept g file (runs_of rows) → AreKept g file (runs_of (places_of rows id))
  kept_of file rows id all = runs_of_content (IsKept g file) rows id all

  -- THE BYTES of all contents are in each outcome of the file what they are now
  pub same_world : (file : D) (seen : List ℕ) (db : Database) (c : List ℕ) → g.seen file ≡ seen → g.may_leave file c → AreKept g file (runs_of (place_rows db)) → IsSame (bytes_in db c) (bytes_in db seen)
  same_world file seen db c is may all i =
      ap (λ l. option_map (λ _. l) (find (has_rowid i) (content_rows db))) (joined_same file c may (places_of (place_rows db) i) (kept_of file (place_rows db) i all)) ∙ ap (λ (f : List ℕ). bytes_in db f i) is

  -- ---- a call that changes nothing of the file

  pub run_kept : (old new : D) → KeepsAll g old new → (run : ℕ × ℕ) → IsKept g old run → IsKept g new run
  run_kept old new kept run it = record {
    within = rw kept.seen it.within;
    lasts = record { now = rw kept.seen it.lasts.now; after = λ c may. rw kept.seen (it.lasts.after c (kept.crash c may)) };
  }

  pub runs_kept : (old new : D) → KeepsAll g old new → (runs : List (ℕ × ℕ)) → AreKept g old runs → AreKept g new runs
  runs_kept old new kept [] all = tt
  runs_kept old new kept (r ∷ rs) all = (run_kept old new kept r all.0, runs_kept old new kept rs all.1)

  -- what stood when the file was synced
  pub runs_synced : (old new : D) → KeepsAll g old new → ((a : ℕ) (bytes : List ℕ) → Holds (g.seen old) a bytes → Lasts g new a bytes) → (es : List Extent) → AreWithin (g.seen old) es → AreKept g new (runs_at es)
  runs_synced old new kept lasting [] within = tt
  runs_synced old new kept lasting (e ∷ es) within = (
    record {
      within = rw kept.seen within.0;
      lasts = rw kept.seen (lasting e.at (slice_range (g.seen old) e.at (e.at + e.size)) (Holds-range (g.seen old) e.at e.size within.0));
    },
    runs_synced old new kept lasting es within.1,
  )

  -- ---- a content that came

  module _ (was is : D) (sha256 : List ℕ) (es : List Extent) (kept : KeepsAll g was is) (lasting : (a : ℕ) (bytes : List ℕ) → Holds (g.seen was) a bytes → Lasts g is a bytes) (within : AreWithin (g.seen was) es) where
    all_kept : (old : Database) → AreKept g was (runs_of (place_rows old)) → AreKept g is (runs_at es ++ runs_of (place_rows old))
    all_kept old all = all_both (IsKept g is) (runs_at es) (runs_of (place_rows old)) (runs_synced was is kept lasting es within) (runs_kept was is kept _ all)

    pub joint_more : (old new : State) (id : ℤ) → IsJoint old g was → IsSettled new × Adds old.now new.now id sha256 es → IsJoint new g is
    joint_more old new id joint put = record { settled = put.0; kept = all-permutation (IsKept g is) _ _ (IsPermutation-sym _ _ put.1.runs) (all_kept old.now joint.kept) }

    pub more_seen : (old new : State) (id : ℤ) → Adds old.now new.now id sha256 es → HasMore (bytes_in new.now (g.seen is)) (bytes_in old.now (g.seen was)) id (bytes_at (g.seen was) es)
    more_seen old new id put = (
      ap (option_map (λ _. joined (g.seen was) (places_of (place_rows old.now) id))) put.free,
      λ i. ap (λ (f : List ℕ). bytes_in new.now f i) kept.seen ∙ put.bytes (g.seen was) i,
    )

    pub crashes_more : {A : Type 0} (id_of : A → ℤ) (old new : State) → IsJoint old g was → Outcomes (λ a b (v : A). Adds a b (id_of v) sha256 es) old new
        → CrashesInto old new g was is (λ w. (id : ℤ) × HasMore w (bytes_in old.now (g.seen was)) id (bytes_at (g.seen was) es))
    crashes_more id_of old new joint outcomes db may c left =
        elim (outcomes db may) [
          | inl same ↦ inl (subst (λ (t : Trees). IsSame (bytes_in (with_trees old.now t) c) (bytes_in old.now (g.seen was))) (sym same) here)
          | inr put ↦ inr (
            id_of put.0,
            (
              ap (option_map (λ _. joined (g.seen was) (places_of (place_rows old.now) (id_of put.0)))) put.1.free,
              λ i.
                  put.1.bytes c i
                  ∙ ap (λ l. cond (int_eq (id_of put.0) i) (Some l) (bytes_in old.now c i)) (extents_same is c left es (runs_synced was is kept lasting es within) ∙ ap (λ (f : List ℕ). bytes_at f es) kept.seen)
                  ∙ ap (λ o. cond (int_eq (id_of put.0) i) (Some (bytes_at (g.seen was) es)) o) (here i),
            ),
          )
        ]
      where
        here : IsSame (bytes_in old.now c) (bytes_in old.now (g.seen was))
        here = same_world is (g.seen was) old.now c kept.seen left (runs_kept was is kept _ joint.kept)

  -- nothing but a sync came, or nothing at all
  pub crashes_same : (old : State) (was is : D) (After : (ℤ → Option (List ℕ)) → Type 0) → ((db : Trees) → old.may_leave db → db ≡ old.now.trees) → KeepsAll g was is → IsJoint old g was → CrashesInto old old g was is After
  crashes_same old was is After only kept joint db may c left =
      inl (subst (λ (t : Trees). IsSame (bytes_in (with_trees old.now t) c) (bytes_in old.now (g.seen was))) (sym (only db may))
      (same_world is (g.seen was) old.now c kept.seen left (runs_kept was is kept _ joint.kept)))

  pub joint_still : (old new : State) (was is : D) → KeepsAll g was is → IsJoint old g was → Stays old new → IsJoint new g is
  joint_still old new was is kept joint stays =
      record { settled = stays.0; kept = subst (λ (d : Database). AreKept g is (runs_of (place_rows d))) (sym stays.1) (runs_kept was is kept _ joint.kept) }

  pub durable : (s : State) (file : D) → ((db : Trees) → IsTrue s.is_open → s.may_leave db → db ≡ s.committed.trees) → IsJoint s g file → IsDurable s g file
  durable s file settled joint db may c left =
      let only : db ≡ s.now.trees = settled db joint.settled.is_open may ∙ ap (λ (d : Database). d.trees) (sym joint.settled.committed) in
      subst (λ (t : Trees). IsSame (bytes_in (with_trees s.now t) c) (bytes_in s.now (g.seen file))) (sym only) (same_world file (g.seen file) s.now c refl left joint.kept)

  -- ---- a content that went

  less_kept : (file : D) (rows : List Row) (id : ℤ) → AreKept g file (runs_of rows) → AreKept g file (runs_of (filter (λ r. not (of_content id r)) rows))
  less_kept file rows id all =
      let P : Row → Type 0 = λ r. IsKept g file (run_of r) in
      all_mapped (IsKept g file) run_of _ (all-filter P (λ r. not (of_content id r)) rows (all_from_mapped (IsKept g file) run_of rows all))

  pub joint_less : (old new : State) (file : D) (id : ℤ) → IsJoint old g file → IsSettled new × Removes old.now new.now id → IsJoint new g file
  joint_less old new file id joint gone = record { settled = gone.0; kept = subst (λ rows. AreKept g file (runs_of rows)) (sym gone.1.places) (less_kept file (place_rows old.now) id joint.kept) }

  pub crashes_less : {A : Type 0} (old new : State) (file : D) (id : ℤ) → IsJoint old g file → Outcomes (λ a b (v : A). Removes a b id) old new → CrashesInto old new g file file (λ w. HasLess w (bytes_in old.now (g.seen file)) id)
  crashes_less old new file id joint outcomes db may c left =
      elim (outcomes db may) [
        | inl same ↦ inl (subst (λ (t : Trees). IsSame (bytes_in (with_trees old.now t) c) (bytes_in old.now (g.seen file))) (sym same) here)
        | inr gone ↦ inr (λ i. gone.1.bytes c i ∙ ap (λ o. cond (int_eq id i) None o) (here i))
      ]
    where
      here : IsSame (bytes_in old.now c) (bytes_in old.now (g.seen file))
      here = same_world file (g.seen file) old.now c refl left joint.kept

  -- ---- bytes that are written where nothing is kept

  module _ (old new : D) (at n : ℕ) (kept : KeepsElsewhere g at n old new) where
    pub run_lasting : (run : ℕ × ℕ) → IsKept g old run → AreApart at n run.0 run.1 → Lasts g new run.0 (slice_range (g.seen old) run.0 (run.0 + run.1))
    run_lasting run it apart = kept.lasts run.0 (slice_range (g.seen old) run.0 (run.0 + run.1)) (subst (AreApart at n run.0) (sym (length-range (g.seen old) run.0 run.1 it.within)) apart) it.lasts

    pub run_still : (run : ℕ × ℕ) → IsKept g old run → AreApart at n run.0 run.1 → slice_range (g.seen new) run.0 (run.0 + run.1) ≡ slice_range (g.seen old) run.0 (run.0 + run.1)
    run_still run it apart = range_is (g.seen new) (slice_range (g.seen old) run.0 (run.0 + run.1)) run.0 run.1 (length-range (g.seen old) run.0 run.1 it.within) (run_lasting run it apart).now

    pub runs_still : (runs : List (ℕ × ℕ)) → AreKept g old runs → IsFree at n runs → AreKept g new runs
    runs_still [] all free = tt
    runs_still (r ∷ rs) all free = (
      record { within = omega (arith, all.0.within, kept.no_shorter); lasts = subst (Lasts g new r.0) (sym (run_still r all.0 free.0)) (run_lasting r all.0 free.0) },
      runs_still rs all.1 free.1,
    )

    joined_still : (rows : List Row) → AreKept g old (runs_of rows) → IsFree at n (runs_of rows) → joined (g.seen new) rows ≡ joined (g.seen old) rows
    joined_still [] all free = refl
    joined_still (r ∷ rs) all free = ap (λ (l : List ℕ). l ++ joined (g.seen new) rs) (run_still (run_of r) all.0 free.0) ∙ ap (λ l. bytes_of (g.seen old) r ++ l) (joined_still rs all.1 free.1)

    free_of : (rows : List Row) (id : ℤ) → IsFree at n (runs_of rows) → IsFree at n (runs_of (places_of rows id))
    free_of rows id all = runs_of_content (λ (run : ℕ × ℕ). AreApart at n run.0 run.1) rows id all

    pub joint_written : (s : State) → IsJoint s g old → IsFree at n (runs_of (place_rows s.now)) → IsJoint s g new × IsSame (bytes_in s.now (g.seen new)) (bytes_in s.now (g.seen old))
    joint_written s joint free = (
      record { settled = joint.settled; kept = runs_still (runs_of (place_rows s.now)) joint.kept free },
      λ i. ap (λ l. option_map (λ _. l) (find (has_rowid i) (content_rows s.now))) (joined_still (places_of (place_rows s.now) i) (kept_of old (place_rows s.now) i joint.kept) (free_of (place_rows s.now) i free)),
    )

    pub aged_written : (olds : List Older) → AreAside g old olds at n → AreAged g new olds
    aged_written [] aside = tt
    aged_written (o ∷ os) aside = (by o aside.0, aged_written os aside.1)
      where
        by : (o : Older) → ((it : IsRefused g old o) × AreApart at n (offset_of it.copy) (length (head_bytes it.head))) ⊎ (AreKept g old o.1 × IsFree at n o.1) → IsRefused g new o ⊎ AreKept g new o.1
        by o (inl it) = inl (record { copy = it.0.copy; head = it.0.head; lasts = kept.lasts (offset_of it.0.copy) (head_bytes it.0.head) it.1 it.0.lasts; higher = it.0.higher })
        by o (inr it) = inr (runs_still o.1 it.0 it.1)

  pub refused_kept : (old new : D) → KeepsAll g old new → (o : Older) → IsRefused g old o → IsRefused g new o
  refused_kept old new kept o it =
      record { copy = it.copy; head = it.head; lasts = record { now = rw kept.seen it.lasts.now; after = λ c may. it.lasts.after c (kept.crash c may) }; higher = it.higher }

  pub aged_kept : (old new : D) → KeepsAll g old new → (olds : List Older) → AreAged g old olds → AreAged g new olds
  aged_kept old new kept [] aged = tt
  aged_kept old new kept (o ∷ os) aged = (by o aged.0, aged_kept old new kept os aged.1)
    where
      by : (o : Older) → IsRefused g old o ⊎ AreKept g old o.1 → IsRefused g new o ⊎ AreKept g new o.1
      by o (inl it) = inl (refused_kept old new kept o it)
      by o (inr all) = inr (runs_kept old new kept o.1 all)

-- ---- by a call's result

pub joint_after : {D : Type 0} (g : Ghosts D) (old new : State) (was is : D) (sha256 : List ℕ) (es : List Extent) → KeepsAll g was is → ((a : ℕ) (bytes : List ℕ) → Holds (g.seen was) a bytes → Lasts g is a bytes) → AreWithin (g.seen was) es
    → (r : Result ContentId Fault) → IfOk r (λ it. Becomes (λ a b (v : ContentId). Adds a b v.id sha256 es) old new it) → (r ≡ Err Memory → Stays old new) → (r ≡ Err Storage → ⊥) → IsJoint old g was → IsJoint new g is
joint_after g old new was is sha256 es kept lasting within (Ok it) put memory lives joint = joint_more g was is sha256 es kept lasting within old new it.id joint put
joint_after g old new was is sha256 es kept lasting within (Err Memory) put memory lives joint = joint_still g old new was is kept joint (memory refl)
joint_after g old new was is sha256 es kept lasting within (Err Storage) put memory lives joint = absurd (lives refl)

pub joint_deleted : {D : Type 0} (g : Ghosts D) (old new : State) (file : D) (id : ℤ) (r : Result ⊤ Fault) → IfOk r (λ it. Becomes (λ a b (v : ⊤). Removes a b id) old new it) → (r ≡ Err Memory → Stays old new) → (r ≡ Err Storage → ⊥) → IsJoint old g file → IsJoint new g file
joint_deleted g old new file id (Ok it) gone memory lives joint = joint_less g old new file id joint gone
joint_deleted g old new file id (Err Memory) gone memory lives joint = joint_still g old new file file (record { seen = refl; crash = λ c may. may; clean = λ is. is }) joint (memory refl)
joint_deleted g old new file id (Err Storage) gone memory lives joint = absurd (lives refl)

pub less_seen : {D : Type 0} (g : Ghosts D) (old new : State) (file : D) (id : ℤ) (r : Result ⊤ Fault) → IfOk r (λ it. Becomes (λ a b (v : ⊤). Removes a b id) old new it) → OnOk r (HasLess (bytes_in new.now (g.seen file)) (bytes_in old.now (g.seen file)) id)
less_seen g old new file id (Ok it) gone = gone.1.bytes (g.seen file)
less_seen g old new file id (Err e) gone = tt

pub rows_removed : (old new : State) (id : ℤ) (r : Result ⊤ Fault) → IfOk r (λ it. Becomes (λ a b (v : ⊤). Removes a b id) old new it) → OnOk r (Removes old.now new.now id)
rows_removed old new id (Ok it) gone = gone.1
rows_removed old new id (Err e) gone = tt
