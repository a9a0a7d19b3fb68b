-- What a call says that touches the rows alone, said of the connection and of where bytes are together.
use Rattle.std.proofs.Common.{◌≡◌, ◌∙◌, ℕ, List, [], ◌∷◌, Ok, Err, Result, OnOk, IfOk, ap, sym, subst}
use Rattle.std.specs.List.{AllByRecursion}
use Rattle.sqlite_trees.specs.declared.store.Store.{Ghosts}
use Rattle.sqlite.specs.Effect.{Database}
use Rattle.sqlite.specs.State.{HasCleanDisk}
use Rattle.sqlite.specs.Held.{Held, state}
use Rattle.oci_types.specs.declared.fault.Fault.{Fault}
use Rattle.registry_model.specs.World.{World}
use Rattle.store_contents.specs.Layouts.{Layout, packs_in, places_in}
use Rattle.store_contents.specs.Places.{runs_of}
use Rattle.store_bytes.specs.declared.contents.Contents as contents
use Rattle.store_bytes.specs.Keeping.{AllPlaces, KeepsBytes}
use Rattle.store_bytes.specs.Reading.{IsAsWas, IsReadable}
use Rattle.store_bytes.proofs.KeepingLemmas.{settled_too}
use Rattle.store_statements.specs.Between as between
use Rattle.store_statements.specs.Between.{Relates}
use Rattle.store_statements.specs.Clauses as clauses
use Rattle.store_statements.specs.Clauses.{Lasts}
use Rattle.store_statements.specs.Held.{IsSettled, held, tables_in, world_in}
use Rattle.store_statements.specs.PlaceChanges.{KeepsPlaces}
use Rattle.store_statements.specs.World.{world_of}
use Rattle.store_reads.proofs.CleanBefore.{was_clean}
use Rattle.registry_store.specs.Kept.{Both, IsClean, IsInOrder, world_at}
use Rattle.registry_store.specs.Calls.{CrashLeaves, Makes, Stays, StaysKnowing, StaysOnMemory, Tells}
use Rattle.registry_store.specs.Usages.{IsKnown, StaysKnown}
use Rattle.registry_store.specs.declared.known_usages.KnownUsages.{KnownUsages}

-- what is known of every place where bytes are kept
abbrev pub LastsLaw : {C : Type 0} → contents.Ghosts C → Type 0
LastsLaw {C} c = (it : C) (l : Layout) → c.may_leave it l → (db : Database) → AllPlaces (c.remembers it) (c.layout it) db → KeepsBytes (c.layout it) l db

abbrev pub SparedLaw : {C : Type 0} → contents.Ghosts C → Type 0
SparedLaw {C} c = (it : C) (run : ℕ × ℕ) → c.spares it run → c.remembers it run

pub all_are : {A : Type 0} (P Q : A → Type 0) → ((x : A) → P x → Q x) → (xs : List A) → AllByRecursion P xs → AllByRecursion Q xs
all_are P Q f [] all = tt
all_are P Q f (x ∷ xs) all = (f x all.0, all_are P Q f xs all.1)

module _ {S C : Type 0} (g : Ghosts S) (c : contents.Ghosts C) where
  pub remembered : SparedLaw c → (it : Both S C) → IsInOrder g c it → AllPlaces (c.remembers it.1) (c.layout it.1) (state g it.0).now
  remembered law it is = all_are (c.spares it.1) (c.remembers it.1) (law it.1) (runs_of (places_in (c.layout it.1) (state g it.0).now)) is.spared

  -- in each layout that a crash may leave, the rows are settled, and say the same
  pub settled_left : LastsLaw c → SparedLaw c → (it : Both S C) → IsInOrder g c it → (m : Layout) → c.may_leave it.1 m
      → IsSettled m (state g it.0) × (held m (state g it.0) ≡ held (c.layout it.1) (state g it.0))
  settled_left law spared it is m may = settled_too (c.layout it.1) m (state g it.0) (law it.1 m may (state g it.0).now (remembered spared it is)) is.settled

  module _ (kept : C) (old new : Held S) where
    abbrev l : Layout
    l = c.layout kept

    pub rows_clean : Lasts g old new → IsClean g c (new, kept) → IsClean g c (old, kept)
    rows_clean lasts clean = (was_clean (state g old) (state g new) lasts clean.0, clean.1)

    -- the same database
    pub same_order : IsInOrder g c (old, kept) → IsSettled l (state g new) → (state g new).now ≡ (state g old).now → IsInOrder g c (new, kept)
    same_order is settled same = record {
      settled = settled;
      spared = subst (AllPlaces (c.spares kept) l) (sym same) is.spared;
      named = subst (λ (d : Database). c.names kept (packs_in l d)) (sym same) is.named;
    }

    -- others, with the same places
    pub next_order : IsInOrder g c (old, kept) → IsSettled l (state g new) → KeepsPlaces (held l (state g old)) (held l (state g new)) → IsInOrder g c (new, kept)
    next_order is settled keeps = record {
      settled = settled;
      spared = subst (λ rows. AllByRecursion (c.spares kept) (runs_of rows)) (sym keeps.places) is.spared;
      named = subst (c.names kept) (sym keeps.packs) is.named;
    }

    module _ {A : Type 0} (r : Result A Fault) where
      pub rows_stay : between.Stays g l old new r → Stays g c (old, kept) (new, kept) r
      rows_stay stays clean is off = let it = stays clean.0 is.settled off in (same_order is it.0 it.1, ap (λ (d : Database). world_of (tables_in l d)) it.1)

      pub rows_tell : (P : World → A → Type 0) → between.Tells g l old new r P → Tells g c (old, kept) (new, kept) r P
      rows_tell P tells clean is = tells clean.0 is.settled

      pub rows_want : (P : World → Type 0) → (clauses.WorldHas g l old P → between.StaysOnMemory g l old new r) → (IsClean g c (old, kept) → P (world_at g c (old, kept))) → StaysOnMemory g c (old, kept) (new, kept) r
      rows_want P wants asks clean is wanting = let it = wants (λ early. asks (early, clean.1)) clean.0 is.settled wanting in (same_order is it.0 it.1, ap (λ (d : Database). world_of (tables_in l d)) it.1)

      pub rows_make : (P : World → Type 0) (f : World → World) → (clauses.WorldHas g l old P → between.MakesWorld g l old new r f) → (clauses.WorldHas g l old P → Relates g l old new r KeepsPlaces)
          → (IsClean g c (old, kept) → P (world_at g c (old, kept))) → Makes g c (old, kept) (new, kept) r f
      rows_make P f makes places asks clean is = by r (makes (λ early. asks (early, clean.1)) clean.0 is.settled) (places (λ early. asks (early, clean.1)) clean.0 is.settled)
        where
          by : (x : Result A Fault) → OnOk x (IsSettled l (state g new) × (world_in l (state g new) ≡ f (world_in l (state g old)))) → OnOk x (KeepsPlaces (held l (state g old)) (held l (state g new)))
              → OnOk x (IsInOrder g c (new, kept) × (world_at g c (new, kept) ≡ f (world_at g c (old, kept))))
          by (Ok v) made keeps = (next_order is made.0 keeps, made.1)
          by (Err e) made keeps = tt

      pub rows_crash : LastsLaw c → SparedLaw c → (P : World → Type 0) (f : World → World) → ((m : Layout) → clauses.WorldHas g m old P → between.CrashLeaves g m old new r f)
          → (IsClean g c (old, kept) → P (world_at g c (old, kept))) → CrashLeaves g c (old, kept) (new, kept) r f
      rows_crash law spared P f crash asks clean is m may =
          let left = settled_left law spared (old, kept) is m may in
          let same : world_in m (state g old) ≡ world_at g c (old, kept) = ap world_of left.1 in
          subst (λ (w : World). between.Outcomes (state g old).now (state g new) (λ s. OnOk r (IsSettled m s × (world_in m s ≡ f w))) (λ s. IsSettled m s × (world_in m s ≡ w)) (λ s. IsSettled m s × (world_in m s ≡ f w))) same
          (crash m (λ early. subst P (sym same) (asks (early, clean.1))) clean.0 left.0)

      -- a write that tells a value
      pub rows_number : (look : World → A) (f : World → World)
          → (HasCleanDisk (state g new) → IsSettled l (state g old) → IfOk r (λ v. (v ≡ look (world_in l (state g old))) × (IsSettled l (state g new) × (world_in l (state g new) ≡ f (world_in l (state g old))))))
          → Relates g l old new r KeepsPlaces → IsClean g c (new, kept) → IsInOrder g c (old, kept)
          → IfOk r (λ v. (v ≡ look (world_at g c (old, kept))) × (IsInOrder g c (new, kept) × (world_at g c (new, kept) ≡ f (world_at g c (old, kept)))))
      rows_number look f makes places clean is = by r (makes clean.0 is.settled) (places clean.0 is.settled)
        where
          by : (x : Result A Fault) → IfOk x (λ v. (v ≡ look (world_in l (state g old))) × (IsSettled l (state g new) × (world_in l (state g new) ≡ f (world_in l (state g old))))) → OnOk x (KeepsPlaces (held l (state g old)) (held l (state g new)))
              → IfOk x (λ v. (v ≡ look (world_at g c (old, kept))) × (IsInOrder g c (new, kept) × (world_at g c (new, kept) ≡ f (world_at g c (old, kept)))))
          by (Ok v) made keeps = (made.0, (next_order is made.1.0 keeps, made.1.1))
          by (Err e) made keeps = tt

      -- what is known of usages follows
      pub rows_know : (known knew : KnownUsages) (P : World → Type 0) → (IsKnown g l old known → clauses.WorldHas g l old P → StaysKnown g l old new knew r) → (IsClean g c (old, kept) → P (world_at g c (old, kept)))
          → (IsClean g c (new, kept) → IsClean g c (old, kept)) → StaysKnowing g c (old, kept) (new, kept) r known knew
      rows_know known knew P follows asks early knows clean is off = follows (λ _. knows) (λ h. asks (h, clean.1)) clean.0 is.settled off

  -- ---- a read of bytes

  module _ (kept then : C) (old new : Held S) (same : IsAsWas c kept then) where
    pub bytes_clean : Lasts g old new → IsClean g c (new, then) → IsClean g c (old, kept)
    bytes_clean lasts clean = (was_clean (state g old) (state g new) lasts clean.0, same.clean clean.1)

    still_order : IsInOrder g c (new, kept) → IsInOrder g c (new, then)
    still_order is = record {
      settled = subst (λ (m : Layout). IsSettled m (state g new)) (sym same.layout) is.settled;
      spared = subst (λ (m : Layout). AllPlaces (c.spares then) m (state g new).now) (sym same.layout) (all_are (c.spares kept) (c.spares then) same.spares _ is.spared);
      named = subst (λ (m : Layout). c.names then (packs_in m (state g new).now)) (sym same.layout) (same.names _ is.named);
    }

    module _ {A : Type 0} (r : Result A Fault) where
      pub bytes_stay : between.Stays g (c.layout kept) old new r → Stays g c (old, kept) (new, then) r
      bytes_stay stays clean is off =
          let it = rows_stay kept old new r stays (clean.0, same.clean clean.1) is off in
          (still_order it.0, ap (λ (m : Layout). world_in m (state g new)) same.layout ∙ it.1)

      pub bytes_tell : SparedLaw c → (P : World → A → Type 0) → (IsReadable c kept then (state g old) → between.Tells g (c.layout kept) old new r P) → Tells g c (old, kept) (new, then) r P
      bytes_tell law P tells clean is = tells (record { clean = clean.1; spared = remembered law (old, kept) is }) clean.0 is.settled
