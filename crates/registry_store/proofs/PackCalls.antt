-- What nothing names is freed over a pack, and its space given back: of the connection and of where bytes are together.
use Rattle.std.proofs.Common.{◌≡◌, ◌∙◌, ◌⊎◌, inl, inr, ℕ, ℤ, List, [], ◌∷◌, Bool, Ok, Err, Result, OnOk, filter, refl, sym, ap, subst}
use Rattle.std.specs.List.{AllByRecursion}
use Rattle.sqlite_disk.specs.declared.Disk as disk
use Rattle.sqlite_trees.specs.declared.store.Store.{Ghosts}
use Rattle.sqlite_trees.proofs.ListLemmas.{all-filter}
use Rattle.sqlite.specs.Effect.{Database}
use Rattle.sqlite.specs.Order.{Row}
use Rattle.sqlite.specs.State.{State}
use Rattle.sqlite.specs.Tree.{Trees}
use Rattle.sqlite.specs.Held.{Held, state}
use Rattle.oci_types.specs.declared.fault.Fault.{Fault}
use Rattle.registry_model.specs.World.{World}
use Rattle.store_schema.specs.Rows.{integer_at}
use Rattle.store_contents.specs.Layouts.{InPack, Layout, packs_in, places_in}
use Rattle.registry_pack.specs.declared.pack.Pack.{Pack}
use Rattle.registry_pack.specs.Pack.{file_of}
use Rattle.store_contents.specs.Places.{place_rows, runs_of}
use Rattle.store_bytes.specs.declared.contents.Contents as contents
use Rattle.store_bytes.specs.Keeping.{AllPlaces, KeepsBytes}
use Rattle.store_bytes.proofs.KeepingLemmas.{run_of, settled_too}
use Rattle.store_pack.specs.Commits as commits
use Rattle.store_pack.specs.Contents.{IsRemembered, IsSpared}
use Rattle.store_statements.specs.Between.{Outcomes}
use Rattle.store_statements.specs.Held.{IsSettled, SettlesOn, held, reopened, with_trees, world_in}
use Rattle.store_statements.specs.Tables.{Tables}
use Rattle.store_statements.specs.World.{world_of}
use Rattle.store_writes.specs.Naming.{FreesPlaces, is_named}
use Rattle.registry_store.specs.Kept.{IsInOrder, world_at}
use Rattle.registry_store.proofs.RowCalls.{all_are, remembered, settled_left}

-- ---- what holds of each run of rows holds of some of them

runs_from : (P : ℕ × ℕ → Type 0) (rows : List Row) → AllByRecursion P (runs_of rows) → AllByRecursion (λ r. P (run_of r)) rows
runs_from P [] all = tt
runs_from P (r ∷ rs) all = (all.0, runs_from P rs all.1)

runs_to : (P : ℕ × ℕ → Type 0) (rows : List Row) → AllByRecursion (λ r. P (run_of r)) rows → AllByRecursion P (runs_of rows)
runs_to P [] all = tt
runs_to P (r ∷ rs) all = (all.0, runs_to P rs all.1)

pub runs_filtered : (P : ℕ × ℕ → Type 0) (p : Row → Bool) (rows : List Row) → AllByRecursion P (runs_of rows) → AllByRecursion P (runs_of (filter p rows))
runs_filtered P p rows all = runs_to P (filter p rows) (all-filter (λ r. P (run_of r)) p rows (runs_from P rows all))

-- ---- each outcome is settled on one world

one_of : {A : Type 0} → A ⊎ A → A
one_of (inl a) = a
one_of (inr a) = a

where_done : {A P : Type 0} (r : Result A Fault) → P → OnOk r P
where_done (Ok v) p = p
where_done (Err e) p = tt

pub outcomes_settled : {A : Type 0} (l : Layout) (w : World) (was : Database) (new : State) (r : Result A Fault) → ((db : Trees) → new.may_leave db → SettlesOn l (reopened (with_trees was db)) w)
    → Outcomes was new (λ s. OnOk r (SettlesOn l s w)) (λ s. SettlesOn l s w) (λ s. SettlesOn l s w)
outcomes_settled l w was new r it db may = (where_done r (it db may), inl (it db may))

pub settled_outcome : (l : Layout) (w : World) (was : Database) (new : State) (Told : State → Type 0) → Outcomes was new Told (λ s. SettlesOn l s w) (λ s. SettlesOn l s w)
    → (db : Trees) → new.may_leave db → SettlesOn l (reopened (with_trees was db)) w
settled_outcome l w was new Told out db may = one_of (out db may).1

-- ---- of a pack, the rows alone

pub rows_settled : (file : List ℕ) (s : State) → IsSettled (InPack file) s → commits.IsSettled s
rows_settled file s is = record { is_open = is.is_open; autocommit = is.autocommit; committed = is.committed; holds = is.holds.contents.rows }

-- ---- behind the clearing

module _ {S C : Type 0} {g : Ghosts S} {c : contents.Ghosts C} (old mid : Held S) (k : C) (is : IsInOrder g c (old, k)) where
  -- the rows are in order beside the same pack
  pub cleared_order : IsSettled (c.layout k) (state g mid) → FreesPlaces (held (c.layout k) (state g old)) (held (c.layout k) (state g mid)) → IsInOrder g c (mid, k)
  cleared_order settled frees = record {
    settled = settled;
    spared = subst (λ rows. AllByRecursion (c.spares k) (runs_of rows)) (sym frees.places)
        (runs_filtered (c.spares k) (λ r. is_named (held (c.layout k) (state g old)) (integer_at r 1)) (places_in (c.layout k) (state g old).now) is.spared);
    named = subst (c.names k) (sym frees.packs) is.named;
  }

  -- it failed: a crash leaves the world as it was, in each layout that the pack may leave
  pub uncleared_left : (m : Layout) → c.may_leave k m → (Told : State → Type 0)
      → (IsSettled m (state g old) → Outcomes (state g old).now (state g mid) Told (λ s. SettlesOn m s (world_in m (state g old))) (λ s. SettlesOn m s (world_in m (state g old))))
      → (db : Trees) → (state g mid).may_leave db → SettlesOn m (reopened (with_trees (state g old).now db)) (world_at g c (old, k))
  uncleared_left m may Told crash db left =
      let there = settled_left g c c.lasts c.remembers_spared (old, k) is m may in
      subst (λ (w : World). SettlesOn m (reopened (with_trees (state g old).now db)) w) (ap world_of there.1)
      (settled_outcome m (world_in m (state g old)) (state g old).now (state g mid) Told (crash there.0) db left)

-- ---- the end of the file was cut off behind it

pub bytes_then : (first next last : List ℕ) (db : Database) → KeepsBytes (InPack first) (InPack next) db → KeepsBytes (InPack next) (InPack last) db → KeepsBytes (InPack first) (InPack last) db
bytes_then first next last db a b = record { kind = tt; contents = λ id. b.contents id ∙ a.contents id; holds = λ h. b.holds (a.holds h) }

module _ {D : Type 0} {g : disk.Ghosts D} (was given cut : Pack D g) (rows : List Row) (named : AllByRecursion (IsSpared was) (runs_of rows)) (spared : AllByRecursion (IsSpared given) (runs_of rows))
    (first : (db : Database) → AllPlaces (IsRemembered was) (InPack (g.seen (file_of was))) db → KeepsBytes (InPack (g.seen (file_of was))) (InPack (g.seen (file_of given))) db)
    (next : (db : Database) → AllPlaces (IsRemembered given) (InPack (g.seen (file_of given))) db → KeepsBytes (InPack (g.seen (file_of given))) (InPack (g.seen (file_of cut))) db) where
  pub bytes_cut : (db : Database) → place_rows db ≡ rows → KeepsBytes (InPack (g.seen (file_of was))) (InPack (g.seen (file_of cut))) db
  bytes_cut db same =
      let of_was = all_are (IsSpared was) (IsRemembered was) (λ run it. it.remembered) (runs_of rows) named in
      let of_given = all_are (IsSpared given) (IsRemembered given) (λ run it. it.remembered) (runs_of rows) spared in
      bytes_then (g.seen (file_of was)) (g.seen (file_of given)) (g.seen (file_of cut)) db (first db (subst (λ r. AllByRecursion (IsRemembered was) (runs_of r)) (sym same) of_was))
      (next db (subst (λ r. AllByRecursion (IsRemembered given) (runs_of r)) (sym same) of_given))

-- ---- behind the space

module _ {S C : Type 0} {g : Ghosts S} {c : contents.Ghosts C} (mid new : Held S) (k0 k1 : C) (is : IsInOrder g c (mid, k0))
    (spared : AllByRecursion (c.spares k1) (runs_of (places_in (c.layout k0) (state g mid).now)))
    (bytes : (db : Database) → places_in (c.layout k0) db ≡ places_in (c.layout k0) (state g mid).now → KeepsBytes (c.layout k0) (c.layout k1) db) where
  abbrev l0 : Layout
  l0 = c.layout k0

  abbrev l1 : Layout
  l1 = c.layout k1

  module _ (settles : SettlesOn l0 (state g new) (world_in l0 (state g mid))) (same : held l0 (state g new) ≡ record (held l0 (state g mid)) { packs = (held l0 (state g new)).packs }) where
    places : places_in l0 (state g new).now ≡ places_in l0 (state g mid).now
    places = ap (λ (t : Tables). t.places) same

    too : IsSettled l1 (state g new) × (held l1 (state g new) ≡ held l0 (state g new))
    too = settled_too l0 l1 (state g new) (bytes (state g new).now places) settles.0

    -- both are in order, with the same world
    pub given_order : c.names k1 (packs_in l1 (state g new).now) → IsInOrder g c (new, k1) × (world_at g c (new, k1) ≡ world_at g c (mid, k0))
    given_order named = (
      record {
        settled = too.0;
        spared = subst (λ rows. AllByRecursion (c.spares k1) (runs_of rows)) (sym (ap (λ (t : Tables). t.places) too.1 ∙ places)) spared;
        named = named;
      },
      ap world_of too.1 ∙ settles.1,
    )

    -- and the same contents
    pub given_contents : (id : ℤ) → (held l1 (state g new)).contents id ≡ (held l0 (state g mid)).contents id
    given_contents id = ap (λ (t : Tables). t.contents id) too.1 ∙ ap (λ (t : Tables). t.contents id) same

  -- a crash leaves the same world, whatever came of it, in each layout that the pack may leave
  pub given_left : (was : Database) → (state g mid).now.schema ≡ was.schema → (w : World) → world_at g c (mid, k0) ≡ w → (m : Layout) → c.may_leave k1 m → (Told : State → Type 0)
      → (IsSettled m (state g mid) → Outcomes (state g mid).now (state g new) Told (λ s. SettlesOn m s (world_in m (state g mid))) (λ s. SettlesOn m s (world_in m (state g mid))))
      → (db : Trees) → (state g new).may_leave db → SettlesOn m (reopened (with_trees was db)) w
  given_left was schema w world m may Told crash db left =
      let first = settled_too l0 l1 (state g mid) (bytes (state g mid).now refl) is.settled in
      let there = all_are (c.spares k1) (c.remembers k1) (c.remembers_spared k1) (runs_of (places_in l1 (state g mid).now)) (subst (λ (t : Tables). AllByRecursion (c.spares k1) (runs_of t.places)) (sym first.1) spared) in
      let next = settled_too l1 m (state g mid) (c.lasts k1 m may (state g mid).now there) first.0 in
      let again : with_trees (state g mid).now db ≡ with_trees was db = λ i. record { schema = schema i; trees = db } in
      subst (λ (v : World). SettlesOn m (reopened (with_trees was db)) v) (ap world_of next.1 ∙ ap world_of first.1 ∙ world)
      (subst (λ (d : Database). SettlesOn m (reopened d) (world_in m (state g mid))) again
      (settled_outcome m (world_in m (state g mid)) (state g mid).now (state g new) Told (crash next.0) db left))
