-- Rows that say another age: the same tables, and the same world.
use Rattle.std.proofs.Common.{◌≡◌, inl, inr, ℕ, List, Ok, Err, Result, OnOk, OnErr, refl, sym, ap, subst}
use Rattle.std.specs.Prelude.{◌⊎◌, ◌+◌, ⊤, false}
use Rattle.sqlite.specs.Order.{Row}
use Rattle.sqlite.specs.Tree.{Trees}
use Rattle.sqlite.specs.Effect.{Database}
use Rattle.sqlite.specs.State.{State}
use Rattle.sqlite_disk.specs.declared.Disk as disk
use Rattle.oci_types.specs.declared.fault.Fault.{Fault}
use Rattle.oci_types.specs.declared.fault.Fault.TheVariants.{Memory}
use Rattle.registry_pack.specs.declared.head.Head.{Head}
use Rattle.registry_pack.specs.declared.pack.Pack.{Pack}
use Rattle.registry_pack.specs.Pack.{age_of, head_of, mark_of}
use Rattle.store_contents.specs.Layouts.{AreHashed, InPack}
use Rattle.store_contents.specs.Places.{content_rows, pack_rows, place_rows}
use Rattle.store_statements.specs.Between.{Outcomes}
use Rattle.store_statements.specs.Held as held
use Rattle.store_statements.specs.Held.{is_storage, HoldsTables, SettlesOn, reopened, tables_in, world_in}
use Rattle.store_statements.specs.Known.{KnowsRegistry}
use Rattle.store_statements.specs.Registry.{Agree}
use Rattle.store_statements.specs.Tables.{AreTables, Tables}
use Rattle.store_statements.specs.World.{world_of}
use Rattle.store_statements.proofs.OtherTables.{only_pack}
use Rattle.store_pack.specs.Commits.{IsSettled, with_trees}
use Rattle.store_pack.specs.Pack.{MayPutPack, PackSays, PutsPack, SaysAge}
use Rattle.store_pack.specs.Reuse.{KeepsTables}

-- what is settled of a registry is so of its rows
pub settled_rows : (file : List ℕ) (s : State) → held.IsSettled (InPack file) s → IsSettled s
settled_rows file s is = record { is_open = is.is_open; autocommit = is.autocommit; committed = is.committed; holds = is.holds.contents.rows }

same_tables : (t : Tables) (rows : List Row) → AreTables t → AreTables (record t { packs = rows })
same_tables t rows are = record { repos = are.repos; grants = are.grants; tags = are.tags; blobs = are.blobs; manifests = are.manifests; uploads = are.uploads; pieces = are.pieces }

same_agree : (t : Tables) (rows : List Row) → Agree t → Agree (record t { packs = rows })
same_agree t rows a = record {
  version = a.version;
  granted = a.granted;
  tagged = a.tagged;
  blobs_repo = a.blobs_repo;
  manifests_repo = a.manifests_repo;
  uploads_repo = a.uploads_repo;
  blobs = a.blobs;
  manifests = a.manifests;
  uploads = a.uploads;
  pieces = a.pieces;
  pieces_open = a.pieces_open;
  beside = a.beside;
}

module _ (file : List ℕ) (old new : Database) (mark : List ℕ) (age : ℕ) (is : HoldsTables (InPack file) old) (put : PutsPack old new mark age) where
  aged_tables : tables_in (InPack file) new ≡ record (tables_in (InPack file) old) { packs = pack_rows new }
  aged_tables = only_pack file old new is.known put.others put.contents put.places

  aged_hashed : AreHashed file (content_rows new) (place_rows new)
  aged_hashed =
      subst (λ rows. AreHashed file rows (place_rows new)) (sym put.contents)
      (subst (λ rows. AreHashed file (content_rows old) rows) (sym put.places) is.contents.hashed)

  aged_holds : HoldsTables (InPack file) new
  aged_holds = record {
    known = subst (KnowsRegistry (InPack file)) (sym put.others.schema) is.known;
    contents = record { rows = put.holds; hashed = aged_hashed };
    tables = subst AreTables (sym aged_tables) (same_tables (tables_in (InPack file) old) (pack_rows new) is.tables);
  }

  aged_agree : Agree (tables_in (InPack file) old) → Agree (tables_in (InPack file) new)
  aged_agree agree = subst Agree (sym aged_tables) (same_agree (tables_in (InPack file) old) (pack_rows new) agree)

  aged_world : world_of (tables_in (InPack file) new) ≡ world_of (tables_in (InPack file) old)
  aged_world = ap world_of aged_tables

-- ---- a connection

pub raised_keeps : (file : List ℕ) (old new : State) (mark : List ℕ) (age : ℕ) → held.IsSettled (InPack file) old → IsSettled new × MayPutPack old.now new.now mark age → KeepsTables file old new
raised_keeps file old new mark age is (after, inl same) = record {
  settles = (
    record { is_open = after.is_open; autocommit = after.autocommit; committed = after.committed; holds = subst (HoldsTables (InPack file)) (sym same) is.holds; agree = subst (λ (d : Database). Agree (tables_in (InPack file) d)) (sym same) is.agree },
    ap (λ (d : Database). world_of (tables_in (InPack file) d)) same,
  );
  tables = subst (λ (d : Database). tables_in (InPack file) d ≡ record (tables_in (InPack file) old.now) { packs = pack_rows d }) (sym same) refl;
}
raised_keeps file old new mark age is (after, inr put) = record {
  settles = (
    record { is_open = after.is_open; autocommit = after.autocommit; committed = after.committed; holds = aged_holds file old.now new.now mark age is.holds put; agree = aged_agree file old.now new.now mark age is.holds put is.agree },
    aged_world file old.now new.now mark age is.holds put,
  );
  tables = aged_tables file old.now new.now mark age is.holds put;
}

-- what a crash leaves, opened again
raised_reopened : (file : List ℕ) (old : State) (db : Trees) (mark : List ℕ) (age : ℕ) → held.IsSettled (InPack file) old → (db ≡ old.now.trees) ⊎ (⊤ × PutsPack old.now (with_trees old.now db) mark age)
    → SettlesOn (InPack file) (reopened (with_trees old.now db)) (world_in (InPack file) old)
raised_reopened file old db mark age is (inl same) =
    subst (λ (t : Trees). SettlesOn (InPack file) (reopened (with_trees old.now t)) (world_in (InPack file) old)) (sym same)
    (record { is_open = refl; autocommit = refl; committed = refl; holds = is.holds; agree = is.agree }, refl)
raised_reopened file old db mark age is (inr put) = (
  record { is_open = refl; autocommit = refl; committed = refl; holds = aged_holds file old.now (with_trees old.now db) mark age is.holds put.1; agree = aged_agree file old.now (with_trees old.now db) mark age is.holds put.1 is.agree },
  aged_world file old.now (with_trees old.now db) mark age is.holds put.1,
)

pub not_storage : (A : Type 0) (fault : Fault) → fault ≡ Memory → is_storage {A = A} (Err fault) ≡ false
not_storage A fault wants = subst (λ (f : Fault). is_storage {A = A} (Err f) ≡ false) (sym wants) refl

at_any : {A E P : Type 0} (r : Result A E) → P → OnOk r P
at_any (Ok x) p = p
at_any (Err e) p = tt

pub raised_crash : {A E : Type 0} (file : List ℕ) (old new : State) (r : Result A E) (mark : List ℕ) (age : ℕ) → held.IsSettled (InPack file) old
    → ((db : Trees) → new.may_leave db → (db ≡ old.now.trees) ⊎ (⊤ × PutsPack old.now (with_trees old.now db) mark age))
    → Outcomes old.now new (λ s. OnOk r (SettlesOn (InPack file) s (world_in (InPack file) old))) (λ s. SettlesOn (InPack file) s (world_in (InPack file) old)) (λ s. SettlesOn (InPack file) s (world_in (InPack file) old))
raised_crash file old new r mark age is outcomes db may =
    let it = raised_reopened file old db mark age is (outcomes db may) in
    (at_any r it, inl it)

-- ---- which age the rows say

module _ {D : Type 0} {g : disk.Ghosts D} where
  pub says_some : (db : Database) (pack : Pack D g) → SaysAge db pack → (was : ℕ) × PackSays db (mark_of pack) was
  says_some db pack (inl says) = (age_of pack, says)
  says_some db pack (inr says) = (age_of pack + 1, says)

  -- of the pack that has the same head
  pub says_same : (old new : Database) (mid pack : Pack D g) → new ≡ old → head_of pack ≡ head_of mid → SaysAge old mid → SaysAge new pack
  says_same old new mid pack same head says =
      subst (λ (d : Database). SaysAge d pack) (sym same)
      (subst (λ (h : Head). PackSays old h.mark h.age ⊎ PackSays old h.mark (h.age + 1)) (sym head) says)

  -- behind a new age, or want of memory
  pub says_after : {E : Type 0} (r : Result ⊤ E) (old new : Database) (mid pack : Pack D g) → OnOk r (PutsPack old new (mark_of pack) (age_of pack)) → OnErr r (head_of pack ≡ head_of mid)
      → MayPutPack old new (mark_of mid) (age_of mid + 1) → SaysAge old mid → SaysAge new pack
  says_after (Ok x) old new mid pack put head may says = inl put.says
  says_after (Err e) old new mid pack put head (inl same) says = says_same old new mid pack same head says
  says_after (Err e) old new mid pack put head (inr done) says =
      inr (subst (λ (h : Head). PackSays new h.mark (h.age + 1)) (sym head) done.says)
