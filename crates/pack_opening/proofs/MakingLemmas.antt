-- What the making leaves, now and after a crash.
use Rattle.std.proofs.Common.{◌≡◌, ◌⊎◌, ◌∙◌, ℕ, List, [], false, Ok, Err, Result, OnOk, inl, inr, refl, sym, ap, subst}
use Rattle.std.specs.Prelude.{IsTrue}
use Rattle.sqlite_trees.specs.declared.store.Store.{Ghosts}
use Rattle.sqlite.specs.Effect.{Database}
use Rattle.sqlite.specs.Held.{Held, state}
use Rattle.sqlite.specs.State.{State, HasCleanDisk, ExecutesInside, Shows, Survives}
use Rattle.sqlite.specs.Tree.{Trees}
use Rattle.sqlite.specs.declared.error.Error.{Error}
use Rattle.store_schema.specs.PackSchema.{pack_schema}
use Rattle.store_schema.specs.Making.{IsEmptyWith}
use Rattle.store_contents.specs.Layouts.{InPack}
use Rattle.store_contents.specs.Places.{place_rows}
use Rattle.store_places.specs.Places.{IsInside}
use Rattle.store_statements.specs.Held.{HoldsTables, reopened, tables_in}
use Rattle.store_statements.specs.Registry.{Agree}
use Rattle.store_statements.specs.World.{world_of}
use Rattle.store_statements.proofs.Crashes.{CrashLaw, left_open, none_more}
use Rattle.store_opening.specs.Opening.{IsIdle}
use Rattle.store_opening.proofs.OpeningLemmas.{on_ok}
use Rattle.store_pack.specs.Pack.{PackSays}
use Rattle.pack_opening.specs.Making.{IsVersioned, IsFilled, IsNewPack, LeavesNew, pack_database, version_add}
use Rattle.pack_opening.proofs.NewPack.{version_put, holds_places}

-- ---- of the calls' results

pub put_by : (old new : State) (r : Result ℕ Error) → IsEmptyWith pack_schema old.now → ExecutesInside 0 version_add [] old new r → OnOk r (IsVersioned new.now)
put_by old new (Ok n) it ran = version_put old new n it ran.0
put_by old new (Err e) it ran = tt

pub inside_of : (s : State) → IsTrue s.in_transaction → IsVersioned s.now → IsInside s
inside_of s inside it = record { inside = inside; holds = holds_places s.now it }

-- ---- it is committed

pub is_new : (mark : List ℕ) (mid end : State) → IsFilled mark mid.now → Shows mid end mid.now mid.now false → IsNewPack mark end
is_new mark mid end it shows = record {
  settles = λ file. (
    record {
      is_open = shows.is_open;
      autocommit = shows.mode;
      committed = shows.now_is ∙ sym shows.committed_is;
      holds = subst (HoldsTables (InPack file)) (sym shows.now_is) (it.registry file).holds;
      agree = subst (λ (d : Database). Agree (tables_in (InPack file) d)) (sym shows.now_is) (it.registry file).agree;
    },
    ap (λ (d : Database). world_of (tables_in (InPack file) d)) shows.now_is ∙ it.world file,
  );
  says = subst (λ (d : Database). PackSays d mark 0) (sym shows.now_is) it.says;
  places = ap place_rows shows.now_is ∙ it.places;
}

-- ---- a crash

-- the database that was to be committed, opened again
pub is_again : (mark : List ℕ) (d : Database) (db : Trees) → IsFilled mark d → db ≡ d.trees → IsNewPack mark (reopened (pack_database db))
is_again mark d db it e = record {
  settles = λ file. (
    record {
      is_open = refl;
      autocommit = refl;
      committed = refl;
      holds = subst (HoldsTables (InPack file)) (sym same) (it.registry file).holds;
      agree = subst (λ (x : Database). Agree (tables_in (InPack file) x)) (sym same) (it.registry file).agree;
    },
    ap (λ (x : Database). world_of (tables_in (InPack file) x)) same ∙ it.world file,
  );
  says = subst (λ (x : Database). PackSays x mark 0) (sym same) it.says;
  places = ap place_rows same ∙ it.places;
}
  where
    same : pack_database db ≡ d
    same = λ i. record { schema = sym it.schema_is i; trees = e i }

module _ {S : Type 0} (g : Ghosts S) (law : CrashLaw g) where
  -- nothing was committed
  pub leaves_old : {A E : Type 0} (mark : List ℕ) (old new : Held S) (r : Result A E) → ((P : Type 0) → OnOk r P) → IsIdle (state g old)
      → ((db : Trees) → (state g new).may_leave db → (state g old).may_leave db) → LeavesNew mark (state g old) (state g new) r
  leaves_old mark old new r none idle earlier db may = (none _, inl (left_open g law old idle.is_open idle.committed db (earlier db may)))

  module _ (mark : List ℕ) (old mid new : Held S) (idle : IsIdle (state g old)) (it : IsFilled mark (state g mid).now)
      (earlier : (db : Trees) → (state g mid).may_leave db → (state g old).may_leave db)
      (tried : (db : Trees) → (state g new).may_leave db → (state g mid).may_leave db ⊎ (db ≡ (state g mid).now.trees)) where
    either : (db : Trees) → (state g new).may_leave db → (db ≡ (state g old).now.trees) ⊎ IsNewPack mark (reopened (pack_database db))
    either db may = elim (tried db may) [
      | inl before ↦ inl (left_open g law old idle.is_open idle.committed db (earlier db before))
      | inr now ↦ inr (is_again mark (state g mid).now db it now)
    ]

    -- the commit failed
    pub leaves_either : {A E : Type 0} (r : Result A E) → ((P : Type 0) → OnOk r P) → LeavesNew mark (state g old) (state g new) r
    leaves_either r none db may = (none _, either db may)

    -- it was committed
    pub leaves_new : {A E : Type 0} (r : Result A E) → Shows (state g mid) (state g new) (state g mid).now (state g mid).now false
        → LeavesNew mark (state g old) (state g new) r
    leaves_new r shows db may =
        let late : db ≡ (state g new).now.trees = left_open g law new shows.is_open (shows.now_is ∙ sym shows.committed_is) db may in
        (on_ok r _ (is_again mark (state g mid).now db it (late ∙ ap (λ (d : Database). d.trees) shows.now_is)), either db may)

-- what nothing was committed behind
pub earlier_both : (a b c : State) → HasCleanDisk c → HasCleanDisk b → Survives a b (λ _. ⊥) → Survives b c (λ _. ⊥) → (db : Trees) → c.may_leave db
    → a.may_leave db
earlier_both a b c clean mid p q db may = none_more (p.crash mid db (none_more (q.crash clean db may)))
