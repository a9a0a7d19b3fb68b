-- What a crash behind a call leaves.
use Rattle.std.proofs.Common.{◌≡◌, ◌∙◌, ◌⊎◌, inl, inr, Result, OnOk, refl, sym, ap, subst}
use Rattle.std.specs.Prelude.{IsTrue, ⊤}
use Rattle.sqlite_trees.specs.declared.store.Store.{Ghosts}
use Rattle.sqlite.specs.Effect.{Database}
use Rattle.sqlite.specs.Tree.{Trees}
use Rattle.sqlite.specs.State.{State, HasCleanDisk}
use Rattle.sqlite.specs.Held.{Held, state}
use Rattle.registry_model.specs.World.{World}
use Rattle.store_contents.specs.Layouts.{Layout}
use Rattle.store_statements.specs.Tables.{Tables, Beside}
use Rattle.store_statements.specs.Registry.{Agree}
use Rattle.store_statements.specs.World.{world_of}
use Rattle.store_statements.specs.Between.{Outcomes, CommitsFrom}
use Rattle.store_statements.specs.Clauses.{LastsUncommitted}
use Rattle.store_statements.specs.Held.{IsSettled, StaysSettled, LeavesAsWas, SettlesOn, HoldsTables, IsBack, IsKept, held, tables_in, with_trees, reopened, world_in}
use Rattle.store_statements.proofs.SettledAfter.{back_behind, back_stayed}
use Rattle.store_statements.proofs.Alone.{less}

-- while a store is open, a crash leaves the last commit
abbrev pub CrashLaw : {S : Type 0} → Ghosts S → Type 0
CrashLaw {S} g = (s : S) (db : Trees) → IsTrue (g.view s).is_open → g.recovers s db → db ≡ (g.view s).committed

pub none_more : {A : Type 0} → A ⊎ ⊥ → A
none_more (inl a) = a
none_more (inr e) = absurd e

-- the connection was left as it was, or as a statement that failed leaves it
pub back_either : {l : Layout} → {S : Type 0} (g : Ghosts S) (old mid new : Held S) → IsSettled l (state g old) → IsBack (state g old) (state g mid) → (new ≡ mid) ⊎ LeavesAsWas (state g mid) (state g new)
    → IsBack (state g old) (state g new)
back_either {l} g old mid new is back (inl same) = subst (λ (h : Held _). IsBack (state g old) (state g h)) (sym same) back
back_either {l} g old mid new is back (inr left) = back_behind (state g old) (state g mid) (state g new) is back left

module _ {S : Type 0} (g : Ghosts S) (law : CrashLaw g) where
  pub left_open : (h : Held S) → IsTrue (state g h).is_open → (state g h).now ≡ (state g h).committed → (db : Trees) → (state g h).may_leave db → db ≡ (state g h).now.trees
  left_open h is_open committed db may = law h.store db is_open may ∙ ap (λ (d : Database). d.trees) (sym committed)

  -- nothing was committed
  pub kept_by : {l : Layout} → (old new : Held S) → LastsUncommitted g old new → IsBack (state g old) (state g new) → HasCleanDisk (state g new) → IsSettled l (state g old) → IsKept (state g old) (state g new)
  kept_by {l} old new lasts back clean is = record { back = back; crash = λ db may. left_open old is.is_open is.committed db (none_more (lasts.crash clean db may)) }

  -- it is settled, with the same database
  pub kept_stayed : {l : Layout} → (old new : Held S) → IsSettled l (state g old) → StaysSettled l (state g old) (state g new) → IsKept (state g old) (state g new)
  kept_stayed {l} old new is stays = record {
    back = back_stayed (state g old) (state g new) is stays;
    crash = λ db may. left_open new stays.0.is_open stays.0.committed db may ∙ ap (λ (d : Database). d.trees) stays.1;
  }

-- a call that left it settled, and one that went back
pub back_from : {l : Layout} → (old mid new : State) → IsSettled l old → StaysSettled l old mid → IsBack mid new → IsBack old new
back_from {l} old mid new is stays back is_open =
    let was = back is_open in
    (was.0 ∙ stays.1, was.1 ∙ sym stays.0.committed ∙ stays.1 ∙ is.committed)

-- a call that left it settled, and one more
pub kept_then : {l : Layout} → (old mid new : State) → IsSettled l old → StaysSettled l old mid → IsKept mid new → IsKept old new
kept_then {l} old mid new is stays kept = record {
  back = back_from old mid new is stays kept.back;
  crash = λ db may. kept.crash db may ∙ ap (λ (d : Database). d.trees) stays.1;
}

-- ---- the database that is left

again_same : (was : Database) (db : Trees) → db ≡ was.trees → with_trees was db ≡ was
again_same was db e = ap (with_trees was) e

again_as : (was is : Database) (db : Trees) → is.schema ≡ was.schema → db ≡ is.trees → with_trees was db ≡ is
again_as was is db schema trees = λ i. record { schema = sym schema i; trees = trees i }

-- it was settled, and is again
pub settles_again : {l : Layout} → (old : State) → IsSettled l old → (db : Trees) → db ≡ old.now.trees → SettlesOn l (reopened (with_trees old.now db)) (world_in l old)
settles_again {l} old is db e =
    let same = again_same old.now db e in (
      record {
        is_open = refl;
        autocommit = refl;
        committed = refl;
        holds = subst (HoldsTables l) (sym same) is.holds;
        agree = subst (λ (d : Database). Agree (tables_in l d)) (sym same) is.agree;
      },
      ap (λ (d : Database). world_of (tables_in l d)) same,
    )

-- ---- outcomes

-- nothing was committed, so it is as it was
pub outcome_kept : {l : Layout} → (old new : State) (Told Made : State → Type 0) → IsSettled l old → IsKept old new → ((s : State) → SettlesOn l s (world_in l old) → Told s) → Outcomes old.now new Told (λ s. SettlesOn l s (world_in l old)) Made
outcome_kept {l} old new Told Made is kept tells db may =
    let again = settles_again old is db (kept.crash db may) in
    (tells (reopened (with_trees old.now db)) again, inl again)

-- nor were any tables
pub outcome_unmade : (old new : State) (Made : State → Type 0) → IsKept old new → Outcomes old.now new (λ _. ⊤) (λ s. s.now ≡ old.now) Made
outcome_unmade old new Made kept db may = (tt, inl (again_same old.now db (kept.crash db may)))

-- behind a call that left it settled: what is so of the tables says the world
pub outcome_world : {l : Layout} → (old mid new : State) (f : World → World) (Told Told' Made : State → Type 0) → IsSettled l old → StaysSettled l old mid → ((s : State) → Told s → Told' s) → ((s : State) → Made s → SettlesOn l s (f (world_in l old))) → Outcomes mid.now new Told (λ s. s.now ≡ mid.now) Made
    → Outcomes old.now new Told' (λ s. SettlesOn l s (world_in l old)) (λ s. SettlesOn l s (f (world_in l old)))
outcome_world {l} old mid new f Told Told' Made is stays told so it db may =
    let s = reopened (with_trees old.now db) in
    let out : Told s × ((s.now ≡ mid.now) ⊎ Made s) = subst (λ (d : Database). Told (reopened (with_trees d db)) × (((reopened (with_trees d db)).now ≡ mid.now) ⊎ Made (reopened (with_trees d db)))) stays.1 (it db may) in
    (told s out.0, elim out.1 [ inl same ↦ inl (settles_again old is db (ap (λ (d : Database). d.trees) (same ∙ stays.1))) | inr made ↦ inr (so s made) ])

-- behind a call that left it settled: the outcomes of the next
pub outcome_then : {l : Layout} → (old mid new : State) (f : World → World) (Told Told' : State → Type 0) → StaysSettled l old mid → ((s : State) → Told s → Told' s) → Outcomes mid.now new Told (λ s. SettlesOn l s (world_in l mid)) (λ s. SettlesOn l s (f (world_in l mid)))
    → Outcomes old.now new Told' (λ s. SettlesOn l s (world_in l old)) (λ s. SettlesOn l s (f (world_in l old)))
outcome_then {l} old mid new f Told Told' stays told it db may =
    let out = subst (λ (d : Database). Told (reopened (with_trees d db)) × (SettlesOn l (reopened (with_trees d db)) (world_of (tables_in l d)) ⊎ SettlesOn l (reopened (with_trees d db)) (f (world_of (tables_in l d))))) stays.1 (it db may) in
    (told (reopened (with_trees old.now db)) out.0, out.1)

-- A call that was one transaction: what it made was committed or was not.
pub outcome_made : {l : Layout} → {S : Type 0} (g : Ghosts S) → CrashLaw g → (old new : Held S) {A E : Type 0} (r : Result A E) (P : Tables → Tables → Type 0) → ((t u : Tables) → P t u → u.beside ≡ t.beside) → IsSettled l (state g old)
    → OnOk r (CommitsFrom g l old new P (state g new))
    → ((db : Trees) → (state g new).may_leave db → (state g old).may_leave db ⊎ ((d : Database) × (db ≡ d.trees) × HoldsTables l d × P (held l (state g old)) (tables_in l d)))
    → Outcomes (state g old).now (state g new) (λ s. OnOk r (CommitsFrom g l old new P s)) (λ s. s.now ≡ (state g old).now) (CommitsFrom g l old new P)
outcome_made {l} g law old new r P same is made tried db may = (
  less r (λ it. so (state g new).now it.0.holds it.1 (left_open g law new it.0.is_open it.0.committed db may)) made,
  elim (tried db may) [
    | inl earlier ↦ inl (again_same was db (left_open g law old is.is_open is.committed db earlier))
    | inr it ↦ inr (so it.0 it.2 it.3 it.1)
  ],
)
  where
    was : Database
    was = (state g old).now

    so : (d : Database) → HoldsTables l d → P (tables_in l was) (tables_in l d) → db ≡ d.trees → CommitsFrom g l old new P (reopened (with_trees was db))
    so d holds p e =
        let again : with_trees was db ≡ d = again_as was d db (ap (λ (b : Beside). b.schema) (same (tables_in l was) (tables_in l d) p)) e in (
          record { is_open = refl; autocommit = refl; committed = refl; holds = subst (HoldsTables l) (sym again) holds; tables = refl },
          subst (λ (x : Database). P (tables_in l was) (tables_in l x)) (sym again) p,
        )

-- ---- what a write says of a crash

module _ {S : Type 0} (g : Ghosts S) (old new : Held S) (f : World → World) where
  -- it failed, and nothing was committed
  pub crash_failed : {l : Layout} → IsSettled l (state g old) → IsKept (state g old) (state g new) → Outcomes (state g old).now (state g new) (λ _. ⊤) (λ s. SettlesOn l s (world_in l (state g old))) (λ s. SettlesOn l s (f (world_in l (state g old))))
  crash_failed {l} is kept = outcome_kept (state g old) (state g new) (λ _. ⊤) (λ s. SettlesOn l s (f (world_in l (state g old)))) is kept (λ s again. tt)

  -- nothing was to be done
  pub crash_same : {l : Layout} → IsSettled l (state g old) → IsKept (state g old) (state g new) → world_in l (state g old) ≡ f (world_in l (state g old))
      → Outcomes (state g old).now (state g new) (λ s. SettlesOn l s (f (world_in l (state g old)))) (λ s. SettlesOn l s (world_in l (state g old))) (λ s. SettlesOn l s (f (world_in l (state g old))))
  crash_same {l} is kept e = outcome_kept (state g old) (state g new) (λ s. SettlesOn l s (f (world_in l (state g old)))) (λ s. SettlesOn l s (f (world_in l (state g old)))) is kept (λ s again. (again.0, again.1 ∙ e))

  -- a call that left it settled, and a change whose tables say the world
  module _ {l : Layout} (mid : Held S) (P : Tables → Tables → Type 0) (is : IsSettled l (state g old)) (stays : StaysSettled l (state g old) (state g mid)) (so : (s : State) → CommitsFrom g l mid new P s → SettlesOn l s (f (world_in l (state g old)))) where
    pub crash_made : {A B E : Type 0} (made : Result A E) (r : Result B E) → ((X : Type 0) → OnOk made X → OnOk r X) → Outcomes (state g mid).now (state g new) (λ s. OnOk made (CommitsFrom g l mid new P s)) (λ s. s.now ≡ (state g mid).now) (CommitsFrom g l mid new P)
        → Outcomes (state g old).now (state g new) (λ s. OnOk r (SettlesOn l s (f (world_in l (state g old))))) (λ s. SettlesOn l s (world_in l (state g old))) (λ s. SettlesOn l s (f (world_in l (state g old))))
    crash_made made r told crash =
        outcome_world (state g old) (state g mid) (state g new) f (λ s. OnOk made (CommitsFrom g l mid new P s)) (λ s. OnOk r (SettlesOn l s (f (world_in l (state g old))))) (CommitsFrom g l mid new P) is stays (λ s it. told (SettlesOn l s (f (world_in l (state g old)))) (less made (so s) it)) so crash

    pub crash_done : Outcomes (state g mid).now (state g new) (CommitsFrom g l mid new P) (λ s. s.now ≡ (state g mid).now) (CommitsFrom g l mid new P)
        → Outcomes (state g old).now (state g new) (λ s. SettlesOn l s (f (world_in l (state g old)))) (λ s. SettlesOn l s (world_in l (state g old))) (λ s. SettlesOn l s (f (world_in l (state g old))))
    crash_done crash = outcome_world (state g old) (state g mid) (state g new) f (CommitsFrom g l mid new P) (λ s. SettlesOn l s (f (world_in l (state g old)))) (CommitsFrom g l mid new P) is stays so so crash

    pub crash_undone : Outcomes (state g mid).now (state g new) (λ _. ⊤) (λ s. s.now ≡ (state g mid).now) (CommitsFrom g l mid new P)
        → Outcomes (state g old).now (state g new) (λ _. ⊤) (λ s. SettlesOn l s (world_in l (state g old))) (λ s. SettlesOn l s (f (world_in l (state g old))))
    crash_undone crash = outcome_world (state g old) (state g mid) (state g new) f (λ _. ⊤) (λ _. ⊤) (CommitsFrom g l mid new P) is stays (λ s it. tt) so crash

  -- a call that left it settled, and one that says it of the world
  pub crash_then : {l : Layout} → (mid : Held S) {A E : Type 0} (r : Result A E) → StaysSettled l (state g old) (state g mid)
      → Outcomes (state g mid).now (state g new) (λ s. OnOk r (SettlesOn l s (f (world_in l (state g mid))))) (λ s. SettlesOn l s (world_in l (state g mid))) (λ s. SettlesOn l s (f (world_in l (state g mid))))
      → Outcomes (state g old).now (state g new) (λ s. OnOk r (SettlesOn l s (f (world_in l (state g old))))) (λ s. SettlesOn l s (world_in l (state g old))) (λ s. SettlesOn l s (f (world_in l (state g old))))
  crash_then {l} mid r stays crash =
      outcome_then (state g old) (state g mid) (state g new) f (λ s. OnOk r (SettlesOn l s (f (world_in l (state g mid))))) (λ s. OnOk r (SettlesOn l s (f (world_in l (state g old))))) stays
      (λ s it. less r (λ p. subst (λ (w : World). SettlesOn l s (f w)) (ap (λ (d : Database). world_of (tables_in l d)) stays.1) p) it) crash
