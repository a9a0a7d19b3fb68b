-- Statements, one after the other.
use Rattle.std.proofs.Common.{◌∙◌, Ok, Err, Result, OnOk, ap, subst, refl, inl, arith}
use Rattle.sqlite_trees.specs.declared.store.Store.{Ghosts}
use Rattle.sqlite.specs.State.{State, HasCleanDisk, KeepsCommit, Survives}
use Rattle.sqlite.specs.Held.{Held, state}
use Rattle.oci_types.specs.declared.fault.Fault.{Fault}
use Rattle.store_schema.proofs.Selects.{commit_then, survives_both}
use Rattle.store_contents.specs.Layouts.{Layout}
use Rattle.store_statements.specs.Tables.{Tables}
use Rattle.store_statements.specs.Clauses.{Changes, KeepsInside, LastsUncommitted}
use Rattle.store_statements.specs.Held.{IsReady, Becomes, held}
use Rattle.store_statements.proofs.CleanBefore.{was_clean}

module _ {S : Type 0} (g : Ghosts S) where
  pub both_last : (old mid new : Held S) → LastsUncommitted g old mid → LastsUncommitted g mid new → LastsUncommitted g old new
  both_last old mid new lasts then_lasts = survives_both (state g old) (state g mid) (state g new) lasts then_lasts

module _ {S : Type 0} (g : Ghosts S) (l : Layout) where
  -- the first was done
  abbrev pub Became : Held S → Held S → (Tables → Tables) → Type 0
  Became old new f = HasCleanDisk (state g new) → IsReady l (state g old) → Becomes l (state g new) (f (held l (state g old)))

  pub both_kept : (old mid new : Held S) (f : Tables → Tables) → Became old mid f → KeepsInside g l old mid → KeepsInside g l mid new → LastsUncommitted g mid new → KeepsInside g l old new
  both_kept old mid new f first kept kept_then then_lasts clean is =
      let early : HasCleanDisk (state g mid) = was_clean then_lasts clean in
      commit_then (state g old) (state g mid) (state g new) (kept early is) (kept_then clean (first early is).0)

  pub both_change : {A : Type 0} (old mid new : Held S) (r : Result A Fault) (f h : Tables → Tables) → Became old mid f → Changes g l mid new r h → LastsUncommitted g mid new → Changes g l old new r (λ t. h (f t))
  both_change old mid new r f h first second then_lasts clean is =
      let early : HasCleanDisk (state g mid) = was_clean then_lasts clean in
      let it = first early is in
      subst (λ t. OnOk r (Becomes l (state g new) (h t))) it.1 (second clean it.0)

  -- the second as well
  pub both_became : (old mid new : Held S) (f h : Tables → Tables) → Became old mid f → Became mid new h → LastsUncommitted g mid new → Became old new (λ t. h (f t))
  both_became old mid new f h first second then_lasts clean is =
      let early : HasCleanDisk (state g mid) = was_clean then_lasts clean in
      let it = first early is in
      subst (λ t. Becomes l (state g new) (h t)) it.1 (second clean it.0)

-- a statement that was done, and one that says how it ended
pub becomes_then : {l : Layout} → {A E : Type 0} (f g : Tables → Tables) (a b c : State) (r : Result A E) → Becomes l b (f (held l a)) → OnOk r (Becomes l c (g (held l b))) → OnOk r (Becomes l c (g (f (held l a))))
becomes_then {l} f g a b c (Ok x) p q = (q.0, q.1 ∙ ap g p.1)
becomes_then {l} f g a b c (Err e) p q = tt

-- ---- so far

pub record SoFar {S : Type 0} (g : Ghosts S) (l : Layout) (old mid : Held S) (f : Tables → Tables) : Type 0 where
  pub became : Became g l old mid f
  pub kept : KeepsInside g l old mid
  pub survives : LastsUncommitted g old mid

module _ {l : Layout} {S : Type 0} (g : Ghosts S) (old mid new : Held S) (f : Tables → Tables) (so : SoFar g l old mid f) (kept : KeepsInside g l mid new) (lasts : LastsUncommitted g mid new) where
  pub one_more : (h : Tables → Tables) → Became g l mid new h → SoFar g l old new (λ t. h (f t))
  one_more h became = record {
    became = both_became g l old mid new f h so.became became lasts;
    kept = both_kept g l old mid new f so.became so.kept kept lasts;
    survives = both_last g old mid new so.survives lasts;
  }

  -- the next failed
  pub stopped : KeepsInside g l old new × LastsUncommitted g old new
  stopped = (both_kept g l old mid new f so.became so.kept kept lasts, both_last g old mid new so.survives lasts)

-- ---- nothing was done

pub keeps_still : (s : State) → KeepsCommit s s
keeps_still s = record { was_open = λ open_now. open_now; committed = λ open_now. refl }

pub survives_still : (s : State) → Survives s s (λ _. ⊥)
survives_still s = record { clean = omega arith; shield = λ x. x; counts = omega arith; limit = refl; closes = λ clean open_now. inl open_now; crash = λ clean db may. inl may }
