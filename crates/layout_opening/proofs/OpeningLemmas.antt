-- What a database answers tells which kind it is.
use Rattle.std.proofs.Common.{◌≡◌, ◌∙◌, ◌⊎◌, inl, inr, ℕ, ℤ, pos, List, Bool, true, false, Option, None, Some, Result, Ok, Err, IfOk, refl, sym, ap, subst}
use Rattle.sqlite_trees.specs.declared.store.Store.{Ghosts}
use Rattle.sqlite.specs.Effect.{Database}
use Rattle.sqlite.specs.Held.{Held, state}
use Rattle.sqlite.specs.State.{State, IsUnchanged}
use Rattle.registry_model.specs.World.{no_world}
use Rattle.store_contents.specs.Layouts.{Layout, InTables, InPack}
use Rattle.store_schema.specs.Schema.{no_schema}
use Rattle.store_schema.specs.Making.{IsEmptyWith}
use Rattle.store_statements.specs.World.{world_of}
use Rattle.store_statements.specs.Held.{tables_in}
use Rattle.store_opening.specs.Opening.{HoldsRegistry, IsIdle, has_version_table}
use Rattle.registry_store.specs.Opening.{IsOurs}
use Rattle.pack_opening.specs.Making.{IsPackRegistry}
use Rattle.layout_opening.specs.Opening.{IsInPack, IsOfChoice, IsOpenedAs, IsOursBeside}

-- ---- asking changes nothing

pub still_idle : (old new : State) → IsIdle old → IsUnchanged old new → IsIdle new
still_idle old new idle u = record {
  is_open = u.0.is_open;
  autocommit = u.0.mode ∙ idle.autocommit;
  committed = u.0.now_is ∙ idle.committed ∙ sym u.0.committed_is;
}

pub idle_asked : {S : Type 0} (g : Ghosts S) (old new : Held S) → IsIdle (state g old) → (new ≡ old) ⊎ IsUnchanged (state g old) (state g new) → IsIdle (state g new) × ((state g new).now ≡ (state g old).now)
idle_asked g old new idle (inl same) = (subst (λ h. IsIdle (state g h)) (sym same) idle, ap (λ h. (state g h).now) same)
idle_asked g old new idle (inr u) = (still_idle (state g old) (state g new) idle u, u.0.now_is)

-- ---- which kind it is

pub bare_unmarked : (db : Database) → IsEmptyWith no_schema db → has_version_table db.schema ≡ false
bare_unmarked db it = ap has_version_table it.schema_is

pub is_none : {E : Type 0} (r : Result (Option ℤ) E) → r ≡ Ok None → IfOk r (λ v. v ≡ None)
is_none {E} r same = subst (λ (r : Result (Option ℤ) E). IfOk r (λ v. v ≡ None)) (sym same) refl

two_not_three : Some (pos 2) ≡ Some (pos 3) → ⊥
two_not_three same = let x = same in cc

module _ (file : List ℕ) (db : Database) (v : Option ℤ) (none : has_version_table db.schema ≡ false → v ≡ None) (two : HoldsRegistry db → v ≡ Some (pos 2))
    (three : IsPackRegistry file db → v ≡ Some (pos 3)) where
  bare_none : IsEmptyWith no_schema db → v ≡ None
  bare_none bare = none (bare_unmarked db bare)

  pub is_pack : v ≡ Some (pos 3) → IsOursBeside file db → IsPackRegistry file db
  is_pack at (inl bare) = absurd (let x = sym (bare_none bare) ∙ at in cc)
  is_pack at (inr (inl h)) = absurd (two_not_three (sym (two h) ∙ at))
  is_pack at (inr (inr p)) = p

  pub is_bare : v ≡ None → IsOursBeside file db → IsEmptyWith no_schema db
  is_bare at (inl bare) = bare
  is_bare at (inr (inl h)) = absurd (let x = sym (two h) ∙ at in cc)
  is_bare at (inr (inr p)) = absurd (let x = sym (three p) ∙ at in cc)

  pub is_in_tables : (v ≡ Some (pos 3) → ⊥) → IsOursBeside file db → IsOurs db
  is_in_tables other (inl bare) = inl bare
  is_in_tables other (inr (inl h)) = inr h
  is_in_tables other (inr (inr p)) = absurd (other (three p))

  module _ (beside : Bool) (l : Layout) (now : Database) where
    pub opened_beside : v ≡ Some (pos 3) → l ≡ InPack file → now ≡ db → IsOpenedAs file beside db l now
    opened_beside at layout same = record {
      made = λ bare. absurd (let x = sym (bare_none bare) ∙ at in cc);
      tables = λ h. absurd (two_not_three (sym (two h) ∙ at));
      pack = λ p. (layout, same);
    }

    pub begun_beside : v ≡ None → beside ≡ true → IsInPack l → world_of (tables_in l now) ≡ no_world → IsOpenedAs file beside db l now
    begun_beside at choice layout world = record {
      made = λ bare. (subst (λ b. IsOfChoice b l) (sym choice) layout, world);
      tables = λ h. absurd (let x = sym (two h) ∙ at in cc);
      pack = λ p. absurd (let x = sym (three p) ∙ at in cc);
    }

    pub opened_tables : (v ≡ Some (pos 3) → ⊥) → (v ≡ None → beside ≡ false) → l ≡ InTables → (IsEmptyWith no_schema db → world_of (tables_in InTables now) ≡ no_world)
        → (HoldsRegistry db → now ≡ db) → IsOpenedAs file beside db l now
    opened_tables other choice layout made found = record {
      made = λ bare. (
        subst (λ b. IsOfChoice b l) (sym (choice (bare_none bare))) layout,
        subst (λ m. world_of (tables_in m now) ≡ no_world) (sym layout) (made bare),
      );
      tables = λ h. (layout, found h);
      pack = λ p. absurd (other (three p));
    }

-- ---- of what an opening gives

pub if_ok : {T E : Type 0} (P W : T → Type 0) (r : Result T E) → ((s : T) → P s → W s) → IfOk r P → IfOk r W
if_ok P W (Ok s) f p = f s p
if_ok P W (Err e) f p = tt

pub if_ok_three : {T E : Type 0} (P Q R W : T → Type 0) (r : Result T E) → ((s : T) → P s → Q s → R s → W s) → IfOk r P → IfOk r Q → IfOk r R → IfOk r W
if_ok_three P Q R W (Ok s) f p q r = f s p q r
if_ok_three P Q R W (Err e) f p q r = tt
