-- What texts that were executed one after the other leave.
use Rattle.std.proofs.Common.{◌≡◌, ◌∙◌, ◌<◌, ◌+◌, ℕ, List, [], ◌∷◌, ◌++◌, Bor, length, take, drop, get_or, map, Ok, Err, Result, inl, inr, refl, sym, ap, subst, arith}
use Rattle.std.specs.Prelude.{◌⊎◌, IsTrue, OnOk, IfErr}
use Rattle.std.specs.List.{AllByRecursion, flat_map}
use Rattle.std.proofs.lemmas.List.{map_more, map-append, drop_more, take-append-drop}
use Rattle.sqlite.specs.Schema.{Schema}
use Rattle.sqlite.specs.Table.{Table}
use Rattle.sqlite.specs.Change.{created, indexed}
use Rattle.sqlite.specs.Effect.{Database}
use Rattle.sqlite.specs.State.{State, HasCleanDisk, KeepsCommit, Survives, ExecutesInside}
use Rattle.sqlite.specs.Held.{Held, state}
use Rattle.sqlite.specs.declared.error.Error.{Error}
use Rattle.sqlite_schema.specs.declared.schema.Index.{Index}
use Rattle.sqlite_trees.specs.declared.store.Store.{Ghosts}
use Rattle.store_schema.specs.Making.{MakesTable, MakesIndex, IsEmptyWith, IsOther}
use Rattle.store_schema.specs.Beside.{Comes, IsNewBeside, MakesNamed, MakesOne}
use Rattle.store_schema.specs.InTurn.{RanEach, FailedAmong}
use Rattle.store_schema.proofs.Selects.{commit_then, was_clean, survives_both}
use Rattle.store_schema.proofs.Writes.{keeps_by_execute}
use Rattle.store_schema.proofs.MakeLemmas.{makes_table, makes_index, grows, grows_index}
use Rattle.store_schema.proofs.Refusals.{fails_table, fails_index}
use Rattle.store_schema.proofs.BesideLemmas.{Made, comes, comes_then, keeps_all}

survives_here : (s : State) → Survives s s (λ _. ⊥)
survives_here s = record { clean = omega arith; shield = λ h. h; counts = omega arith; limit = refl; closes = λ clean h. inl h; crash = λ clean db h. inl h }

-- ---- one more of those that a loop goes over

abbrev pub texts_of : List (Bor (List ℕ)) → List (List ℕ)
texts_of texts = map (λ text. text.now) texts

module _ {S : Type 0} (g : Ghosts S) where
  -- those so far ran
  pub record RanSoFar (texts : List (List ℕ)) (old new : Held S) : Type 0 where
    pub ran : HasCleanDisk (state g new) → RanEach g texts old new
    pub inside : HasCleanDisk (state g new) → IsTrue (state g new).in_transaction
    pub kept : HasCleanDisk (state g new) → KeepsCommit (state g old) (state g new)
    pub survives : Survives (state g old) (state g new) (λ _. ⊥)

  pub so_far_none : (start : Held S) → (HasCleanDisk (state g start) → IsTrue (state g start).in_transaction) → RanSoFar [] start start
  so_far_none start inside = record { ran = λ clean. refl; inside = inside; kept = λ clean. record { was_open = λ e. e; committed = λ e. refl }; survives = survives_here (state g start) }

  ran_more : (texts : List (List ℕ)) (text : List ℕ) (old mid new : Held S) (count : ℕ) → RanEach g texts old mid → ExecutesInside 0 text [] (state g mid) (state g new) (Ok count) → RanEach g (texts ++ text ∷ []) old new
  ran_more [] text old mid new count ran last = (new, count, subst (λ (it : Held S). ExecutesInside 0 text [] (state g it) (state g new) (Ok count)) (sym ran) last, refl)
  ran_more (x ∷ xs) text old mid new count ran last = (ran.0, ran.1, ran.2, ran_more xs text ran.0 mid new count ran.3 last)

  failed_at : (texts : List (List ℕ)) (text : List ℕ) (rest : List (List ℕ)) (old mid new : Held S) (e : Error) → RanEach g texts old mid → ExecutesInside 0 text [] (state g mid) (state g new) (Err e) → FailedAmong g (texts ++ text ∷ rest) old new e
  failed_at [] text rest old mid new e ran last = inl (subst (λ (it : Held S). ExecutesInside 0 text [] (state g it) (state g new) (Err e)) (sym ran) last)
  failed_at (x ∷ xs) text rest old mid new e ran last = inr (ran.0, ran.1, ran.2, failed_at xs text rest ran.0 mid new e ran.3 last)

  module _ (texts : List (Bor (List ℕ))) (i : ℕ) (d : Bor (List ℕ)) (low : i < length texts) (old mid new : Held S) (so_far : RanSoFar (texts_of (take i texts)) old mid) (lasts : Survives (state g mid) (state g new) (λ _. ⊥)) where
    early : HasCleanDisk (state g new) → HasCleanDisk (state g mid)
    early clean = was_clean lasts clean

    survives_more : Survives (state g old) (state g new) (λ _. ⊥)
    survives_more = survives_both (state g old) (state g mid) (state g new) so_far.survives lasts

    pub kept_more : (r : Result ℕ Error) → (HasCleanDisk (state g new) → IsTrue (state g mid).in_transaction → ExecutesInside 0 (get_or texts i d).now [] (state g mid) (state g new) r) → HasCleanDisk (state g new) → KeepsCommit (state g old) (state g new)
    kept_more r runs clean =
        commit_then (state g old) (state g mid) (state g new) (so_far.kept (early clean))
        (keeps_by_execute 0 (get_or texts i d).now [] (state g mid) (state g new) r (runs clean (so_far.inside (early clean))))

    pub so_far_more : (count : ℕ) → (HasCleanDisk (state g new) → IsTrue (state g mid).in_transaction → ExecutesInside 0 (get_or texts i d).now [] (state g mid) (state g new) (Ok count)) → RanSoFar (texts_of (take (i + 1) texts)) old new
    so_far_more count runs = record {
      ran = λ clean. subst (λ l. RanEach g l old new) (sym (map_more (λ (text : Bor (List ℕ)). text.now) texts i d low)) (ran_more (texts_of (take i texts)) (get_or texts i d).now old mid new count (so_far.ran (early clean)) (runs clean (so_far.inside (early clean))));
      inside = λ clean. (runs clean (so_far.inside (early clean))).1.mode;
      kept = kept_more (Ok count) runs;
      survives = survives_more;
    }

    split : texts_of (take i texts) ++ (get_or texts i d).now ∷ texts_of (drop (i + 1) texts) ≡ texts_of texts
    split =
        ap (λ (rest : List (Bor (List ℕ))). texts_of (take i texts) ++ texts_of rest) (sym (drop_more texts i d low))
        ∙ sym (map-append (λ (text : Bor (List ℕ)). text.now) (take i texts) (drop i texts))
        ∙ ap texts_of (take-append-drop i texts)

    pub failed_more : (e : Error) → (HasCleanDisk (state g new) → IsTrue (state g mid).in_transaction → ExecutesInside 0 (get_or texts i d).now [] (state g mid) (state g new) (Err e)) → HasCleanDisk (state g new) → FailedAmong g (texts_of texts) old new e
    failed_more e runs clean =
        subst (λ l. FailedAmong g l old new e) split
        (failed_at (texts_of (take i texts)) (get_or texts i d).now (texts_of (drop (i + 1) texts)) old mid new e (so_far.ran (early clean)) (runs clean (so_far.inside (early clean))))

-- ---- what they make of a schema that is known

-- over the first schema they make the last
abbrev pub MakesEach : Schema → List (List ℕ) → Schema → Type 0
MakesEach first [] last = first ≡ last
MakesEach first (text ∷ texts) last =
    ((table : Table) × MakesTable first text table × MakesEach (created first table) texts last)
    ⊎ ((at : ℕ) × (table : Table) × (index : Index) × MakesIndex first text at table index × MakesEach (indexed first table index) texts last)

module _ {S : Type 0} (g : Ghosts S) where
  pub empty_each : (first : Schema) (texts : List (List ℕ)) (last : Schema) (old new : Held S) → MakesEach first texts last → RanEach g texts old new → IsEmptyWith first (state g old).now → IsEmptyWith last (state g new).now
  empty_each first [] last old new makes ran none = subst (λ (it : Held S). IsEmptyWith last (state g it).now) ran (subst (λ (s : Schema). IsEmptyWith s (state g old).now) makes none)
  empty_each first (text ∷ texts) last old new (inl (table, one, more)) ran none =
      empty_each (created first table) texts last ran.0 new more ran.3 (makes_table first table text (state g old) (state g ran.0) ran.1 one none ran.2.0)
  empty_each first (text ∷ texts) last old new (inr (at, table, index, one, more)) ran none =
      empty_each (indexed first table index) texts last ran.0 new more ran.3 (makes_index first at table index text (state g old) (state g ran.0) ran.1 one none ran.2.0)

  pub schema_each : (first : Schema) (texts : List (List ℕ)) (last : Schema) (old new : Held S) → MakesEach first texts last → RanEach g texts old new → (state g old).now.schema ≡ first → (state g new).now.schema ≡ last
  schema_each first [] last old new makes ran is = ap (λ (it : Held S). (state g it).now.schema) (sym ran) ∙ is ∙ makes
  schema_each first (text ∷ texts) last old new (inl (table, one, more)) ran is =
      schema_each (created first table) texts last ran.0 new more ran.3 (grows first table text (state g old) (state g ran.0) ran.1 one is ran.2.0).schema_is
  schema_each first (text ∷ texts) last old new (inr (at, table, index, one, more)) ran is =
      schema_each (indexed first table index) texts last ran.0 new more ran.3 (grows_index first at table index text (state g old) (state g ran.0) ran.1 one is ran.2.0).schema_is

  pub other_each : (first : Schema) (texts : List (List ℕ)) (last : Schema) (old new : Held S) (e : Error) → MakesEach first texts last → (state g old).now.schema ≡ first → FailedAmong g texts old new e → IsOther e
  other_each first [] last old new e makes is failed = absurd failed
  other_each first (text ∷ texts) last old new e (inl (table, one, more)) is (inl failed) = fails_table first table text (state g old) (state g new) e one is failed
  other_each first (text ∷ texts) last old new e (inl (table, one, more)) is (inr (mid, count, ran, failed)) =
      other_each (created first table) texts last mid new e more (grows first table text (state g old) (state g mid) count one is ran.0).schema_is failed
  other_each first (text ∷ texts) last old new e (inr (at, table, index, one, more)) is (inl failed) = fails_index first at table index text (state g old) (state g new) e one is failed
  other_each first (text ∷ texts) last old new e (inr (at, table, index, one, more)) is (inr (mid, count, ran, failed)) =
      other_each (indexed first table index) texts last mid new e more (grows_index first at table index text (state g old) (state g mid) count one is ran.0).schema_is failed

-- ---- what they make beside others

-- a text, the name of what it makes, and the table, if it is one
pub record Making : Type 0 where
  pub text : List ℕ
  pub name : List ℕ
  pub tables : List Table

pub record IsSo (it : Making) : Type 0 where
  pub named : MakesNamed it.text it.name
  pub made : AllByRecursion (MakesOne it.text) it.tables

abbrev pub text_in : Making → List ℕ
text_in it = it.text

abbrev pub name_in : Making → List ℕ
name_in it = it.name

abbrev pub tables_in : Making → List Table
tables_in it = it.tables

all_made : (text : List ℕ) (old new : Database) (tables : List Table) → Made text old new → AllByRecursion (MakesOne text) tables → AllByRecursion (IsNewBeside old.schema.tables new) tables
all_made text old new [] made one = tt
all_made text old new (t ∷ ts) made one = (made t one.0, all_made text old new ts made one.1)

module _ {S : Type 0} (g : Ghosts S) where
  pub comes_each : (makings : List Making) (old new : Held S) → AllByRecursion IsSo makings → RanEach g (map text_in makings) old new → Comes (map name_in makings) (flat_map tables_in makings) (state g old).now (state g new).now
  comes_each [] old new so ran = subst (λ (it : Held S). Comes [] [] (state g old).now (state g it).now) ran (record { free = tt; kept = keeps_all (state g old).now; made = tt })
  comes_each (m ∷ ms) old new so ran =
      let it = comes m.text m.name (state g old) (state g ran.0) ran.1 so.0.named ran.2.0 in
      comes_then (state g old).now (state g ran.0).now (state g new).now (m.name ∷ []) (map name_in ms) m.tables (flat_map tables_in ms)
      (record { free = it.0.free; kept = it.0.kept; made = all_made m.text (state g old).now (state g ran.0).now m.tables it.1 so.0.made })
      (comes_each ms ran.0 new so.1 ran.3)

-- ---- the same of a call's result

pub on_ok : {A E : Type 0} (P Q : Type 0) (r : Result A E) → (P → Q) → OnOk r P → OnOk r Q
on_ok P Q (Ok x) f h = f h
on_ok P Q (Err e) f h = tt

pub on_err : {A E : Type 0} (P Q : E → Type 0) (r : Result A E) → ((e : E) → P e → Q e) → IfErr r P → IfErr r Q
on_err P Q (Ok x) f h = tt
on_err P Q (Err e) f h = f e h
