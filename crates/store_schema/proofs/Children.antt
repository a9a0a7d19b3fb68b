-- Rows that are taken out of a table to which foreign keys refer: what their actions are, and that they find nothing where no row is a
-- child.
use Rattle.std.proofs.Common.{◌≡◌, ◌⊎◌, inl, inr, arith, ℕ, zero, suc, ℤ, List, [], ◌∷◌, map, Bool, true, false, cond, None, Some, refl, sym, ap, subst, ◌∙◌, true≢false, All}
use Rattle.std.specs.Prelude.{filter, Option, ◌&&◌, ◌==◌, unwrap_or}
use Rattle.std.specs.List.{AllByRecursion, list_any, flat_map, filter_map, cons_option}
use Rattle.std.specs.List.Sorted.{IsPermutation}
use Rattle.std.proofs.lemmas.List.Sorted.{All-permutation}
use Rattle.sqlite.specs.Order.{Row, column}
use Rattle.sqlite.specs.Schema.{Schema}
use Rattle.sqlite.specs.Table.{Table}
use Rattle.sqlite.specs.Term.{Term, col}
use Rattle.sqlite.specs.Edit.{edit_of}
use Rattle.sqlite.specs.Rowids.TheVariants.{Given}
use Rattle.sqlite.specs.Tree.{Trees, rowid}
use Rattle.sqlite.specs.State.{State}
use Rattle.sqlite_rules.specs.Calls.{ids_of}
use Rattle.sqlite_rules.specs.Edit.{Applies, taken_by, row_at, id_in}
use Rattle.sqlite_rules.specs.Lists.{Has}
use Rattle.sqlite_rules.specs.Action.{Work, works, work_by, work_for, deed_for, pairs, loses, is_child_of, AreChildren}
use Rattle.sqlite_rules.specs.declared.action.Deed.{Deed}
use Rattle.sqlite_rules.proofs.ListLemmas.{has_either, has_filtered}
use Rattle.sqlite_schema.specs.Rules.{ParentKey, parent_key}
use Rattle.sqlite_schema.specs.declared.schema.Reference.{Reference}
use Rattle.sqlite_schema.specs.declared.schema.Keys.TheVariants.{Enforced}
use Rattle.store_schema.specs.Rows.{HaveIds}
use Rattle.store_schema.proofs.Ids.{find_id, rowid_is}
use Rattle.store_schema.proofs.Removals.{removed}
use Rattle.store_schema.proofs.Writes.{passes, Edits, Removes, no_actions}

-- ---- what an action that a row sets off is

pub record SetsOff (schema : Schema) (moves : List (Row × Row)) (w : Work) : Type 0 where
  pub child : Table
  pub listed : Has schema.tables child
  pub ref : Reference
  pub refers : Has child.references ref
  pub key : ParentKey
  pub key_is : parent_key schema.tables ref ≡ Some key
  pub deed : Deed
  pub is : w ≡ record { depth = 0; child = child; ref = ref; places = key.1; order = key.2; deed = deed; moves = moves }

made_by : (tree : ℕ) (moves : List (Row × Row)) (child : Table) (ref : Reference) (deed : Option Deed) (key : Option ParentKey) (w : Work) → work_by 0 tree moves child ref deed key ≡ Some w
    → (d : Deed) × (k : ParentKey) × (key ≡ Some k) × (w ≡ record { depth = 0; child = child; ref = ref; places = k.1; order = k.2; deed = d; moves = moves })
made_by tree moves child ref None key w e = absurd (let x = e in cc)
made_by tree moves child ref (Some d) None w e = absurd (let x = e in cc)
made_by tree moves child ref (Some d) (Some k) w e = (d, k, refl, go ((k.0 == tree) && list_any (loses k.2 k.1) moves) e)
  where
    go : (b : Bool) → cond {A = Option Work} b (Some (record { depth = 0; child = child; ref = ref; places = k.1; order = k.2; deed = d; moves = moves })) None ≡ Some w → w ≡ record { depth = 0; child = child; ref = ref; places = k.1; order = k.2; deed = d; moves = moves }
    go true e = cc
    go false e = absurd (let x = e in cc)

has_optional : {X : Type 0} (o : Option X) (xs : List X) (x : X) → Has (cons_option o xs) x → (o ≡ Some x) ⊎ Has xs x
has_optional None xs x h = inr h
has_optional (Some y) xs x (inl e) = inl (ap Some (sym e))
has_optional (Some y) xs x (inr h) = inr h

module _ (schema : Schema) (tree : ℕ) (olds : List Row) (w : Work) where
  refs_set : (child : Table) (refs : List Reference) → Has (filter_map (work_for schema Enforced 0 tree olds [] child) refs) w → (ref : Reference) × Has refs ref × (work_for schema Enforced 0 tree olds [] child ref ≡ Some w)
  refs_set child [] h = absurd h
  refs_set child (r ∷ rs) h = elim (has_optional _ _ w h) [
    | inl here ↦ (r, inl refl, here)
    | inr later ↦ let it = refs_set child rs later in (it.0, inr it.1, it.2)
  ]

  tables_set : (tables : List Table) → Has (flat_map (λ child. filter_map (work_for schema Enforced 0 tree olds [] child) child.references) tables) w
      → (child : Table) × Has tables child × (ref : Reference) × Has child.references ref × (work_for schema Enforced 0 tree olds [] child ref ≡ Some w)
  tables_set [] h = absurd h
  tables_set (t ∷ ts) h = elim (has_either _ _ w h) [
    | inl here ↦ let it = refs_set t t.references here in (t, inl refl, it.0, it.1, it.2)
    | inr later ↦ let it = tables_set ts later in (it.0, inr it.1, it.2, it.3, it.4)
  ]

  pub sets_off : Has (works schema Enforced 0 tree olds []) w → SetsOff schema (pairs olds []) w
  sets_off h =
      let it = tables_set schema.tables h in
      let made = made_by tree (pairs olds []) it.0 it.2 (deed_for Enforced true it.2) (parent_key schema.tables it.2) w it.4 in
      record { child = it.0; listed = it.1; ref = it.2; refers = it.3; key = made.1; key_is = made.2; deed = made.0; is = made.3 }

-- ---- no row is a child

childless_ids : (mid : Trees) (w : Work) → ((r : Row) → Has (mid w.child.tree) r → list_any (is_child_of w r) w.moves ≡ false) → (ids : List ℤ) → AreChildren mid w ids → ids ≡ []
childless_ids mid w none [] h = refl
childless_ids mid w none (id ∷ ids) h = let it = h.sound id (inl refl) in absurd (true≢false (sym it.2 ∙ none it.0 it.1))

pub removes_childless : (schema : Schema) (table : Table) (terms : List Term) (params : Row) (old new : State) (count : ℕ) → HaveIds (old.now.trees table.tree) → (h : Edits schema table terms (col 1 0 ∷ []) 0 (λ _. []) taken_by params old new count)
    → ((mid : Trees) → Applies schema Enforced old.now.trees (edit_of old.now.trees table (ids_of h.rows) Given 0 []) mid
    → (w : Work) → SetsOff schema (pairs (taken_by old.now.trees (edit_of old.now.trees table (ids_of h.rows) Given 0 [])) []) w → (r : Row) → Has (mid w.child.tree) r → list_any (is_child_of w r) w.moves ≡ false)
    → Removes schema table (passes params terms) old new
removes_childless schema table terms params old new count ids h childless =
    let db = old.now.trees in
    let edit = edit_of db table (ids_of h.rows) Given 0 [] in
    let applied : Applies schema Enforced db edit new.now.trees = no_actions schema db new.now.trees edit (λ mid a w has. childless_ids mid w (childless mid a w (sets_off schema table.tree (taken_by db edit) w has))) h.wrote in
    record { ran = h.ran; rows = applied.rows ∙ removed (passes params terms) (λ r. column r 0 ∷ []) (λ r. refl) (db table.tree) h.rows ids h.shown; tables = applied.tables }

-- ---- the rows that were taken out passed

from_all : {X : Type 0} (P : X → Type 0) (xs : List X) → All P xs → AllByRecursion P xs
from_all P [] h = tt
from_all P (x ∷ xs) h = (h 0 x (omega arith), from_all P xs (λ i d low. h (suc i) d (omega arith)))

to_all : {X : Type 0} (P : X → Type 0) (xs : List X) → AllByRecursion P xs → All P xs
to_all P [] h i d low = absurd (omega arith)
to_all P (x ∷ xs) h zero d low = h.0
to_all P (x ∷ xs) h (suc i) d low = to_all P xs h.1 i d (omega arith)

pub taken_passed : (P : Row → Type 0) (p : Row → Bool) (rows shown : List Row) → HaveIds rows → IsPermutation (map (λ r. column r 0 ∷ []) (filter p rows)) shown → ((r : Row) → Has rows r → p r ≡ true → P r)
    → AllByRecursion P (map (row_at rows) (ids_of shown))
taken_passed P p rows shown ids same each = back shown (from_all Q shown (All-permutation Q _ shown same (to_all Q _ (images (filter p rows) (λ r h. h)))))
  where
    Q : Row → Type 0
    Q s = P (row_at rows (id_in (rowid s)))

    back : (xs : List Row) → AllByRecursion Q xs → AllByRecursion P (map (row_at rows) (ids_of xs))
    back [] h = tt
    back (x ∷ xs) h = (h.0, back xs h.1)

    by_id : (r : Row) → Has rows r → row_at rows (id_in (rowid r)) ≡ r
    by_id r has = ap (λ o. unwrap_or o []) (find_id rows r (id_in (rowid r)) ids has (rowid_is rows r ids has))

    images : (xs : List Row) → ((r : Row) → Has xs r → Has (filter p rows) r) → AllByRecursion Q (map (λ r. column r 0 ∷ []) xs)
    images [] within = tt
    images (x ∷ xs) within =
        let it = has_filtered p rows x (within x (inl refl)) in
        (subst P (sym (by_id x it.0)) (each x it.0 it.1), images xs (λ r h. within r (inr h)))
