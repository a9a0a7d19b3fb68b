-- A content is taken out.
use Rattle.std.proofs.Common.{◌≡◌, ℕ, ℤ, List, [], ◌∷◌, Bool, true, false, not, Ok, Err, Result, OnOk, refl, sym, ap, subst, ◌∙◌}
use Rattle.std.specs.Prelude.{find, filter, option_map}
use Rattle.std.specs.Ordering.{int_eq}
use Rattle.sqlite.specs.declared.types.Value.TheVariants.{Int}
use Rattle.sqlite.specs.Order.{Row, column}
use Rattle.sqlite.specs.Table.{Table}
use Rattle.sqlite.specs.Schema.{Schema}
use Rattle.sqlite.specs.Tree.{rowid, has_rowid}
use Rattle.sqlite.specs.State.{State, Executes, ExecutesInside}
use Rattle.sqlite.specs.declared.error.Error.{Error}
use Rattle.sqlite_rules.specs.Lists.{Has}
use Rattle.sqlite_rules.proofs.ListLemmas.{all_from}
use Rattle.sqlite_trees.proofs.ListLemmas.{filter_same, all-filter, ascending-filter}
use Rattle.sqlite_trees.proofs.TreeLemmas.{IsShaped-filter}
use Rattle.sqlite_trees.specs.declared.store.Shape.TheVariants as shape
use Rattle.store_schema.specs.Schema.{contents_table}
use Rattle.store_schema.specs.Rows.{bytes_at, HaveIds}
use Rattle.store_schema.specs.Layout.{tree_of, placed}
use Rattle.store_schema.proofs.Lists.{find_left, mapped_none}
use Rattle.store_schema.proofs.Ids.{rowid_test, rowid_is, rowid_passed, int_eq-sym}
use Rattle.store_schema.proofs.Selects.{is_int, one_test}
use Rattle.store_schema.proofs.Writes.{passes, deletes, removes, Removes as Takes, keeps_others}
use Rattle.store_contents.specs.Texts.{remove_text, by_id}
use Rattle.store_contents.specs.Contents.{HoldsContents, IsInside, KnowsContents, IsContentRow, AreContentRows, AreApart, Removes, content_rows, has_bytes}

-- the test of the WHERE
pub by_id_passes : (rows : List Row) (id : ℤ) (r : Row) → HaveIds rows → Has rows r → passes (Int id ∷ []) by_id r ≡ has_rowid id r
by_id_passes rows id r ids has = one_test _ _ (is_int (column r 0) _ id (rowid_is rows r ids has))

pub removed_content : (old new : State) (id : ℤ) (n : ℕ) → HoldsContents old.now → Executes remove_text (Int id ∷ []) old new (Ok n) → Removes old.now new.now id × HoldsContents new.now
removed_content old new id n is h = (
  record {
    contents = λ i. ap (option_map (λ r. bytes_at r 4)) (ap (find (has_rowid i)) rows ∙ find_left (has_rowid id) (has_rowid i) (int_eq id i) (content_rows old.now) (agrees i)) ∙ mapped_none (λ r. bytes_at r 4) (int_eq id i) _;
    others = keeps_others contents_table old.now new.now table.tree refl it.ran.schema_is it.tables;
  },
  record {
    known = subst KnowsContents (sym it.ran.schema_is) is.known;
    rows = subst AreContentRows (sym rows) (all-filter IsContentRow left (content_rows old.now) is.rows);
    apart = subst AreApart (sym rows) (ascending-filter (λ a b. has_bytes (bytes_at a 4) b ≡ false) left (content_rows old.now) is.apart);
    ids = subst HaveIds (sym rows) (IsShaped-filter shape.Table left (content_rows old.now) is.ids);
  },
)
  where
    schema : Schema
    schema = old.now.schema

    table : Table
    table = placed schema contents_table

    left : Row → Bool
    left r = not (has_rowid id r)

    it : Takes schema table (passes (Int id ∷ []) by_id) old new
    it = removes schema table by_id (Int id ∷ []) old new n is.ids is.known.alone (deletes schema is.known.stands.at table is.known.stands.place is.known.stands.stored remove_text by_id (Int id ∷ []) old new refl n h is.known.texts.remove)

    rows : content_rows new.now ≡ filter left (content_rows old.now)
    rows = ap (λ s. new.now.trees (tree_of s contents_table)) it.ran.schema_is ∙ it.rows ∙ filter_same _ _ _ (all_from _ _ (λ r has. ap not (by_id_passes (content_rows old.now) id r is.ids has)))

    agrees : (i : ℤ) (r : Row) → Has (content_rows old.now) r → has_rowid i r ≡ true → has_rowid id r ≡ int_eq id i
    agrees i r has e = rowid_test id i (rowid r) (rowid_passed (content_rows old.now) r i is.ids has e) ∙ int_eq-sym i id

-- the same of a call's result, inside a transaction
pub removed_by : (old new : State) (id : ℤ) (r : Result ℕ Error) → HoldsContents old.now → ExecutesInside 0 remove_text (Int id ∷ []) old new r → OnOk r (Removes old.now new.now id) × OnOk r (IsInside new)
removed_by old new id (Err e) is h = (tt, tt)
removed_by old new id (Ok n) is h = let it = removed_content old new id n is h.0 in (it.0, record { inside = h.1.mode; contents = it.1 })
