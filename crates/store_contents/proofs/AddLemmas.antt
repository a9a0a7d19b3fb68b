-- A content is put in.
use Rattle.std.proofs.Common.{◌≡◌, ◌≢◌, inl, inr, ℕ, ℤ, pos, List, [], ◌∷◌, ◌++◌, Bool, true, false, cond, None, Some, Ok, Err, Result, IfOk, length, refl, sym, ap, subst, ◌∙◌}
use Rattle.std.specs.Prelude.{find, option_map}
use Rattle.std.specs.List.{AllByRecursion}
use Rattle.sqlite.specs.declared.types.Value.TheVariants.{Null, Int, Text, Blob}
use Rattle.sqlite.specs.Order.{Row}
use Rattle.sqlite.specs.Ops.{unary}
use Rattle.sqlite.specs.Table.{Table}
use Rattle.sqlite.specs.Schema.{Schema}
use Rattle.sqlite.specs.Cast.{cast_row}
use Rattle.sqlite.specs.Tree.{has_rowid}
use Rattle.sqlite.specs.Effect.{Database}
use Rattle.sqlite.specs.State.{State, Executes}
use Rattle.sqlite_rules.specs.Lists.{Has}
use Rattle.sqlite_rules.proofs.ListLemmas.{all_from}
use Rattle.store_schema.specs.Schema.{contents_table}
use Rattle.store_schema.specs.Rows.{bytes_at, HaveIds}
use Rattle.store_schema.specs.Layout.{tree_of, placed}
use Rattle.store_schema.proofs.Lists.{bytes_eq_true, bytes_eq-sym, all_middle, ascending_middle, find_middle, mapped}
use Rattle.store_schema.proofs.Ids.{rowid_test, rowid_is, find_id, int_eq_is, not_taken_found}
use Rattle.store_schema.proofs.Writes.{either, inserts, adds_row, AddsRow, keeps_others}
use Rattle.sqlite_rules.specs.Edit.{id_in}
use Rattle.store_contents.specs.Texts.{add_text, add_terms}
use Rattle.store_contents.specs.Contents.{HoldsContents, KnowsContents, IsContentRow, AreContentRows, AreApart, Adds, FindsOrAdds, content_rows, has_bytes, bytes_in, sha256_text}
use Rattle.store_contents.specs.declared.content_id.ContentId.{ContentId}

abbrev pub content_columns : List ℕ → List ℕ → Row
content_columns sha256 bytes = Null ∷ Text sha256 ∷ Int (pos (length bytes)) ∷ Blob bytes ∷ []

cast_content : (schema : Schema) (sha256 bytes : List ℕ) → cast_row (placed schema contents_table) (Null ∷ content_columns sha256 bytes) ≡ Null ∷ content_columns sha256 bytes
unfolding unary
cast_content schema sha256 bytes = rw (either, either)

-- no row has bytes that no content has
pub none_has : (db : Database) (bytes : List ℕ) → HaveIds (content_rows db) → ((i : ℤ) → bytes_in db i ≢ Some bytes) → AllByRecursion (λ r. has_bytes bytes r ≡ false) (content_rows db)
none_has db bytes ids nowhere = all_from _ (content_rows db) (λ r has. away r has (has_bytes bytes r) refl)
  where
    away : (r : Row) → Has (content_rows db) r → (b : Bool) → has_bytes bytes r ≡ b → b ≡ false
    away r has false e = refl
    away r has true e = absurd (nowhere (id_in (Rattle.sqlite.specs.Tree.rowid r)) (ap (option_map (λ x. bytes_at x 4)) (find_id (content_rows db) r _ ids has (rowid_is (content_rows db) r ids has)) ∙ ap Some (bytes_eq_true _ _ e)))

pub added : (old new : State) (sha256 bytes : List ℕ) (n : ℕ) → HoldsContents old.now → sha256 ≡ sha256_text bytes → ((i : ℤ) → bytes_in old.now i ≢ Some bytes)
    → Executes add_text (Text sha256 ∷ Int (pos (length bytes)) ∷ Blob bytes ∷ []) old new (Ok n) → Adds old.now new.now new.last_rowid bytes × HoldsContents new.now
added old new sha256 bytes n is hashed nowhere h = (
  record {
    nowhere = nowhere;
    free = ap (option_map (λ r. bytes_at r 4)) free;
    contents = λ i. ap (option_map (λ r. bytes_at r 4)) (ap (find (has_rowid i)) rows ∙ between i (has_rowid i row) refl ∙ ap (λ rs. cond (has_rowid i row) (Some row) (find (has_rowid i) rs)) (sym p.olds_are))
        ∙ mapped (λ r. bytes_at r 4) (has_rowid i row) row _ ∙ ap (λ t. cond t (Some bytes) (bytes_in old.now i)) (rowid_test i new.last_rowid (Int new.last_rowid) refl);
    others = keeps_others contents_table old.now new.now table.tree refl it.ran.schema_is it.tables;
  },
  record {
    known = subst KnowsContents (sym it.ran.schema_is) is.known;
    rows = subst AreContentRows (sym rows) (all_middle IsContentRow row p.before p.after (subst AreContentRows p.olds_are is.rows) (record { sha256 = refl; size = refl; bytes = refl; hashed = hashed }));
    apart = subst AreApart (sym rows) (ascending_middle (λ a b. has_bytes (bytes_at a 4) b ≡ false) (λ a b e. bytes_eq-sym (bytes_at a 4) (bytes_at b 4) ∙ e) row p.before p.after
        (subst AreApart p.olds_are is.apart) (subst (AllByRecursion (λ r. has_bytes bytes r ≡ false)) p.olds_are (none_has old.now bytes is.ids nowhere)));
    ids = subst HaveIds (sym here) (it.ids is.ids);
  },
)
  where
    schema : Schema
    schema = old.now.schema

    table : Table
    table = placed schema contents_table

    it : AddsRow schema table (content_columns sha256 bytes) old new
    it = adds_row schema table (content_columns sha256 bytes) old new (cast_content schema sha256 bytes)
        (inserts schema is.known.stands.at table is.known.stands.place add_text (Text sha256 ∷ Int (pos (length bytes)) ∷ Blob bytes ∷ []) old new refl refl refl add_terms 5 is.known.texts.add n h)

    p : Rattle.store_schema.specs.Rows.PutsRow (content_rows old.now) (new.now.trees table.tree) new.last_rowid (content_columns sha256 bytes)
    p = it.puts

    row : Row
    row = Int new.last_rowid ∷ content_columns sha256 bytes

    here : content_rows new.now ≡ new.now.trees table.tree
    here = ap (λ s. new.now.trees (tree_of s contents_table)) it.ran.schema_is

    rows : content_rows new.now ≡ p.before ++ row ∷ p.after
    rows = here ∙ p.news_are

    free : find (has_rowid new.last_rowid) (content_rows old.now) ≡ None
    free = not_taken_found (content_rows old.now) new.last_rowid (content_columns sha256 bytes) it.fresh

    between : (i : ℤ) (b : Bool) → has_rowid i row ≡ b → find (has_rowid i) (p.before ++ row ∷ p.after) ≡ cond (has_rowid i row) (Some row) (find (has_rowid i) (p.before ++ p.after))
    between i false e = find_middle (has_rowid i) row p.before p.after (inr e)
    between i true e =
        let same : new.last_rowid ≡ i = int_eq_is new.last_rowid i (sym (rowid_test i new.last_rowid (Int new.last_rowid) refl) ∙ e) in
        find_middle (has_rowid i) row p.before p.after (inl (ap (find (has_rowid i)) (sym p.olds_are) ∙ subst (λ j. find (has_rowid j) (content_rows old.now) ≡ None) same free))

-- ---- a call that found nothing, and then one that adds

pub or_adds : {E : Type 0} (old mid new : Database) (bytes : List ℕ) (r : Result ContentId E) → mid ≡ old → IfOk r (λ it. Adds mid new it.id bytes) → IfOk r (λ it. FindsOrAdds old new it.id bytes)
or_adds old mid new bytes (Ok it) e h = inr (subst (λ (d : Database). Adds d new it.id bytes) e h)
or_adds old mid new bytes (Err x) e h = tt
