-- What an INSERT, an UPDATE and a DELETE of one table write, over any schema.
use Rattle.std.proofs.Common.{◌≡◌, ◌≢◌, ◌⊎◌, inl, inr, ℕ, zero, suc, ℤ, List, [], ◌∷◌, ◌++◌, map, length, slice_get, Bool, true, false, cond, not, None, Some, Ok, Err, Result, refl, sym, ap, subst, ◌∙◌}
use Rattle.std.specs.Prelude.{◌^◌, filter, nat_le, Option, MatchBool, unwrap_or, IsTrue, ◌/◌, ◌&&◌, ◌==◌}
use Rattle.std.specs.List.{AllByRecursion, list_all, filter_map}
use Rattle.std.specs.Ordering.{is_lt, int_cmp}
use Rattle.std.specs.declared.cmp.Ordering.{Ordering}
use Rattle.std.specs.declared.cmp.Ordering.TheVariants.{Less, Equal, Greater}
use Rattle.std.specs.List.Sorted.{IsPermutation}
use Rattle.sqlite.specs.declared.types.Value.{Value}
use Rattle.sqlite.specs.declared.types.Value.TheVariants.{Null, Int}
use Rattle.sqlite.specs.Order.{Row, column, value_cmp}
use Rattle.sqlite.specs.Schema.{Schema}
use Rattle.sqlite.specs.Table.{Table}
use Rattle.sqlite.specs.Term.{Term, col, eval_all, holds}
use Rattle.sqlite.specs.Program.{overlay}
use Rattle.sqlite.specs.Command.TheVariants.{Update, Delete, Insert}
use Rattle.sqlite.specs.Source.TheVariants.{Values}
use Rattle.sqlite.specs.Edit.{Edit, edit_of}
use Rattle.sqlite.specs.Rowids.TheVariants.{Given, Chosen, Above}
use Rattle.sqlite.specs.Does.{Tally, Does, AtPlace}
use Rattle.sqlite.specs.Rows.{Part, Written, Task, Outcome, Counts, CountsIn, sequence, stamped, rowids_for, count_of, last_id}
use Rattle.sqlite.specs.Tree.{Trees, rowid, put_row}
use Rattle.sqlite_trees.specs.View.{is_int}
use Rattle.sqlite_trees.proofs.TreeLemmas.{IsShaped-put_row}
use Rattle.sqlite_trees.proofs.ListLemmas.{flat_map_none}
use Rattle.sqlite.specs.Cast.{cast_row}
use Rattle.sqlite.specs.Effect.{value_rows}
use Rattle.sqlite_schema.specs.Rules.{ParentKey, parent_key}
use Rattle.sqlite_schema.specs.declared.schema.Reference.{Reference}
use Rattle.sqlite_rules.specs.declared.action.Deed.{Deed}
use Rattle.sqlite_rules.specs.declared.error.Refusal.{Refusal}
use Rattle.sqlite_rules.specs.Calls.{ids_of}
use Rattle.sqlite_rules.specs.Edit.{Applies, taken_by, with_rowid, next_rowid, is_taken, id_in}
use Rattle.sqlite_rules.specs.Lists.{Has}
use Rattle.sqlite_rules.specs.Action.{Writes as Puts, Work, works, work_by, work_for, deed_for, AreChildren, ActsOn, Leads}
use Rattle.sqlite_schema.specs.declared.schema.Keys.TheVariants.{Enforced}
use Rattle.sqlite.specs.Listing.{understood}
use Rattle.sqlite.specs.Effect.{Database, IsDatabase}
use Rattle.sqlite.specs.State.{State, mode_of, Executes, ExecutesInside, Shows, KeepsCommit}
use Rattle.sqlite.specs.declared.error.Error.{Error}
use Rattle.sqlite.proofs.Callers.{statement_of, runs_as, one_step}
use Rattle.store_schema.specs.Rows.{HaveIds, PutsRow}
use Rattle.store_schema.specs.Layout.{Means, select_from, KeepsOthers, Stands, placed, tree_of, rows_of}
use Rattle.store_schema.proofs.Selects.{means_command, stored_here, answer_rows, chosen, commit_left}
use Rattle.store_schema.proofs.Removals.{removed}

-- ---- the parts of a statement

-- a part that gave a value did not stop on the way
pub went : {B E R : Type 0} {b : B} {Stops : E → Type 0} → ((stop : E) × Stops stop × (Ok b ≡ Err stop)) ⊎ R → R
went (inl stopped) = absurd (let e = stopped.2 in cc)
went (inr on) = on

pub same_value : {B E : Type 0} {a b : B} → ◌≡◌ {A = Result B E} (Ok a) (Ok b) → a ≡ b
same_value e = cc

pub at_place : {X A : Type 0} (P : X → Part A) (o : Option X) (x : X) (out : Result A (Option Error)) → o ≡ Some x → AtPlace P o out → P x out
at_place P None x out e h = absurd cc
at_place P (Some y) x out e h = let same : y ≡ x = cc in subst (λ z. P z out) same h

-- the test of the WHERE
abbrev pub passes : Row → List Term → Row → Bool
passes params terms r = list_all (holds (params ∷ r ∷ [])) terms

-- what a statement shows of the connection, beside the tables
pub record Ran (old new : State) (schema : Schema) : Type 0 where
  pub schema_is : new.now.schema ≡ schema
  pub sound : IsDatabase new.now
  pub shown : Shows old new new.now (cond old.in_transaction old.committed new.now) old.in_transaction

-- the rows that are shown are taken out, and these put in
pub record Edits (schema : Schema) (table : Table) (terms project : List Term) (from : ℕ) (news : List Row → List Row) (tally : Trees → Edit → List Row) (params : Row) (old new : State) (count : ℕ) : Type 0 where
  pub ran : Ran old new schema
  pub rows : List Row
  pub shown : IsPermutation (map (λ r. eval_all project (params ∷ r ∷ [])) (chosen params terms (old.now.trees table.tree))) rows
  pub wrote : Puts schema Enforced old.now.trees (edit_of old.now.trees table (ids_of rows) Given from (news rows)) (Ok new.now.trees)
  pub counted : count ≡ length (tally old.now.trees (edit_of old.now.trees table (ids_of rows) Given from (news rows)))

module _ (schema : Schema) (at : ℕ) (table : Table) (place : slice_get schema.tables at ≡ Some table) (stored : nat_le (2 ^ 31) table.tree ≡ false) (text : List ℕ) (terms : List Term) (params : Row) (old new : State)
    (has : old.now.schema ≡ schema) (count : ℕ) (h : Executes text params old new (Ok count)) where
  pub deletes : Means schema text (Delete at (record { lets = []; body = select_from table.tree terms (col 1 0 ∷ []) })) → Edits schema table terms (col 1 0 ∷ []) 0 (λ _. []) taken_by params old new count
  deletes means =
      let db = old.now.trees in
      let q = select_from table.tree terms (col 1 0 ∷ []) in
      let w = runs_as text params old new schema has _ (means_command schema text _ means) means.plain count h in
      let here = at_place _ (slice_get schema.tables at) table _ place (subst (λ s. Does old.step_limit (mode_of old) params (record old.now { schema = s }) (statement_of text (understood schema text)) None (Delete at (record { lets = []; body = q })) (Ok (w.tally, new.now))) has w.changed) in
      let done = went here in
      let now = ap (λ (p : Tally × Database). p.1) (same_value (went (went done.2).2).2) in
      let found = went done.1 in
      let wrote = went found.2 in
      let after : new.now.trees ≡ wrote.0 = ap (λ (d : Database). d.trees) now ∙ ap (λ (it : Written). it.trees) (same_value wrote.2) in
      record {
        ran = record { schema_is = ap (λ (d : Database). d.schema) now; sound = w.sound; shown = w.shown };
        rows = found.0;
        shown = subst (λ rs. IsPermutation (map (λ r. eval_all (col 1 0 ∷ []) (params ∷ r ∷ [])) (chosen params terms rs)) found.0) (stored_here table.tree db stored) (answer_rows table.tree terms _ (overlay db []) params found.0 (found.1.answer Null));
        wrote = subst (λ t. Puts schema Enforced db (edit_of db table (ids_of found.0) Given 0 []) (Ok t)) (sym after) wrote.1;
        counted = w.counted ∙ ap (λ (p : Tally × Database). unwrap_or p.0.rows 0) (same_value (went (went done.2).2).2) ∙ ap (λ (it : Written). length it.rows) (same_value wrote.2);
      }

  pub updates : (project : List Term) → Means schema text (Update at (record { lets = []; body = select_from table.tree terms project })) → Edits schema table terms project 1 (λ rows. rows) (λ _ e. e.news) params old new count
  updates project means =
      let db = old.now.trees in
      let q = select_from table.tree terms project in
      let w = runs_as text params old new schema has _ (means_command schema text _ means) means.plain count h in
      let here = at_place _ (slice_get schema.tables at) table _ place (subst (λ s. Does old.step_limit (mode_of old) params (record old.now { schema = s }) (statement_of text (understood schema text)) None (Update at (record { lets = []; body = q })) (Ok (w.tally, new.now))) has w.changed) in
      let done = went here in
      let now = ap (λ (p : Tally × Database). p.1) (same_value (went (went done.2).2).2) in
      let found = went done.1 in
      let wrote = went found.2 in
      let after : new.now.trees ≡ wrote.0 = ap (λ (d : Database). d.trees) now ∙ ap (λ (it : Written). it.trees) (same_value wrote.2) in
      record {
        ran = record { schema_is = ap (λ (d : Database). d.schema) now; sound = w.sound; shown = w.shown };
        rows = found.0;
        shown = subst (λ rs. IsPermutation (map (λ r. eval_all project (params ∷ r ∷ [])) (chosen params terms rs)) found.0) (stored_here table.tree db stored) (answer_rows table.tree terms _ (overlay db []) params found.0 (found.1.answer Null));
        wrote = subst (λ t. Puts schema Enforced db (edit_of db table (ids_of found.0) Given 1 found.0) (Ok t)) (sym after) wrote.1;
        counted = w.counted ∙ ap (λ (p : Tally × Database). unwrap_or p.0.rows 0) (same_value (went (went done.2).2).2) ∙ ap (λ (it : Written). length it.rows) (same_value wrote.2);
      }

-- ---- a DELETE

-- the rows that pass are gone, and each other table is as it was
pub record Removes (schema : Schema) (table : Table) (p : Row → Bool) (old new : State) : Type 0 where
  pub ran : Ran old new schema
  pub rows : new.now.trees table.tree ≡ filter (λ r. not (p r)) (old.now.trees table.tree)
  pub tables : AllByRecursion (λ t. t.tree ≢ table.tree → new.now.trees t.tree ≡ old.now.trees t.tree) schema.tables

-- where each action finds no row, the write is its one step
pub no_actions : (schema : Schema) (db next : Trees) (edit : Edit) → ((mid : Trees) → Applies schema Enforced db edit mid → (w : Work) → Has (works schema Enforced 0 edit.table.tree (taken_by db edit) edit.news) w → (ids : List ℤ) → AreChildren mid w ids → ids ≡ [])
    → Puts schema Enforced db edit (Ok next) → Applies schema Enforced db edit next
no_actions schema db next edit none (inl refused) = absurd (let e = refused.2 in cc)
no_actions schema db next edit none (inr (inl big)) = absurd (let e = big.3 in cc)
no_actions schema db next edit none (inr (inr took)) = subst (Applies schema Enforced db edit) (settled took.2.0 _ (none took.0 took.1) took.2.1) took.1
  where
    last_has : (below : List Work) (w : Work) → Has (below ++ w ∷ []) w
    last_has [] w = inl refl
    last_has (x ∷ below) w = inr (last_has below w)

    front_has : (below : List Work) (w x : Work) → Has below x → Has (below ++ w ∷ []) x
    front_has [] w x h = absurd h
    front_has (y ∷ below) w x (inl e) = inl e
    front_has (y ∷ below) w x (inr h) = inr (front_has below w x h)

    acted : {P : Type 0} (E : Option Refusal) (b : Bool) → MatchBool b P (◌≡◌ {A = Result Trees (Option Refusal)} (Ok next) (Err E)) → P
    acted E true h = h
    acted E false h = absurd (let e = h in cc)

    settled : (n : ℕ) (stack : List Work) → ((w : Work) → Has stack w → (ids : List ℤ) → AreChildren took.0 w ids → ids ≡ []) → Leads schema Enforced n took.0 stack (Ok next) → took.0 ≡ next
    settled zero stack left h = same_value (sym h.1)
    settled (suc n) stack left h =
        let below = h.0 in
        let w = h.1 in
        let left' = subst (λ st. (x : Work) → Has st x → (ids : List ℤ) → AreChildren took.0 x ids → ids ≡ []) h.2 left in
        let it : (ids : List ℤ) × AreChildren took.0 w ids × ActsOn schema Enforced (Leads schema Enforced n) took.0 w below (Ok next) ids = acted _ _ h.3 in
        let empty = left' w (last_has below w) it.0 it.1 in
        settled n below (λ x there. left' x (front_has below w x there)) (subst (ActsOn schema Enforced (Leads schema Enforced n) took.0 w below (Ok next)) empty it.2)

-- where no row goes with a row of the table
pub removes : (schema : Schema) (table : Table) (terms : List Term) (params : Row) (old new : State) (count : ℕ) → HaveIds (old.now.trees table.tree) → ((olds : List Row) → works schema Enforced 0 table.tree olds [] ≡ [])
    → Edits schema table terms (col 1 0 ∷ []) 0 (λ _. []) taken_by params old new count → Removes schema table (passes params terms) old new
removes schema table terms params old new count ids alone h =
    let db = old.now.trees in
    let edit = edit_of db table (ids_of h.rows) Given 0 [] in
    let applied : Applies schema Enforced db edit new.now.trees = one_step schema Enforced db new.now.trees edit (alone (taken_by db edit)) h.wrote in
    record { ran = h.ran; rows = applied.rows ∙ removed (passes params terms) (λ r. column r 0 ∷ []) (λ r. refl) (db table.tree) h.rows ids h.shown; tables = applied.tables }

-- ---- an INSERT of one row with a rowid that is chosen

pub record Adds (schema : Schema) (table : Table) (rows : List Row) (old new : State) : Type 0 where
  pub ran : Ran old new schema
  pub wrote : Puts schema Enforced old.now.trees (edit_of old.now.trees table [] Chosen 0 rows) (Ok new.now.trees)
  pub last : new.last_rowid ≡ unwrap_or (last_id (edit_of old.now.trees table [] Chosen 0 rows).news) old.last_rowid

no_count : (task : Task) (db next : Trees) (counter : Option Row) (top : ℤ) → task.table.is_counted ≡ false → Counts task db counter top (Ok next) → next ≡ db
no_count task db next counter top e h =
    same_value (subst (λ x. MatchBool (cond x (is_lt (int_cmp (count_of counter) top)) false) (CountsIn task db counter top (sequence task.schema) (Ok next)) (◌≡◌ {A = Outcome Trees} (Ok next) (Ok db))) e h)

pub inserts : (schema : Schema) (at : ℕ) (table : Table) → slice_get schema.tables at ≡ Some table → (text : List ℕ) (params : Row) (old new : State) → old.now.schema ≡ schema → table.is_counted ≡ false → stamped table params ≡ params
    → (terms : List Term) (width : ℕ) → Means schema text (Insert at (Values terms width)) → (count : ℕ) → Executes text params old new (Ok count) → Adds schema table (value_rows params width (length terms / width) terms) old new
inserts schema at table place text params old new has uncounted bare terms width means count h =
    let db = old.now.trees in
    let w = runs_as text params old new schema has _ (means_command schema text _ means) means.plain count h in
    let here = at_place _ (slice_get schema.tables at) table _ place (subst (λ s. Does old.step_limit (mode_of old) params (record old.now { schema = s }) (statement_of text (understood schema text)) None (Insert at (Values terms width)) (Ok (w.tally, new.now))) has w.changed) in
    let done = went here in
    let tallied = same_value (went (went done.2).2).2 in
    let given = went done.1 in
    let counter = went given.2 in
    let wrote = went counter.2 in
    let counts = went wrote.2 in
    let rows : given.0 ≡ value_rows params width (length terms / width) terms = given.1.1 ∙ ap (λ p. value_rows p width (length terms / width) terms) bare in
    let chosen_ids : rowids_for table (count_of counter.0) ≡ Chosen = ap (λ b. cond b (Above (count_of counter.0)) Chosen) uncounted in
    let mid : counts.0 ≡ wrote.0 = no_count (record { limit = old.step_limit; keys = Enforced; schema = schema; table = table; params = params }) _ _ counter.0 _ uncounted counts.1 in
    let after : new.now.trees ≡ wrote.0 = ap (λ (p : Tally × Database). p.1.trees) tallied ∙ ap (λ (it : Written). it.trees) (same_value counts.2) ∙ mid in
    let last : w.tally.last ≡ last_id (edit_of db table [] (rowids_for table (count_of counter.0)) 0 given.0).news = ap (λ (p : Tally × Database). p.0.last) tallied ∙ ap (λ (it : Written). it.last) (same_value counts.2) in
    record {
      ran = record { schema_is = ap (λ (p : Tally × Database). p.1.schema) tallied; sound = w.sound; shown = w.shown };
      wrote = subst (λ rs. Puts schema Enforced db (edit_of db table [] Chosen 0 rs) (Ok new.now.trees)) rows
          (subst (λ ids. Puts schema Enforced db (edit_of db table [] ids 0 given.0) (Ok new.now.trees)) chosen_ids (subst (λ t. Puts schema Enforced db (edit_of db table [] (rowids_for table (count_of counter.0)) 0 given.0) (Ok t)) (sym after) wrote.1));
      last = w.last_rowid ∙ ap (λ o. unwrap_or o old.last_rowid) (last ∙ ap (λ ids. last_id (edit_of db table [] ids 0 given.0).news) chosen_ids ∙ ap (λ rs. last_id (edit_of db table [] Chosen 0 rs).news) rows);
    }

-- a row whose rowid is new goes between two others
placed_between : (new : Row) (rows : List Row) → is_taken rows new ≡ false → (before : List Row) × (after : List Row) × (rows ≡ before ++ after) × (put_row new rows ≡ before ++ new ∷ after)
placed_between new [] h = ([], [], refl, refl)
placed_between new (r ∷ rs) h = step (value_cmp (rowid r) (rowid new)) refl (placed_between new rs)
  where
    step : (o : Ordering) → value_cmp (rowid r) (rowid new) ≡ o → (is_taken rs new ≡ false → (before : List Row) × (after : List Row) × (rs ≡ before ++ after) × (put_row new rs ≡ before ++ new ∷ after))
        → (before : List Row) × (after : List Row) × (r ∷ rs ≡ before ++ after) × (put_row new (r ∷ rs) ≡ before ++ new ∷ after)
    step Less e more = let it = more (rw e at h) in (r ∷ it.0, it.1, ap (λ xs. r ∷ xs) it.2, rw e (ap (λ xs. r ∷ xs) it.3))
    step Equal e more = absurd (let f = rw e at h in cc)
    step Greater e more = ([], r ∷ rs, refl, rw e refl)

not_taken : (b c : Bool) → not b && c ≡ true → b ≡ false
not_taken true c e = absurd cc
not_taken false c e = refl

-- a value that a column takes as it is
pub either : (b : Bool) (x : Value) → cond b x x ≡ x
either true x = refl
either false x = refl

-- the row goes in under the next rowid, which is the last that was inserted, and each other table is as it was
pub record AddsRow (schema : Schema) (table : Table) (columns : Row) (old new : State) : Type 0 where
  pub ran : Ran old new schema
  pub puts : PutsRow (old.now.trees table.tree) (new.now.trees table.tree) new.last_rowid columns
  pub ids : HaveIds (old.now.trees table.tree) → HaveIds (new.now.trees table.tree)
  pub fresh : is_taken (old.now.trees table.tree) (Int new.last_rowid ∷ columns) ≡ false
  pub tables : AllByRecursion (λ t. t.tree ≢ table.tree → new.now.trees t.tree ≡ old.now.trees t.tree) schema.tables

-- a row that nothing takes out is no loss
pub none_lost : (schema : Schema) (tree : ℕ) (news : List Row) → works schema Enforced 0 tree [] news ≡ []
none_lost schema tree news = flat_map_none _ (λ child. each child child.references) schema.tables
  where
    nothing : (deed : Option Deed) (key : Option ParentKey) (child : Table) (ref : Reference) → work_by 0 tree [] child ref deed key ≡ None
    nothing None key child ref = refl
    nothing (Some deed) None child ref = refl
    nothing (Some deed) (Some key) child ref = go (key.0 == tree)
      where
        go : (b : Bool) → cond {A = Option Work} (b && false) (Some (record { depth = 0; child = child; ref = ref; places = key.1; order = key.2; deed = deed; moves = [] })) None ≡ None
        go true = refl
        go false = refl

    each : (child : Table) (refs : List Reference) → filter_map (work_for schema Enforced 0 tree [] news child) refs ≡ []
    each child [] = refl
    each child (r ∷ rs) = rw (nothing (deed_for Enforced (length news == 0) r) (parent_key schema.tables r) child r) (each child rs)

pub adds_row : (schema : Schema) (table : Table) (columns : Row) (old new : State) → cast_row table (Null ∷ columns) ≡ Null ∷ columns → Adds schema table ((Null ∷ columns) ∷ []) old new → AddsRow schema table columns old new
adds_row schema table columns old new cast h =
    let db = old.now.trees in
    let edit = edit_of db table [] Chosen 0 ((Null ∷ columns) ∷ []) in
    let applied : Applies schema Enforced db edit new.now.trees = one_step schema Enforced db new.now.trees edit (none_lost schema table.tree edit.news) h.wrote in
    let new_row = with_rowid Chosen (db table.tree) (cast_row table (Null ∷ columns)) in
    let is_row : new_row ≡ Int (next_rowid (db table.tree)) ∷ columns = ap (with_rowid Chosen (db table.tree)) cast in
    let last : new.last_rowid ≡ next_rowid (db table.tree) = h.last ∙ ap (λ r. id_in (rowid r)) is_row in
    let row_last : new_row ≡ Int new.last_rowid ∷ columns = is_row ∙ ap (λ i. Int i ∷ columns) (sym last) in
    let put = placed_between new_row (db table.tree) (not_taken _ _ applied.fresh) in
    record {
      ran = h.ran;
      puts = record { before = put.0; after = put.1; olds_are = put.2; news_are = applied.rows ∙ put.3 ∙ ap (λ r. put.0 ++ r ∷ put.1) row_last };
      ids = λ ids. subst HaveIds (sym applied.rows) (IsShaped-put_row new_row _ (subst (λ (r : Row). IsTrue (is_int (rowid r))) (sym is_row) refl) ids);
      fresh = ap (is_taken (db table.tree)) (sym row_last) ∙ not_taken _ _ applied.fresh;
      tables = applied.tables;
    }

-- ---- a statement that fails

-- inside a transaction no statement touches what is committed
pub keeps_by_execute : (held : ℕ) (sql : List ℕ) (params : Row) (old new : State) (r : Result ℕ Error) → ExecutesInside held sql params old new r → KeepsCommit old new
keeps_by_execute held sql params old new (Ok n) h = record { was_open = λ e. h.1.was_open; committed = λ e. h.1.committed_is }
keeps_by_execute held sql params old new (Err e) (inl h) = commit_left old new h.1
keeps_by_execute held sql params old new (Err e) (inr h) = commit_left old new (inl h.2)

-- ---- the same of a table that stands in the schema

-- the rows by the table's name, where the schema stays
pub rows_in : (old new : Database) (table other : Table) (stands : Stands old.schema other) → KeepsOthers table old new → tree_of old.schema other ≢ tree_of old.schema table → rows_of new other ≡ rows_of old other
rows_in old new table other stands keeps apart =
    ap (λ s. new.trees (tree_of s other)) keeps.schema ∙ at_tables old.schema.tables stands.at keeps.tables stands.place apart
  where
    at_tables : (tables : List Table) (at : ℕ) → AllByRecursion (λ t. t.tree ≢ tree_of old.schema table → new.trees t.tree ≡ old.trees t.tree) tables → slice_get tables at ≡ Some (placed old.schema other)
        → tree_of old.schema other ≢ tree_of old.schema table → new.trees (tree_of old.schema other) ≡ old.trees (tree_of old.schema other)
    at_tables [] at h e apart = absurd cc
    at_tables (t ∷ ts) zero h e apart = let same : t ≡ placed old.schema other = cc in subst (λ (x : Table). x.tree ≢ tree_of old.schema table → new.trees x.tree ≡ old.trees x.tree) same h.0 apart
    at_tables (t ∷ ts) (suc at) h e apart = at_tables ts at h.1 e apart

pub keeps_others : (table : Table) (old new : Database) (tree : ℕ) → tree ≡ tree_of old.schema table → new.schema ≡ old.schema → AllByRecursion (λ (t : Table). t.tree ≢ tree → new.trees t.tree ≡ old.trees t.tree) old.schema.tables → KeepsOthers table old new
keeps_others table old new tree e same h = record { schema = same; tables = subst (λ n. AllByRecursion (λ (t : Table). t.tree ≢ n → new.trees t.tree ≡ old.trees t.tree) old.schema.tables) e h }
