-- What a CREATE TABLE makes.
use Rattle.std.proofs.Common.{slice_get, ◌≡◌, ℕ, List, [], ◌∷◌, ◌++◌, false, None, Some, Ok, Err, Result, sym, ap, subst, ◌∙◌}
use Rattle.std.specs.List.{AllByRecursion}
use Rattle.sqlite.specs.Schema.{Schema}
use Rattle.sqlite.specs.Table.{Table}
use Rattle.sqlite.specs.Tree.{Trees}
use Rattle.sqlite.specs.Change.{created, indexed, next_tree, KeepsRows}
use Rattle.sqlite_schema.specs.declared.schema.Index.{Index}
use Rattle.sqlite.specs.Command.TheVariants.{CreateTable, CreateIndex}
use Rattle.sqlite.specs.Does.{Tally, Does, lacks_sequence}
use Rattle.sqlite.specs.Effect.{Database}
use Rattle.sqlite.specs.State.{State, Writes, Executes, mode_of}
use Rattle.sqlite.proofs.Callers.{statement_of, runs_as}
use Rattle.sqlite_resolve.specs.declared.compiled.Compiled.{Compiled}
use Rattle.sqlite_resolve.specs.declared.error.CompileError.{CompileError}
use Rattle.store_schema.specs.Making.{MakesTable, MakesIndex, Grows, GrowsIndex, IsEmptyWith, statement_in}
use Rattle.store_schema.proofs.Selects.{means_command}
use Rattle.store_schema.proofs.Writes.{went, same_value, at_place}

pub statement_is : (text : List ℕ) (r : Result Compiled CompileError) → statement_in text r ≡ Some text → statement_of text r ≡ text
statement_is text (Ok c) e = cc
statement_is text (Err x) e = absurd cc

all_kept : (olds news : Trees) (tables : List Table) → KeepsRows tables olds news → AllByRecursion (λ (t : Table). olds t.tree ≡ []) tables → AllByRecursion (λ (t : Table). news t.tree ≡ []) tables
all_kept olds news [] k h = tt
all_kept olds news (t ∷ ts) k h = (k.0 ∙ h.0, all_kept olds news ts k.1 h.1)

all_pushed : (news : Trees) (tables : List Table) (last : Table) → AllByRecursion (λ (t : Table). news t.tree ≡ []) tables → news last.tree ≡ [] → AllByRecursion (λ (t : Table). news t.tree ≡ []) (tables ++ last ∷ [])
all_pushed news [] last h e = (e, tt)
all_pushed news (t ∷ ts) last h e = (h.0, all_pushed news ts last h.1 e)

pub grows : (schema : Schema) (table : Table) (text : List ℕ) (old new : State) (count : ℕ) → MakesTable schema text table → old.now.schema ≡ schema → Executes text [] old new (Ok count) → Grows schema table old.now new.now
grows schema table text old new count it has h =
    let w = subst (λ t. Writes old new None CreateTable t [] count) (statement_is text _ it.whole) (runs_as text [] old new schema has CreateTable (means_command schema text CreateTable it.means) it.means.plain count h) in
    let all = went w.changed in
    let first = went all.1 in
    let made = first.1 in
    let both : Ok made.table ≡ Ok table = sym made.defined ∙ it.defined in
    let same : made.table ≡ table = cc in
    let schema_is : first.0.schema ≡ created schema table = made.is ∙ ap (λ s. created s made.table) has ∙ ap (created schema) same in
    let plain : lacks_sequence first.0.schema ≡ false = ap lacks_sequence schema_is ∙ it.uncounted in
    let now : new.now ≡ first.0 = ap (λ (p : Tally × Database). p.1) (same_value all.2) ∙ same_value (rw plain at first.2) in
    record {
      schema_is = ap (λ (d : Database). d.schema) now ∙ schema_is;
      empty = ap (λ (d : Database). d.trees (next_tree schema)) now ∙ subst (λ s. first.0.trees (next_tree s) ≡ []) has made.empty;
      kept = subst (λ (d : Database). KeepsRows schema.tables old.now.trees d.trees) (sym now) (subst (λ s. KeepsRows s.tables old.now.trees first.0.trees) has made.others);
    }

pub makes_table : (schema : Schema) (table : Table) (text : List ℕ) (old new : State) (count : ℕ) → MakesTable schema text table → IsEmptyWith schema old.now → Executes text [] old new (Ok count) → IsEmptyWith (created schema table) new.now
makes_table schema table text old new count it none h =
    let g = grows schema table text old new count it none.schema_is h in
    record {
      schema_is = g.schema_is;
      empty = all_pushed new.now.trees schema.tables (record table { tree = next_tree schema }) (all_kept old.now.trees new.now.trees schema.tables g.kept none.empty) g.empty;
    }

pub grows_index : (schema : Schema) (at : ℕ) (table : Table) (index : Index) (text : List ℕ) (old new : State) (count : ℕ) → MakesIndex schema text at table index → old.now.schema ≡ schema → Executes text [] old new (Ok count) → GrowsIndex schema table index old.now new.now
grows_index schema at table index text old new count it has h =
    let w = subst (λ t. Writes old new None (CreateIndex at) t [] count) (statement_is text _ it.whole) (runs_as text [] old new schema has (CreateIndex at) (means_command schema text (CreateIndex at) it.means) it.means.plain count h) in
    let here = at_place _ (slice_get schema.tables at) table _ it.place (subst (λ s. Does old.step_limit (mode_of old) [] (record old.now { schema = s }) text None (CreateIndex at) (Ok (w.tally, new.now))) has w.changed) in
    let all = went here in
    let made = all.1 in
    let same : made.index ≡ index = (let both : Ok made.index ≡ Ok index = sym made.defined ∙ it.defined in cc) in
    let now : new.now ≡ all.0 = ap (λ (p : Tally × Database). p.1) (same_value all.2) in
    record {
      schema_is = ap (λ (d : Database). d.schema) now ∙ made.is ∙ ap (indexed schema table) same;
      kept = subst (λ (d : Database). KeepsRows schema.tables old.now.trees d.trees) (sym now) made.rows;
    }

pub makes_index : (schema : Schema) (at : ℕ) (table : Table) (index : Index) (text : List ℕ) (old new : State) (count : ℕ) → MakesIndex schema text at table index → IsEmptyWith schema old.now → Executes text [] old new (Ok count) → IsEmptyWith (indexed schema table index) new.now
makes_index schema at table index text old new count it none h =
    let g = grows_index schema at table index text old new count it none.schema_is h in
    record { schema_is = g.schema_is; empty = all_kept old.now.trees new.now.trees schema.tables g.kept none.empty }
