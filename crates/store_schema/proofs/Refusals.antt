-- Why a CREATE fails whose name is free.
use Rattle.std.proofs.Common.{◌≡◌, inl, inr, ℕ, List, [], false, slice_get, None, Some, Ok, Err, Result, IfErr, sym, ap, subst, ◌∙◌}
use Rattle.std.specs.Prelude.{Option, IsErrAnd}
use Rattle.std.proofs.lemmas.Bool.{cases_Bool}
use Rattle.sqlite.specs.Schema.{Schema}
use Rattle.sqlite.specs.Table.{Table}
use Rattle.sqlite_schema.specs.declared.schema.Index.{Index}
use Rattle.sqlite_schema.specs.declared.command.Command.{Command}
use Rattle.sqlite.specs.Command.TheVariants.{CreateTable, CreateIndex}
use Rattle.sqlite_trees.specs.declared.error.StoreError.{StoreError}
use Rattle.sqlite_trees.specs.declared.error.StoreError.TheVariants.{OutOfMemory, Io, Corrupt, Full, Broken, Unstorable}
use Rattle.sqlite_catalog.specs.declared.error.Refusal.TheVariants as why
use Rattle.sqlite_catalog.specs.Calls.{RefusesTable, RefusesIndex}
use Rattle.sqlite_catalog.specs.Change.{is_used, automatics}
use Rattle.sqlite_rules.proofs.ListLemmas.{all_has}
use Rattle.sqlite_rules.specs.Lists.{Has}
use Rattle.sqlite.specs.declared.error.Error.{Error}
use Rattle.sqlite.specs.Change.{created}
use Rattle.sqlite.specs.Does.{Does, Defines, lacks_sequence}
use Rattle.sqlite.specs.Does.{MakesTable as MakesATable, MakesIndex as MakesAnIndex}
use Rattle.sqlite.specs.Effect.{Database, RefusesToAlter, IsNoText}
use Rattle.sqlite.specs.State.{State, mode_of, store_error, ExecutesInside, ExecutesIn, IsNotRun, IsNoStatement, IsMisplaced, RunsCommand, shows_rows, text_of}
use Rattle.sqlite.specs.Given.{IsPlain}
use Rattle.sqlite.specs.Listing.{understood}
use Rattle.sqlite.proofs.Callers.{command_of, statement_of}
use Rattle.sqlite_resolve.specs.declared.compiled.Compiled.{Compiled}
use Rattle.store_schema.specs.Layout.{Means}
use Rattle.store_schema.specs.Making.{MakesTable, MakesIndex, IsOther, statement_in}
use Rattle.store_schema.proofs.Selects.{means_command}
use Rattle.store_schema.proofs.MakeLemmas.{statement_is}
use Rattle.store_schema.proofs.Writes.{same_value, at_place}

stored : (kind : StoreError) (e : Error) → e ≡ store_error kind → IsOther e
stored OutOfMemory e is = ((λ taken. let x = sym is ∙ taken in absurd cc), (λ cause read. let x = sym is ∙ read in absurd cc))
stored Io e is = ((λ taken. let x = sym is ∙ taken in absurd cc), (λ cause read. let x = sym is ∙ read in absurd cc))
stored Corrupt e is = ((λ taken. let x = sym is ∙ taken in absurd cc), (λ cause read. let x = sym is ∙ read in absurd cc))
stored Full e is = ((λ taken. let x = sym is ∙ taken in absurd cc), (λ cause read. let x = sym is ∙ read in absurd cc))
stored Broken e is = ((λ taken. let x = sym is ∙ taken in absurd cc), (λ cause read. let x = sym is ∙ read in absurd cc))
stored Unstorable e is = ((λ taken. let x = sym is ∙ taken in absurd cc), (λ cause read. let x = sym is ∙ read in absurd cc))

-- ---- what the schema refuses

untold : (text : List ℕ) (e : Error) → IsNoText text e → IsOther e
untold text e h = ((λ taken. let x = sym h.1 ∙ taken in absurd cc), (λ cause read. let x = sym h.1 ∙ read in absurd cc))

no_table : (schema : Schema) (table : Table) (text : List ℕ) (e : Error) → MakesTable schema text table → RefusesToAlter (RefusesTable schema text) e → IsOther e
no_table schema table text e it (why.Invalid f, refuses, is) = absurd (let x = sym refuses ∙ it.defined in cc)
no_table schema table text e it (why.NameTaken, (made, defined, inl used), is) =
    let same : made ≡ table = same_value (sym defined ∙ it.defined) in
    absurd (let x = sym (ap (λ (t : Table). is_used schema t.name) same) ∙ used in let y = sym it.free ∙ x in cc)
no_table schema table text e it (why.NameTaken, (made, defined, inr (index, has, used)), is) =
    let same : made ≡ table = same_value (sym defined ∙ it.defined) in
    let free = all_has (λ (i : Index). is_used schema i.name ≡ false) (automatics table 0 0 table.uniques) index it.free_keys (subst (λ (t : Table). Has (automatics t 0 0 t.uniques) index) same has) in
    absurd (let y = sym free ∙ used in cc)
no_table schema table text e it (why.BadName, refuses, is) = ((λ taken. let x = sym is ∙ taken in absurd cc), (λ cause read. let x = sym is ∙ read in absurd cc))
no_table schema table text e it (why.TooBig, refuses, is) = ((λ taken. let x = sym is ∙ taken in absurd cc), (λ cause read. let x = sym is ∙ read in absurd cc))
no_table schema table text e it (why.BadKey, refuses, is) = ((λ taken. let x = sym is ∙ taken in absurd cc), (λ cause read. let x = sym is ∙ read in absurd cc))
no_table schema table text e it (why.BadText, refuses, is) = ((λ taken. let x = sym is ∙ taken in absurd cc), (λ cause read. let x = sym is ∙ read in absurd cc))
no_table schema table text e it (why.Violates rule, refuses, is) = absurd refuses

no_index : (schema : Schema) (at : ℕ) (table : Table) (index : Index) (text : List ℕ) (db : Database) (e : Error) → MakesIndex schema text at table index → RefusesToAlter (RefusesIndex schema db.trees table text) e → IsOther e
no_index schema at table index text db e it (why.Invalid f, refuses, is) = absurd (let x = sym refuses ∙ it.defined in cc)
no_index schema at table index text db e it (why.NameTaken, (made, defined, used), is) =
    let same : made ≡ index = same_value (sym defined ∙ it.defined) in
    absurd (let x = sym (ap (λ (i : Index). is_used schema i.name) same) ∙ used in let y = sym it.free ∙ x in cc)
no_index schema at table index text db e it (why.BadName, refuses, is) = ((λ taken. let x = sym is ∙ taken in absurd cc), (λ cause read. let x = sym is ∙ read in absurd cc))
no_index schema at table index text db e it (why.TooBig, refuses, is) = ((λ taken. let x = sym is ∙ taken in absurd cc), (λ cause read. let x = sym is ∙ read in absurd cc))
no_index schema at table index text db e it (why.BadKey, refuses, is) = absurd refuses
no_index schema at table index text db e it (why.BadText, refuses, is) = ((λ taken. let x = sym is ∙ taken in absurd cc), (λ cause read. let x = sym is ∙ read in absurd cc))
no_index schema at table index text db e it (why.Violates rule, refuses, is) = ((λ taken. let x = sym is ∙ taken in absurd cc), (λ cause read. let x = sym is ∙ read in absurd cc))

-- ---- what the statement is refused for

same_stop : {A : Type 0} {a b : Option Error} → ◌≡◌ {A = Result A (Option Error)} (Err a) (Err b) → a ≡ b
same_stop e = cc

never : {A : Type 0} {a : A} {b : Option Error} → ◌≡◌ {A = Result A (Option Error)} (Err b) (Ok a) → ⊥
never e = absurd cc

none_defined : (schema : Schema) (table : Table) (text : List ℕ) (old : State) (e : Error) → MakesTable schema text table → old.now.schema ≡ schema
    → Does old.step_limit (mode_of old) [] old.now text None CreateTable (Err (Some e)) → IsOther e
none_defined schema table text old e it has (inr (after, made, gives)) = absurd (never gives)
none_defined schema table text old e it has (inl (stop, inl (cause, refuses, second), first)) =
    let same : cause ≡ Some e = sym (same_stop first ∙ same_stop second) in
    elim (subst (λ c. MakesATable text old.now (Err c)) same refuses) [
      | inl h ↦ untold text e h
      | inr h ↦ no_table schema table text e it (subst (λ s. RefusesToAlter (RefusesTable s text) e) has h)
    ]
none_defined schema table text old e it has (inl (stop, inr (after, made, sequence), first)) =
    let both : Ok made.table ≡ Ok table = sym made.defined ∙ it.defined in
    let same : made.table ≡ table = cc in
    let schema_is : after.schema ≡ created schema table = made.is ∙ ap (λ s. created s made.table) has ∙ ap (created schema) same in
    let plain : lacks_sequence after.schema ≡ false = ap lacks_sequence schema_is ∙ it.uncounted in
    absurd (never (rw plain at sequence))

no_index_defined : (schema : Schema) (at : ℕ) (table : Table) (index : Index) (text : List ℕ) (old : State) (e : Error) → MakesIndex schema text at table index → old.now.schema ≡ schema
    → Does old.step_limit (mode_of old) [] old.now text None (CreateIndex at) (Err (Some e)) → IsOther e
no_index_defined schema at table index text old e it has does =
    refused (at_place _ (slice_get schema.tables at) table _ it.place (subst (λ s. Does old.step_limit (mode_of old) [] (record old.now { schema = s }) text None (CreateIndex at) (Err (Some e))) has does))
  where
    refused : Defines (mode_of old) (MakesAnIndex text (record old.now { schema = schema }) table) (Err (Some e)) → IsOther e
    refused (inr (after, made, gives)) = absurd (never gives)
    refused (inl (cause, refuses, is)) =
        elim (subst (λ c. MakesAnIndex text (record old.now { schema = schema }) table (Err c)) (sym (same_stop is)) refuses) [
          | inl h ↦ untold text e h
          | inr h ↦ no_index schema at table index text old.now e it h
        ]

-- ---- a statement that is known over the schema

module _ (schema : Schema) (k : Command) (text : List ℕ) (old new : State) (e : Error) (has : old.now.schema ≡ schema) (means : Means schema text k) (whole : statement_in text (understood schema text) ≡ Some text) where
  misread : IsNoStatement old text [] e → IsOther e
  misread (inl (fault, is, told)) = absurd (let y = sym (ap (λ s. understood s text) has) ∙ is in let x = rw y at means.is in cc)
  misread (inr (c, is, inl h)) = ((λ taken. let x = sym h.1 ∙ taken in absurd cc), (λ cause read. let x = sym h.1 ∙ read in absurd cc))
  misread (inr (c, is, inr (inl h))) = ((λ taken. let x = sym h.1 ∙ taken in absurd cc), (λ cause read. let x = sym h.1 ∙ read in absurd cc))
  misread (inr (c, is, inr (inr h))) = ((λ taken. let x = sym h.1 ∙ taken in absurd cc), (λ cause read. let x = sym h.1 ∙ read in absurd cc))

  misplaced : (command : Command) → IsMisplaced old command e → IsOther e
  misplaced command (inl h) = ((λ taken. let x = sym h.0 ∙ taken in absurd cc), (λ cause read. let x = sym h.0 ∙ read in absurd cc))
  misplaced command (inr h) = ((λ taken. let x = sym h.0 ∙ taken in absurd cc), (λ cause read. let x = sym h.0 ∙ read in absurd cc))

  not_run : IsNotRun old new text [] e → IsOther e
  unfolding IsNotRun
  not_run (inl h) = misread h.0
  not_run (inr h) = stored h.0 e h.1

  fails : (Does old.step_limit (mode_of old) [] old.now text None k (Err (Some e)) → IsOther e) → ExecutesInside 0 text [] old new (Err e) → IsOther e
  unfolding ExecutesIn
  fails by (inr ends) = ((λ taken. let x = sym ends.1 ∙ taken in absurd cc), (λ cause read. let x = sym ends.1 ∙ read in absurd cc))
  fails by (inl (inl h, undone)) = not_run h
  fails by (inl (inr (c, it, alone), undone)) =
      let known = sym it.is ∙ ap (λ s. understood s text) has in
      let bare = subst IsPlain (sym known) means.plain in
      let is = ap command_of known ∙ means_command schema text k means in
      let words = ap (statement_of text) known ∙ statement_is text (understood schema text) whole in
      elim (cases_Bool (shows_rows false c)) [
        | inl shows ↦ (let told = (rw shows at alone).0 in ((λ taken. absurd cc), (λ cause read. absurd cc)))
        | inr runs ↦ ran c bare is words (rw (runs, bare.1) at alone)
      ]
    where
      ran : (c : Compiled) → IsPlain (Ok c) → c.command ≡ k → text_of text c ≡ text → RunsCommand old new text c [] (Err e) → IsOther e
      ran c bare is words (inr failed) = stored failed.0 e failed.1
      ran c bare is words (inl (inl h, same)) = misplaced c.command h
      ran c bare is words (inl (inr (may, does), same)) = by (rw (bare.0, is, words) at does)

pub fails_table : (schema : Schema) (table : Table) (text : List ℕ) (old new : State) (e : Error) → MakesTable schema text table → old.now.schema ≡ schema → ExecutesInside 0 text [] old new (Err e) → IsOther e
fails_table schema table text old new e it is h =
    fails schema CreateTable text old new e is it.means it.whole (none_defined schema table text old e it is) h

pub fails_index : (schema : Schema) (at : ℕ) (table : Table) (index : Index) (text : List ℕ) (old new : State) (e : Error) → MakesIndex schema text at table index → old.now.schema ≡ schema → ExecutesInside 0 text [] old new (Err e) → IsOther e
fails_index schema at table index text old new e it is h =
    fails schema (CreateIndex at) text old new e is it.means it.whole (no_index_defined schema at table index text old e it is) h

-- ---- the same of a call's result

-- an error that is passed on
pub if_passed : {A E : Type 0} (P : E → Type 0) (r : Result A E) (e : E) → IsErrAnd r (λ y. y ≡ e) → P e → IfErr r P
if_passed P (Ok x) e is h = tt
if_passed P (Err y) e is h = subst P (sym is) h
