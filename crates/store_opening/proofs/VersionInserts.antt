-- What the INSERT of the version leaves, over any schema in which its table is new.
use Rattle.std.proofs.Common.{◌≡◌, ◌∙◌, ℕ, Bool, true, false, List, [], None, Some, Ok, Err, inl, inr, refl, sym, ap, subst}
use Rattle.std.specs.Prelude.{◌≢◌, ◌⊎◌, ◌==◌, Option, if◌then◌else◌, length, slice_get}
use Rattle.std.specs.List.{AllByRecursion}
use Rattle.sqlite_tied.specs.Compute.{everything}
use Rattle.sqlite.specs.Schema.{Schema}
use Rattle.sqlite.specs.Table.{Table}
use Rattle.sqlite.specs.Tree.{Trees}
use Rattle.sqlite.specs.Command.{Command}
use Rattle.sqlite.specs.Command.TheVariants.{Insert}
use Rattle.sqlite.specs.Source.{Source}
use Rattle.sqlite.specs.Does.{Tally}
use Rattle.sqlite.specs.Effect.{Database}
use Rattle.sqlite.specs.Given.{IsPlain}
use Rattle.sqlite.specs.Listing.{understood, reads_listing, if_select, listing_schema}
use Rattle.sqlite.specs.Rows.{rowids_for, count_of, Written}
use Rattle.sqlite_rules.specs.Edit.{edit_of}
use Rattle.sqlite.specs.State.{State, Executes, ExecutesIn, Writes}
use Rattle.sqlite.proofs.Callers.{command_of, runs_as, one_step}
use Rattle.sqlite_schema.specs.Names.{same_name, table_named}
use Rattle.sqlite_schema.specs.declared.schema.Keys.TheVariants.{Enforced}
use Rattle.sqlite_schema.specs.declared.command.Returning.{Returning}
use Rattle.sqlite_ast.specs.declared.Conflict.TheVariants as conflict
use Rattle.sqlite_ast.specs.declared.Statement.{Statement}
use Rattle.sqlite_ast.specs.declared.Statement.TheVariants as written
use Rattle.sqlite_syntax.specs.declared.statement.Parsed.{Parsed}
use Rattle.sqlite_resolve.specs.declared.compiled.Compiled.{Compiled}
use Rattle.sqlite_resolve.specs.declared.error.CompileError.{CompileError}
use Rattle.sqlite_resolve.specs.declared.error.CompileError.TheVariants.{NoSuchTable}
use Rattle.sqlite_resolve.specs.Lowering.{Checked, and_then, or_else}
use Rattle.sqlite_resolve.specs.Body.{table_at}
use Rattle.sqlite_resolve.specs.Compile as compile
use Rattle.sqlite_resolve.specs.Compile.{first, compiled}
use Rattle.store_schema.specs.Schema.{version_table}
use Rattle.store_schema.specs.Beside.{IsNewBeside}
use Rattle.store_schema.proofs.Writes.{went, same_value, at_place, none_lost}
use Rattle.store_statements.specs.VersionTexts.{version_add}

failed : {A : Type 0} {e : CompileError} {x : A} → ◌≡◌ {A = Checked A} (Err e) (Ok x) → ⊥
failed e = absurd cc

then_ok : {A B : Type 0} (r : Checked A) (f : A → Checked B) (b : B) → and_then r f ≡ Ok b → (a : A) × (r ≡ Ok a) × (f a ≡ Ok b)
then_ok (Ok a) f b e = (a, refl, e)
then_ok (Err x) f b e = absurd (failed e)

found_ok : {A : Type 0} (o : Option A) (x : A) (e : CompileError) (y : A) → o ≡ Some x → or_else o e ≡ Ok y → y ≡ x
found_ok None x e y is h = absurd cc
found_ok (Some z) x e y is h = let a : z ≡ x = cc in sym (same_value h) ∙ a

-- an INSERT into the table of this name that shows nothing and resolves nothing
abbrev puts_in : List ℕ → Statement → Type 0
puts_in name (written.Insert conflict.Abort into columns rows clauses shown) = (into ≡ name) × ((length clauses == 0) ≡ true) × ((length shown == 0) ≡ true)
puts_in name _ = ⊥

abbrev reads_as_putting : List ℕ → Checked Parsed → Type 0
reads_as_putting name (Ok p) = (p.formats ≡ []) × puts_in name p.statement
reads_as_putting name (Err e) = ⊥

puts_version : reads_as_putting version_table.name (first version_add)
unfolding everything
puts_version = (refl, (refl, refl, refl))

module _ (schema : Schema) (at tree : ℕ) (named : table_named schema version_table.name ≡ Some at) (place : slice_get schema.tables at ≡ Some (record version_table { tree = tree })) where
  -- the command puts rows into the table at the place
  abbrev IsPutting : Command → Type 0
  IsPutting k = (source : Source) × (k ≡ Insert at source)

  abbrev meant : List (List ℕ) → Statement → ℕ → Checked (Command × Option Returning)
  meant formats s base = and_then (compile.returning schema base s) (λ shown. and_then (compile.command schema formats base s) (λ c. Ok (c, shown)))

  statement_puts : (formats : List (List ℕ)) (s : Statement) (base : ℕ) (k : Command × Option Returning) → formats ≡ [] → puts_in version_table.name s → meant formats s base ≡ Ok k
      → (compile.timed schema formats s ≡ []) × (k.1 ≡ None) × IsPutting k.0
  unfolding compile.returning compile.command compile.timed compile.shows compile.insert_or_abort compile.insert
  statement_puts formats (written.Insert conflict.Abort into columns rows clauses shown) base k none it e =
      let shows = rw it.2 at e in
      let plain = rw it.1 at shows in
      let made = then_ok (compile.insert schema base into columns rows) _ k plain in
      let same = same_value made.2 in
      let found = then_ok (or_else (table_named schema into) NoSuchTable) _ made.0 made.1 in
      let is_at : found.0 ≡ at = found_ok (table_named schema into) at NoSuchTable found.0 (ap (table_named schema) it.0 ∙ named) found.1 in
      let there = then_ok (table_at schema found.0) _ made.0 found.2 in
      let rows_in = then_ok (compile.new_rows schema there.0 base columns rows) _ made.0 there.2 in
      let inserts : made.0 ≡ Insert at rows_in.0 = sym (same_value rows_in.2) ∙ ap (λ n. Insert n rows_in.0) is_at in (
        rw (none, it.0, named, place) refl,
        sym (ap (λ (p : Command × Option Returning). p.1) same),
        (rows_in.0, sym (ap (λ (p : Command × Option Returning). p.0) same) ∙ inserts),
      )
  statement_puts formats _ base k none it e = absurd it

  pub record IsPlacing (c : Compiled) : Type 0 where
    pub returning : c.returning ≡ None
    pub formats : c.formats ≡ []
    pub puts : IsPutting c.command

  compiled_puts : (c : Compiled) → compiled schema version_add ≡ Ok c → IsPlacing c
  unfolding compiled compile.planned compile.meaning
  compiled_puts c e =
      let it = then_ok (first version_add) _ c e in
      let known = subst (reads_as_putting version_table.name) it.1 puts_version in
      let plan = then_ok (compile.planned schema it.0) _ c it.2 in
      let found = then_ok (meant it.0.formats it.0.statement _) _ plan.0 plan.1 in
      let made = statement_puts it.0.formats it.0.statement _ found.0 known.0 known.1 found.1 in
      subst IsPlacing (same_value plan.2)
      (subst (λ (p : List (List ℕ) × (Command × Option Returning)). IsPlacing (compile.with_command it.0 p)) (same_value found.2)
      (record { returning = made.1; formats = made.0; puts = made.2 }))

  unlisted : (c : Compiled) → if_select (compiled listing_schema version_add) ≡ Ok c → ⊥
  unfolding everything same_name listing_schema
  unlisted c e = absurd cc

  if_ok : {A : Type 0} (b : Bool) (x y : Checked A) (r : A) → (if b then x else y) ≡ Ok r → (x ≡ Ok r) ⊎ (y ≡ Ok r)
  if_ok true x y r e = inl e
  if_ok false x y r e = inr e

  understood_puts : (c : Compiled) → understood schema version_add ≡ Ok c → IsPlacing c
  unfolding understood
  understood_puts c e = elim (if_ok (reads_listing schema version_add) _ _ c e) [
    | inl x ↦ absurd (unlisted c x)
    | inr x ↦ compiled_puts c x
  ]

-- the schema stays, and each table in another tree has its rows
pub record Leaves (tree : ℕ) (old new : Database) : Type 0 where
  pub schema : new.schema ≡ old.schema
  pub tables : AllByRecursion (λ (t : Table). t.tree ≢ tree → new.trees t.tree ≡ old.trees t.tree) old.schema.tables

module _ (before : List Table) (old new : State) (count : ℕ) (it : IsNewBeside before old.now version_table) where
  abbrev table : Table
  table = record version_table { tree = it.tree }

  put : (source : Source) (text : List ℕ) → Writes old new None (Insert it.at source) text [] count → Leaves it.tree old.now new.now
  put source text w =
      let db = old.now.trees in
      let here = at_place _ (slice_get old.now.schema.tables it.at) table _ it.place w.changed in
      let done = went here in
      let tallied = same_value (went (went done.2).2).2 in
      let given = went done.1 in
      let counter = went given.2 in
      let wrote = went counter.2 in
      let counts = went wrote.2 in
      let edit = edit_of db table [] (rowids_for table (count_of counter.0)) 0 given.0 in
      let after : new.now.trees ≡ wrote.0 = ap (λ (p : Tally × Database). p.1.trees) tallied ∙ ap (λ (w : Written). w.trees) (same_value counts.2) ∙ same_value counts.1 in
      let applied = one_step old.now.schema Enforced db wrote.0 edit (none_lost old.now.schema it.tree edit.news) wrote.1 in
      record {
        schema = ap (λ (p : Tally × Database). p.1.schema) tallied;
        tables = subst (λ (next : Trees). AllByRecursion (λ (t : Table). t.tree ≢ it.tree → next t.tree ≡ db t.tree) old.now.schema.tables) (sym after) applied.tables;
      }

  pub version_put : Executes version_add [] old new (Ok count) → Leaves it.tree old.now new.now
  unfolding ExecutesIn
  version_put h =
      let is = understood_puts old.now.schema it.at it.tree it.named it.place h.0 h.1.is in
      let plain = subst IsPlain (sym h.1.is) (is.returning, is.formats) in
      put is.puts.0 _ (runs_as version_add [] old new old.now.schema refl (Insert it.at is.puts.0) (ap command_of h.1.is ∙ is.puts.1) plain count h)
