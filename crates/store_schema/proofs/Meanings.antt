-- What a text means over a schema, by what it is compiled to there: so it is compiled but once.
use Rattle.std.proofs.Common.{◌≡◌, ◌∙◌, ℕ, Bool, false, List, [], None, Some, Ok, Err, slice_get, refl, sym, ap, subst}
use Rattle.std.specs.Prelude.{Option, if◌then◌else◌, slice_range, unwrap_or}
use Rattle.std.specs.List.{AllByRecursion}
use Rattle.sqlite.specs.Schema.{Schema}
use Rattle.sqlite.specs.Table.{Table}
use Rattle.sqlite.specs.Change.{created}
use Rattle.sqlite.specs.Does.{lacks_sequence}
use Rattle.sqlite.specs.Given.{IsPlain}
use Rattle.sqlite.specs.Listing.{understood, misses_table, if_select, listing_schema}
use Rattle.sqlite_ast.specs.declared.Statement.{Statement}
use Rattle.sqlite_ast.specs.declared.Statement.TheVariants as written
use Rattle.sqlite_catalog.specs.Change.{is_used, automatics}
use Rattle.sqlite_schema.specs.declared.schema.Index.{Index}
use Rattle.sqlite_schema.specs.declared.command.Command.{Command}
use Rattle.sqlite_schema.specs.declared.command.Command.TheVariants.{CreateTable, CreateIndex}
use Rattle.sqlite_schema.specs.declared.command.Returning.{Returning}
use Rattle.sqlite_syntax.specs.declared.statement.Parsed.{Parsed}
use Rattle.sqlite_resolve.specs.declared.compiled.Compiled.{Compiled}
use Rattle.sqlite_resolve.specs.Lowering.{Checked}
use Rattle.sqlite_resolve.specs.Define as define
use Rattle.sqlite_resolve.specs.Compile.{first, compiled, index_defined_by}
use Rattle.store_schema.specs.Beside.{name_in, makes_named, reads_as_making, MakesNamed, MakesOne}
use Rattle.store_schema.specs.Layout.{Means, command_in}
use Rattle.store_schema.specs.Making.{MakesTable, MakesIndex, statement_in}
use Rattle.store_schema.proofs.Creations.{compiled_creation}

-- its command, what that shows, and what it asks the clock for
abbrev pub Told : Type 0
Told = Command × Option Returning × List (List ℕ)

abbrev pub told : Checked Compiled → Option Told
told (Ok c) = Some (c.command, c.returning, c.formats)
told (Err e) = None

abbrev pub command_told : Checked Compiled → Option Command
command_told r = command_in (λ (c : Compiled). c.command) r

module _ (schema : Schema) (text : List ℕ) where
  abbrev taken : Checked Compiled → Checked Compiled
  taken r = if misses_table r then if_select (compiled listing_schema text) else r

  understood_so : (c : Compiled) → compiled schema text ≡ Ok c → understood schema text ≡ Ok c
  unfolding understood
  understood_so c is = ap taken is

  means_so : (command : Command) (r : Checked Compiled) → compiled schema text ≡ r → told r ≡ Some (command, None, []) → Means schema text command
  means_so command (Err e) is tells = absurd (let x = tells in cc)
  means_so command (Ok c) is tells =
      let known = understood_so c is in
      let or_so = λ (o : Option Told). unwrap_or o (command, None, []) in
      record {
        is = ap command_told known ∙ ap (λ (o : Option Told). Some (or_so o).0) tells;
        plain = subst IsPlain (sym known) (ap (λ (o : Option Told). (or_so o).1) tells, ap (λ (o : Option Told). (or_so o).2) tells);
        unlisted = ap misses_table is;
      }

  pub means_by : (command : Command) → told (compiled schema text) ≡ Some (command, None, []) → Means schema text command
  means_by command tells = means_so command (compiled schema text) refl tells

-- ---- what a text reads as that makes a table or an index

abbrev Read : Type 0
Read = List (List ℕ) × List ℕ × Option (Bool × Option (List ℕ))

abbrev making : List (List ℕ) → Statement → Option (Bool × Option (List ℕ))
making formats (written.CreateTable def) = Some (def.if_missing, name_in (define.table formats def))
making formats (written.CreateIndex def) = Some (def.if_missing, Some def.name)
making formats _ = None

abbrev pub read : List ℕ → Checked Parsed → Option Read
read text (Ok p) = Some (p.formats, slice_range text p.start p.end, making p.formats p.statement)
read text (Err e) = None

made_named : (name : List ℕ) (formats : List (List ℕ)) (s : Statement) → making formats s ≡ Some (false, Some name) → makes_named name formats s
made_named name formats (written.CreateTable def) e =
    (ap (λ (o : Option (Bool × Option (List ℕ))). (unwrap_or o (false, None)).0) e, ap (λ (o : Option (Bool × Option (List ℕ))). (unwrap_or o (false, None)).1) e)
made_named name formats (written.CreateIndex def) e =
    (ap (λ (o : Option (Bool × Option (List ℕ))). (unwrap_or o (false, None)).0) e, ap (λ (o : Option (Bool × Option (List ℕ))). unwrap_or (unwrap_or o (false, None)).1 []) e)
made_named name formats _ e = absurd (let x = e in cc)

read_so : (text name : List ℕ) (r : Checked Parsed) → read text r ≡ Some ([], text, Some (false, Some name)) → reads_as_making text name r
read_so text name (Err e) is = absurd (let x = is in cc)
read_so text name (Ok p) is =
    let or_so = λ (o : Option Read). unwrap_or o ([], text, None) in
    (ap (λ (o : Option Read). (or_so o).0) is, ap (λ (o : Option Read). (or_so o).1) is, made_named name p.formats p.statement (ap (λ (o : Option Read). (or_so o).2) is))

pub named_by : (text name : List ℕ) → read text (first text) ≡ Some ([], text, Some (false, Some name)) → MakesNamed text name
named_by text name is = read_so text name (first text) is

-- ---- what it makes over a schema

module _ (schema : Schema) (text : List ℕ) where
  makes_so : (table : Table) (r : Checked Compiled) → compiled schema text ≡ r → MakesOne text table → command_told r ≡ Some CreateTable → lacks_sequence (created schema table) ≡ false → is_used schema table.name ≡ false
      → AllByRecursion (λ (i : Index). is_used schema i.name ≡ false) (automatics table 0 0 table.uniques) → MakesTable schema text table
  makes_so table (Err e) is one tells uncounted free free_keys = absurd (let x = tells in cc)
  makes_so table (Ok c) is one tells uncounted free free_keys =
      let it = compiled_creation schema text table.name c one.named is in
      let command : c.command ≡ CreateTable = ap (λ (o : Option Command). unwrap_or o CreateTable) tells in
      record {
        means = means_so schema text CreateTable (Ok c) is (λ i. Some (command i, it.returning i, it.formats i));
        whole = ap (statement_in text) (understood_so schema text c is) ∙ ap Some it.whole;
        defined = one.defined;
        uncounted = uncounted;
        free = free;
        free_keys = free_keys;
      }

  pub makes_by : (table : Table) → MakesOne text table → command_told (compiled schema text) ≡ Some CreateTable → lacks_sequence (created schema table) ≡ false → is_used schema table.name ≡ false
      → AllByRecursion (λ (i : Index). is_used schema i.name ≡ false) (automatics table 0 0 table.uniques) → MakesTable schema text table
  makes_by table one tells uncounted free free_keys = makes_so table (compiled schema text) refl one tells uncounted free free_keys

  indexes_so : (at : ℕ) (table : Table) (index : Index) (r : Checked Compiled) → compiled schema text ≡ r → MakesNamed text index.name → command_told r ≡ Some (CreateIndex at) → slice_get schema.tables at ≡ Some table
      → index_defined_by table text ≡ Ok index → is_used schema index.name ≡ false → MakesIndex schema text at table index
  indexes_so at table index (Err e) is named tells place defined free = absurd (let x = tells in cc)
  indexes_so at table index (Ok c) is named tells place defined free =
      let it = compiled_creation schema text index.name c named is in
      let command : c.command ≡ CreateIndex at = ap (λ (o : Option Command). unwrap_or o (CreateIndex at)) tells in
      record {
        means = means_so schema text (CreateIndex at) (Ok c) is (λ i. Some (command i, it.returning i, it.formats i));
        whole = ap (statement_in text) (understood_so schema text c is) ∙ ap Some it.whole;
        place = place;
        defined = defined;
        free = free;
      }

  pub indexes_by : (at : ℕ) (table : Table) (index : Index) → MakesNamed text index.name → command_told (compiled schema text) ≡ Some (CreateIndex at) → slice_get schema.tables at ≡ Some table
      → index_defined_by table text ≡ Ok index → is_used schema index.name ≡ false → MakesIndex schema text at table index
  indexes_by at table index named tells place defined free = indexes_so at table index (compiled schema text) refl named tells place defined free
