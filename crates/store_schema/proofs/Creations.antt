-- What a text that makes a table or an index means over any schema.
use Rattle.std.proofs.Common.{◌≡◌, ℕ, Bool, true, false, List, [], None, Some, Ok, Err, inl, inr, refl, sym, ap, subst, ◌∙◌}
use Rattle.std.specs.Prelude.{◌⊎◌, Option, is_some, if◌then◌else◌, not, ◌&&◌, ◌==◌, length}
use Rattle.std.specs.Option.{option_or}
use Rattle.sqlite.specs.Schema.{Schema}
use Rattle.sqlite.specs.Table.{Table}
use Rattle.sqlite_schema.specs.declared.schema.Index.{Index}
use Rattle.sqlite_schema.specs.declared.command.Command.{Command}
use Rattle.sqlite_schema.specs.declared.command.Command.TheVariants as command
use Rattle.sqlite_schema.specs.declared.command.Returning.{Returning}
use Rattle.sqlite_schema.specs.Names.{same_name, table_named, index_named, view_named}
use Rattle.sqlite_ast.specs.declared.CreateTable.{CreateTable}
use Rattle.sqlite_ast.specs.declared.CreateIndex.{CreateIndex}
use Rattle.sqlite_ast.specs.declared.Statement.{Statement}
use Rattle.sqlite_ast.specs.declared.Statement.TheVariants as written
use Rattle.sqlite_syntax.specs.declared.statement.Parsed.{Parsed}
use Rattle.sqlite_resolve.specs.declared.compiled.Compiled.{Compiled}
use Rattle.sqlite_resolve.specs.declared.error.CompileError.{CompileError}
use Rattle.sqlite_resolve.specs.Lowering.{Checked, and_then}
use Rattle.sqlite_resolve.specs.Body.{table_at}
use Rattle.sqlite_resolve.specs.Define as define
use Rattle.sqlite_resolve.specs.Compile as compile
use Rattle.sqlite_resolve.specs.Compile.{first, compiled, table_defined_by, index_defined_by}
use Rattle.sqlite.specs.Listing.{understood, reads_listing, if_select, is_select, listing_schema}
use Rattle.sqlite.specs.State.{text_of}
use Rattle.store_schema.specs.Beside.{name_in, makes_named, reads_as_making, MakesNamed}
use Rattle.store_schema.proofs.Writes.{same_value}

-- ---- steps that were passed

failed : {A : Type 0} {e : CompileError} {x : A} → ◌≡◌ {A = Checked A} (Err e) (Ok x) → ⊥
failed e = absurd cc

then_ok : {A B : Type 0} (r : Checked A) (f : A → Checked B) (b : B) → and_then r f ≡ Ok b → (a : A) × (r ≡ Ok a) × (f a ≡ Ok b)
then_ok (Ok a) f b e = (a, refl, e)
then_ok (Err x) f b e = absurd (failed e)

if_ok : {A : Type 0} (c : Bool) (x y : Checked A) (b : A) → (if c then x else y) ≡ Ok b → (x ≡ Ok b) ⊎ (y ≡ Ok b)
if_ok true x y b e = inl e
if_ok false x y b e = inr e

else_ok : {A : Type 0} (c : Bool) (x : CompileError) (y : Checked A) (b : A) → (if c then Err x else y) ≡ Ok b → y ≡ Ok b
else_ok true x y b e = absurd (failed e)
else_ok false x y b e = e

-- ---- a CREATE, where IF NOT EXISTS is not written

is_new : (m : Bool) (name : List ℕ) (same other : Option ℕ) (b : Bool) → m ≡ false → compile.creates m name same other ≡ Ok b → b ≡ true
unfolding compile.creates
is_new m name same other b unless e =
    let free = else_ok (compile.is_reserved name) _ _ b e in
    let alone = else_ok (is_some other) _ _ b free in
    elim (if_ok (is_some same) _ _ b alone) [
      | inl x ↦ absurd (failed (rw unless at x))
      | inr x ↦ sym (same_value x)
    ]

table_made : (schema : Schema) (formats : List (List ℕ)) (def : CreateTable) (k : Command) → def.if_missing ≡ false → compile.create_table schema formats def ≡ Ok k → k ≡ command.CreateTable
unfolding compile.create_table
table_made schema formats def k unless e =
    let it = then_ok (compile.creates def.if_missing def.name (option_or (table_named schema def.name) (view_named schema def.name)) (index_named schema def.name)) _ k (else_ok (compile.is_attached schema def.name) _ _ k e) in
    let new = is_new def.if_missing def.name _ _ it.0 unless it.1 in
    let made = then_ok (define.table formats def) _ k (rw new at it.2) in
    elim (if_ok (length made.0.computed == length made.0.stamps.places && not def.resolves) _ _ k made.2) [
      | inl x ↦ sym (same_value x)
      | inr x ↦ absurd (failed x)
    ]

index_made : (schema : Schema) (def : CreateIndex) (k : Command) → def.if_missing ≡ false → compile.create_index schema def ≡ Ok k → (at : ℕ) × (k ≡ command.CreateIndex at)
unfolding compile.create_index
index_made schema def k unless e =
    let place = then_ok (compile.target schema def.table) _ k (else_ok (compile.is_reserved def.table) _ _ k e) in
    let there = then_ok (table_at schema place.0) _ k place.2 in
    let it = then_ok (compile.creates def.if_missing def.name (index_named schema def.name) (option_or (table_named schema def.name) (view_named schema def.name))) _ k there.2 in
    let new = is_new def.if_missing def.name _ _ it.0 unless it.1 in
    let made = then_ok (define.index there.0 def) _ k (rw new at it.2) in
    (place.0, sym (same_value made.2))

-- it makes a table or an index
abbrev pub IsMaking : Command → Type 0
IsMaking k = (k ≡ command.CreateTable) ⊎ ((at : ℕ) × (k ≡ command.CreateIndex at))

abbrev meant : Schema → List (List ℕ) → Statement → ℕ → Checked (Command × Option Returning)
meant schema formats s base = and_then (compile.returning schema base s) (λ shown. and_then (compile.command schema formats base s) (λ c. Ok (c, shown)))

statement_made : (schema : Schema) (name : List ℕ) (formats : List (List ℕ)) (s : Statement) (base : ℕ) (k : Command × Option Returning) → formats ≡ [] → makes_named name formats s → meant schema formats s base ≡ Ok k
    → (compile.timed schema formats s ≡ []) × (k.1 ≡ None) × IsMaking k.0
unfolding compile.returning compile.command compile.timed
statement_made schema name formats (written.CreateTable def) base k none it e =
    let made = then_ok (compile.create_table schema formats def) _ k e in
    let same = same_value made.2 in
    (refl, sym (ap (λ (p : Command × Option Returning). p.1) same), inl (sym (ap (λ (p : Command × Option Returning). p.0) same) ∙ table_made schema formats def made.0 it.0 made.1))
statement_made schema name formats (written.CreateIndex def) base k none it e =
    let made = then_ok (compile.create_index schema def) _ k e in
    let same = same_value made.2 in
    let place = index_made schema def made.0 it.0 made.1 in
    (none, sym (ap (λ (p : Command × Option Returning). p.1) same), inr (place.0, sym (ap (λ (p : Command × Option Returning). p.0) same) ∙ place.1))
statement_made schema name formats _ base k none it e = absurd it

-- ---- the text

-- over any schema that takes it, the text is a command that makes a table or an index
pub record IsCreation (text : List ℕ) (c : Compiled) : Type 0 where
  pub returning : c.returning ≡ None
  pub formats : c.formats ≡ []
  pub whole : text_of text c ≡ text
  pub makes : IsMaking c.command

pub compiled_creation : (schema : Schema) (text name : List ℕ) (c : Compiled) → MakesNamed text name → compiled schema text ≡ Ok c → IsCreation text c
unfolding compiled compile.planned compile.meaning
compiled_creation schema text name c named e =
    let it = then_ok (first text) _ c e in
    let known = subst (reads_as_making text name) it.1 named in
    let plan = then_ok (compile.planned schema it.0) _ c it.2 in
    let found = then_ok (meant schema it.0.formats it.0.statement _) _ plan.0 plan.1 in
    let made = statement_made schema name it.0.formats it.0.statement _ found.0 known.0 known.2 found.1 in
    let planned = same_value found.2 in
    let is = same_value plan.2 in
    subst (IsCreation text) is
    (subst (λ (p : List (List ℕ) × (Command × Option Returning)). IsCreation text (compile.with_command it.0 p)) planned
    (record { returning = made.1; formats = made.0; whole = known.1; makes = made.2 }))

no_query : (k : Command) → IsMaking k → is_select k ≡ false
no_query k (inl e) = ap is_select e
no_query k (inr it) = ap is_select it.1

unlisted : (r : Checked Compiled) (c : Compiled) → ((d : Compiled) → r ≡ Ok d → is_select d.command ≡ false) → if_select r ≡ Ok c → ⊥
unlisted (Ok d) c none e = failed (rw (none d refl) at e)
unlisted (Err x) c none e = failed e

pub understood_creation : (schema : Schema) (text name : List ℕ) (c : Compiled) → MakesNamed text name → understood schema text ≡ Ok c → IsCreation text c
unfolding understood
understood_creation schema text name c named e =
    elim (if_ok (reads_listing schema text) _ _ c e) [
      | inl x ↦ absurd (unlisted (compiled listing_schema text) c (λ d is. no_query d.command (compiled_creation listing_schema text name d named is).makes) x)
      | inr x ↦ compiled_creation schema text name c named x
    ]

-- ---- its name

table_named_so : (name : List ℕ) (formats : List (List ℕ)) (s : Statement) (t : Table) → makes_named name formats s → compile.table_in formats s ≡ Ok t → t.name ≡ name
unfolding compile.table_in
table_named_so name formats (written.CreateTable def) t it e =
    let both : Some t.name ≡ Some name = sym (ap name_in e) ∙ it.1 in cc
table_named_so name formats (written.CreateIndex def) t it e = absurd (failed e)
table_named_so name formats _ t it e = absurd it

pub table_is_named : (text name : List ℕ) (t : Table) → MakesNamed text name → table_defined_by text ≡ Ok t → t.name ≡ name
unfolding table_defined_by
table_is_named text name t named e =
    let it = then_ok (first text) _ t e in
    let known = subst (reads_as_making text name) it.1 named in
    table_named_so name it.0.formats it.0.statement t known.2 it.2

index_named_so : (name : List ℕ) (formats : List (List ℕ)) (on : Table) (s : Statement) (i : Index) → makes_named name formats s → compile.index_in on s ≡ Ok i → i.name ≡ name
unfolding compile.index_in define.index
index_named_so name formats on (written.CreateTable def) i it e = absurd (failed e)
index_named_so name formats on (written.CreateIndex def) i it e =
    let made = then_ok (define.sorted on def.columns) _ i (else_ok (not (same_name on.name def.table)) _ _ i e) in
    sym (ap (λ (x : Index). x.name) (same_value made.2)) ∙ it.1
index_named_so name formats on _ i it e = absurd it

pub index_is_named : (text name : List ℕ) (on : Table) (i : Index) → MakesNamed text name → index_defined_by on text ≡ Ok i → i.name ≡ name
unfolding index_defined_by
index_is_named text name on i named e =
    let it = then_ok (first text) _ i e in
    let known = subst (reads_as_making text name) it.1 named in
    index_named_so name it.0.formats on it.0.statement i known.2 it.2

-- a text does not make both
neither_so : (name : List ℕ) (formats : List (List ℕ)) (on t : Table) (s : Statement) (i : Index) → makes_named name formats s → compile.table_in formats s ≡ Ok t → compile.index_in on s ≡ Ok i → ⊥
unfolding compile.table_in compile.index_in
neither_so name formats on t (written.CreateTable def) i it e f = failed f
neither_so name formats on t (written.CreateIndex def) i it e f = failed e
neither_so name formats on t _ i it e f = it

pub no_table_index : (text name : List ℕ) (on t : Table) (i : Index) → MakesNamed text name → table_defined_by text ≡ Ok t → index_defined_by on text ≡ Ok i → ⊥
unfolding table_defined_by index_defined_by
no_table_index text name on t i named e f =
    let it = then_ok (first text) _ t e in
    let known = subst (reads_as_making text name) it.1 named in
    let other = then_ok (first text) _ i f in
    let same : other.0 ≡ it.0 = same_value (sym other.1 ∙ it.1) in
    neither_so name it.0.formats on t it.0.statement i known.2 it.2 (subst (λ (p : Parsed). compile.index_in on p.statement ≡ Ok i) same other.2)
