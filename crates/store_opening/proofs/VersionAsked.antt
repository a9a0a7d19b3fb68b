-- Asking for the version changes nothing, whatever the tables are.
use Rattle.std.proofs.Common.{◌≡◌, ◌∙◌, ℕ, ℤ, Bool, true, false, List, [], Some, None, Ok, Err, Result, refl, sym, subst}
use Rattle.std.specs.Prelude.{⊤, Option}
use Rattle.sqlite_tied.specs.Compute.{everything}
use Rattle.store_statements.specs.VersionTexts.{version_find}
use Rattle.store_statements.specs.Held.{LeavesAsWas, IsBack}
use Rattle.store_schema.proofs.Selects.{Answer}
use Rattle.sqlite_schema.specs.declared.schema.Schema.{Schema}
use Rattle.sqlite_schema.specs.declared.command.Command.{Command}
use Rattle.sqlite_schema.specs.declared.command.Returning.{Returning}
use Rattle.sqlite_syntax.specs.declared.statement.Parsed.{Parsed}
use Rattle.sqlite_resolve.specs.declared.compiled.Compiled.{Compiled}
use Rattle.sqlite_resolve.specs.Lowering.{Checked, and_then}
use Rattle.sqlite_resolve.specs.Compile.{first, returning, meaning, planned, compiled, command, with_command}
use Rattle.sqlite.specs.Listing.{understood, reads_listing, if_select, is_select, listing_schema}
use Rattle.sqlite_resolve.specs.declared.error.CompileError.TheVariants.{NoSuchTable}
use Rattle.std.specs.Prelude.{IfOk, IfErr, IsSome, OnOk, if◌then◌else◌}
use Rattle.std.proofs.Common.{inl, inr}
use Rattle.sqlite.specs.Tree.{Trees}
use Rattle.sqlite.proofs.StateLemmas.{survives_weaker}
use Rattle.sqlite.specs.State.{State, Survives, CommitsShowing, IsUnchanged, Shown, ShowsRows, FailsToQuery, FailsToShow, IsNotRun, IsStatement}
use Rattle.sqlite.specs.Clock.{timed}
use Rattle.sqlite.specs.declared.error.Error.{Error}
use Rattle.sqlite.specs.Order.{Row}
use Rattle.store_opening.specs.declared.opening.OpenFault.{OpenFault}
use Rattle.store_opening.specs.declared.opening.OpenFault.TheVariants.{Memory, Storage, Schema as Numbered, NotARegistry}
use Rattle.store_opening.specs.Asking.{IsUnnumbered, AnswersVersion, IsTold, IsOfSchema, ShowsAlone}

-- ---- the text is read as a query, which returns nothing beside its rows

abbrev returns_none : Checked Parsed → Type 0
returns_none (Ok p) = (schema : Schema) (base : ℕ) → returning schema base p.statement ≡ Ok None
returns_none (Err e) = ⊤

find_returns : returns_none (first version_find)
unfolding everything returning
find_returns = λ schema base. refl

shown : (p : Parsed) (c : Compiled) (formats : List (List ℕ)) (k : Checked Command) (none : Checked (Option Returning)) → none ≡ Ok None
    → and_then (and_then (and_then none (λ shown. and_then k (λ c. Ok (c, shown)))) (λ found. Ok (formats, found))) (λ plan. Ok (with_command p plan)) ≡ Ok c → c.returning ≡ None
shown p c formats (Ok k) none none_is is = (let x = rw none_is at is in cc)
shown p c formats (Err e) none none_is is = absurd (let x = rw none_is at is in cc)

plan_shown : (schema : Schema) (p : Parsed) (c : Compiled) → ((base : ℕ) → returning schema base p.statement ≡ Ok None)
    → and_then (planned schema p) (λ plan. Ok (with_command p plan)) ≡ Ok c → c.returning ≡ None
unfolding planned meaning
plan_shown schema p c none is = shown p c _ (command schema p.formats _ p.statement) _ (none _) is

all_shown : (schema : Schema) (r : Checked Parsed) (c : Compiled) → returns_none r
    → and_then r (λ p. and_then (planned schema p) (λ plan. Ok (with_command p plan))) ≡ Ok c → c.returning ≡ None
all_shown schema (Ok p) c none is = plan_shown schema p c (none schema) is
all_shown schema (Err e) c none is = absurd (let x = is in cc)

pub compiled_plain : (schema : Schema) (c : Compiled) → compiled schema version_find ≡ Ok c → c.returning ≡ None
unfolding compiled
compiled_plain schema c is = all_shown schema (first version_find) c find_returns is

selected : (r : Checked Compiled) (c : Compiled) → ((c : Compiled) → r ≡ Ok c → c.returning ≡ None) → if_select r ≡ Ok c → c.returning ≡ None
selected (Ok d) c plain is = chosen (is_select d.command) is
  where
    chosen : (b : Bool) → (if b then Ok d else Err NoSuchTable) ≡ Ok c → c.returning ≡ None
    chosen true is = plain c is
    chosen false is = absurd (let x = is in cc)
selected (Err e) c plain is = absurd (let x = is in cc)

pub version_plain : (schema : Schema) (c : Compiled) → understood schema version_find ≡ Ok c → c.returning ≡ None
unfolding understood
version_plain schema c is = either (reads_listing schema version_find) is
  where
    either : (b : Bool) → (if b then if_select (compiled listing_schema version_find) else compiled schema version_find) ≡ Ok c → c.returning ≡ None
    either true is = selected (compiled listing_schema version_find) c (compiled_plain listing_schema) is
    either false is = compiled_plain schema c is

-- ---- so nothing is written

shows_alone : (old new : State) (c : Compiled) (params : Row) (rows : List Row) (r : Option Returning) → r ≡ None → ShowsRows old new version_find c params rows r → IsUnchanged old new
shows_alone old new c params rows None none h = h.3
shows_alone old new c params rows (Some what) none h = absurd (let x = none in cc)

fails_alone : (old new : State) (c : Compiled) (params : Row) (e : Error) (r : Option Returning) → r ≡ None → FailsToShow old new version_find c params e r → IsUnchanged old new
fails_alone old new c params e None none h = h.3
fails_alone old new c params e (Some what) none h = absurd (let x = none in cc)

not_run : (old new : State) (e : Error) → IsNotRun old new version_find [] e → LeavesAsWas old new
unfolding IsNotRun
not_run old new e (inl h) = inl h.1
not_run old new e (inr h) = inr h.3

unanswered : (old new : State) (e : Error) → FailsToQuery version_find [] old new e → LeavesAsWas old new
unfolding FailsToQuery
unanswered old new e (inl h) = not_run old new e h
unanswered old new e (inr h) = inl (fails_alone old new h.0 _ e h.0.returning (version_plain old.now.schema h.0 h.1.is) h.2)

answered : (old new : State) (rows : List Row) → Shown version_find [] old new rows → LeavesAsWas old new
unfolding Shown
answered old new rows h = inl (shows_alone old new h.0 _ rows h.0.returning (version_plain old.now.schema h.0 h.1.is) h.2)

pub unchanged_asked : (old new : State) (r : Answer) → IfOk r (λ rows. Shown version_find [] old new rows.items) → OnOk r (IsUnchanged old new)
unfolding Shown
unchanged_asked old new (Ok rows) h = shows_alone old new h.0 _ rows.items h.0.returning (version_plain old.now.schema h.0 h.1.is) h.2
unchanged_asked old new (Err e) h = tt

pub leaves_asked : (old new : State) (r : Answer) → IfOk r (λ rows. Shown version_find [] old new rows.items) → IfErr r (FailsToQuery version_find [] old new) → LeavesAsWas old new
leaves_asked old new (Ok rows) told failed = answered old new rows.items told
leaves_asked old new (Err e) told failed = unanswered old new e failed

never_committed : (s : State) (db : Trees) → CommitsShowing version_find [] s db → ⊥
unfolding CommitsShowing
never_committed s db h = absurd (let bad = subst IsSome (version_plain s.now.schema h.0 h.1.is) h.2 in cc)

pub asked_quietly : (old new : State) → Survives old new (CommitsShowing version_find [] old) → Survives old new (λ _. ⊥)
asked_quietly old new it = survives_weaker old new (CommitsShowing version_find [] old) (λ _. ⊥) (λ clean db may. never_committed old db may) it

-- what was committed is what is there, where nothing was begun
pub back_left : (old new : State) → old.now ≡ old.committed → LeavesAsWas old new → IsBack old new
back_left old new same (inl h) is_open = (h.0.now_is, h.0.committed_is)
back_left old new same (inr h) is_open = ((h.undone is_open).0 ∙ sym same, (h.undone is_open).1)

-- ---- what it tells

rows_told : (old new : State) (c : Compiled) (it : IsStatement old version_find [] c) (rows : List Row) (r : Option Returning) → r ≡ None → ShowsRows old new version_find c (timed [] c.formats it.now) rows r → AnswersVersion old rows
rows_told old new c it rows None none h = (c, it, h.0, h.1, h.2)
rows_told old new c it rows (Some what) none h = absurd (let x = none in cc)

pub answers_asked : (old new : State) (r : Answer) → IfOk r (λ rows. Shown version_find [] old new rows.items) → IfOk r (λ rows. AnswersVersion old rows.items)
unfolding Shown
answers_asked old new (Ok rows) h = rows_told old new h.0 h.1 rows.items h.0.returning (version_plain old.now.schema h.0 h.1.is) h.2
answers_asked old new (Err e) h = tt

pub of_schema : (s : State) (rows items : List Row) (r : Result ℤ OpenFault) → rows ≡ items → AnswersVersion s items → IfOk r (ShowsAlone rows) → IfOk r (IsOfSchema s)
of_schema s rows items (Ok n) same told h = (rows, subst (AnswersVersion s) (sym same) told, h)
of_schema s rows items (Err e) same told h = tt

pub unnumbered : {A : Type 0} (s : State) (r : Result A OpenFault) → IfErr r IsUnnumbered → IfErr r (IsTold s)
unnumbered s (Ok x) h = tt
unnumbered s (Err Memory) h = tt
unnumbered s (Err Storage) h = tt
unnumbered s (Err (Numbered n)) h = absurd h
unnumbered s (Err NotARegistry) h = tt
