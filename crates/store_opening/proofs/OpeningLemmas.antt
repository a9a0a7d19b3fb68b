-- What an opening finds out of the schema and of the one row that names it.
use Rattle.std.proofs.Common.{◌≡◌, ◌≢◌, ◌∙◌, ℕ, ℤ, zero, suc, Bool, true, false, true≢false, List, [], ◌∷◌, Some, None, Ok, Err, Result, IfOk, IfErr, IsErrAnd, OnOk, OnErr, inl, inr, refl, sym, ap, subst}
use Rattle.std.specs.Prelude.{is_some, slice_get, map, codes, pos, ⊤}
use Rattle.sqlite.specs.declared.types.Value.TheVariants.{Int}
use Rattle.sqlite.specs.Order.{Row, column}
use Rattle.sqlite.specs.Table.{Table}
use Rattle.sqlite.specs.Schema.{Schema}
use Rattle.sqlite.specs.State.{State}
use Rattle.sqlite_schema.specs.Names.{same_name}
use Rattle.store_schema.specs.Schema.{no_schema, version_table}
use Rattle.store_schema.specs.Making.{IsEmptyWith}
use Rattle.store_schema.specs.Layout.{Stands, placed}
use Rattle.store_contents.specs.Layouts.{InTables}
use Rattle.store_statements.specs.Held.{IsSettled, HoldsTables, held}
use Rattle.store_statements.specs.Registry.{IsOfSchemaTwo}
use Rattle.store_opening.specs.Opening.{IsIdle, KnowsVersion, HoldsRegistry, has_version_table}
use Rattle.store_opening.specs.declared.opening.OpenFault.{OpenFault}
use Rattle.store_opening.specs.declared.opening.OpenFault.TheVariants.{Memory, Storage, NotARegistry, Schema as Numbered}
use Rattle.store_opening.specs.Asking.{IsFailing, IsWanting, IsWantingOr, IsTold, IsUnnumbered, NamesNotTwo, IsOfSchema, ShowsAlone}
use Rattle.store_statements.specs.VersionTexts.{version_find}
use Rattle.store_schema.proofs.Selects.{Answer, shows}
use Rattle.store_schema.proofs.Writes.{passes}
use Rattle.store_schema.specs.Layout.{tree_of}
use Rattle.sqlite.proofs.Callers.{one_permutation, command_of}
use Rattle.sqlite.specs.Effect.{Database, RefusesQuery, RefusesToRead}
use Rattle.sqlite.specs.State.{FailsToShow}
use Rattle.sqlite_schema.specs.declared.command.Returning.{Returning}
use Rattle.sqlite_resolve.specs.declared.compiled.Compiled.{Compiled}
use Rattle.sqlite.specs.Term.{col}
use Rattle.sqlite.specs.Given.{IsPlain}
use Rattle.sqlite.specs.Command.{Command}
use Rattle.sqlite.specs.Command.TheVariants.{Select}
use Rattle.sqlite.specs.State.{IsNoStatement}
use Rattle.sqlite_schema.specs.declared.program.Program.{Program}
use Rattle.store_schema.proofs.Selects.{means_command}
use Rattle.store_schema.specs.Layout.{Means}
use Rattle.std.specs.Prelude.{Option, cond, ◌+◌}
use Rattle.sqlite.specs.declared.error.Error.{Error}
use Rattle.sqlite.specs.State.{Shown, FailsToQuery, IsNotRun, store_error}
use Rattle.sqlite_trees.specs.declared.error.StoreError.{StoreError}
use Rattle.sqlite_trees.specs.declared.error.StoreError.TheVariants.{OutOfMemory, Io, Corrupt, Full, Broken, Unstorable}
use Rattle.std.specs.List.Sorted.{IsPermutation}
use Rattle.std.proofs.lemmas.List.Sorted.{IsPermutation-sym}
use Rattle.std.specs.Prelude.{filter}
use Rattle.std.specs.List.{position_from}

-- the place of one that passes is found, or an earlier one
pub has_position : (test : Table → Bool) (from at : ℕ) (tables : List Table) (t : Table) → slice_get tables at ≡ Some t → test t ≡ true → is_some (position_from test from tables) ≡ true
has_position test from at [] t is passes = absurd (let x = is in cc)
has_position test from zero (x ∷ tables) t is passes =
    let same : x ≡ t = (let e = is in cc) in
    rw (ap test same ∙ passes)
has_position test from (suc at) (x ∷ tables) t is passes = later (test x) (has_position test (from + 1) at tables t is passes)
  where
    later : (found : Bool) → is_some (position_from test (from + 1) tables) ≡ true → is_some (cond found (Some from) (position_from test (from + 1) tables)) ≡ true
    later true e = refl
    later false e = e

-- ---- the rows that say it

all_pass : (rows : List Row) → filter (passes [] []) rows ≡ rows
all_pass [] = refl
all_pass (r ∷ rows) = ap (λ xs. r ∷ xs) (all_pass rows)

pub knows_version : (db : Database) → HoldsTables InTables db → KnowsVersion db.schema
knows_version db h = record { stands = h.known.version; find = h.known.version_texts.find }

pub shows_version : (old new : State) (r : Answer) → KnowsVersion old.now.schema → IfOk r (λ rows. Shown version_find [] old new rows.items)
    → IfOk r (λ rows. IsPermutation (map {B = Row} (λ r. column r 1 ∷ []) (held InTables old).version) rows.items)
shows_version old new (Err e) h shown = tt
shows_version old new (Ok rows) h shown =
    subst (λ (xs : List Row). IsPermutation (map {B = Row} (λ r. column r 1 ∷ []) xs) rows.items) (all_pass (held InTables old).version)
    (shows old.now.schema version_find _ (tree_of old.now.schema version_table) [] (col 1 1 ∷ []) [] old new rows.items refl h.find h.stands.stored shown)

-- what the rows say that were answered, the table's say, and the other way round
pub alone_in : (all rows : List Row) (n : ℤ) → IsPermutation all rows → ShowsAlone rows n → ShowsAlone all n
alone_in all rows n same it = (it.0, one_permutation it.0 all (subst (λ (xs : List Row). IsPermutation xs all) it.1 (IsPermutation-sym all rows same)), it.2)

pub alone_from : (all rows : List Row) (n : ℤ) → IsPermutation all rows → ShowsAlone all n → ShowsAlone rows n
alone_from all rows n same it = (it.0, one_permutation it.0 rows (subst (λ (xs : List Row). IsPermutation xs rows) it.1 same), it.2)

pub alone_if : {E : Type 0} (all rows items : List Row) (r : Result ℤ E) → rows ≡ items → IsPermutation all items → IfOk r (ShowsAlone rows) → IfOk r (ShowsAlone all)
alone_if all rows items (Ok n) is same h = alone_in all items n same (subst (λ (xs : List Row). ShowsAlone xs n) is h)
alone_if all rows items (Err e) is same h = tt

-- rows say one number at most
pub same_alone : (rows : List Row) (n m : ℤ) → ShowsAlone rows n → ShowsAlone rows m → n ≡ m
same_alone rows n m a b =
    let lists : a.0 ∷ [] ≡ b.0 ∷ [] = sym a.1 ∙ b.1 in
    let row : a.0 ≡ b.0 = cc in
    let value : Int n ≡ Int m = sym a.2 ∙ ap (λ (r : Row). column r 0) row ∙ b.2 in
    cc

-- one row that shows 2 is all that there is
pub says_two : (rows : List Row) → ShowsAlone (map {B = Row} (λ r. column r 1 ∷ []) rows) (pos 2) → IsOfSchemaTwo rows
says_two [] it = absurd (let e = it.1 in cc)
says_two (r ∷ rs) it =
    let row : it.0 ≡ column r 1 ∷ [] = (let e = it.1 in cc) in
    let value : column r 1 ≡ Int (pos 2) = sym (ap (λ (x : Row). column x 0) row) ∙ it.2 in
    it.1 ∙ ap (λ (x : Row). x ∷ []) (row ∙ ap (λ v. v ∷ []) value)

pub shows_two : (rows : List Row) → rows ≡ (Int (pos 2) ∷ []) ∷ [] → ShowsAlone rows (pos 2)
shows_two rows says = (Int (pos 2) ∷ [], says, refl)

-- ---- how asking for it fails

not_input : (kind : StoreError) (e : Error) → e ≡ store_error kind → IsFailing e
not_input OutOfMemory e is cause other = let x = sym is ∙ other in absurd cc
not_input Io e is cause other = let x = sym is ∙ other in absurd cc
not_input Corrupt e is cause other = let x = sym is ∙ other in absurd cc
not_input Full e is cause other = let x = sym is ∙ other in absurd cc
not_input Broken e is cause other = let x = sym is ∙ other in absurd cc
not_input Unstorable e is cause other = let x = sym is ∙ other in absurd cc

refused : (limit : Option ℕ) (q : Program) (db : Database) (params : Row) (e : Error) → RefusesQuery limit db q params e → IsFailing e
refused limit q db params e (inl h) cause other = let x = sym h.0 ∙ other in absurd cc
refused limit q db params e (inr (inl h)) cause other = let x = sym h.0 ∙ other in absurd cc
refused limit q db params e (inr (inr h)) cause other = let x = sym h.0 ∙ other in absurd cc

misused : (s : State) (e : Error) (command : Command) → Means s.now.schema version_find command → IsNoStatement s version_find [] e → IsFailing e
misused s e command means (inl text) cause other = let x = rw text.1 at means.is in absurd cc
misused s e command means (inr (c, is, inl h)) cause other = let x = sym h.1 ∙ other in absurd cc
misused s e command means (inr (c, is, inr (inl h))) cause other = let x = sym h.1 ∙ other in absurd cc
misused s e command means (inr (c, is, inr (inr h))) cause other = let x = sym h.1 ∙ other in absurd cc

unshown : (old new : State) (c : Compiled) (params : Row) (e : Error) (q : Program) (names : List (List ℕ)) (r : Option Returning) → r ≡ None → c.command ≡ Select q names
    → FailsToShow old new version_find c params e r → IsFailing e
unshown old new c params e q names None none is h = refused old.step_limit q h.0 params e (subst (λ k. RefusesToRead old.step_limit k h.0 params e) is h.2)
unshown old new c params e q names (Some what) none is h = absurd (let x = none in cc)

fails : (old new : State) (e : Error) (q : Program) (names : List (List ℕ)) → Means old.now.schema version_find (Select q names) → FailsToQuery version_find [] old new e → IsFailing e
unfolding FailsToQuery IsNotRun
fails old new e q names means (inl (inl h)) = misused old e _ means h.0
fails old new e q names means (inl (inr h)) = not_input h.0 e h.1
fails old new e q names means (inr h) =
    unshown old new h.0 _ e q names h.0.returning (subst IsPlain h.1.is means.plain).0
    (subst (λ r. command_of r ≡ Select q names) h.1.is (means_command old.now.schema version_find (Select q names) means)) h.2

pub fails_understood : (old new : State) (r : Answer) → KnowsVersion old.now.schema → IfErr r (FailsToQuery version_find [] old new) → IfErr r IsFailing
fails_understood old new (Ok rows) h failed = tt
fails_understood old new (Err e) h failed = fails old new e _ _ h.find failed

-- ---- the schema has the table

pub is_marked : (schema : Schema) → Stands schema version_table → has_version_table schema ≡ true
unfolding same_name
is_marked schema it = has_position (λ t. same_name t.name (codes "registry_schema")) 0 it.at schema.tables (placed schema version_table) it.place refl

pub settled : (s : State) → IsIdle s → HoldsRegistry s.now → IsSettled InTables s
settled s idle it = record { is_open = idle.is_open; autocommit = idle.autocommit; committed = idle.committed; holds = it.holds; agree = it.agree }

-- ---- what is answered to the number that is found

unnumbered_told : (s : State) (fault : OpenFault) → IsUnnumbered fault → IsTold s fault
unnumbered_told s Memory h = tt
unnumbered_told s Storage h = tt
unnumbered_told s (Numbered n) h = absurd h
unnumbered_told s NotARegistry h = tt

module _ (rows : List Row) (found : Result ℤ OpenFault) (alone : IfOk found (ShowsAlone rows)) where
  -- 2 is served, and what is refused is told as it was found
  abbrev Refuses : Result ⊤ OpenFault → Type 0
  Refuses r = IfErr r (λ e. IfOk found (λ n. (n ≢ pos 2) × (e ≡ Numbered n)) × IfErr found (λ f. e ≡ f))

  pub two_told : (r : Result ⊤ OpenFault) → OnOk r (found ≡ Ok (pos 2)) → OnOk r (ShowsAlone rows (pos 2))
  two_told (Ok x) is = subst (λ f. IfOk f (ShowsAlone rows)) is alone
  two_told (Err e) is = tt

  pub wanting_told : (r : Result ⊤ OpenFault) → Refuses r → rows ≡ (Int (pos 2) ∷ []) ∷ [] → ((n : ℤ) → ShowsAlone rows n → IfErr found IsWanting) → IfErr r IsWanting
  wanting_told (Ok x) refuses says whole = tt
  wanting_told (Err e) refuses says whole = go found alone refuses (whole (pos 2) (shows_two rows says))
    where
      go : (f : Result ℤ OpenFault) → IfOk f (ShowsAlone rows) → IfOk f (λ n. (n ≢ pos 2) × (e ≡ Numbered n)) × IfErr f (λ k. e ≡ k) → IfErr f IsWanting → IsWanting e
      go (Ok n) one is wanting = absurd (is.0.0 (same_alone rows n (pos 2) one (shows_two rows says)))
      go (Err k) one is wanting = subst IsWanting (sym is.1) wanting

  pub other_told : (r : Result ⊤ OpenFault) → Refuses r → (n : ℤ) → ShowsAlone rows n → IfErr found IsWanting → IfErr r (IsWantingOr (Numbered n))
  other_told (Ok x) refuses n says whole = tt
  other_told (Err e) refuses n says whole = go found alone refuses whole
    where
      go : (f : Result ℤ OpenFault) → IfOk f (ShowsAlone rows) → IfOk f (λ m. (m ≢ pos 2) × (e ≡ Numbered m)) × IfErr f (λ k. e ≡ k) → IfErr f IsWanting → IsWantingOr (Numbered n) e
      go (Ok m) one is wanting = inr (is.0.1 ∙ ap Numbered (same_alone rows m n one says))
      go (Err k) one is wanting = inl (subst IsWanting (sym is.1) wanting)

  pub unsaid_told : (r : Result ⊤ OpenFault) → Refuses r → ((n : ℤ) → ShowsAlone rows n → ⊥) → IfErr found (IsWantingOr NotARegistry) → IfErr r (IsWantingOr NotARegistry)
  unsaid_told (Ok x) refuses none or = tt
  unsaid_told (Err e) refuses none or = go found alone refuses or
    where
      go : (f : Result ℤ OpenFault) → IfOk f (ShowsAlone rows) → IfOk f (λ m. (m ≢ pos 2) × (e ≡ Numbered m)) × IfErr f (λ k. e ≡ k) → IfErr f (IsWantingOr NotARegistry) → IsWantingOr NotARegistry e
      go (Ok m) one is wanting = absurd (none m one)
      go (Err k) one is wanting = subst (IsWantingOr NotARegistry) (sym is.1) wanting

pub told_as : (s : State) (found : Result ℤ OpenFault) (r : Result ⊤ OpenFault) → IfErr r (λ e. IfOk found (λ n. (n ≢ pos 2) × (e ≡ Numbered n)) × IfErr found (λ f. e ≡ f)) → IfOk found (IsOfSchema s) → IfErr found IsUnnumbered → IfErr r (IsTold s)
told_as s found (Ok x) refuses of none = tt
told_as s (Ok n) (Err e) refuses of none = subst (IsTold s) (sym refuses.0.1) (refuses.0.0, of)
told_as s (Err k) (Err e) refuses of none = subst (IsTold s) (sym refuses.1) (unnumbered_told s k none)

unnumbered_names : (k : OpenFault) → IsUnnumbered k → NamesNotTwo k
unnumbered_names Memory none = tt
unnumbered_names Storage none = tt
unnumbered_names NotARegistry none = tt
unnumbered_names (Numbered n) none = absurd none

pub never_two : (found : Result ℤ OpenFault) (r : Result ⊤ OpenFault) → IfErr r (λ e. IfOk found (λ n. (n ≢ pos 2) × (e ≡ Numbered n)) × IfErr found (λ f. e ≡ f)) → IfErr found IsUnnumbered → IfErr r NamesNotTwo
never_two found (Ok x) refuses none = tt
never_two (Ok n) (Err e) refuses none = subst NamesNotTwo (sym refuses.0.1) refuses.0.0
never_two (Err k) (Err e) refuses none = subst NamesNotTwo (sym refuses.1) (unnumbered_names k none)

pub names_none : {A : Type 0} (r : Result A OpenFault) → IfErr r IsUnnumbered → IfErr r NamesNotTwo
names_none (Ok x) none = tt
names_none (Err k) none = unnumbered_names k none

unnumbered_wanting : (k : OpenFault) → IsUnnumbered k → IsWantingOr NotARegistry k
unnumbered_wanting Memory none = inl (inl refl)
unnumbered_wanting Storage none = inl (inr refl)
unnumbered_wanting NotARegistry none = inr refl
unnumbered_wanting (Numbered n) none = absurd none

-- no schema is named, so it is no registry, or memory was wanting, or the storage failed
pub unnamed : {A : Type 0} (r : Result A OpenFault) → IfErr r IsUnnumbered → IfErr r (IsWantingOr NotARegistry)
unnamed (Ok x) none = tt
unnamed (Err k) none = unnumbered_wanting k none

told_unnumbered : (s : State) (k : OpenFault) → IsTold s k → ((n : ℤ) → IsOfSchema s n → ⊥) → IsUnnumbered k
told_unnumbered s Memory told none = tt
told_unnumbered s Storage told none = tt
told_unnumbered s NotARegistry told none = tt
told_unnumbered s (Numbered n) told none = none n told.1

-- a schema that is named is answered
pub unanswered : {A : Type 0} (s : State) (r : Result A OpenFault) → IfErr r (IsTold s) → ((n : ℤ) → IsOfSchema s n → ⊥) → IfErr r (IsWantingOr NotARegistry)
unanswered s (Ok x) told none = tt
unanswered s (Err k) told none = unnumbered_wanting k (told_unnumbered s k told none)

pub is_two : (r : Result ⊤ OpenFault) (rows : List Row) → OnOk r (ShowsAlone (map {B = Row} (λ r. column r 1 ∷ []) rows) (pos 2)) → OnOk r (IsOfSchemaTwo rows)
is_two (Ok x) rows h = says_two rows h
is_two (Err e) rows h = tt

pub on_two : (found : Result ℤ OpenFault) (r : Result ⊤ OpenFault) (P Q : Type 0) → OnOk r (found ≡ Ok (pos 2)) → OnOk found P → (P → Q) → OnOk r Q
on_two found (Ok x) P Q is h then = then (subst (λ f. OnOk f P) is h)
on_two found (Err e) P Q is h then = tt

pub on_err : {A E : Type 0} (r : Result A E) (P : Type 0) → P → OnErr r P
on_err (Ok x) P p = tt
on_err (Err e) P p = p

pub on_ok : {A E : Type 0} (r : Result A E) (P : Type 0) → P → OnOk r P
on_ok (Ok x) P p = p
on_ok (Err e) P p = tt

-- what is taken up was asked, and answered 2
pub two_asked : (s : State) (found : Result ℤ OpenFault) → IfOk found (IsOfSchema s) → (r : Result ⊤ OpenFault) → OnOk r (found ≡ Ok (pos 2)) → OnOk r (IsOfSchema s (pos 2))
two_asked s found of (Ok x) is = subst (λ f. IfOk f (IsOfSchema s)) is of
two_asked s found of (Err e) is = tt

-- the fault of a call is the function's own
pub passed_on : {A : Type 0} (P : OpenFault → Type 0) (r : Result A OpenFault) (fault : OpenFault) → IsErrAnd r (λ e. e ≡ fault) → P fault → IfErr r P
passed_on P (Ok v) fault is it = tt
passed_on P (Err e) fault is it = subst P (sym is) it

-- memory or the storage names no schema
wanting_none : (k : OpenFault) → IsWanting k → IsUnnumbered k
wanting_none k (inl is) = subst IsUnnumbered (sym is) tt
wanting_none k (inr is) = subst IsUnnumbered (sym is) tt

pub wanting_unnumbered : {A : Type 0} (r : Result A OpenFault) → IfErr r IsWanting → IfErr r IsUnnumbered
wanting_unnumbered (Ok x) h = tt
wanting_unnumbered (Err k) h = wanting_none k h

-- ---- the table was seen, or was not

pub never_both : (found has : Bool) → found ≡ has → has ≡ true → found ≡ false → ⊥
never_both found has told there none = true≢false (sym there ∙ sym told ∙ none)

pub never_neither : (found has : Bool) → found ≡ has → has ≡ false → found ≡ true → ⊥
never_neither found has told none there = true≢false (sym there ∙ told ∙ none)

pub bare_unmarked : (db : Database) → IsEmptyWith no_schema db → has_version_table db.schema ≡ false
bare_unmarked db it = ap has_version_table it.schema_is
