-- What a SELECT over one table shows: the rows that pass its test, in some order.
use Rattle.std.proofs.Common.{◌≡◌, ◌⊎◌, inl, inr, ℕ, ℤ, List, [], ◌∷◌, ◌++◌, map, Bool, true, false, cond, None, Some, Ok, Err, Result, IfOk, IfErr, OnOk, OnErr, refl, sym, ap, subst, ◌∙◌, arith, take}
use Rattle.std.specs.Prelude.{◌^◌, bytes_eq, ◌&&◌, filter, nat_le, slice_get, unwrap_or, Vec}
use Rattle.std.specs.declared.alloc.Global.{Global}
use Rattle.std.specs.List.{flat_map, list_all}
use Rattle.std.specs.List.Sorted.{IsPermutation}
use Rattle.std.specs.Ordering.{is_eq}
use Rattle.std.proofs.lemmas.List.Sorted.{IsPermutation-map}
use Rattle.std.proofs.lemmas.Map.Text.{is_eq-slice_cmp}
use Rattle.sqlite_value.proofs.OrderLemmas.{value_cmp-Text}
use Rattle.sqlite_sql.specs.declared.ops.BinaryOp.TheVariants.{Compare}
use Rattle.sqlite_sql.specs.declared.ops.CompareOp.TheVariants.{Eq}
use Rattle.sqlite.specs.Collation.TheVariants.{Binary}
use Rattle.sqlite.specs.declared.types.Value.{Value}
use Rattle.sqlite.specs.declared.types.Value.TheVariants.{Null, Int, Text}
use Rattle.sqlite.specs.declared.error.Error.{Error}
use Rattle.sqlite.specs.Order.{Row, value_cmp}
use Rattle.sqlite.specs.Ops.{binary, is_true, from_truth}
use Rattle.sqlite.specs.Term.{Term, Env, eval_all, holds}
use Rattle.sqlite.specs.Tree.{Trees}
use Rattle.sqlite.specs.Query.{IsAnswer, Output, output}
use Rattle.sqlite.specs.Program.{overlay}
use Rattle.sqlite.specs.Schema.{Schema}
use Rattle.sqlite.specs.Command.{Command}
use Rattle.sqlite.specs.Command.TheVariants.{Select}
use Rattle.sqlite.specs.Listing.{understood}
use Rattle.sqlite_resolve.specs.declared.compiled.Compiled.{Compiled}
use Rattle.sqlite_resolve.specs.declared.error.CompileError.{CompileError}
use Rattle.sqlite.specs.State.{State, Shown, Begins, IsUnchanged, IsRolledBack, FailsToQuery, IsNotRun, IsTooLate, KeepsCommit, HasCleanDisk, Survives, CommitsShowing}
use Rattle.sqlite.proofs.Callers.{IsPlain, command_of, reads_as, begins_as, never_commits}
use Rattle.sqlite.proofs.StateLemmas.{survives_weaker, survives_then}
use Rattle.sqlite_trees.specs.declared.store.Store.{Ghosts}
use Rattle.sqlite.specs.Held.{Held, state}
use Rattle.sqlite.specs.Given.{IsRefused}
use Rattle.store_schema.specs.Layout.{Means, command_in, select_from}
use Rattle.store_schema.specs.Ordered.{first_from}

-- ---- texts

pub command_is : (r : Result Compiled CompileError) (command : Command) → command_in (λ (c : Compiled). c.command) r ≡ Some command → command_of r ≡ command
command_is (Ok c) command e = cc
command_is (Err x) command e = absurd cc

pub means_command : (schema : Schema) (text : List ℕ) (command : Command) → Means schema text command → command_of (understood schema text) ≡ command
means_command schema text command it = command_is _ command it.is

pub stored_here : (tree : ℕ) (db : Trees) → nat_le (2 ^ 31) tree ≡ false → overlay db [] tree ≡ db tree
stored_here tree db e = ap (λ b. unwrap_or (cond b (slice_get [] (Rattle.std.specs.Prelude.◌-◌ tree (2 ^ 31))) None) (db tree)) e

-- ---- the rows that are shown

-- those at which each term of WHERE holds
abbrev pub chosen : Row → List Term → List Row → List Row
chosen params terms rows = filter (λ r. list_all (holds (params ∷ r ∷ [])) terms) rows

pub one_each : (p : Row → Bool) (f : Row → Env) (rows : List Row) → flat_map (λ r. cond (p r) (f r ∷ []) []) rows ≡ map f (filter p rows)
one_each p f [] = refl
one_each p f (r ∷ rs) = step (p r) _ (one_each p f rs)
  where
    step : (b : Bool) (left : List Env) → left ≡ map f (filter p rs) → cond b (f r ∷ []) [] ++ left ≡ map f (cond b (r ∷ filter p rs) (filter p rs))
    step true left e = ap (λ xs. f r ∷ xs) e
    step false left e = e

pub map-map : {A B C : Type 0} (f : B → C) (g : A → B) (xs : List A) → map f (map g xs) ≡ map (λ x. f (g x)) xs
map-map f g [] = refl
map-map f g (x ∷ xs) = ap (λ ys. f (g x) ∷ ys) (map-map f g xs)

pub answer_rows : (tree : ℕ) (terms project : List Term) (db : Trees) (params : Row) (rows : List Row) → IsAnswer (select_from tree terms project) db params rows
    → IsPermutation (map (λ r. eval_all project (params ∷ r ∷ [])) (chosen params terms (db tree))) rows
answer_rows tree terms project db params rows a =
    let q = select_from tree terms project in
    let staged : a.staged ≡ map (λ r. params ∷ r ∷ []) (chosen params terms (db tree)) = a.grouped ∙ one_each (λ r. list_all (holds (params ∷ r ∷ [])) terms) (λ r. params ∷ r ∷ []) (db tree) in
    let kept : a.kept ≡ map (output q) (map (λ r. params ∷ r ∷ []) (chosen params terms (db tree))) = a.distinct ∙ ap (map (output q)) staged in
    let outs = map (λ (o : Output). o.1) a.ordered in
    let same_rows : IsPermutation (map (λ (o : Output). o.1) a.kept) outs = IsPermutation-map (λ (o : Output). o.1) a.kept a.ordered a.same in
    let shown : map (λ (o : Output). o.1) a.kept ≡ map (λ r. eval_all project (params ∷ r ∷ [])) (chosen params terms (db tree)) =
    ap (map (λ (o : Output). o.1)) kept ∙ map-map (λ (o : Output). o.1) (output q) _ ∙ map-map (λ e. eval_all project e) (λ r. params ∷ r ∷ []) _ in
    subst (IsPermutation _) (sym a.shown) (subst (λ xs. IsPermutation xs outs) shown same_rows)

pub shows : (schema : Schema) (text : List ℕ) (names : List (List ℕ)) (tree : ℕ) (terms project : List Term) (params : Row) (old new : State) (rows : List Row) → old.now.schema ≡ schema
    → Means schema text (Select (record { lets = []; body = select_from tree terms project }) names) → nat_le (2 ^ 31) tree ≡ false → Shown text params old new rows
    → IsPermutation (map (λ r. eval_all project (params ∷ r ∷ [])) (chosen params terms (old.now.trees tree))) rows
shows schema text names tree terms project params old new rows has means stored h =
    let read = reads_as text params old new schema has _ (means_command schema text _ means) means.plain means.unlisted rows h in
    let found = answer_rows tree terms project (overlay old.now.trees []) params rows (read.answer Null) in
    subst (λ xs. IsPermutation (map (λ r. eval_all project (params ∷ r ∷ [])) (chosen params terms xs)) rows) (stored_here tree old.now.trees stored) found

-- ---- one row of any

-- the first of them in some order, if there is one
pub record ShowsOne (all rows : List Row) : Type 0 where
  pub some : List Row
  pub same : IsPermutation all some
  pub first : rows ≡ take 1 some

answer_one : (tree : ℕ) (terms project : List Term) (db : Trees) (params : Row) (rows : List Row) → IsAnswer (first_from tree terms project) db params rows
    → ShowsOne (map (λ r. eval_all project (params ∷ r ∷ [])) (chosen params terms (db tree))) rows
answer_one tree terms project db params rows a =
    let q = first_from tree terms project in
    let staged : a.staged ≡ map (λ r. params ∷ r ∷ []) (chosen params terms (db tree)) = a.grouped ∙ one_each (λ r. list_all (holds (params ∷ r ∷ [])) terms) (λ r. params ∷ r ∷ []) (db tree) in
    let kept : a.kept ≡ map (output q) (map (λ r. params ∷ r ∷ []) (chosen params terms (db tree))) = a.distinct ∙ ap (map (output q)) staged in
    let outs = map (λ (o : Output). o.1) a.ordered in
    let same_rows : IsPermutation (map (λ (o : Output). o.1) a.kept) outs = IsPermutation-map (λ (o : Output). o.1) a.kept a.ordered a.same in
    let shown : map (λ (o : Output). o.1) a.kept ≡ map (λ r. eval_all project (params ∷ r ∷ [])) (chosen params terms (db tree)) =
    ap (map (λ (o : Output). o.1)) kept ∙ map-map (λ (o : Output). o.1) (output q) _ ∙ map-map (λ e. eval_all project e) (λ r. params ∷ r ∷ []) _ in
    record { some = outs; same = subst (λ xs. IsPermutation xs outs) shown same_rows; first = a.shown }

pub shows_one : (schema : Schema) (text : List ℕ) (names : List (List ℕ)) (tree : ℕ) (terms project : List Term) (params : Row) (old new : State) (rows : List Row) → old.now.schema ≡ schema
    → Means schema text (Select (record { lets = []; body = first_from tree terms project }) names) → nat_le (2 ^ 31) tree ≡ false → Shown text params old new rows
    → ShowsOne (map (λ r. eval_all project (params ∷ r ∷ [])) (chosen params terms (old.now.trees tree))) rows
shows_one schema text names tree terms project params old new rows has means stored h =
    let read = reads_as text params old new schema has _ (means_command schema text _ means) means.plain means.unlisted rows h in
    let found = answer_one tree terms project (overlay old.now.trees []) params rows (read.answer Null) in
    subst (λ xs. ShowsOne (map (λ r. eval_all project (params ∷ r ∷ [])) (chosen params terms xs)) rows) (stored_here tree old.now.trees stored) found

-- ---- tests

truth : (b : Bool) → is_true (from_truth (Some b)) ≡ b
truth true = refl
truth false = refl

abbrev same : Value → Value → Bool
same a b = is_true (binary (Compare Eq Binary) a b)

same_text : (t s : List ℕ) → same (Text t) (Text s) ≡ bytes_eq t s
unfolding binary
same_text t s = truth (is_eq (value_cmp (Text t) (Text s))) ∙ ap is_eq (value_cmp-Text t s) ∙ is_eq-slice_cmp t s

same_int : (m n : ℤ) → same (Int m) (Int n) ≡ is_eq (value_cmp (Int m) (Int n))
unfolding binary
same_int m n = truth (is_eq (value_cmp (Int m) (Int n)))

pub is_text : (v : Value) (t s : List ℕ) → v ≡ Text t → is_true (binary (Compare Eq Binary) v (Text s)) ≡ bytes_eq t s
is_text v t s e = rw e (same_text t s)

pub is_int : (v : Value) (m n : ℤ) → v ≡ Int m → is_true (binary (Compare Eq Binary) v (Int n)) ≡ is_eq (value_cmp v (Int n))
is_int v m n e = rw e (same_int m n)

pub one_test : (x p : Bool) → x ≡ p → x && true ≡ p
one_test true p e = e
one_test false p e = e

pub both_tests : (x y p q : Bool) → x ≡ p → y ≡ q → x && (y && true) ≡ p && q
both_tests true true p q e f = cc
both_tests true false p q e f = cc
both_tests false y p q e f = ap (λ b. b && q) e

-- ---- a query leaves all as it was, also where it fails

pub unchanged_by : (sql : List ℕ) (params : Row) (old new : State) (rows : List Row) → IsPlain (understood old.now.schema sql) → Shown sql params old new rows → IsUnchanged old new
unfolding Shown
unchanged_by sql params old new rows plain h = let none = (subst IsPlain h.1.is plain).0 in (rw none at h.2).3

pub left_by_query : (sql : List ℕ) (params : Row) (old new : State) (e : Error) → IsPlain (understood old.now.schema sql) → FailsToQuery sql params old new e → IsUnchanged old new ⊎ IsRolledBack old new
unfolding FailsToQuery IsNotRun
left_by_query sql params old new e plain (inl (inl h)) = inl h.1
left_by_query sql params old new e plain (inl (inr h)) = inr h.3
left_by_query sql params old new e plain (inr h) = let none = (subst IsPlain h.1.is plain).0 in inl (rw none at h.2).3

pub query_survives : (sql : List ℕ) (params : Row) (old new : State) → (HasCleanDisk old → IsPlain (understood old.now.schema sql)) → Survives old new (CommitsShowing sql params old) → Survives old new (λ _. ⊥)
query_survives sql params old new plain s = survives_weaker old new _ _ (λ clean db may.
    let early : HasCleanDisk old = omega (arith, s.clean) in never_commits sql params old db (plain early) may) s

-- ---- the commit stays

pub commit_unchanged : (old new : State) → IsUnchanged old new → KeepsCommit old new
commit_unchanged old new u = record { was_open = λ e. u.0.was_open; committed = λ e. u.0.committed_is }

pub commit_rolled_back : (old new : State) → IsRolledBack old new → KeepsCommit old new
commit_rolled_back old new r = record { was_open = r.was_open; committed = λ e. (r.undone e).1 }

pub commit_left : (old new : State) → IsUnchanged old new ⊎ IsRolledBack old new → KeepsCommit old new
commit_left old new (inl u) = commit_unchanged old new u
commit_left old new (inr r) = commit_rolled_back old new r

pub commit_then : (a b c : State) → KeepsCommit a b → KeepsCommit b c → KeepsCommit a c
commit_then a b c p q = record { was_open = λ e. p.was_open (q.was_open e); committed = λ e. q.committed e ∙ p.committed (q.was_open e) }

-- ---- the same of a call's result

-- what `query_all` answers
abbrev pub Answer : Type 0
Answer = Result (Vec Row Global) Error

pub leaves_all : (sql : List ℕ) (params : Row) (old new : State) (r : Answer) → IsPlain (understood old.now.schema sql) → IfOk r (λ rows. Shown sql params old new rows.items) → OnOk r (IsUnchanged old new)
leaves_all sql params old new (Err e) plain h = tt
leaves_all sql params old new (Ok rows) plain h = unchanged_by sql params old new rows.items plain h

-- inside a transaction
pub keeps_by_query : (sql : List ℕ) (params : Row) (old new : State) (r : Answer) → IsPlain (understood old.now.schema sql) → IfOk r (λ rows. Shown sql params old new rows.items)
    → IfErr r (λ e. FailsToQuery sql params old new e ⊎ IsTooLate sql params old new e) → KeepsCommit old new
keeps_by_query sql params old new (Ok rows) plain h e = commit_unchanged old new (unchanged_by sql params old new rows.items plain h)
keeps_by_query sql params old new (Err x) plain h (inl e) = commit_left old new (left_by_query sql params old new x plain e)
keeps_by_query sql params old new (Err x) plain h (inr e) = commit_unchanged old new e.5

-- ---- rows that are read one at a time

-- the first row begins an answer
pub shows_first : (schema : Schema) (text : List ℕ) (names : List (List ℕ)) (tree : ℕ) (terms project : List Term) (params : Row) (s : State) (row : Row) → s.now.schema ≡ schema
    → Means schema text (Select (record { lets = []; body = select_from tree terms project }) names) → nat_le (2 ^ 31) tree ≡ false → Begins text params s (row ∷ [])
    → (tail : List Row) × IsPermutation (map (λ r. eval_all project (params ∷ r ∷ [])) (chosen params terms (s.now.trees tree))) (row ∷ tail)
shows_first schema text names tree terms project params s row has means stored h =
    let first = begins_as text params s s schema has _ (means_command schema text _ means) means.plain means.unlisted (row ∷ []) h in
    let found = answer_rows tree terms project (overlay s.now.trees []) params (row ∷ first.1.0) (first.1.1 Null) in
    (first.1.0, subst (λ xs. IsPermutation (map (λ r. eval_all project (params ∷ r ∷ [])) (chosen params terms xs)) (row ∷ first.1.0)) (stored_here tree s.now.trees stored) found)

-- a query that does not begin
pub refused_leaves : {S X : Type 0} (g : Ghosts S) (sql : List ℕ) (params : Row) (old new : Held S) (r : Result X Error) (e : Error) → (HasCleanDisk (state g old) → IsPlain (understood old.schema sql)) → r ≡ Err e
    → OnErr r (IsRefused g sql params old r new) → (HasCleanDisk (state g new) → IsUnchanged (state g old) (state g new) ⊎ IsRolledBack (state g old) (state g new)) × Survives (state g old) (state g new) (λ _. ⊥)
refused_leaves g sql params old new (Ok x) e plain is h = absurd cc
refused_leaves g sql params old new (Err x) e plain is h = (
  λ clean. let early : HasCleanDisk (state g old) = omega (arith, h.survives.clean) in left_by_query sql params (state g old) (state g new) x (plain early) (h.err clean),
  query_survives sql params (state g old) (state g new) plain h.survives,
)

-- a disk that has returned what was written had done so before
pub was_clean : {old new : State} {P : Trees → Type 0} → Survives old new P → HasCleanDisk new → HasCleanDisk old
was_clean it clean = omega (arith, it.clean)

pub survives_both : (a b c : State) → Survives a b (λ _. ⊥) → Survives b c (λ _. ⊥) → Survives a c (λ _. ⊥)
survives_both a b c p q = survives_then a b c _ _ _ (λ clean db x. x) (λ clean db x. x) p q

pub if_err : {X E P : Type 0} (r : Result X E) → P → IfErr r (λ _. P)
if_err (Ok x) p = tt
if_err (Err e) p = p
