-- What the statements on grants make of the tables.
use Rattle.std.proofs.Common.{◌≡◌, ℕ, ℤ, pos, List, [], ◌∷◌, None, Ok, Err, Result, OnOk, IfOk, length, sym, ap, refl}
use Rattle.std.specs.Prelude.{filter, find}
use Rattle.sqlite.specs.declared.types.Value.TheVariants.{Null, Int, Text}
use Rattle.sqlite.specs.declared.error.Error.{Error}
use Rattle.sqlite.specs.Order.{Row, column}
use Rattle.sqlite.specs.Cast.{cast_row}
use Rattle.sqlite.specs.Ops.{unary}
use Rattle.sqlite.specs.Schema.{Schema}
use Rattle.sqlite.specs.Tree.{rowid}
use Rattle.sqlite.specs.State.{State, Executes, ExecutesInside}
use Rattle.sqlite_rules.specs.Edit.{id_in}
use Rattle.registry_model.specs.declared.level.Level.{Level}
use Rattle.registry_model.specs.declared.level.Level.TheVariants.{Pull, Push, Delete}
use Rattle.store_schema.specs.Schema.{grants_table}
use Rattle.store_schema.specs.Layout.{placed, equals}
use Rattle.store_schema.proofs.Lists.{none_found}
use Rattle.store_schema.proofs.Selects.{is_text, both_tests, one_test}
use Rattle.store_schema.proofs.Writes.{passes, either}
use Rattle.store_contents.specs.Layouts.{Layout}
use Rattle.store_statements.specs.Keys.{has_key, of_first, of_second, same_key}
use Rattle.store_statements.specs.Tables.{Tables, AreTables, AreRows, IsGrantRow, level_number, level_of}
use Rattle.store_statements.specs.Changes.{with_level, grant_columns, Comes}
use Rattle.store_statements.specs.GrantTexts.{grant_take, grant_take_all, grant_take_token, grant_set_level, grant_add}
use Rattle.store_statements.specs.Held.{held, HoldsTables, Becomes}
use Rattle.store_statements.specs.Steps.{grants_without, grants_changed, GrantComes}
use Rattle.store_statements.proofs.OtherTables.{only_grants, contents_beside_grants}
use Rattle.store_statements.proofs.Keys.{key_turned, key_parts}
use Rattle.store_statements.proofs.Statements as statements

put_are : (t : Tables) (rows : List Row) → AreTables t → AreRows IsGrantRow same_key rows → AreTables (record t { grants = rows })
put_are t rows a r = record { repos = a.repos; grants = r; tags = a.tags; blobs = a.blobs; manifests = a.manifests; uploads = a.uploads; pieces = a.pieces }

-- ---- tests

pub key_test : (token repo : List ℕ) (more : Row) (r : Row) → IsGrantRow r → passes (Text token ∷ Text repo ∷ more) (equals 1 0 ∷ equals 2 1 ∷ []) r ≡ has_key token repo r
key_test token repo more r it = both_tests _ _ _ _ (is_text (column r 1) _ token it.token) (is_text (column r 2) _ repo it.repo)

pub repo_test : (repo : List ℕ) (r : Row) → IsGrantRow r → passes (Text repo ∷ []) (equals 2 0 ∷ []) r ≡ of_second repo r
repo_test repo r it = one_test _ _ (is_text (column r 2) _ repo it.repo)

pub token_test : (token : List ℕ) (r : Row) → IsGrantRow r → passes (Text token ∷ []) (equals 1 0 ∷ []) r ≡ of_first token r
token_test token r it = one_test _ _ (is_text (column r 1) _ token it.token)

-- a level's number stands for it
pub level_again : (level : Level) → level_of (level_number level) ≡ level
level_again Pull = refl
level_again Push = refl
level_again Delete = refl

is_level : (level : Level) → Int (pos (level_number level)) ≡ Int (pos (level_number (level_of (level_number level))))
is_level level = ap (λ l. Int (pos (level_number l))) (sym (level_again level))

-- ---- rows go

took : {l : Layout} → (token repo : List ℕ) (old new : State) (n : ℕ) → HoldsTables l old.now → Executes grant_take (Text token ∷ Text repo ∷ []) old new (Ok n) → (held l new ≡ grants_without (has_key token repo) (held l old)) × HoldsTables l new.now
took {l} token repo old new n h ran = statements.takes grants_table IsGrantRow same_key (λ t rows. record t { grants = rows }) (λ schema k. k.grants) (λ a b k keeps rows e. only_grants a b k keeps rows e) (λ a b k keeps is. contents_beside_grants a b k keeps is) (λ db t. t.grants) put_are
    grant_take (equals 1 0 ∷ equals 2 1 ∷ []) (Text token ∷ Text repo ∷ []) (has_key token repo) old new n h h.known.grants_alone h.known.grant_texts.take (key_test token repo []) ran

took_all : {l : Layout} → (repo : List ℕ) (old new : State) (n : ℕ) → HoldsTables l old.now → Executes grant_take_all (Text repo ∷ []) old new (Ok n) → (held l new ≡ grants_without (of_second repo) (held l old)) × HoldsTables l new.now
took_all {l} repo old new n h ran = statements.takes grants_table IsGrantRow same_key (λ t rows. record t { grants = rows }) (λ schema k. k.grants) (λ a b k keeps rows e. only_grants a b k keeps rows e) (λ a b k keeps is. contents_beside_grants a b k keeps is) (λ db t. t.grants) put_are
    grant_take_all (equals 2 0 ∷ []) (Text repo ∷ []) (of_second repo) old new n h h.known.grants_alone h.known.grant_texts.take_all (repo_test repo) ran

took_token : {l : Layout} → (token : List ℕ) (old new : State) (n : ℕ) → HoldsTables l old.now → Executes grant_take_token (Text token ∷ []) old new (Ok n) → (held l new ≡ grants_without (of_first token) (held l old)) × HoldsTables l new.now
took_token {l} token old new n h ran = statements.takes grants_table IsGrantRow same_key (λ t rows. record t { grants = rows }) (λ schema k. k.grants) (λ a b k keeps rows e. only_grants a b k keeps rows e) (λ a b k keeps is. contents_beside_grants a b k keeps is) (λ db t. t.grants) put_are
    grant_take_token (equals 1 0 ∷ []) (Text token ∷ []) (of_first token) old new n h h.known.grants_alone h.known.grant_texts.take_token (token_test token) ran

-- ---- a row changes

cast_set : (schema : Schema) (id : ℤ) (token repo : List ℕ) (level : Level) → cast_row (placed schema grants_table) (Int id ∷ Text token ∷ Text repo ∷ Int (pos (level_number level)) ∷ []) ≡ Int id ∷ Text token ∷ Text repo ∷ Int (pos (level_number level)) ∷ []
unfolding unary
cast_set schema id token repo level = rw (either, either)

cast_row_set : (schema : Schema) (level : Level) (r : Row) → IsGrantRow r → rowid r ≡ Int (id_in (rowid r)) → cast_row (placed schema grants_table) (with_level level r) ≡ with_level level r
cast_row_set schema level r it id = rw (id, it.token, it.repo) (cast_set schema _ _ _ level)

was_set : {l : Layout} → (token repo : List ℕ) (level : Level) (old new : State) (n : ℕ) → HoldsTables l old.now → Executes grant_set_level (Text token ∷ Text repo ∷ Int (pos (level_number level)) ∷ []) old new (Ok n)
    → (n ≡ length (filter (has_key token repo) (held l old).grants)) × (held l new ≡ grants_changed (has_key token repo) (with_level level) (held l old)) × HoldsTables l new.now
was_set {l} token repo level old new n h ran = statements.changes grants_table IsGrantRow same_key (λ t rows. record t { grants = rows }) (λ schema k. k.grants) (λ a b k keeps rows e. only_grants a b k keeps rows e) (λ a b k keeps is. contents_beside_grants a b k keeps is) (λ db t. t.grants) put_are
    grant_set_level (equals 1 0 ∷ equals 2 1 ∷ []) _ (Text token ∷ Text repo ∷ Int (pos (level_number level)) ∷ []) (has_key token repo) (with_level level) old new n h h.known.grant_texts.set_level (key_test token repo (Int (pos (level_number level)) ∷ []))
    (key_parts token repo) (λ r. refl) (λ r. refl) (cast_row_set old.now.schema level)
    (λ r it. record { token = it.token; repo = it.repo; level = is_level level }) (λ a r. refl) (λ a r. refl) ran

-- ---- a row comes

cast_come : (schema : Schema) (token repo : List ℕ) (level : Level) → cast_row (placed schema grants_table) (Null ∷ grant_columns token repo level) ≡ Null ∷ grant_columns token repo level
unfolding unary
cast_come schema token repo level = rw (either, either)

came : {l : Layout} → (token repo : List ℕ) (level : Level) (old new : State) (n : ℕ) → HoldsTables l old.now → find (has_key token repo) (held l old).grants ≡ None → Executes grant_add (Text token ∷ Text repo ∷ Int (pos (level_number level)) ∷ []) old new (Ok n)
    → Comes (held l old).grants (held l new).grants (grant_columns token repo level) × (held l new ≡ record (held l old) { grants = (held l new).grants }) × HoldsTables l new.now
came {l} token repo level old new n h fresh ran = statements.comes grants_table IsGrantRow same_key (λ t rows. record t { grants = rows }) (λ schema k. k.grants) (λ a b k keeps rows e. only_grants a b k keeps rows e) (λ a b k keeps is. contents_beside_grants a b k keeps is) (λ db t. t.grants) put_are
    grant_add _ 4 (Text token ∷ Text repo ∷ Int (pos (level_number level)) ∷ []) (grant_columns token repo level) old new n h h.known.grant_texts.add refl refl refl (cast_come old.now.schema token repo level)
    (λ id. record { token = refl; repo = refl; level = is_level level }) key_turned (λ id. none_found (has_key token repo) _ fresh) ran

-- ---- the same of a call's result, inside a transaction

pub took_by : {l : Layout} → (token repo : List ℕ) (old new : State) (r : Result ℕ Error) → HoldsTables l old.now → ExecutesInside 0 grant_take (Text token ∷ Text repo ∷ []) old new r → OnOk r (Becomes l new (grants_without (has_key token repo) (held l old)))
took_by {l} token repo old new (Err e) h ran = tt
took_by {l} token repo old new (Ok n) h ran = let it = took token repo old new n h ran.0 in (record { inside = ran.1.mode; holds = it.1 }, it.0)

pub took_all_by : {l : Layout} → (repo : List ℕ) (old new : State) (r : Result ℕ Error) → HoldsTables l old.now → ExecutesInside 0 grant_take_all (Text repo ∷ []) old new r → OnOk r (Becomes l new (grants_without (of_second repo) (held l old)))
took_all_by {l} repo old new (Err e) h ran = tt
took_all_by {l} repo old new (Ok n) h ran = let it = took_all repo old new n h ran.0 in (record { inside = ran.1.mode; holds = it.1 }, it.0)

pub took_token_by : {l : Layout} → (token : List ℕ) (old new : State) (r : Result ℕ Error) → HoldsTables l old.now → ExecutesInside 0 grant_take_token (Text token ∷ []) old new r → OnOk r (Becomes l new (grants_without (of_first token) (held l old)))
took_token_by {l} token old new (Err e) h ran = tt
took_token_by {l} token old new (Ok n) h ran = let it = took_token token old new n h ran.0 in (record { inside = ran.1.mode; holds = it.1 }, it.0)

pub set_by : {l : Layout} → (token repo : List ℕ) (level : Level) (old new : State) (r : Result ℕ Error) → HoldsTables l old.now → ExecutesInside 0 grant_set_level (Text token ∷ Text repo ∷ Int (pos (level_number level)) ∷ []) old new r
    → OnOk r (Becomes l new (grants_changed (has_key token repo) (with_level level) (held l old))) × IfOk r (λ n. n ≡ length (filter (has_key token repo) (held l old).grants))
set_by {l} token repo level old new (Err e) h ran = (tt, tt)
set_by {l} token repo level old new (Ok n) h ran = let it = was_set token repo level old new n h ran.0 in ((record { inside = ran.1.mode; holds = it.2 }, it.1), it.0)

pub added_by : {l : Layout} → (token repo : List ℕ) (level : Level) (old new : State) (r : Result ℕ Error) → HoldsTables l old.now → find (has_key token repo) (held l old).grants ≡ None → ExecutesInside 0 grant_add (Text token ∷ Text repo ∷ Int (pos (level_number level)) ∷ []) old new r
    → OnOk r (GrantComes l old new (grant_columns token repo level))
added_by {l} token repo level old new (Err e) h fresh ran = tt
added_by {l} token repo level old new (Ok n) h fresh ran = let it = came token repo level old new n h fresh ran.0 in record { ready = record { inside = ran.1.mode; holds = it.2 }; comes = it.0; others = it.1 }
