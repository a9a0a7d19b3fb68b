-- What the statements on repositories make of the tables.
use Rattle.std.proofs.Common.{◌≡◌, ◌∙◌, ℕ, ℤ, pos, List, [], ◌∷◌, true, false, None, Ok, Err, Result, OnOk, IfOk, length, sym, ap, refl}
use Rattle.std.specs.Prelude.{filter, find, bytes_eq}
use Rattle.sqlite.specs.declared.types.Value.TheVariants.{Null, Int, Text}
use Rattle.sqlite.specs.declared.error.Error.{Error}
use Rattle.sqlite.specs.Order.{Row, column}
use Rattle.sqlite.specs.Cast.{cast_row}
use Rattle.sqlite.specs.Ops.{unary}
use Rattle.sqlite.specs.Schema.{Schema}
use Rattle.sqlite.specs.Tree.{rowid}
use Rattle.sqlite.specs.State.{State, Executes, ExecutesInside}
use Rattle.sqlite_rules.specs.Edit.{id_in}
use Rattle.store_schema.specs.Schema.{repos_table}
use Rattle.store_schema.specs.Rows.{bytes_at}
use Rattle.store_schema.specs.Layout.{placed, equals}
use Rattle.store_schema.proofs.Lists.{bytes_eq-sym, bytes_eq_true, none_found}
use Rattle.store_schema.proofs.Selects.{is_text, one_test}
use Rattle.store_schema.proofs.Writes.{passes, either}
use Rattle.store_contents.specs.Layouts.{Layout}
use Rattle.store_statements.specs.Keys.{of_first, same_first}
use Rattle.store_statements.specs.Tables.{Tables, AreTables, AreRows, IsRepoRow}
use Rattle.store_statements.specs.Changes.{with_quota, with_last, repo_columns, Comes}
use Rattle.store_statements.specs.RepoTexts.{repo_add, repo_set_quota, repo_set_last}
use Rattle.store_statements.specs.Held.{held, HoldsTables, Becomes}
use Rattle.store_statements.specs.Steps.{repos_changed, RepoComes}
use Rattle.store_statements.proofs.OtherTables.{only_repos, contents_beside_repos}
use Rattle.store_statements.proofs.Statements as statements

pub put_are : (t : Tables) (rows : List Row) → AreTables t → AreRows IsRepoRow same_first rows → AreTables (record t { repos = rows })
put_are t rows a r = record { repos = r; grants = a.grants; tags = a.tags; blobs = a.blobs; manifests = a.manifests; uploads = a.uploads; pieces = a.pieces }

-- ---- names

pub name_test : (name : List ℕ) (more : Row) (r : Row) → IsRepoRow r → passes (Text name ∷ more) (equals 1 0 ∷ []) r ≡ of_first name r
name_test name more r it = one_test _ _ (is_text (column r 1) _ name it.name)

first_turned : (a b : Row) → same_first a b ≡ same_first b a
first_turned a b = bytes_eq-sym (bytes_at b 1) (bytes_at a 1)

-- a name that one row has no row apart from it has
pub first_parts : (name : List ℕ) (x y : Row) → same_first x y ≡ false → of_first name x ≡ true → of_first name y ≡ false
first_parts name x y apart e = ap (bytes_eq (bytes_at y 1)) (sym (bytes_eq_true _ _ e)) ∙ apart

-- ---- a row comes

cast_come : (schema : Schema) (name : List ℕ) (quota : ℕ) → cast_row (placed schema repos_table) (Null ∷ repo_columns name quota) ≡ Null ∷ repo_columns name quota
unfolding unary
cast_come schema name quota = rw (either, either, either)

came : {l : Layout} → (name : List ℕ) (quota : ℕ) (old new : State) (n : ℕ) → HoldsTables l old.now → find (of_first name) (held l old).repos ≡ None → Executes repo_add (Text name ∷ Int (pos quota) ∷ []) old new (Ok n)
    → Comes (held l old).repos (held l new).repos (repo_columns name quota) × (held l new ≡ record (held l old) { repos = (held l new).repos }) × HoldsTables l new.now
came {l} name quota old new n h fresh ran = statements.comes repos_table IsRepoRow same_first (λ t rows. record t { repos = rows }) (λ schema k. k.repos) (λ a b k keeps rows e. only_repos a b k keeps rows e) (λ a b k keeps is. contents_beside_repos a b k keeps is) (λ db t. t.repos) put_are
    repo_add _ 4 (Text name ∷ Int (pos quota) ∷ []) (repo_columns name quota) old new n h h.known.repo_texts.add refl refl refl (cast_come old.now.schema name quota)
    (λ id. record { name = refl; quota = refl; last = refl }) first_turned (λ id. none_found (of_first name) _ fresh) ran

-- ---- a row changes

cast_set : (schema : Schema) (id : ℤ) (name : List ℕ) (quota last : ℕ) → cast_row (placed schema repos_table) (Int id ∷ Text name ∷ Int (pos quota) ∷ Int (pos last) ∷ []) ≡ Int id ∷ Text name ∷ Int (pos quota) ∷ Int (pos last) ∷ []
unfolding unary
cast_set schema id name quota last = rw (either, either, either)

cast_quota : (schema : Schema) (quota : ℕ) (r : Row) → IsRepoRow r → rowid r ≡ Int (id_in (rowid r)) → cast_row (placed schema repos_table) (with_quota quota r) ≡ with_quota quota r
cast_quota schema quota r it id = rw (id, it.name, it.last) (cast_set schema _ _ quota _)

cast_last : (schema : Schema) (last : ℕ) (r : Row) → IsRepoRow r → rowid r ≡ Int (id_in (rowid r)) → cast_row (placed schema repos_table) (with_last last r) ≡ with_last last r
cast_last schema last r it id = rw (id, it.name, it.quota) (cast_set schema _ _ _ last)

quota_set : {l : Layout} → (name : List ℕ) (quota : ℕ) (old new : State) (n : ℕ) → HoldsTables l old.now → Executes repo_set_quota (Text name ∷ Int (pos quota) ∷ []) old new (Ok n)
    → (n ≡ length (filter (of_first name) (held l old).repos)) × (held l new ≡ repos_changed (of_first name) (with_quota quota) (held l old)) × HoldsTables l new.now
quota_set {l} name quota old new n h ran = statements.changes repos_table IsRepoRow same_first (λ t rows. record t { repos = rows }) (λ schema k. k.repos) (λ a b k keeps rows e. only_repos a b k keeps rows e) (λ a b k keeps is. contents_beside_repos a b k keeps is) (λ db t. t.repos) put_are
    repo_set_quota (equals 1 0 ∷ []) _ (Text name ∷ Int (pos quota) ∷ []) (of_first name) (with_quota quota) old new n h h.known.repo_texts.set_quota (name_test name (Int (pos quota) ∷ []))
    (first_parts name) (λ r. refl) (λ r. refl) (cast_quota old.now.schema quota)
    (λ r it. record { name = it.name; quota = refl; last = it.last }) (λ a r. refl) (λ a r. refl) ran

last_set : {l : Layout} → (name : List ℕ) (last : ℕ) (old new : State) (n : ℕ) → HoldsTables l old.now → Executes repo_set_last (Text name ∷ Int (pos last) ∷ []) old new (Ok n)
    → (n ≡ length (filter (of_first name) (held l old).repos)) × (held l new ≡ repos_changed (of_first name) (with_last last) (held l old)) × HoldsTables l new.now
last_set {l} name last old new n h ran = statements.changes repos_table IsRepoRow same_first (λ t rows. record t { repos = rows }) (λ schema k. k.repos) (λ a b k keeps rows e. only_repos a b k keeps rows e) (λ a b k keeps is. contents_beside_repos a b k keeps is) (λ db t. t.repos) put_are
    repo_set_last (equals 1 0 ∷ []) _ (Text name ∷ Int (pos last) ∷ []) (of_first name) (with_last last) old new n h h.known.repo_texts.set_last (name_test name (Int (pos last) ∷ []))
    (first_parts name) (λ r. refl) (λ r. refl) (cast_last old.now.schema last)
    (λ r it. record { name = it.name; quota = it.quota; last = refl }) (λ a r. refl) (λ a r. refl) ran

-- ---- the same of a call's result, inside a transaction

pub added_by : {l : Layout} → (name : List ℕ) (quota : ℕ) (old new : State) (r : Result ℕ Error) → HoldsTables l old.now → find (of_first name) (held l old).repos ≡ None → ExecutesInside 0 repo_add (Text name ∷ Int (pos quota) ∷ []) old new r
    → OnOk r (RepoComes l old new (repo_columns name quota))
added_by {l} name quota old new (Err e) h fresh ran = tt
added_by {l} name quota old new (Ok n) h fresh ran = let it = came name quota old new n h fresh ran.0 in record { ready = record { inside = ran.1.mode; holds = it.2 }; comes = it.0; others = it.1 }

pub quota_set_by : {l : Layout} → (name : List ℕ) (quota : ℕ) (old new : State) (r : Result ℕ Error) → HoldsTables l old.now → ExecutesInside 0 repo_set_quota (Text name ∷ Int (pos quota) ∷ []) old new r
    → OnOk r (Becomes l new (repos_changed (of_first name) (with_quota quota) (held l old))) × IfOk r (λ n. n ≡ length (filter (of_first name) (held l old).repos))
quota_set_by {l} name quota old new (Err e) h ran = (tt, tt)
quota_set_by {l} name quota old new (Ok n) h ran = let it = quota_set name quota old new n h ran.0 in ((record { inside = ran.1.mode; holds = it.2 }, it.1), it.0)

pub last_set_by : {l : Layout} → (name : List ℕ) (last : ℕ) (old new : State) (r : Result ℕ Error) → HoldsTables l old.now → ExecutesInside 0 repo_set_last (Text name ∷ Int (pos last) ∷ []) old new r
    → OnOk r (Becomes l new (repos_changed (of_first name) (with_last last) (held l old))) × IfOk r (λ n. n ≡ length (filter (of_first name) (held l old).repos))
last_set_by {l} name last old new (Err e) h ran = (tt, tt)
last_set_by {l} name last old new (Ok n) h ran = let it = last_set name last old new n h ran.0 in ((record { inside = ran.1.mode; holds = it.2 }, it.1), it.0)
