-- A repository with no children is taken out: each action of a foreign key finds nothing.
use Rattle.std.proofs.Common.{◌≡◌, ◌≢◌, ◌∙◌, inl, inr, ℕ, List, [], ◌∷◌, Bool, true, false, cond, not, Some, Ok, Err, Result, OnOk, sym, ap, subst, refl}
use Rattle.std.specs.Prelude.{bytes_eq, ◌&&◌}
use Rattle.std.specs.List.{AllByRecursion, list_any}
use Rattle.sqlite.specs.declared.types.Value.TheVariants.{Text}
use Rattle.sqlite.specs.declared.error.Error.{Error}
use Rattle.sqlite.specs.Order.{Row, column}
use Rattle.sqlite.specs.Schema.{Schema}
use Rattle.sqlite.specs.Table.{Table}
use Rattle.sqlite.specs.Term.{col}
use Rattle.sqlite.specs.Tree.{Trees}
use Rattle.sqlite.specs.Edit.{edit_of}
use Rattle.sqlite.specs.Rowids.TheVariants.{Given}
use Rattle.sqlite.specs.State.{State, Executes, ExecutesInside}
use Rattle.sqlite_value.specs.Keys.{first_key, plain}
use Rattle.sqlite_rules.specs.Calls.{ids_of}
use Rattle.sqlite_rules.specs.Edit.{Applies, taken_by}
use Rattle.sqlite_rules.specs.Lists.{Has}
use Rattle.sqlite_rules.specs.Action.{Work, pairs, loses, is_child_of}
use Rattle.sqlite_rules.specs.declared.action.Deed.{Deed}
use Rattle.sqlite_rules.proofs.ListLemmas.{all_has}
use Rattle.sqlite_schema.specs.Rules.{ParentKey, parent_key, agree}
use Rattle.sqlite_schema.specs.declared.schema.Reference.{Reference}
use Rattle.sqlite_schema.specs.declared.schema.Keys.TheVariants.{Enforced}
use Rattle.store_schema.specs.Schema.{repos_table, grants_table, tags_table, blob_links_table, manifest_links_table, uploads_table, pieces_table}
use Rattle.store_schema.specs.Rows.{bytes_at, IsTextAt}
use Rattle.store_schema.specs.Layout.{placed, tree_of, equals}
use Rattle.store_schema.proofs.Lists.{bytes_eq_true}
use Rattle.store_schema.proofs.Selects.{is_text}
use Rattle.store_schema.proofs.Writes.{passes, deletes, Edits, Removes}
use Rattle.store_schema.proofs.Children.{SetsOff, removes_childless, taken_passed}
use Rattle.store_contents.specs.Layouts.{Layout}
use Rattle.store_statements.specs.Keys.{of_first, of_second, same_first}
use Rattle.store_statements.specs.Tables.{Tables, IsEmptyBeside, IsRepoRow, IsGrantRow, IsTagRow, IsBlobRow, IsManifestRow, IsUploadRow, IsPieceRow}
use Rattle.store_statements.specs.RepoTexts.{repo_take}
use Rattle.store_statements.specs.Known.{NamesRepo, repo_key, trees_of, is_beside}
use Rattle.store_statements.specs.Held.{held, HoldsTables, Becomes}
use Rattle.store_statements.specs.Steps.{repos_without}
use Rattle.store_statements.specs.Changes.{without}
use Rattle.store_statements.specs.Drops.{HasNoChildren, without_children}
use Rattle.store_statements.proofs.BesideRows.{apart_beside, none_beside}
use Rattle.store_statements.proofs.OtherTables.{only_repos, contents_beside_repos}
use Rattle.store_statements.proofs.RepoRows.{name_test, put_are}
use Rattle.store_statements.proofs.Statements as statements

-- ---- a row that does not name the repository is no child

apart : (place : ℕ) (name : List ℕ) (r old : Row) → IsTextAt r place → column old 1 ≡ Text name → bytes_eq (bytes_at r place) name ≡ false → agree plain (place ∷ []) r (1 ∷ []) old ≡ false
unfolding first_key
apart place name r old text named away = rw named (ap (λ b. b && true) (is_text (column r place) (bytes_at r place) name text ∙ away))

and_false : (a b : Bool) → b ≡ false → a && b ≡ false
and_false true b e = e
and_false false b e = refl

-- each row that was taken out has the name
abbrev Named : List ℕ → List (Row × Row) → Type 0
Named name moves = AllByRecursion (λ m. column m.0 1 ≡ Text name) moves

no_move : (place : ℕ) (name : List ℕ) (child : Table) (ref : Reference) (deed : Deed) (all : List (Row × Row)) (r : Row) → ref.columns ≡ place ∷ [] → IsTextAt r place → bytes_eq (bytes_at r place) name ≡ false
    → (moves : List (Row × Row)) → Named name moves → list_any (is_child_of (record { depth = 0; child = child; ref = ref; places = 1 ∷ []; order = plain; deed = deed; moves = all }) r) moves ≡ false
no_move place name child ref deed all r columns text away [] h = refl
no_move place name child ref deed all r columns text away (m ∷ ms) h =
    rw (and_false (loses plain (1 ∷ []) m) _ (ap (λ cs. agree plain cs r (1 ∷ []) m.0) columns ∙ apart place name r m.0 text h.0 away), no_move place name child ref deed all r columns text away ms h.1)

pairs_named : (name : List ℕ) (olds : List Row) → AllByRecursion (λ r. column r 1 ≡ Text name) olds → Named name (pairs olds [])
pairs_named name [] h = tt
pairs_named name (r ∷ rs) h = (h.0, pairs_named name rs h.1)

-- ---- the statement

module _ {l : Layout} (name : List ℕ) (old new : State) (n : ℕ) (h : HoldsTables l old.now) (bare : HasNoChildren (held l old) name) (ran : Executes repo_take (Text name ∷ []) old new (Ok n)) where
  abbrev schema : Schema
  schema = old.now.schema

  abbrev db : Trees
  db = old.now.trees

  abbrev table : Table
  table = placed schema repos_table

  abbrev params : Row
  params = Text name ∷ []

  did : Edits schema table (equals 1 0 ∷ []) (col 1 0 ∷ []) 0 (λ _. []) taken_by params old new n
  did = deletes schema h.known.repos.at table h.known.repos.place h.known.repos.stored repo_take (equals 1 0 ∷ []) params old new refl n ran h.known.repo_texts.take

  abbrev olds : List Row
  olds = taken_by db (edit_of db table (ids_of did.rows) Given 0 [])

  named : Named name (pairs olds [])
  named = pairs_named name olds (taken_passed (λ r. column r 1 ≡ Text name) (passes params (equals 1 0 ∷ [])) (db table.tree) did.rows h.tables.repos.ids did.shown
      (λ r has passed. let it = all_has IsRepoRow (db table.tree) r h.tables.repos.types has in it.name ∙ ap Text (bytes_eq_true _ _ (sym (name_test name [] r it) ∙ passed))))

  -- in a table whose rows do not name it
  none_in : (mid : Trees) (place : ℕ) (tree : ℕ) → mid tree ≡ db tree → ((r : Row) → Has (db tree) r → IsTextAt r place × (bytes_eq (bytes_at r place) name ≡ false))
      → (child : Table) (ref : Reference) (deed : Deed) → child.tree ≡ tree → ref.columns ≡ place ∷ [] → (r : Row) → Has (mid child.tree) r
      → list_any (is_child_of (record { depth = 0; child = child; ref = ref; places = 1 ∷ []; order = plain; deed = deed; moves = pairs olds [] }) r) (pairs olds []) ≡ false
  none_in mid place tree same rows child ref deed at columns r has =
      let it = rows r (subst (λ xs. Has xs r) (ap mid at ∙ same) has) in
      no_move place name child ref deed (pairs olds []) r columns it.0 it.1 (pairs olds []) named

  childless : (mid : Trees) → Applies schema Enforced db (edit_of db table (ids_of did.rows) Given 0 []) mid → (w : Work) → SetsOff schema (pairs olds []) w → (r : Row) → Has (mid w.child.tree) r → list_any (is_child_of w r) w.moves ≡ false
  childless mid a w set = elim (h.known.children set.child set.listed set.ref set.refers) [
    | inl it ↦ childless_ours it
    | inr is ↦ childless_beside is
  ]
    where
      kept : (tree : ℕ) → set.child.tree ≡ tree → tree ≢ table.tree → mid tree ≡ db tree
      kept tree e away = subst (λ t. mid t ≡ db t) e (all_has (λ (t : Table). t.tree ≢ table.tree → mid t.tree ≡ db t.tree) schema.tables set.child a.tables set.listed (λ x. away (sym e ∙ x)))

      Bare : Work → Type 0
      Bare x = (r : Row) → Has (mid x.child.tree) r → list_any (is_child_of x r) x.moves ≡ false

      -- a further table has no row
      childless_beside : is_beside (trees_of schema) set.child ≡ true → Bare w
      childless_beside is =
          let none : mid set.child.tree ≡ [] = kept set.child.tree refl (apart_beside (trees_of schema) 1 table.tree set.child refl is) ∙ none_beside db (trees_of schema) schema.tables bare.beside set.child set.listed is in
          subst Bare (sym set.is) (λ r has. absurd (subst (λ xs. Has xs r) none has))

      -- one of the nine has no row that names the repository
      Left : Type 0
      Left = (r : Row) → Has (mid set.child.tree) r → list_any (is_child_of (record { depth = 0; child = set.child; ref = set.ref; places = 1 ∷ []; order = plain; deed = set.deed; moves = pairs olds [] }) r) (pairs olds []) ≡ false

      go : NamesRepo schema set.child set.ref.columns → Left
      go (inl (e, c)) = none_in mid 2 (tree_of schema grants_table) (kept _ e (λ x. h.known.apart.1.0.0 (sym x))) (λ r has. ((all_has IsGrantRow _ r h.tables.grants.types has).repo, all_has (λ x. of_second name x ≡ false) _ r bare.grants has)) set.child set.ref set.deed e c
      go (inr (inl e, c)) = none_in mid 1 (tree_of schema tags_table) (kept _ e (λ x. h.known.apart.1.0.1.0 (sym x))) (λ r has. ((all_has IsTagRow _ r h.tables.tags.types has).repo, all_has (λ x. of_first name x ≡ false) _ r bare.tags has)) set.child set.ref set.deed e c
      go (inr (inr (inl e), c)) = none_in mid 1 (tree_of schema blob_links_table) (kept _ e (λ x. h.known.apart.1.0.1.1.1.0 (sym x))) (λ r has. ((all_has IsBlobRow _ r h.tables.blobs.types has).repo, all_has (λ x. of_first name x ≡ false) _ r bare.blobs has)) set.child set.ref set.deed e c
      go (inr (inr (inr (inl e)), c)) = none_in mid 1 (tree_of schema manifest_links_table) (kept _ e (λ x. h.known.apart.1.0.1.1.1.1.0 (sym x))) (λ r has. ((all_has IsManifestRow _ r h.tables.manifests.types has).repo, all_has (λ x. of_first name x ≡ false) _ r bare.manifests has)) set.child set.ref set.deed e c
      go (inr (inr (inr (inr (inl e))), c)) = none_in mid 1 (tree_of schema uploads_table) (kept _ e (λ x. h.known.apart.1.0.1.1.1.1.1.0 (sym x))) (λ r has. ((all_has IsUploadRow _ r h.tables.uploads.types has).repo, all_has (λ x. of_first name x ≡ false) _ r bare.uploads has)) set.child set.ref set.deed e c
      go (inr (inr (inr (inr (inr e))), c)) = none_in mid 1 (tree_of schema pieces_table) (kept _ e (λ x. h.known.apart.1.0.1.1.1.1.1.1.0 (sym x))) (λ r has. ((all_has IsPieceRow _ r h.tables.pieces.types has).repo, all_has (λ x. of_first name x ≡ false) _ r bare.pieces has)) set.child set.ref set.deed e c

      childless_ours : NamesRepo schema set.child set.ref.columns × (parent_key schema.tables set.ref ≡ Some (repo_key schema)) → Bare w
      childless_ours it =
          let key : set.key ≡ repo_key schema = (let x = sym set.key_is ∙ it.1 in cc) in
          subst Bare (sym set.is)
          (subst (λ (k : ParentKey). Bare (record { depth = 0; child = set.child; ref = set.ref; places = k.1; order = k.2; deed = set.deed; moves = pairs olds [] })) (sym key)
          (go it.0))

  removed : Removes schema table (passes params (equals 1 0 ∷ [])) old new
  removed = removes_childless schema table (equals 1 0 ∷ []) params old new n h.tables.repos.ids did childless

  took : (held l new ≡ repos_without (of_first name) (held l old)) × HoldsTables l new.now
  took = statements.taken repos_table IsRepoRow same_first (λ t rows. record t { repos = rows }) (λ schema k. k.repos) (λ a b k keeps rows e. only_repos a b k keeps rows e) (λ a b k keeps is. contents_beside_repos a b k keeps is) (λ db t. t.repos) put_are
      (equals 1 0 ∷ []) params (of_first name) old new h (name_test name []) removed

pub took_by : {l : Layout} → (name : List ℕ) (old new : State) (r : Result ℕ Error) → HoldsTables l old.now → HasNoChildren (held l old) name → ExecutesInside 0 repo_take (Text name ∷ []) old new r → OnOk r (Becomes l new (repos_without (of_first name) (held l old)))
took_by {l} name old new (Err e) h bare ran = tt
took_by {l} name old new (Ok n) h bare ran = let it = took name old new n h bare ran.0 in (record { inside = ran.1.mode; holds = it.1 }, it.0)

-- ---- no child is left

gone : (p : Row → Bool) (rows : List Row) → AllByRecursion (λ r. p r ≡ false) (without p rows)
gone p [] = tt
gone p (r ∷ rs) = step (p r) refl (gone p rs)
  where
    step : (b : Bool) → p r ≡ b → AllByRecursion (λ x. p x ≡ false) (without p rs) → AllByRecursion (λ x. p x ≡ false) (cond (not b) (r ∷ without p rs) (without p rs))
    step true e more = more
    step false e more = (e, more)

pub childless_now : (name : List ℕ) (t u : Tables) → IsEmptyBeside t.beside → u ≡ without_children name t → HasNoChildren u name
childless_now name t u none e = subst (λ x. HasNoChildren x name) (sym e) (record {
  grants = gone (of_second name) t.grants;
  tags = gone (of_first name) t.tags;
  blobs = gone (of_first name) t.blobs;
  manifests = gone (of_first name) t.manifests;
  uploads = gone (of_first name) t.uploads;
  pieces = gone (of_first name) t.pieces;
  beside = none;
})
