-- What the reads of repositories show.
use Rattle.std.proofs.Common.{◌≡◌, ◌∙◌, ℕ, List, [], ◌∷◌, map, length, false, Ok, Err, IfOk, ap, sym, subst, refl}
use Rattle.std.specs.Prelude.{find}
use Rattle.std.specs.List.{AllByRecursion}
use Rattle.std.specs.Ordering.{is_eq}
use Rattle.std.specs.Option.{option_to_list}
use Rattle.std.proofs.lemmas.Map.Text.{is_eq-slice_cmp}
use Rattle.std.proofs.lemmas.Cmp.{nat_list_cmp_total, on_total}
use Rattle.std.proofs.lemmas.List.Sorted.{length_permutation}
use Rattle.sqlite_value.proofs.OrderLemmas.{value_cmp-Text, then-Equal}
use Rattle.sqlite_sql.proofs.QueryLemmas.{output_cmp_total}
use Rattle.sqlite.specs.declared.types.Value.TheVariants.{Null, Text}
use Rattle.sqlite.specs.Order.{Row, column, value_cmp}
use Rattle.sqlite.specs.Program.{overlay}
use Rattle.sqlite.specs.Query.{Query, output_cmp}
use Rattle.sqlite.specs.State.{State, Shown}
use Rattle.sqlite.specs.Term.{col}
use Rattle.sqlite.specs.Tree.{IsAscending}
use Rattle.sqlite.proofs.Callers.{reads_as}
use Rattle.sqlite_trees.proofs.ListLemmas.{filter_all, all_of}
use Rattle.sqlite_keyed.specs.Lists.{sort_by}
use Rattle.sqlite_keyed.proofs.ListLemmas.{ascending-map}
use Rattle.sqlite_keyed.proofs.SortLemmas.{HasNoTies, IsPermutation-sort_by}
use Rattle.store_schema.specs.Schema.{repos_table}
use Rattle.store_schema.specs.Rows.{bytes_at}
use Rattle.store_schema.specs.Layout.{equals, tree_of}
use Rattle.store_schema.proofs.Lists.{bytes_eq-sym}
use Rattle.store_schema.proofs.Pages.{out_of}
use Rattle.store_schema.proofs.Selects.{Answer, chosen, stored_here, means_command}
use Rattle.store_contents.specs.Layouts.{Layout}
use Rattle.store_statements.specs.Keys.{of_first, same_first}
use Rattle.store_statements.specs.Tables.{IsRepoRow, AreRows}
use Rattle.store_schema.specs.Ordered.{ordered_from}
use Rattle.store_statements.specs.RepoTexts.{repo_find, repo_list}
use Rattle.store_statements.specs.Held.{held, HoldsTables}
use Rattle.store_statements.specs.Shown.{by_name}
use Rattle.store_statements.proofs.RepoRows.{name_test, first_parts}
use Rattle.store_statements.proofs.Selected.{finds}
use Rattle.store_statements.proofs.SelectedRows.{length_mapped}
use Rattle.store_statements.proofs.Sorted.{ordered, sort_same}

pub shows_repo : {l : Layout} → (name : List ℕ) (old new : State) (r : Answer) → HoldsTables l old.now → IfOk r (λ rows. Shown repo_find (Text name ∷ []) old new rows.items)
    → IfOk r (λ rows. rows.items ≡ map (λ r. column r 2 ∷ column r 3 ∷ []) (option_to_list (find (of_first name) (held l old).repos)))
shows_repo {l} name old new r h shown = finds repos_table IsRepoRow same_first repo_find _ (equals 1 0 ∷ []) _ (Text name ∷ []) (of_first name) old new r
    h.known.repo_texts.find h.known.repos.stored h.tables.repos (name_test name []) (first_parts name) shown

-- ---- in the order of names

abbrev of_list : ℕ → Query
of_list tree = ordered_from tree [] (col 1 1 ∷ []) 1

names_compared : (tree : ℕ) (a b : Row) → IsRepoRow a → IsRepoRow b → output_cmp (of_list tree) (out_of (of_list tree) [] a) (out_of (of_list tree) [] b) ≡ by_name a b
names_compared tree a b x y = then-Equal (value_cmp (column a 1) (column b 1)) ∙ ap (λ v. value_cmp v (column b 1)) x.name ∙ ap (value_cmp (Text (bytes_at a 1))) y.name ∙ value_cmp-Text (bytes_at a 1) (bytes_at b 1)

no_ties : (tree : ℕ) (xs : List Row) → AllByRecursion IsRepoRow xs → IsAscending (λ a b. same_first a b ≡ false) xs
    → IsAscending (λ a b. is_eq (output_cmp (of_list tree) (out_of (of_list tree) [] a) (out_of (of_list tree) [] b)) ≡ false) xs
no_ties tree [] all up = tt
no_ties tree (x ∷ xs) all up = (later xs all.1 up.0, no_ties tree xs all.1 up.1)
  where
    later : (ys : List Row) → AllByRecursion IsRepoRow ys → AllByRecursion (λ y. same_first x y ≡ false) ys
        → AllByRecursion (λ y. is_eq (output_cmp (of_list tree) (out_of (of_list tree) [] x) (out_of (of_list tree) [] y)) ≡ false) ys
    later [] h apart = tt
    later (y ∷ ys) h apart = (
      ap is_eq (names_compared tree x y all.0 h.0) ∙ is_eq-slice_cmp (bytes_at x 1) (bytes_at y 1) ∙ bytes_eq-sym (bytes_at x 1) (bytes_at y 1) ∙ apart.0,
      later ys h.1 apart.1,
    )

in_order : (tree : ℕ) (table some rows : List Row) → AreRows IsRepoRow same_first table → some ≡ table
    → (HasNoTies (output_cmp (of_list tree)) (output_cmp_total (of_list tree)) (map (out_of (of_list tree) []) some)
    → rows ≡ map (λ r. column r 1 ∷ []) (sort_by (λ a b. output_cmp (of_list tree) (out_of (of_list tree) [] a) (out_of (of_list tree) [] b)) some))
    → rows ≡ map (λ r. column r 1 ∷ []) (sort_by by_name table)
in_order tree table some rows are e sorted =
    let apart = no_ties tree table are.types are.apart in
    sorted (subst (λ xs. HasNoTies (output_cmp (of_list tree)) (output_cmp_total (of_list tree)) (map (out_of (of_list tree) []) xs)) (sym e) (ascending-map (λ a b. is_eq (output_cmp (of_list tree) a b) ≡ false) (out_of (of_list tree) []) table apart))
    ∙ ap (λ xs. map (λ r. column r 1 ∷ []) (sort_by (λ a b. output_cmp (of_list tree) (out_of (of_list tree) [] a) (out_of (of_list tree) [] b)) xs)) e
    ∙ ap (map (λ r. column r 1 ∷ [])) (sort_same IsRepoRow _ by_name (names_compared tree) table are.types)

listed : {l : Layout} → (old new : State) (rows : List Row) → HoldsTables l old.now → Shown repo_list [] old new rows → rows ≡ map (λ r. column r 1 ∷ []) (sort_by by_name (held l old).repos)
listed {l} old new rows h ran =
    let tree = tree_of old.now.schema repos_table in
    let means = h.known.repo_texts.list in
    let read = reads_as repo_list [] old new old.now.schema refl _ (means_command old.now.schema repo_list _ means) means.plain means.unlisted rows ran in
    in_order tree (held l old).repos _ rows h.tables.repos
    (ap (chosen [] []) (stored_here tree old.now.trees h.known.repos.stored) ∙ filter_all _ (held l old).repos (all_of _ (λ r. refl) (held l old).repos))
    (λ apart. ordered tree 1 _ _ (overlay old.now.trees []) [] rows apart (read.answer Null))

pub shows_names : {l : Layout} → (old new : State) (r : Answer) → HoldsTables l old.now → IfOk r (λ rows. Shown repo_list [] old new rows.items)
    → IfOk r (λ rows. rows.items ≡ map (λ r. column r 1 ∷ []) (sort_by by_name (held l old).repos))
shows_names {l} old new (Err e) h ran = tt
shows_names {l} old new (Ok rows) h ran = listed old new rows.items h ran

-- as many as there are repositories
pub as_many_names : (repos rows : List Row) → rows ≡ map (λ r. column r 1 ∷ []) (sort_by by_name repos) → length rows ≡ length repos
as_many_names repos rows e =
    ap length e ∙ length_mapped (λ r. column r 1 ∷ []) (sort_by by_name repos)
    ∙ sym (length_permutation (sort_by by_name repos) repos (IsPermutation-sort_by by_name (on_total (λ r. bytes_at r 1) nat_list_cmp_total) repos))
