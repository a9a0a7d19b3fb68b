-- What the list of all grants shows: their rows in the order of two columns, the repository and the token.
use Rattle.std.proofs.Common.{◌≡◌, ◌∙◌, ℕ, List, [], ◌∷◌, map, false, Ok, Err, IfOk, Ordering, Less, Equal, Greater, sym, ap, subst, refl}
use Rattle.std.specs.Prelude.{◌&&◌, bytes_eq}
use Rattle.std.specs.List.{AllByRecursion}
use Rattle.std.specs.Ordering.{is_eq, ordering_then}
use Rattle.std.proofs.Math.Bool.{and_comm}
use Rattle.std.proofs.lemmas.Map.Text.{is_eq-slice_cmp}
use Rattle.sqlite_value.proofs.OrderLemmas.{value_cmp-Text, then-Equal}
use Rattle.sqlite_sql.proofs.QueryLemmas.{output_cmp_total}
use Rattle.sqlite.specs.declared.types.Value.{Value}
use Rattle.sqlite.specs.declared.types.Value.TheVariants.{Null, Text}
use Rattle.sqlite.specs.Order.{Row, column, value_cmp}
use Rattle.sqlite.specs.Program.{overlay}
use Rattle.sqlite.specs.Query.{Query, output_cmp}
use Rattle.sqlite.specs.State.{State, Shown}
use Rattle.sqlite.specs.Term.{col}
use Rattle.sqlite.specs.Tree.{IsAscending}
use Rattle.sqlite.proofs.Callers.{reads_as}
use Rattle.sqlite_trees.proofs.ListLemmas.{filter_all, all_of}
use Rattle.sqlite_keyed.specs.Lists.{sort_by}
use Rattle.sqlite_keyed.proofs.ListLemmas.{ascending-map}
use Rattle.sqlite_keyed.proofs.SortLemmas.{HasNoTies}
use Rattle.registry_model.specs.World.{text_cmp}
use Rattle.store_schema.specs.Schema.{grants_table}
use Rattle.store_schema.specs.Rows.{bytes_at}
use Rattle.store_schema.specs.Layout.{tree_of}
use Rattle.store_schema.specs.Ordered.{ordered_twice_from}
use Rattle.store_schema.proofs.Lists.{bytes_eq-sym}
use Rattle.store_schema.proofs.Pages.{out_of}
use Rattle.store_schema.proofs.Selects.{Answer, chosen, stored_here, means_command}
use Rattle.store_contents.specs.Layouts.{Layout}
use Rattle.store_statements.specs.Keys.{same_key}
use Rattle.store_statements.specs.Tables.{IsGrantRow, AreRows}
use Rattle.store_statements.specs.GrantTexts.{grant_list_all}
use Rattle.store_statements.specs.Held.{held, HoldsTables}
use Rattle.store_statements.specs.Shown.{by_repo_and_token}
use Rattle.store_statements.proofs.Sorted.{ordered_by, sort_same}

abbrev of_grants : ℕ → Query
of_grants tree = ordered_twice_from tree [] (col 1 2 ∷ col 1 1 ∷ col 1 3 ∷ []) 2 1

abbrev by_query : ℕ → Row → Row → Ordering
by_query tree a b = output_cmp (of_grants tree) (out_of (of_grants tree) [] a) (out_of (of_grants tree) [] b)

texts_compared : (v w : Value) (s t : List ℕ) → v ≡ Text s → w ≡ Text t → value_cmp v w ≡ text_cmp s t
texts_compared v w s t e f = rw (e, f) (value_cmp-Text s t)

compared : (tree : ℕ) (a b : Row) → IsGrantRow a → IsGrantRow b → by_query tree a b ≡ by_repo_and_token a b
compared tree a b x y =
    let repos : value_cmp (column a 2) (column b 2) ≡ text_cmp (bytes_at a 2) (bytes_at b 2) = texts_compared (column a 2) (column b 2) _ _ x.repo y.repo in
    let tokens : ordering_then (value_cmp (column a 1) (column b 1)) Equal ≡ text_cmp (bytes_at a 1) (bytes_at b 1) =
    then-Equal (value_cmp (column a 1) (column b 1)) ∙ texts_compared (column a 1) (column b 1) _ _ x.token y.token in
    (λ i. ordering_then (repos i) (tokens i))

both_equal : (o p : Ordering) → is_eq (ordering_then o p) ≡ is_eq o && is_eq p
both_equal Less p = refl
both_equal Equal p = refl
both_equal Greater p = refl

-- two rows of one key alone are equal in this order
untied : (a b : Row) → same_key a b ≡ false → is_eq (by_repo_and_token a b) ≡ false
untied a b e =
    both_equal (text_cmp (bytes_at a 2) (bytes_at b 2)) (text_cmp (bytes_at a 1) (bytes_at b 1))
    ∙ (λ i. is_eq-slice_cmp (bytes_at a 2) (bytes_at b 2) i && is_eq-slice_cmp (bytes_at a 1) (bytes_at b 1) i)
    ∙ (λ i. bytes_eq-sym (bytes_at a 2) (bytes_at b 2) i && bytes_eq-sym (bytes_at a 1) (bytes_at b 1) i)
    ∙ and_comm (bytes_eq (bytes_at b 2) (bytes_at a 2)) (bytes_eq (bytes_at b 1) (bytes_at a 1)) ∙ e

no_ties : (tree : ℕ) (xs : List Row) → AllByRecursion IsGrantRow xs → IsAscending (λ a b. same_key a b ≡ false) xs → IsAscending (λ a b. is_eq (by_query tree a b) ≡ false) xs
no_ties tree [] all up = tt
no_ties tree (x ∷ xs) all up = (later xs all.1 up.0, no_ties tree xs all.1 up.1)
  where
    later : (ys : List Row) → AllByRecursion IsGrantRow ys → AllByRecursion (λ y. same_key x y ≡ false) ys → AllByRecursion (λ y. is_eq (by_query tree x y) ≡ false) ys
    later [] h apart = tt
    later (y ∷ ys) h apart = (ap is_eq (compared tree x y all.0 h.0) ∙ untied x y apart.0, later ys h.1 apart.1)

in_order : (tree : ℕ) (table some rows : List Row) → AreRows IsGrantRow same_key table → some ≡ table
    → (HasNoTies (output_cmp (of_grants tree)) (output_cmp_total (of_grants tree)) (map (out_of (of_grants tree) []) some)
    → rows ≡ map (λ r. column r 2 ∷ column r 1 ∷ column r 3 ∷ []) (sort_by (by_query tree) some))
    → rows ≡ map (λ r. column r 2 ∷ column r 1 ∷ column r 3 ∷ []) (sort_by by_repo_and_token table)
in_order tree table some rows are e sorted =
    let apart = no_ties tree table are.types are.apart in
    sorted (subst (λ xs. HasNoTies (output_cmp (of_grants tree)) (output_cmp_total (of_grants tree)) (map (out_of (of_grants tree) []) xs)) (sym e) (ascending-map (λ a b. is_eq (output_cmp (of_grants tree) a b) ≡ false) (out_of (of_grants tree) []) table apart))
    ∙ ap (λ xs. map (λ r. column r 2 ∷ column r 1 ∷ column r 3 ∷ []) (sort_by (by_query tree) xs)) e
    ∙ ap (map (λ r. column r 2 ∷ column r 1 ∷ column r 3 ∷ [])) (sort_same IsGrantRow (by_query tree) by_repo_and_token (compared tree) table are.types)

listed : {l : Layout} → (old new : State) (rows : List Row) → HoldsTables l old.now → Shown grant_list_all [] old new rows
    → rows ≡ map (λ r. column r 2 ∷ column r 1 ∷ column r 3 ∷ []) (sort_by by_repo_and_token (held l old).grants)
listed {l} old new rows h ran =
    let tree = tree_of old.now.schema grants_table in
    let means = h.known.grant_texts.list_all in
    let read = reads_as grant_list_all [] old new old.now.schema refl _ (means_command old.now.schema grant_list_all _ means) means.plain means.unlisted rows ran in
    in_order tree (held l old).grants _ rows h.tables.grants
    (ap (chosen [] []) (stored_here tree old.now.trees h.known.grants.stored) ∙ filter_all _ (held l old).grants (all_of _ (λ r. refl) (held l old).grants))
    (λ apart. ordered_by tree _ _ _ (overlay old.now.trees []) [] rows apart (read.answer Null))

pub shows_grants : {l : Layout} → (old new : State) (r : Answer) → HoldsTables l old.now → IfOk r (λ rows. Shown grant_list_all [] old new rows.items)
    → IfOk r (λ rows. rows.items ≡ map (λ r. column r 2 ∷ column r 1 ∷ column r 3 ∷ []) (sort_by by_repo_and_token (held l old).grants))
shows_grants {l} old new (Err e) h ran = tt
shows_grants {l} old new (Ok rows) h ran = listed old new rows.items h ran
