-- What the reads of grants show.
use Rattle.std.proofs.Common.{◌≡◌, ℕ, List, [], ◌∷◌, map, length, not, take, Ok, Err, IfOk, arith, refl, sym, ap, subst, ◌∙◌}
use Rattle.std.specs.Prelude.{◌==◌, filter, find, nat_lt}
use Rattle.std.specs.Option.{option_to_list}
use Rattle.std.proofs.lemmas.List.Sorted.{length_permutation}
use Rattle.std.proofs.lemmas.Bool.{lt-ltb}
use Rattle.sqlite.specs.declared.types.Value.TheVariants.{Text}
use Rattle.sqlite.specs.Order.{Row, column}
use Rattle.sqlite.specs.State.{State, Shown}
use Rattle.sqlite_keyed.specs.Lists.{sort_by}
use Rattle.store_schema.specs.Schema.{grants_table}
use Rattle.store_schema.specs.Layout.{equals, tree_of}
use Rattle.sqlite_trees.proofs.ListLemmas.{filter_same, all_weaker}
use Rattle.store_schema.proofs.Selects.{Answer, ShowsOne, shows_one}
use Rattle.store_schema.proofs.Writes.{passes}
use Rattle.store_contents.specs.Layouts.{Layout}
use Rattle.store_statements.specs.Keys.{has_key, of_first, of_second, same_key}
use Rattle.store_statements.specs.Tables.{IsGrantRow}
use Rattle.store_statements.specs.GrantTexts.{grant_find, grant_known, grant_list}
use Rattle.store_statements.specs.Held.{held, HoldsTables}
use Rattle.store_statements.specs.Shown.{by_token}
use Rattle.store_statements.proofs.Keys.{key_parts}
use Rattle.store_statements.proofs.GrantRows.{key_test, repo_test, token_test}
use Rattle.store_statements.proofs.InOrder.{orders_tokens}
use Rattle.store_statements.proofs.Selected.{finds}
use Rattle.store_statements.proofs.SelectedRows.{length_mapped}

pub shows_level : {l : Layout} → (token repo : List ℕ) (old new : State) (r : Answer) → HoldsTables l old.now → IfOk r (λ rows. Shown grant_find (Text token ∷ Text repo ∷ []) old new rows.items)
    → IfOk r (λ rows. rows.items ≡ map (λ r. column r 3 ∷ []) (option_to_list (find (has_key token repo) (held l old).grants)))
shows_level {l} token repo old new r h shown = finds grants_table IsGrantRow same_key grant_find _ (equals 1 0 ∷ equals 2 1 ∷ []) _ (Text token ∷ Text repo ∷ []) (has_key token repo) old new r
    h.known.grant_texts.find h.known.grants.stored h.tables.grants (key_test token repo []) (key_parts token repo) shown

-- one grant of the token, if it has one
abbrev pub OneKnown : Layout → List ℕ → State → List Row → Type 0
OneKnown l token s rows = ShowsOne (map (λ r. column r 3 ∷ []) (filter (of_first token) (held l s).grants)) rows

pub shows_known : {l : Layout} → (token : List ℕ) (old new : State) (r : Answer) → HoldsTables l old.now → IfOk r (λ rows. Shown grant_known (Text token ∷ []) old new rows.items)
    → IfOk r (λ rows. OneKnown l token old rows.items)
shows_known {l} token old new (Err e) h shown = tt
shows_known {l} token old new (Ok rows) h shown =
    let tree = tree_of old.now.schema grants_table in
    subst (λ xs. ShowsOne (map (λ r. column r 3 ∷ []) xs) rows.items)
    (filter_same (passes (Text token ∷ []) (equals 1 0 ∷ [])) (of_first token) (held l old).grants (all_weaker IsGrantRow (λ r. passes (Text token ∷ []) (equals 1 0 ∷ []) r ≡ of_first token r) (token_test token) (held l old).grants h.tables.grants.types))
    (shows_one old.now.schema grant_known _ tree (equals 1 0 ∷ []) _ (Text token ∷ []) old new rows.items refl h.known.grant_texts.known h.known.grants.stored shown)

pub shows_levels : {l : Layout} → (repo : List ℕ) (old new : State) (r : Answer) → HoldsTables l old.now → IfOk r (λ rows. Shown grant_list (Text repo ∷ []) old new rows.items)
    → IfOk r (λ rows. rows.items ≡ map (λ r. column r 1 ∷ column r 3 ∷ []) (sort_by by_token (filter (of_second repo) (held l old).grants)))
shows_levels {l} repo old new r h shown = orders_tokens IsGrantRow grant_list _ _ _ _ _ (Text repo ∷ []) repo old new r
    h.known.grants.stored h.tables.grants.types h.tables.grants.apart h.known.grant_texts.list (repo_test repo) (λ r it. it.token) shown

-- a row is shown where there are grants
pub known_by_rows : (l : Layout) (token : List ℕ) (s : State) (rows : List Row) → OneKnown l token s rows
    → not (length rows == 0) ≡ nat_lt 0 (length (filter (of_first token) (held l s).grants))
known_by_rows l token s rows one =
    go (filter (of_first token) (held l s).grants) one.some rows one.first
    (length_permutation _ one.some one.same ∙ length_mapped (λ r. column r 3 ∷ []) (filter (of_first token) (held l s).grants))
  where
    go : (xs some rows : List Row) → rows ≡ take 1 some → length some ≡ length xs → not (length rows == 0) ≡ nat_lt 0 (length xs)
    go [] [] rows first e = ap (λ (l : List Row). not (length l == 0)) first
    go [] (y ∷ ys) rows first e = absurd (omega (arith, e))
    go (x ∷ xs) [] rows first e = absurd (omega (arith, e))
    go (x ∷ xs) (y ∷ ys) rows first e = ap (λ (l : List Row). not (length l == 0)) first ∙ sym (lt-ltb 0 (length (x ∷ xs)) (omega arith))
