-- What the statements on the pieces of upload sessions make of the tables.
use Rattle.std.proofs.Common.{◌≡◌, ◌∙◌, ℕ, ℤ, pos, List, [], ◌∷◌, true, false, map, None, Ok, Err, Result, OnOk, IfOk, sym, ap, subst, refl}
use Rattle.std.specs.Prelude.{find, filter}
use Rattle.std.specs.List.Sorted.{IsPermutation}
use Rattle.sqlite_trees.proofs.ListLemmas.{filter_all, filter_same, all_of, all_weaker, ascending-filter, ascending-map}
use Rattle.sqlite_rules.proofs.ListLemmas.{all_has, all_from, has_filtered}
use Rattle.sqlite_sql.proofs.QueryLemmas.{output_cmp_total}
use Rattle.sqlite_keyed.specs.Lists.{sort_by}
use Rattle.sqlite_keyed.proofs.SortLemmas.{HasNoTies}
use Rattle.std.specs.List.{AllByRecursion}
use Rattle.std.specs.Ordering.{is_eq}
use Rattle.sqlite.specs.Tree.{IsAscending}
use Rattle.sqlite.specs.Term.{col}
use Rattle.sqlite.specs.Query.{Query, output_cmp}
use Rattle.sqlite.specs.Program.{overlay}
use Rattle.sqlite.proofs.Callers.{reads_as}
use Rattle.store_schema.specs.Rows.{natural_at}
use Rattle.store_schema.proofs.Pages.{out_of}
use Rattle.store_contents.specs.Layouts.{Layout}
use Rattle.store_statements.specs.World.{by_start, pieces_of}
use Rattle.store_schema.specs.Ordered.{ordered_from}
use Rattle.sqlite.specs.declared.types.Value.TheVariants.{Null, Int, Text}
use Rattle.sqlite.specs.declared.error.Error.{Error}
use Rattle.sqlite.specs.Order.{Row, column}
use Rattle.sqlite.specs.Cast.{cast_row}
use Rattle.sqlite.specs.Ops.{unary}
use Rattle.sqlite.specs.Schema.{Schema}
use Rattle.sqlite.specs.State.{State, Executes, ExecutesInside, Shown}
use Rattle.store_schema.specs.Schema.{pieces_table}
use Rattle.store_schema.specs.Layout.{tree_of, placed, equals}
use Rattle.store_schema.proofs.Lists.{none_found}
use Rattle.store_schema.proofs.Selects.{Answer, chosen, means_command, stored_here, is_text, one_test, both_tests}
use Rattle.store_schema.proofs.Writes.{passes, either}
use Rattle.store_statements.specs.Keys.{of_first, of_session, has_start, same_start}
use Rattle.store_statements.specs.Tables.{Tables, AreTables, AreRows, IsPieceRow}
use Rattle.store_statements.specs.Changes.{piece_columns, Comes}
use Rattle.store_statements.specs.PieceTexts.{piece_take_of, piece_take_all, piece_add, piece_list, piece_contents}
use Rattle.store_statements.specs.Held.{held, HoldsTables, Becomes}
use Rattle.store_statements.specs.Steps.{pieces_without, PieceComes}
use Rattle.store_statements.proofs.OtherTables.{only_pieces, contents_beside_pieces}
use Rattle.store_statements.proofs.SessionKeys.{is_number, start_turned, starts_differ}
use Rattle.store_statements.proofs.Selected.{lists}
use Rattle.store_statements.proofs.Sorted.{ordered, sort_same, number_order, number_tie}
use Rattle.store_statements.proofs.Statements as statements

put_are : (t : Tables) (rows : List Row) → AreTables t → AreRows IsPieceRow same_start rows → AreTables (record t { pieces = rows })
put_are t rows a r = record { repos = a.repos; grants = a.grants; tags = a.tags; blobs = a.blobs; manifests = a.manifests; uploads = a.uploads; pieces = r }

-- of the session
session_test : (repo : List ℕ) (number : ℕ) (r : Row) → IsPieceRow r → passes (Text repo ∷ Int (pos number) ∷ []) (equals 1 0 ∷ equals 2 1 ∷ []) r ≡ of_session repo number r
session_test repo number r it = both_tests _ _ _ _ (is_text (column r 1) _ repo it.repo) (is_number (column r 2) _ number it.number)

-- of the repository
repo_test : (repo : List ℕ) (r : Row) → IsPieceRow r → passes (Text repo ∷ []) (equals 1 0 ∷ []) r ≡ of_first repo r
repo_test repo r it = one_test _ _ (is_text (column r 1) _ repo it.repo)

took_of : {l : Layout} → (repo : List ℕ) (number : ℕ) (old new : State) (n : ℕ) → HoldsTables l old.now → Executes piece_take_of (Text repo ∷ Int (pos number) ∷ []) old new (Ok n) → (held l new ≡ pieces_without (of_session repo number) (held l old)) × HoldsTables l new.now
took_of {l} repo number old new n h ran = statements.takes pieces_table IsPieceRow same_start (λ t rows. record t { pieces = rows }) (λ schema k. k.pieces) (λ a b k keeps rows e. only_pieces a b k keeps rows e) (λ a b k keeps is. contents_beside_pieces a b k keeps is) (λ db t. t.pieces) put_are
    piece_take_of (equals 1 0 ∷ equals 2 1 ∷ []) (Text repo ∷ Int (pos number) ∷ []) (of_session repo number) old new n h h.known.pieces_alone h.known.piece_texts.take_of (session_test repo number) ran

took_all : {l : Layout} → (repo : List ℕ) (old new : State) (n : ℕ) → HoldsTables l old.now → Executes piece_take_all (Text repo ∷ []) old new (Ok n) → (held l new ≡ pieces_without (of_first repo) (held l old)) × HoldsTables l new.now
took_all {l} repo old new n h ran = statements.takes pieces_table IsPieceRow same_start (λ t rows. record t { pieces = rows }) (λ schema k. k.pieces) (λ a b k keeps rows e. only_pieces a b k keeps rows e) (λ a b k keeps is. contents_beside_pieces a b k keeps is) (λ db t. t.pieces) put_are
    piece_take_all (equals 1 0 ∷ []) (Text repo ∷ []) (of_first repo) old new n h h.known.pieces_alone h.known.piece_texts.take_all (repo_test repo) ran

cast_come : (schema : Schema) (repo : List ℕ) (number start size : ℕ) (content : ℤ) → cast_row (placed schema pieces_table) (Null ∷ piece_columns repo number start size content) ≡ Null ∷ piece_columns repo number start size content
unfolding unary
cast_come schema repo number start size content = rw (either, either, either, either, either)

came : {l : Layout} → (repo : List ℕ) (number start size : ℕ) (content : ℤ) (old new : State) (n : ℕ) → HoldsTables l old.now → find (has_start repo number start) (held l old).pieces ≡ None → Executes piece_add (piece_columns repo number start size content) old new (Ok n)
    → Comes (held l old).pieces (held l new).pieces (piece_columns repo number start size content) × (held l new ≡ record (held l old) { pieces = (held l new).pieces }) × HoldsTables l new.now
came {l} repo number start size content old new n h fresh ran = statements.comes pieces_table IsPieceRow same_start (λ t rows. record t { pieces = rows }) (λ schema k. k.pieces) (λ a b k keeps rows e. only_pieces a b k keeps rows e) (λ a b k keeps is. contents_beside_pieces a b k keeps is) (λ db t. t.pieces) put_are
    piece_add _ 6 (piece_columns repo number start size content) (piece_columns repo number start size content) old new n h h.known.piece_texts.add refl refl refl (cast_come old.now.schema repo number start size content)
    (λ id. record { repo = refl; number = refl; start = refl; size = refl; content = refl }) start_turned (λ id. none_found (has_start repo number start) _ fresh) ran

-- ---- the same of a call's result, inside a transaction

pub took_of_by : {l : Layout} → (repo : List ℕ) (number : ℕ) (old new : State) (r : Result ℕ Error) → HoldsTables l old.now → ExecutesInside 0 piece_take_of (Text repo ∷ Int (pos number) ∷ []) old new r → OnOk r (Becomes l new (pieces_without (of_session repo number) (held l old)))
took_of_by {l} repo number old new (Err e) h ran = tt
took_of_by {l} repo number old new (Ok n) h ran = let it = took_of repo number old new n h ran.0 in (record { inside = ran.1.mode; holds = it.1 }, it.0)

pub took_all_by : {l : Layout} → (repo : List ℕ) (old new : State) (r : Result ℕ Error) → HoldsTables l old.now → ExecutesInside 0 piece_take_all (Text repo ∷ []) old new r → OnOk r (Becomes l new (pieces_without (of_first repo) (held l old)))
took_all_by {l} repo old new (Err e) h ran = tt
took_all_by {l} repo old new (Ok n) h ran = let it = took_all repo old new n h ran.0 in (record { inside = ran.1.mode; holds = it.1 }, it.0)

pub added_by : {l : Layout} → (repo : List ℕ) (number start size : ℕ) (content : ℤ) (old new : State) (r : Result ℕ Error) → HoldsTables l old.now → find (has_start repo number start) (held l old).pieces ≡ None → ExecutesInside 0 piece_add (piece_columns repo number start size content) old new r
    → OnOk r (PieceComes l old new (piece_columns repo number start size content))
added_by {l} repo number start size content old new (Err e) h fresh ran = tt
added_by {l} repo number start size content old new (Ok n) h fresh ran = let it = came repo number start size content old new n h fresh ran.0 in record { ready = record { inside = ran.1.mode; holds = it.2 }; comes = it.0; others = it.1 }

-- ---- what is read

pub content_rows : {l : Layout} → (old new : State) (r : Answer) → HoldsTables l old.now → IfOk r (λ rows. Shown piece_contents [] old new rows.items) → IfOk r (λ rows. IsPermutation (map (λ r. column r 5 ∷ []) (held l old).pieces) rows.items)
content_rows {l} old new r h ran = subst (λ xs. IfOk r (λ rows. IsPermutation (map (λ r. column r 5 ∷ []) xs) rows.items)) (filter_all (λ _. true) _ (all_of _ (λ r. refl) _))
    (lists pieces_table IsPieceRow same_start piece_contents _ [] _ [] (λ _. true) old new r h.known.piece_texts.contents h.known.pieces.stored h.tables.pieces (λ r it. refl) ran)

-- in order of where they begin

abbrev of_list : ℕ → Query
of_list tree = ordered_from tree (equals 1 0 ∷ equals 2 1 ∷ []) (col 1 5 ∷ []) 3

abbrev IsOf : List ℕ → ℕ → Row → Type 0
IsOf repo number r = IsPieceRow r × (of_session repo number r ≡ true)

starts_compared : (tree : ℕ) (params : Row) (repo : List ℕ) (number : ℕ) (a b : Row) → IsOf repo number a → IsOf repo number b → output_cmp (of_list tree) (out_of (of_list tree) params a) (out_of (of_list tree) params b) ≡ by_start a b
starts_compared tree params repo number a b x y = number_order (column a 3) (column b 3) _ _ x.0.start y.0.start

no_ties : (tree : ℕ) (params : Row) (repo : List ℕ) (number : ℕ) (xs : List Row) → AllByRecursion (IsOf repo number) xs → IsAscending (λ a b. same_start a b ≡ false) xs
    → IsAscending (λ a b. is_eq (output_cmp (of_list tree) (out_of (of_list tree) params a) (out_of (of_list tree) params b)) ≡ false) xs
no_ties tree params repo number [] all up = tt
no_ties tree params repo number (x ∷ xs) all up = (later xs all.1 up.0, no_ties tree params repo number xs all.1 up.1)
  where
    later : (ys : List Row) → AllByRecursion (IsOf repo number) ys → AllByRecursion (λ y. same_start x y ≡ false) ys
        → AllByRecursion (λ y. is_eq (output_cmp (of_list tree) (out_of (of_list tree) params x) (out_of (of_list tree) params y)) ≡ false) ys
    later [] h apart = tt
    later (y ∷ ys) h apart = (
      ap is_eq (starts_compared tree params repo number x y all.0 h.0) ∙ number_tie (natural_at x 3) (natural_at y 3) ∙ starts_differ repo number x y all.0.1 h.0.1 apart.0,
      later ys h.1 apart.1,
    )

in_order : (tree : ℕ) (params : Row) (repo : List ℕ) (number : ℕ) (table some rows : List Row) → AreRows IsPieceRow same_start table → some ≡ filter (of_session repo number) table
    → (HasNoTies (output_cmp (of_list tree)) (output_cmp_total (of_list tree)) (map (out_of (of_list tree) params) some)
    → rows ≡ map (λ r. column r 5 ∷ []) (sort_by (λ a b. output_cmp (of_list tree) (out_of (of_list tree) params a) (out_of (of_list tree) params b)) some))
    → rows ≡ map (λ r. column r 5 ∷ []) (pieces_of table repo number)
in_order tree params repo number table some rows are e sorted =
    let p = of_session repo number in
    let all : AllByRecursion (IsOf repo number) (filter p table) = all_from _ (filter p table) (λ r has. let it = has_filtered p table r has in (all_has IsPieceRow table r are.types it.0, it.1)) in
    let apart = no_ties tree params repo number (filter p table) all (ascending-filter (λ a b. same_start a b ≡ false) p table are.apart) in
    sorted (subst (λ xs. HasNoTies (output_cmp (of_list tree)) (output_cmp_total (of_list tree)) (map (out_of (of_list tree) params) xs)) (sym e) (ascending-map (λ a b. is_eq (output_cmp (of_list tree) a b) ≡ false) (out_of (of_list tree) params) (filter p table) apart))
    ∙ ap (λ xs. map (λ r. column r 5 ∷ []) (sort_by (λ a b. output_cmp (of_list tree) (out_of (of_list tree) params a) (out_of (of_list tree) params b)) xs)) e
    ∙ ap (map (λ r. column r 5 ∷ [])) (sort_same (IsOf repo number) _ by_start (starts_compared tree params repo number) (filter p table) all)

listed : {l : Layout} → (repo : List ℕ) (number : ℕ) (old new : State) (rows : List Row) → HoldsTables l old.now → Shown piece_list (Text repo ∷ Int (pos number) ∷ []) old new rows → rows ≡ map (λ r. column r 5 ∷ []) (pieces_of (held l old).pieces repo number)
listed {l} repo number old new rows h ran =
    let tree = tree_of old.now.schema pieces_table in
    let params = Text repo ∷ Int (pos number) ∷ [] in
    let means = h.known.piece_texts.list in
    let read = reads_as piece_list params old new old.now.schema refl _ (means_command old.now.schema piece_list _ means) means.plain means.unlisted rows ran in
    in_order tree params repo number (held l old).pieces _ rows h.tables.pieces
    (ap (chosen params (equals 1 0 ∷ equals 2 1 ∷ [])) (stored_here tree old.now.trees h.known.pieces.stored)
    ∙ filter_same _ _ _ (all_weaker IsPieceRow (λ r. passes params (equals 1 0 ∷ equals 2 1 ∷ []) r ≡ of_session repo number r) (session_test repo number) _ h.tables.pieces.types))
    (λ apart. ordered tree 3 _ _ (overlay old.now.trees []) params rows apart (read.answer Null))

pub list_rows : {l : Layout} → (repo : List ℕ) (number : ℕ) (old new : State) (r : Answer) → HoldsTables l old.now → IfOk r (λ rows. Shown piece_list (Text repo ∷ Int (pos number) ∷ []) old new rows.items)
    → IfOk r (λ rows. rows.items ≡ map (λ r. column r 5 ∷ []) (pieces_of (held l old).pieces repo number))
list_rows {l} repo number old new (Err e) h ran = tt
list_rows {l} repo number old new (Ok rows) h ran = listed repo number old new rows.items h ran
