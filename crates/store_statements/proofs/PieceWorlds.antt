-- The pieces of a session after one more came behind them, and of the other sessions.
use Rattle.std.proofs.Common.{◌≡◌, ◌<◌, ◌+◌, ◌==◌, ◌&&◌, ℕ, ℤ, List, [], ◌∷◌, ◌++◌, length, Bool, true, false, cond, not, Option, None, Some, refl, sym, ap, subst, ◌∙◌, arith}
use Rattle.std.specs.List.{AllByRecursion}
use Rattle.std.specs.Prelude.{filter, find, bytes_eq, unwrap_or}
use Rattle.std.specs.Ordering.{nat_cmp}
use Rattle.std.specs.declared.cmp.Ordering.TheVariants.{Less, Equal, Greater}
use Rattle.std.proofs.lemmas.Bool.{lt-ltb, eq-eqb, and_from, and_parts, false_from_ne_true, eqb-true}
use Rattle.std.proofs.lemmas.List.Elements.{filter-append}
use Rattle.sqlite.specs.declared.types.Value.TheVariants.{Int}
use Rattle.sqlite.specs.Order.{Row}
use Rattle.sqlite_trees.proofs.ListLemmas.{all_weaker, filter-filter}
use Rattle.sqlite_keyed.proofs.ListLemmas.{all_kept}
use Rattle.sqlite_keyed.specs.Lists.{sort_by}
use Rattle.oci_types.specs.Text.{Text}
use Rattle.store_schema.specs.Rows.{natural_at, PutsRow}
use Rattle.store_schema.proofs.Lists.{bytes_eq_itself}
use Rattle.store_statements.specs.Keys.{of_session, has_start}
use Rattle.store_statements.specs.World.{by_start, pieces_of, joined}
use Rattle.store_statements.specs.Registry.{PieceAgrees, Reach}
use Rattle.store_statements.specs.Changes.{without, piece_columns, Comes}
use Rattle.store_statements.proofs.Reach.{reach_below, reach_more, reach_length, joined_more}
use Rattle.store_statements.proofs.Apart.{none_passes}
use Rattle.store_statements.proofs.Others.{filter_came}
use Rattle.store_statements.proofs.ContentWorlds.{starts_total, all-pieces_of}
use Rattle.store_contents.proofs.Sorting.{all_unsorted, sorted_last}

-- the rows that pass, where the row that came passes too
pub filter_put_here : (p : Row → Bool) (olds news : List Row) (id : ℤ) (columns : Row) (h : PutsRow olds news id columns) → p (Int id ∷ columns) ≡ true → filter p news ≡ filter p h.before ++ (Int id ∷ columns) ∷ filter p h.after
filter_put_here p olds news id columns h here = ap (filter p) h.news_are ∙ filter-append p h.before _ ∙ ap (λ b. filter p h.before ++ cond b ((Int id ∷ columns) ∷ filter p h.after) (filter p h.after)) here

-- ---- one more piece

nat_cmp_less : (a b : ℕ) → a < b → nat_cmp a b ≡ Less
nat_cmp_less a b h = ap (λ c. cond c Less (cond (a == b) Equal Greater)) (lt-ltb a b h)

-- where the pieces of a session end, each of them begins below
pub pieces_below : (contents : ℤ → Option Text) (pieces : List Row) (name : Text) (number size : ℕ) → AllByRecursion (PieceAgrees contents) pieces → Reach 0 (pieces_of pieces name number) size
    → AllByRecursion (λ p. natural_at p 3 < size) (filter (of_session name number) pieces)
pieces_below contents pieces name number size agree reach =
    let more = all_weaker (PieceAgrees contents) (λ p. 0 < natural_at p 4) (λ p h. h.more) pieces agree in
    all_unsorted by_start starts_total (λ p. natural_at p 3 < size) _ (reach_below 0 size _ (all-pieces_of (λ p. 0 < natural_at p 4) pieces name number more) reach)

-- a row of a session passes the test of it
pub of_session_itself : (name : Text) (number : ℕ) → bytes_eq name name && number == number ≡ true
of_session_itself name number = and_from _ _ (bytes_eq_itself name) (eq-eqb number number refl)

-- the row that came, of the pieces
abbrev pub piece_row : ℤ → Text → ℕ → ℕ → ℕ → ℤ → Row
piece_row came name number size n id = Int came ∷ piece_columns name number size n id

-- it comes last, since it begins where all others have ended
pub pieces_more : (contents : ℤ → Option Text) (olds news : List Row) (name : Text) (number size n : ℕ) (id : ℤ) (c : Comes olds news (piece_columns name number size n id))
    → AllByRecursion (PieceAgrees contents) olds → Reach 0 (pieces_of olds name number) size
    → pieces_of news name number ≡ pieces_of olds name number ++ piece_row c.id name number size n id ∷ []
pieces_more contents olds news name number size n id c agree reach =
    let p = of_session name number in
    let row = piece_row c.id name number size n id in
    let below = pieces_below contents olds name number size agree reach in
    let split : filter p olds ≡ filter p c.puts.before ++ filter p c.puts.after = ap (filter p) c.puts.olds_are ∙ filter-append p c.puts.before c.puts.after in
    let less : AllByRecursion (λ y. by_start y row ≡ Less) (filter p c.puts.before ++ filter p c.puts.after) =
    subst (AllByRecursion (λ y. by_start y row ≡ Less)) split (all_weaker (λ y. natural_at y 3 < size) (λ y. by_start y row ≡ Less) (λ y h. nat_cmp_less (natural_at y 3) size h) _ below) in
    ap (sort_by by_start) (filter_put_here p olds news c.id _ c.puts (of_session_itself name number))
    ∙ sorted_last by_start starts_total row (filter p c.puts.before) (filter p c.puts.after) less ∙ ap (λ l. sort_by by_start l ++ row ∷ []) (sym split)

-- the pieces of another session are as they were
pub pieces_other : (olds news : List Row) (name : Text) (number size n : ℕ) (id : ℤ) → Comes olds news (piece_columns name number size n id)
    → (other : Text) (k : ℕ) → bytes_eq name other && number == k ≡ false → pieces_of news other k ≡ pieces_of olds other k
pieces_other olds news name number size n id c other k apart = ap (sort_by by_start) (filter_came (of_session other k) olds news _ c apart)

-- with it the pieces lie one behind the other still
pub reach_put : (contents : ℤ → Option Text) (olds news : List Row) (name : Text) (number size n : ℕ) (id : ℤ) → Comes olds news (piece_columns name number size n id)
    → AllByRecursion (PieceAgrees contents) olds → Reach 0 (pieces_of olds name number) size → Reach 0 (pieces_of news name number) (size + n)
reach_put contents olds news name number size n id c agree reach =
    subst (λ ps. Reach 0 ps (size + n)) (sym (pieces_more contents olds news name number size n id c agree reach)) (reach_more 0 size _ (piece_row c.id name number size n id) reach refl)

-- no piece begins where the session ends
pub piece_fresh : (contents : ℤ → Option Text) (pieces : List Row) (name : Text) (number size : ℕ) → AllByRecursion (PieceAgrees contents) pieces → Reach 0 (pieces_of pieces name number) size → find (has_start name number size) pieces ≡ None
piece_fresh contents pieces name number size agree reach =
    none_passes (has_start name number size) pieces (all_weaker (λ r. of_session name number r ≡ true → natural_at r 3 < size) (λ r. has_start name number size r ≡ false)
    (λ r below. false_from_ne_true _ (λ e. let both = and_parts (of_session name number r) (natural_at r 3 == size) e in let same = eqb-true (natural_at r 3) size both.1 in let less = below both.0 in omega (arith, same, less)))
    pieces (all_kept (λ p. natural_at p 3 < size) (of_session name number) pieces (pieces_below contents pieces name number size agree reach)))

-- ---- their bytes

-- its bytes come last
pub joined_put : (contents : ℤ → Option Text) (olds news : List Row) (name : Text) (number size : ℕ) (bytes : Text) (id : ℤ) → Comes olds news (piece_columns name number size (length bytes) id)
    → AllByRecursion (PieceAgrees contents) olds → Reach 0 (pieces_of olds name number) size → contents id ≡ Some bytes → joined contents (pieces_of news name number) ≡ joined contents (pieces_of olds name number) ++ bytes
joined_put contents olds news name number size bytes id c agree reach is =
    ap (joined contents) (pieces_more contents olds news name number size (length bytes) id c agree reach) ∙ joined_more contents _ _
    ∙ ap (λ o. joined contents (pieces_of olds name number) ++ unwrap_or o []) is

-- the bytes of a session are as many as its size
pub joined_length : (contents : ℤ → Option Text) (pieces : List Row) (name : Text) (number size : ℕ) → AllByRecursion (PieceAgrees contents) pieces → Reach 0 (pieces_of pieces name number) size
    → length (joined contents (pieces_of pieces name number)) ≡ size
joined_length contents pieces name number size agree reach = omega (arith, reach_length contents 0 size _ (all-pieces_of (PieceAgrees contents) pieces name number agree) reach)

-- ---- pieces that go

-- where no piece of the session goes
pub pieces_left : (p : Row → Bool) (pieces : List Row) (name : Text) (number : ℕ) → ((r : Row) → of_session name number r ≡ true → p r ≡ false) → pieces_of (without p pieces) name number ≡ pieces_of pieces name number
pieces_left p pieces name number stays = ap (sort_by by_start) (filter-filter (of_session name number) (λ r. not (p r)) (λ r e. ap not (stays r e)) pieces)
