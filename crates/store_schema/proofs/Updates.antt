-- What an UPDATE of the one row that passes a test makes of its table.
use Rattle.std.proofs.Common.{◌≡◌, ◌≢◌, inl, ℕ, List, [], ◌∷◌, map, length, Bool, true, false, cond, not, None, Some, Ok, refl, sym, ap, subst, ◌∙◌, Less}
use Rattle.std.specs.Prelude.{filter, find, Option}
use Rattle.std.specs.List.{AllByRecursion}
use Rattle.std.specs.List.Sorted.{IsPermutation}
use Rattle.std.specs.Option.{option_to_list}
use Rattle.std.specs.Ordering.{ordering_reverse}
use Rattle.sqlite_value.proofs.OrderLemmas.{value_cmp_total}
use Rattle.sqlite_trees.proofs.ListLemmas.{all-filter}
use Rattle.sqlite_rules.specs.Lists.{Has}
use Rattle.sqlite_rules.specs.Calls.{ids_of}
use Rattle.sqlite_rules.specs.Edit.{Applies, without_all}
use Rattle.sqlite_rules.specs.Action.{Writes as Puts, works}
use Rattle.sqlite_rules.proofs.ListLemmas.{has_filtered}
use Rattle.sqlite_schema.specs.declared.schema.Keys.TheVariants.{Enforced}
use Rattle.sqlite.specs.Order.{Row, column, value_cmp}
use Rattle.sqlite.specs.Cast.{cast_row}
use Rattle.sqlite.specs.Schema.{Schema}
use Rattle.sqlite.specs.Table.{Table}
use Rattle.sqlite.specs.Term.{Term, eval_all}
use Rattle.sqlite.specs.Edit.{Edit, edit_of}
use Rattle.sqlite.specs.Rowids.TheVariants.{Given}
use Rattle.sqlite.specs.Tree.{Trees, rowid, put_row}
use Rattle.sqlite.specs.State.{State}
use Rattle.sqlite.proofs.Callers.{one_step, one_permutation}
use Rattle.store_schema.specs.Rows.{HaveIds}
use Rattle.store_schema.proofs.Lists.{no_permutation}
use Rattle.store_schema.proofs.Removals.{removed}
use Rattle.store_schema.proofs.Writes.{passes, Edits, Ran, none_lost}

-- ---- a row is put back in its place

-- where none passes, nothing is replaced
none_replaced : (p : Row → Bool) (f : Row → Row) (rows : List Row) → filter p rows ≡ [] → (filter (λ r. not (p r)) rows ≡ rows) × (map (λ r. cond (p r) (f r) r) rows ≡ rows)
none_replaced p f [] e = (refl, refl)
none_replaced p f (x ∷ xs) e = go (p x) e (none_replaced p f xs)
  where
    go : (b : Bool) → cond b (x ∷ filter p xs) (filter p xs) ≡ [] → (filter p xs ≡ [] → (filter (λ y. not (p y)) xs ≡ xs) × (map (λ y. cond (p y) (f y) y) xs ≡ xs))
        → (cond (not b) (x ∷ filter (λ y. not (p y)) xs) (filter (λ y. not (p y)) xs) ≡ x ∷ xs) × (cond b (f x) x ∷ map (λ y. cond (p y) (f y) y) xs ≡ x ∷ xs)
    go true e more = absurd cc
    go false e more = (ap (λ l. x ∷ l) (more e).0, ap (λ l. x ∷ l) (more e).1)

-- what holds of all rows holds of the one that passes
member : (p : Row → Bool) (P : Row → Type 0) (rows : List Row) (row : Row) → AllByRecursion P rows → filter p rows ≡ row ∷ [] → P row
member p P rows row h e = (subst (AllByRecursion P) e (all-filter P p rows h)).0

-- where one row passes and is replaced by one with its rowid
replaced : (p : Row → Bool) (f : Row → Row) → ((r : Row) → rowid (f r) ≡ rowid r) → (rows : List Row) (row : Row) → HaveIds rows → filter p rows ≡ row ∷ []
    → put_row (f row) (filter (λ r. not (p r)) rows) ≡ map (λ r. cond (p r) (f r) r) rows
replaced p f keeps [] row ids e = absurd cc
replaced p f keeps (r ∷ rs) row ids e = step (p r) e (replaced p f keeps rs row (ids.0.1, ids.1.1))
  where
    first : (xs : List Row) → AllByRecursion (λ x. value_cmp (rowid r) (rowid x) ≡ Less) xs → put_row (f r) xs ≡ f r ∷ xs
    first [] h = refl
    first (x ∷ xs) h = rw (ap (λ v. value_cmp (rowid x) v) (keeps r) ∙ value_cmp_total.antisymm (rowid x) (rowid r) ∙ ap ordering_reverse h.0) refl

    step : (b : Bool) → cond b (r ∷ filter p rs) (filter p rs) ≡ row ∷ [] → (filter p rs ≡ row ∷ [] → put_row (f row) (filter (λ x. not (p x)) rs) ≡ map (λ x. cond (p x) (f x) x) rs)
        → put_row (f row) (cond (not b) (r ∷ filter (λ x. not (p x)) rs) (filter (λ x. not (p x)) rs)) ≡ cond b (f r) r ∷ map (λ x. cond (p x) (f x) x) rs
    step true e more =
        let same : r ≡ row = cc in
        let rest = none_replaced p f rs (let none : filter p rs ≡ [] = cc in none) in
        ap (put_row (f row)) rest.0 ∙ ap (λ y. put_row (f y) rs) (sym same) ∙ first rs ids.0.0 ∙ ap (λ l. f r ∷ l) (sym rest.1)
    step false e more = rw (ap (λ v. value_cmp (rowid r) v) (keeps row) ∙ member p (λ x. value_cmp (rowid r) (rowid x) ≡ Less) rs row ids.0.0 e) (ap (λ l. r ∷ l) (more e))

-- ---- the statement

-- each row that passes is replaced, the others stay, and each other table is as it was; the count is that of the rows that passed
pub record Sets (schema : Schema) (table : Table) (p : Row → Bool) (f : Row → Row) (old new : State) (count : ℕ) : Type 0 where
  pub ran : Ran old new schema
  pub rows : new.now.trees table.tree ≡ map (λ r. cond (p r) (f r) r) (old.now.trees table.tree)
  pub tables : AllByRecursion (λ t. t.tree ≢ table.tree → new.now.trees t.tree ≡ old.now.trees t.tree) schema.tables
  pub counted : count ≡ length (filter p (old.now.trees table.tree))

pub sets : (schema : Schema) (table : Table) (terms project : List Term) (params : Row) (f : Row → Row) (old new : State) (count : ℕ) → HaveIds (old.now.trees table.tree)
    → filter (passes params terms) (old.now.trees table.tree) ≡ option_to_list (find (passes params terms) (old.now.trees table.tree))
    → ((r : Row) → eval_all project (params ∷ r ∷ []) ≡ column r 0 ∷ f r) → ((r : Row) → rowid (f r) ≡ rowid r)
    → ((r : Row) → Has (old.now.trees table.tree) r → passes params terms r ≡ true → cast_row table (f r) ≡ f r)
    → ((x y : Row) → works schema Enforced 0 table.tree (x ∷ []) (y ∷ []) ≡ [])
    → Edits schema table terms project 1 (λ rows. rows) (λ _ e. e.news) params old new count → Sets schema table (passes params terms) f old new count
sets schema table terms project params f old new count ids one shows keeps casts still h = settle (find p table_rows) one
  where
    db : Trees
    db = old.now.trees

    table_rows : List Row
    table_rows = db table.tree

    p : Row → Bool
    p = passes params terms

    image : Row → Row
    image r = column r 0 ∷ f r

    shown : IsPermutation (map image (filter p table_rows)) h.rows
    shown = subst (λ xs. IsPermutation xs h.rows) (same (filter p table_rows)) h.shown
      where
        same : (xs : List Row) → map (λ r. eval_all project (params ∷ r ∷ [])) xs ≡ map image xs
        same [] = refl
        same (x ∷ xs) = ap (λ y. y ∷ map (λ r. eval_all project (params ∷ r ∷ [])) xs) (shows x) ∙ ap (λ ys. image x ∷ ys) (same xs)

    edit : List Row → Edit
    edit rows = edit_of db table (ids_of rows) Given 1 rows

    Wrote : List Row → Type 0
    Wrote rows = Puts schema Enforced db (edit rows) (Ok new.now.trees)

    settle : (o : Option Row) → filter p table_rows ≡ option_to_list o → Sets schema table p f old new count
    settle None e =
        let empty : h.rows ≡ [] = no_permutation h.rows (subst (λ xs. IsPermutation (map image xs) h.rows) e shown) in
        let a : Applies schema Enforced db (edit []) new.now.trees = one_step schema Enforced db new.now.trees (edit []) (none_lost schema table.tree []) (subst Wrote empty h.wrote) in
        record {
          ran = h.ran;
          rows = a.rows ∙ sym (none_replaced p f table_rows e).1;
          tables = a.tables;
          counted = h.counted ∙ ap (λ rs. length (edit rs).news) empty ∙ sym (ap length e);
        }
    settle (Some row) e =
        let only : h.rows ≡ image row ∷ [] = one_permutation _ h.rows (subst (λ xs. IsPermutation (map image xs) h.rows) e shown) in
        let rows = image row ∷ [] in
        let there = has_filtered p table_rows row (subst (λ xs. Has xs row) (sym e) (inl refl)) in
        let a : Applies schema Enforced db (edit rows) new.now.trees = one_step schema Enforced db new.now.trees (edit rows) (still _ _) (subst Wrote only h.wrote) in
        let out : without_all table_rows (ids_of rows) ≡ filter (λ r. not (p r)) table_rows = removed p image (λ r. refl) table_rows rows ids (subst (λ rs. IsPermutation (map image (filter p table_rows)) rs) only shown) in
        record {
          ran = h.ran;
          rows = a.rows ∙ ap (λ r. put_row r (without_all table_rows (ids_of rows))) (casts row there.0 there.1) ∙ ap (put_row (f row)) out ∙ replaced p f keeps table_rows row ids e;
          tables = a.tables;
          counted = h.counted ∙ ap (λ rs. length (edit rs).news) only ∙ sym (ap length e);
        }
