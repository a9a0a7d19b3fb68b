-- Rows stay rows of their table where some go, one comes, or one changes.
use Rattle.std.proofs.Common.{◌≡◌, ◌∙◌, ℤ, List, [], ◌∷◌, Bool, true, false, cond, not, Less, sym, ap, subst, refl}
use Rattle.std.specs.Prelude.{IsTrue}
use Rattle.std.specs.List.{AllByRecursion}
use Rattle.sqlite.specs.declared.types.Value.TheVariants.{Int}
use Rattle.sqlite.specs.Order.{Row, value_cmp}
use Rattle.sqlite.specs.Tree.{rowid, IsAscending}
use Rattle.sqlite_trees.specs.View.{is_int}
use Rattle.sqlite_trees.proofs.ListLemmas.{all-filter, ascending-filter}
use Rattle.sqlite_trees.proofs.TreeLemmas.{IsShaped-filter}
use Rattle.sqlite_trees.specs.declared.store.Shape.TheVariants as shape
use Rattle.store_schema.specs.Rows.{HaveIds, PutsRow}
use Rattle.store_schema.proofs.Lists.{all_middle, ascending_middle}
use Rattle.store_statements.specs.Tables.{AreRows}
use Rattle.store_statements.specs.Changes.{without, changed}

module _ (Is : Row → Type 0) (same : Row → Row → Bool) where
  pub rows_without : (p : Row → Bool) (rows : List Row) → AreRows Is same rows → AreRows Is same (without p rows)
  rows_without p rows are =
      let left : Row → Bool = λ r. not (p r) in
      record { types = all-filter Is left rows are.types; apart = ascending-filter (λ a b. same a b ≡ false) left rows are.apart; ids = IsShaped-filter shape.Table left rows are.ids }

  pub rows_with : (olds news : List Row) (id : ℤ) (columns : Row) → PutsRow olds news id columns → HaveIds news → Is (Int id ∷ columns) → ((a b : Row) → same a b ≡ same b a) → AllByRecursion (λ r. same (Int id ∷ columns) r ≡ false) olds
      → AreRows Is same olds → AreRows Is same news
  rows_with olds news id columns p ids is turned fresh are = record {
    types = subst (AllByRecursion Is) (sym p.news_are) (all_middle Is _ p.before p.after (subst (AllByRecursion Is) p.olds_are are.types) is);
    apart = subst (IsAscending (λ a b. same a b ≡ false)) (sym p.news_are) (ascending_middle (λ a b. same a b ≡ false) (λ a b e. turned b a ∙ e) _ p.before p.after
        (subst (IsAscending (λ a b. same a b ≡ false)) p.olds_are are.apart) (subst (AllByRecursion (λ r. same (Int id ∷ columns) r ≡ false)) p.olds_are fresh));
    ids = ids;
  }

  -- a change that leaves the rowid and the key
  module _ (p : Row → Bool) (f : Row → Row) (id : (r : Row) → rowid (f r) ≡ rowid r) (is : (r : Row) → Is r → Is (f r)) (left : (a r : Row) → same (f a) r ≡ same a r) (right : (a r : Row) → same a (f r) ≡ same a r) where
    abbrev g : Row → Row
    g r = cond (p r) (f r) r

    id_kept : (r : Row) → rowid (g r) ≡ rowid r
    id_kept r = go (p r)
      where
        go : (b : Bool) → rowid (cond b (f r) r) ≡ rowid r
        go true = id r
        go false = refl

    all_images : (P : Row → Type 0) → ((r : Row) → P r → P (g r)) → (rows : List Row) → AllByRecursion P rows → AllByRecursion P (changed p f rows)
    all_images P each [] h = tt
    all_images P each (r ∷ rs) h = (each r h.0, all_images P each rs h.1)

    left_kept : (a r : Row) → same (g a) r ≡ same a r
    left_kept a r = go (p a)
      where
        go : (b : Bool) → same (cond b (f a) a) r ≡ same a r
        go true = left a r
        go false = refl

    right_kept : (a r : Row) → same a (g r) ≡ same a r
    right_kept a r = go (p r)
      where
        go : (b : Bool) → same a (cond b (f r) r) ≡ same a r
        go true = right a r
        go false = refl

    type_kept : (r : Row) → Is r → Is (g r)
    type_kept r h = go (p r)
      where
        go : (b : Bool) → Is (cond b (f r) r)
        go true = is r h
        go false = h

    apart_kept : (rows : List Row) → IsAscending (λ a b. same a b ≡ false) rows → IsAscending (λ a b. same a b ≡ false) (changed p f rows)
    apart_kept [] h = tt
    apart_kept (a ∷ rows) h = (all_weaker_here rows h.0, apart_kept rows h.1)
      where
        all_weaker_here : (rows : List Row) → AllByRecursion (λ r. same a r ≡ false) rows → AllByRecursion (λ r. same (g a) r ≡ false) (changed p f rows)
        all_weaker_here [] h = tt
        all_weaker_here (r ∷ rs) h = (left_kept a (g r) ∙ right_kept a r ∙ h.0, all_weaker_here rs h.1)

    ids_kept : (rows : List Row) → HaveIds rows → HaveIds (changed p f rows)
    ids_kept [] h = (tt, tt)
    ids_kept (r ∷ rs) h =
        let more = ids_kept rs (h.0.1, h.1.1) in
        ((later rs h.0.0, more.0), (subst (λ v. IsTrue (is_int v)) (sym (id_kept r)) h.1.0, more.1))
      where
        later : (xs : List Row) → AllByRecursion (λ x. value_cmp (rowid r) (rowid x) ≡ Less) xs → AllByRecursion (λ x. value_cmp (rowid (g r)) (rowid x) ≡ Less) (changed p f xs)
        later [] h = tt
        later (x ∷ xs) h = (ap (λ v. value_cmp v (rowid (g x))) (id_kept r) ∙ ap (value_cmp (rowid r)) (id_kept x) ∙ h.0, later xs h.1)

    pub rows_changed : (rows : List Row) → AreRows Is same rows → AreRows Is same (changed p f rows)
    rows_changed rows are = record { types = all_images Is type_kept rows are.types; apart = apart_kept rows are.apart; ids = ids_kept rows are.ids }
