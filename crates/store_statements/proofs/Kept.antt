-- What holds of rows holds still after rows went, changed or came.
use Rattle.std.proofs.Common.{◌≡◌, ℕ, ℤ, List, ◌∷◌, Bool, true, false, cond, not, None, refl, sym, ap, subst, ◌∙◌, Less}
use Rattle.std.specs.Prelude.{◌&&◌, ◌==◌, find, IsTrue}
use Rattle.std.specs.List.{AllByRecursion}
use Rattle.std.specs.Cmp.{unsigned_tied}
use Rattle.std.proofs.lemmas.Cmp.{nat_cmp_total, eq_by_cmp_equiv}
use Rattle.sqlite.specs.declared.types.Value.TheVariants.{Int}
use Rattle.sqlite.specs.Order.{Row, value_cmp}
use Rattle.sqlite.specs.Tree.{IsAscending, rowid}
use Rattle.sqlite_trees.specs.View.{is_int}
use Rattle.sqlite_trees.proofs.ListLemmas.{all_weaker, all-filter, all-map, ascending-filter, ascending-map, ascending_weaker}
use Rattle.store_schema.specs.Rows.{bytes_at, natural_at}
use Rattle.store_schema.proofs.Lists.{bytes_eq-sym, all_middle, ascending_middle, none_found}
use Rattle.store_statements.specs.Keys.{same_first, same_key, same_session, same_start}
use Rattle.store_statements.specs.Tables.{AreRows}
use Rattle.store_statements.specs.Changes.{without, changed, Comes}

-- ---- of each row

pub all_without : (P : Row → Type 0) (p : Row → Bool) (rows : List Row) → AllByRecursion P rows → AllByRecursion P (without p rows)
all_without P p rows all = all-filter P (λ r. not (p r)) rows all

pub all_changed : (P : Row → Type 0) (p : Row → Bool) (f : Row → Row) (rows : List Row) → ((r : Row) → P r → P (f r)) → AllByRecursion P rows → AllByRecursion P (changed p f rows)
all_changed P p f rows keeps all = all-map P (λ r. cond (p r) (f r) r) rows (all_weaker P (λ r. P (cond (p r) (f r) r)) (λ r it. step (p r) r it) rows all)
  where
    step : (b : Bool) (r : Row) → P r → P (cond b (f r) r)
    step true r it = keeps r it
    step false r it = it

pub all_came : (P : Row → Type 0) (olds news : List Row) (columns : Row) (c : Comes olds news columns) → P (Int c.id ∷ columns) → AllByRecursion P olds → AllByRecursion P news
all_came P olds news columns c new all = subst (AllByRecursion P) (sym c.puts.news_are) (all_middle P (Int c.id ∷ columns) c.puts.before c.puts.after (subst (AllByRecursion P) c.puts.olds_are all) new)

-- ---- of the rows of a table

module _ (Is : Row → Type 0) (same : Row → Row → Bool) where
  pub rows_without : (p : Row → Bool) (rows : List Row) → AreRows Is same rows → AreRows Is same (without p rows)
  rows_without p rows are = record {
    types = all_without Is p rows are.types;
    apart = ascending-filter _ _ rows are.apart;
    ids = (ascending-filter _ _ rows are.ids.0, all-filter _ _ rows are.ids.1);
  }

  pub rows_changed : (p : Row → Bool) (f : Row → Row) (rows : List Row) → ((r : Row) → Is r → Is (f r)) → ((a b : Row) → same (f a) b ≡ same a b) → ((a b : Row) → same a (f b) ≡ same a b) → ((r : Row) → rowid (f r) ≡ rowid r)
      → AreRows Is same rows → AreRows Is same (changed p f rows)
  rows_changed p f rows types first second keeps are = record {
    types = all_changed Is p f rows types are.types;
    apart = ascending-map _ fixed rows (ascending_weaker _ (λ a b. same (fixed a) (fixed b) ≡ false) (λ a b e. firsts (p a) a (fixed b) ∙ seconds (p b) a b ∙ e) rows are.apart);
    ids = (
      ascending-map _ fixed rows (ascending_weaker _ (λ a b. value_cmp (rowid (fixed a)) (rowid (fixed b)) ≡ Less) (λ a b e. (λ i. value_cmp (ids (p a) a i) (ids (p b) b i)) ∙ e) rows are.ids.0),
      all-map _ fixed rows (all_weaker _ (λ r. IsTrue (is_int (rowid (fixed r)))) (λ r h. subst (λ v. IsTrue (is_int v)) (sym (ids (p r) r)) h) rows are.ids.1),
    );
  }
    where
      fixed : Row → Row
      fixed r = cond (p r) (f r) r

      firsts : (b : Bool) (a c : Row) → same (cond b (f a) a) c ≡ same a c
      firsts true a c = first a c
      firsts false a c = refl

      seconds : (b : Bool) (a c : Row) → same a (cond b (f c) c) ≡ same a c
      seconds true a c = second a c
      seconds false a c = refl

      ids : (b : Bool) (r : Row) → rowid (cond b (f r) r) ≡ rowid r
      ids true r = keeps r
      ids false r = refl

  pub rows_came : (olds news : List Row) (columns : Row) (c : Comes olds news columns) → ((a b : Row) → same a b ≡ same b a) → ((id : ℤ) → Is (Int id ∷ columns)) → find (same (Int c.id ∷ columns)) olds ≡ None
      → AreRows Is same olds → AreRows Is same news
  rows_came olds news columns c turned is fresh are = record {
    types = all_came Is olds news columns c (is c.id) are.types;
    apart = subst (IsAscending (λ a b. same a b ≡ false)) (sym c.puts.news_are) (ascending_middle (λ a b. same a b ≡ false) (λ a b e. turned b a ∙ e) (Int c.id ∷ columns) c.puts.before c.puts.after
        (subst (IsAscending (λ a b. same a b ≡ false)) c.puts.olds_are are.apart)
        (none_found (same (Int c.id ∷ columns)) _ (ap (find (same (Int c.id ∷ columns))) (sym c.puts.olds_are) ∙ fresh)));
    ids = c.ids;
  }

-- ---- keys are the same both ways round

pub same_first-sym : (a b : Row) → same_first a b ≡ same_first b a
same_first-sym a b = bytes_eq-sym (bytes_at b 1) (bytes_at a 1)

pub same_key-sym : (a b : Row) → same_key a b ≡ same_key b a
same_key-sym a b = λ i. bytes_eq-sym (bytes_at b 1) (bytes_at a 1) i && bytes_eq-sym (bytes_at b 2) (bytes_at a 2) i

equal-sym : (m n : ℕ) → (m == n) ≡ (n == m)
equal-sym m n = sym (unsigned_tied m n) ∙ (eq_by_cmp_equiv nat_cmp_total).symm m n ∙ unsigned_tied n m

pub same_session-sym : (a b : Row) → same_session a b ≡ same_session b a
same_session-sym a b = λ i. bytes_eq-sym (bytes_at b 1) (bytes_at a 1) i && equal-sym (natural_at b 2) (natural_at a 2) i

pub same_start-sym : (a b : Row) → same_start a b ≡ same_start b a
same_start-sym a b = λ i. (bytes_eq-sym (bytes_at b 1) (bytes_at a 1) i && equal-sym (natural_at b 2) (natural_at a 2) i) && equal-sym (natural_at b 3) (natural_at a 3) i
