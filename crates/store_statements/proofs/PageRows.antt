-- A page of tags.
use Rattle.std.proofs.Common.{◌≡◌, ◌∙◌, inl, inr, ℕ, ℤ, suc, zero, ◌+◌, ◌<◌, ◌≤◌, List, [], ◌∷◌, map, Bool, true, false, None, Some, Less, Equal, Greater, IfOk, length, take, is_gt, is_lt, sym, ap, refl, arith}
use Rattle.std.specs.Prelude.{Option, ◌&&◌, nat_lt, filter}
use Rattle.std.specs.Ordering.{nat_cmp, ordering_reverse}
use Rattle.std.specs.declared.cmp.Ordering.{Ordering}
use Rattle.std.specs.Cmp.Lexicographic.{slice_cmp}
use Rattle.std.proofs.lemmas.Bool.{ltb-true, lt-ltb, ltb-false}
use Rattle.std.proofs.lemmas.List.{take-map, take_all, length-take-le}
use Rattle.sqlite_value.proofs.OrderLemmas.{value_cmp_total, value_cmp-Text}
use Rattle.sqlite_sql.specs.declared.ops.BinaryOp.TheVariants.{Compare}
use Rattle.sqlite_sql.specs.declared.ops.CompareOp.TheVariants.{Gt}
use Rattle.sqlite_keyed.specs.Lists.{sort_by}
use Rattle.sqlite.specs.Collation.TheVariants.{Binary}
use Rattle.sqlite.specs.declared.types.Value.{Value}
use Rattle.sqlite.specs.declared.types.Value.TheVariants.{Int, Text}
use Rattle.sqlite.specs.Order.{Row, column, value_cmp}
use Rattle.sqlite.specs.Ops.{binary, is_true, from_truth}
use Rattle.sqlite.specs.Query.{limited, as_count}
use Rattle.sqlite.specs.State.{State, Shown}
use Rattle.store_schema.proofs.Selects.{Answer, is_text, both_tests, map-map}
use Rattle.registry_model.specs.TagPage.{first_of, more_than}
use Rattle.store_contents.specs.Layouts.{Layout}
use Rattle.store_statements.specs.Tables.{IsTagRow}
use Rattle.store_statements.specs.TagTexts.{tag_page}
use Rattle.store_statements.specs.Held.{HoldsTables, held}
use Rattle.store_statements.specs.ManifestShown.{by_second}
use Rattle.store_statements.specs.TagPages.{tag_behind, IsEnough, first_rows, are_more}
use Rattle.store_statements.proofs.Keys.{both_true}
use Rattle.store_statements.proofs.InOrder.{orders}
use Rattle.store_statements.proofs.SelectedRows.{length_mapped}

-- ---- the rows behind a text

truth : (b : Bool) → is_true (from_truth (Some b)) ≡ b
truth true = refl
truth false = refl

turned : (o : Ordering) → is_gt (ordering_reverse o) ≡ is_lt o
turned Less = refl
turned Equal = refl
turned Greater = refl

behind_text : (t s : List ℕ) → is_true (binary (Compare Gt Binary) (Text t) (Text s)) ≡ is_lt (slice_cmp nat_cmp s t)
unfolding binary
behind_text t s = truth (is_gt (value_cmp (Text t) (Text s))) ∙ ap is_gt (value_cmp_total.antisymm (Text t) (Text s)) ∙ turned (value_cmp (Text s) (Text t)) ∙ ap is_lt (value_cmp-Text s t)

is_behind : (v : Value) (t s : List ℕ) → v ≡ Text t → is_true (binary (Compare Gt Binary) v (Text s)) ≡ is_lt (slice_cmp nat_cmp s t)
is_behind v t s e = rw e (behind_text t s)

pub page_shown : {l : Layout} → (old new : State) (repo last : List ℕ) (limit : ℤ) (r : Answer) → HoldsTables l old.now → IfOk r (λ rows. Shown tag_page (Text repo ∷ Text last ∷ Int limit ∷ []) old new rows.items)
    → IfOk r (λ rows. rows.items ≡ limited (as_count (Int limit)) (map (λ r. column r 2 ∷ []) (sort_by by_second (filter (tag_behind repo last) (held l old).tags))))
page_shown {l} old new repo last limit r h ran = orders IsTagRow tag_page _ _ _ _ _ (Text repo ∷ Text last ∷ Int limit ∷ []) (tag_behind repo last) repo old new r
    h.known.tags.stored h.tables.tags.types h.tables.tags.apart h.known.tag_texts.page
    (λ r it. both_tests _ _ _ _ (is_text (column r 1) _ repo it.repo) (is_behind (column r 2) _ last it.tag)) (λ r it. it.tag) (λ r e. (both_true _ _ e).0) ran

-- ---- one row more is enough

take_within : {X : Type 0} (n : ℕ) (xs : List X) → take n (take (suc n) xs) ≡ take n xs
take_within zero xs = refl
take_within (suc n) [] = refl
take_within (suc n) (x ∷ xs) = ap (λ ys. x ∷ ys) (take_within n xs)

pub first_within : {X : Type 0} (n : ℕ) (xs : List X) → take n (take (n + 1) xs) ≡ take n xs
first_within n xs = let on : n + 1 ≡ suc n = omega arith in ap (λ k. take n (take k xs)) on ∙ take_within n xs

pub more_within : {X : Type 0} (n : ℕ) (xs : List X) → nat_lt n (length (take (n + 1) xs)) ≡ nat_lt n (length xs)
more_within n xs = go (nat_lt n (length xs)) refl
  where
    go : (b : Bool) → nat_lt n (length xs) ≡ b → nat_lt n (length (take (n + 1) xs)) ≡ nat_lt n (length xs)
    go true e =
        let low : n < length xs = ltb-true n (length xs) e in
        let room : n + 1 ≤ length xs = omega (arith, low) in
        let long : length (take (n + 1) xs) ≡ n + 1 = length-take-le (n + 1) xs room in
        lt-ltb n (length (take (n + 1) xs)) (omega (arith, long)) ∙ sym e
    go false e =
        let high : length xs ≤ n = ltb-false n (length xs) e in
        let room : length xs ≤ n + 1 = omega (arith, high) in
        ap (λ l. nat_lt n (length l)) (take_all (n + 1) xs room)

pub page_is : (n : Option ℕ) (limit : ℤ) (f : Row → Row) (g : Row → List ℕ) (some rows : List Row) (tags : List (List ℕ)) (more : Bool) → IsEnough n limit → rows ≡ limited (as_count (Int limit)) (map f some)
    → tags ≡ map g (first_rows n rows) → more ≡ are_more n (length rows) → (tags ≡ first_of n (map (λ r. g (f r)) some)) × (more ≡ more_than n (map (λ r. g (f r)) some))
page_is None limit f g some rows tags more enough e t m =
    let all : rows ≡ map f some = e ∙ ap (λ l. limited (as_count (Int l)) (map f some)) enough in
    (t ∙ ap (map g) all ∙ map-map g f some, m)
page_is (Some n) limit f g some rows tags more (inr enough) e t m =
    let all : rows ≡ map f some = e ∙ ap (λ l. limited (as_count (Int l)) (map f some)) enough in (
      t ∙ ap (λ l. map g (take n l)) all ∙ sym (take-map g n (map f some)) ∙ ap (take n) (map-map g f some),
      m ∙ ap (λ l. nat_lt 0 n && nat_lt n (length l)) all ∙ ap (λ k. nat_lt 0 n && nat_lt n k) (length_mapped f some ∙ sym (length_mapped (λ r. g (f r)) some)),
    )
page_is (Some n) limit f g some rows tags more (inl enough) e t m =
    let part : rows ≡ take (n + 1) (map f some) = e ∙ ap (λ l. limited (as_count (Int l)) (map f some)) enough in (
      t ∙ ap (λ l. map g (take n l)) part ∙ ap (map g) (first_within n (map f some)) ∙ sym (take-map g n (map f some)) ∙ ap (take n) (map-map g f some),
      m ∙ ap (λ l. nat_lt 0 n && nat_lt n (length l)) part ∙ ap (λ b. nat_lt 0 n && b) (more_within n (map f some)) ∙ ap (λ k. nat_lt 0 n && nat_lt n k) (length_mapped f some ∙ sym (length_mapped (λ r. g (f r)) some)),
    )
