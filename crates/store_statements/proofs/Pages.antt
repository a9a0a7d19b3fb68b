-- Pages of tags, from the sorted rows.
use Rattle.std.proofs.Common.{◌≡◌, ℕ, List, [], ◌∷◌, map, Bool, true, false, cond, Option, None, Some, refl, sym, ap, ◌∙◌, zero-le, le-ltb}
use Rattle.std.proofs.Math.Seq.{take-nil}
use Rattle.std.specs.Prelude.{◌&&◌, filter, find, option_map, nat_lt}
use Rattle.std.specs.Option.{option_map_or}
use Rattle.std.specs.Ordering.{is_lt}
use Rattle.std.specs.FinMap.{keys}
use Rattle.std.proofs.lemmas.Cmp.{nat_list_cmp_total, on_total}
use Rattle.sqlite.specs.Order.{Row}
use Rattle.sqlite_trees.proofs.ListLemmas.{map-map, filter-map}
use Rattle.sqlite_keyed.specs.Lists.{sort_by}
use Rattle.oci_types.specs.Text.{Text}
use Rattle.registry_model.specs.World.{text_cmp}
use Rattle.registry_model.specs.TagPage.{Page, page_behind, tags_behind, first_of, more_than}
use Rattle.registry_model.specs.Lookups.{page_at, no_page}
use Rattle.store_schema.specs.Rows.{bytes_at}
use Rattle.store_statements.specs.Keys.{of_first}
use Rattle.store_statements.specs.Tables.{Tables}
use Rattle.store_statements.specs.World.{tags_of, repo_in, world_of}
use Rattle.store_statements.specs.Registry.{IsRegistry}
use Rattle.store_statements.proofs.Base.{repo_found, found_named}
use Rattle.store_statements.proofs.Children.{no_children}
use Rattle.store_statements.proofs.Order.{filter_sorted}
use Rattle.store_statements.proofs.Ordered.{by_second, named_entries}

-- of this repository, and behind this text
abbrev pub is_behind : Text → Text → Row → Bool
is_behind name last r = of_first name r && is_lt (text_cmp last (bytes_at r 2))

-- the tags of the rows behind the text, in byte order
abbrev pub tags_after : Tables → Text → Text → List Text
tags_after t name last = map (λ r. bytes_at r 2) (sort_by by_second (filter (is_behind name last) t.tags))

pub twice_filtered : {X : Type 0} (p q : X → Bool) (xs : List X) → filter q (filter p xs) ≡ filter (λ x. p x && q x) xs
twice_filtered p q [] = refl
twice_filtered p q (x ∷ xs) = step (p x) (twice_filtered p q xs)
  where
    step : (b : Bool) → filter q (filter p xs) ≡ filter (λ y. p y && q y) xs → filter q (cond b (x ∷ filter p xs) (filter p xs)) ≡ cond (b && q x) (x ∷ filter (λ y. p y && q y) xs) (filter (λ y. p y && q y) xs)
    step true e = ap (λ l. cond (q x) (x ∷ l) l) e
    step false e = e

pub tags_behind_found : (t : Tables) (name last : Text) (r : Row) → IsRegistry t → bytes_at r 1 ≡ name → tags_behind (repo_in t r) last ≡ tags_after t name last
tags_behind_found t name last r is e =
    let rows = filter (of_first name) t.tags in
    ap (λ n. filter (λ tag. is_lt (text_cmp last tag)) (keys (tags_of t.tags n))) e
    ∙ ap (λ es. filter (λ tag. is_lt (text_cmp last tag)) (map (λ (x : Text × Text). x.0) es)) (named_entries (λ x. bytes_at x 3) t.tags name is.tables.tags.apart)
    ∙ ap (filter (λ tag. is_lt (text_cmp last tag))) (map-map (λ (x : Text × Text). x.0) (λ x. (bytes_at x 2, bytes_at x 3)) (sort_by by_second rows))
    ∙ filter-map (λ tag. is_lt (text_cmp last tag)) (λ x. bytes_at x 2) (sort_by by_second rows)
    ∙ ap (map (λ x. bytes_at x 2)) (filter_sorted by_second (on_total (λ x. bytes_at x 2) nat_list_cmp_total) (λ x. is_lt (text_cmp last (bytes_at x 2))) rows ∙ ap (sort_by by_second) (twice_filtered (of_first name) (λ x. is_lt (text_cmp last (bytes_at x 2))) t.tags))

-- a page is cut from them
abbrev pub page_of : Option ℕ → List Text → Page
page_of n tags = record { tags = first_of n tags; more = more_than n tags }

no_more : (n : ℕ) → nat_lt n 0 ≡ false
no_more n = le-ltb n 0 zero-le

pub page_found : (t : Tables) (name last : Text) (n : Option ℕ) → IsRegistry t → page_at (world_of t) name last n ≡ page_of n (tags_after t name last)
page_found t name last n is = ap (λ o. option_map_or (λ r. page_behind r last n) o no_page) (repo_found t name) ∙ go (find (of_first name) t.repos) refl
  where
    off : (b c : Bool) → c ≡ false → b && c ≡ false
    off true c e = e
    off false c e = refl

    nothing : (m : Option ℕ) → no_page ≡ page_of m []
    nothing None = refl
    nothing (Some m) = λ i. record { tags = sym (take-nil m) i; more = sym (off (nat_lt 0 m) (nat_lt m 0) (no_more m)) i }

    go : (o : Option Row) → find (of_first name) t.repos ≡ o → option_map_or (λ r. page_behind r last n) (option_map (repo_in t) o) no_page ≡ page_of n (tags_after t name last)
    go None e = nothing n ∙ ap (λ rows. page_of n (map (λ r. bytes_at r 2) (sort_by by_second rows))) (sym (sym (twice_filtered (of_first name) (λ x. is_lt (text_cmp last (bytes_at x 2))) t.tags) ∙ ap (filter (λ x. is_lt (text_cmp last (bytes_at x 2)))) (no_children t.repos t.tags name is.agree.tagged e)))
    go (Some r) e = ap (page_of n) (tags_behind_found t name last r is (found_named t.repos name r e))
