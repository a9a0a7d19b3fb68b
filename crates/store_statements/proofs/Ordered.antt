-- The map of the rows that have a name, in the order of their second column: its entries, how many, and sums over its values.
use Rattle.std.proofs.Common.{◌≡◌, ℕ, List, map, length, true, false, sym, ap, ◌∙◌, Ordering}
use Rattle.std.specs.Prelude.{◌&&◌, bytes_eq, filter, sum_by, nat_lt}
use Rattle.std.specs.Ordering.{eq_by_cmp}
use Rattle.std.specs.FinMap.{entries, values, len}
use Rattle.std.proofs.lemmas.Cmp.{nat_list_cmp_total}
use Rattle.std.proofs.lemmas.List.{length-map}
use Rattle.sqlite.specs.Order.{Row}
use Rattle.sqlite.specs.Tree.{IsAscending}
use Rattle.sqlite_trees.proofs.ListLemmas.{ascending-map}
use Rattle.sqlite_keyed.specs.Lists.{sort_by}
use Rattle.oci_types.specs.Text.{Text}
use Rattle.registry_model.specs.World.{text_cmp, is_known}
use Rattle.store_schema.specs.Rows.{bytes_at, natural_at}
use Rattle.store_statements.specs.Keys.{of_first, same_key}
use Rattle.store_statements.specs.Tables.{Tables, level_of}
use Rattle.store_statements.specs.World.{world_of}
use Rattle.store_statements.specs.Registry.{IsRegistry}
use Rattle.store_statements.proofs.Apart.{apart_within, len_apart}
use Rattle.store_statements.proofs.Found.{text_tie, has_first}
use Rattle.store_statements.proofs.Named.{named}
use Rattle.store_statements.proofs.Order.{rows_entries, rows_sum}

abbrev pub by_second : Row → Row → Ordering
by_second a b = text_cmp (bytes_at a 2) (bytes_at b 2)

-- rows of one name are apart in the second column
pub second_apart : (rows : List Row) (name : Text) → IsAscending (λ a b. same_key a b ≡ false) rows → IsAscending (λ a b. eq_by_cmp text_cmp (bytes_at a 2) (bytes_at b 2) ≡ false) (filter (of_first name) rows)
second_apart rows name apart = apart_within (of_first name) (λ a b. same_key a b ≡ false) (λ a b. eq_by_cmp text_cmp (bytes_at a 2) (bytes_at b 2) ≡ false) (λ a b p q e.
    let same : bytes_eq (bytes_at b 1) (bytes_at a 1) ≡ true = ap (bytes_eq (bytes_at b 1)) (has_first name a p) ∙ q in
    text_tie (bytes_at a 2) (bytes_at b 2) ∙ ap (λ x. x && bytes_eq (bytes_at b 2) (bytes_at a 2)) (sym same) ∙ e) rows apart

module _ {X : Type 0} (value : Row → X) (rows : List Row) (name : Text) (apart : IsAscending (λ a b. same_key a b ≡ false) rows) where
  pub named_entries : entries (named value rows name) ≡ map (λ r. (bytes_at r 2, value r)) (sort_by by_second (filter (of_first name) rows))
  named_entries = rows_entries nat_list_cmp_total (λ r. bytes_at r 2) value (filter (of_first name) rows) (second_apart rows name apart)

  pub named_sum : (f : X → ℕ) → sum_by f (values (named value rows name)) ≡ sum_by (λ r. f (value r)) (filter (of_first name) rows)
  named_sum f = rows_sum nat_list_cmp_total (λ r. bytes_at r 2) value f (filter (of_first name) rows) (second_apart rows name apart)

  pub named_len : len (named value rows name) ≡ length (filter (of_first name) rows)
  named_len = len_apart nat_list_cmp_total (map (λ r. (bytes_at r 2, value r)) (filter (of_first name) rows)) (ascending-map _ (λ r. (bytes_at r 2, value r)) (filter (of_first name) rows) (second_apart rows name apart))
      ∙ length-map (filter (of_first name) rows) (λ r. (bytes_at r 2, value r))

-- ---- whether a token has a grant

pub known_found : (t : Tables) (token : Text) → IsRegistry t → is_known ((world_of t).grants token) ≡ nat_lt 0 (length (filter (of_first token) t.grants))
known_found t token is = ap (nat_lt 0) (named_len (λ r. level_of (natural_at r 3)) t.grants token is.tables.grants.apart)
