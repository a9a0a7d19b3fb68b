-- Who has what level on a repository, from the sorted rows of its grants.
use Rattle.std.proofs.Common.{◌≡◌, List, map, true, false, sym, ap, subst, ◌∙◌}
use Rattle.std.specs.Prelude.{◌&&◌, T, bytes_eq, filter, option_map}
use Rattle.std.specs.Ordering.{eq_by_cmp}
use Rattle.std.specs.FinMap as finite
use Rattle.std.specs.FinMap.{FinMap, get, entries, is_sorted, from_entries, entries_sorted, get-entries}
use Rattle.std.proofs.Math.Bool.{and_comm, and-true}
use Rattle.std.proofs.lemmas.Cmp.{nat_list_cmp_total}
use Rattle.std.proofs.lemmas.Map.Lookups.{exact_bytes}
use Rattle.sqlite.specs.Order.{Row}
use Rattle.sqlite.specs.Tree.{IsAscending}
use Rattle.sqlite_keyed.specs.Lists.{sort_by}
use Rattle.oci_types.specs.Text.{Text}
use Rattle.registry_model.specs.declared.level.Level.{Level}
use Rattle.registry_model.specs.World.{text_cmp, level_at}
use Rattle.registry_model.specs.Lookups.{AreLevelsOn}
use Rattle.store_schema.specs.Rows.{bytes_at, natural_at}
use Rattle.store_schema.proofs.Lists.{bytes_eq_true}
use Rattle.store_statements.specs.Keys.{of_first, of_second, has_key, same_key}
use Rattle.store_statements.specs.Tables.{Tables, level_of}
use Rattle.store_statements.specs.World.{world_of}
use Rattle.store_statements.specs.Registry.{IsRegistry}
use Rattle.store_statements.proofs.Apart.{apart_within}
use Rattle.store_statements.proofs.Base.{first_tie}
use Rattle.store_statements.proofs.Found.{text_tie, get_found, find_filter, find_alike}
use Rattle.store_statements.proofs.GrantWorlds.{level_found}
use Rattle.store_statements.proofs.Order.{rows_entries}
use Rattle.store_statements.proofs.Usages.{by_first}

-- the level of a row of grants
abbrev level_in : Row → Level
level_in r = level_of (natural_at r 3)

-- the tokens of the rows of a repository, in byte order, with their levels
abbrev pub levels_of : List Row → Text → List (Text × Level)
levels_of rows name = map (λ r. (bytes_at r 1, level_of (natural_at r 3))) (sort_by by_first (filter (of_second name) rows))

-- rows of one repository are apart in their tokens
first_apart : (rows : List Row) (name : Text) → IsAscending (λ a b. same_key a b ≡ false) rows → IsAscending (λ a b. eq_by_cmp text_cmp (bytes_at a 1) (bytes_at b 1) ≡ false) (filter (of_second name) rows)
first_apart rows name apart = apart_within (of_second name) (λ a b. same_key a b ≡ false) (λ a b. eq_by_cmp text_cmp (bytes_at a 1) (bytes_at b 1) ≡ false) (λ a b p q e.
    let same : bytes_eq (bytes_at b 2) (bytes_at a 2) ≡ true = ap (bytes_eq (bytes_at b 2)) (bytes_eq_true _ _ p) ∙ q in
    text_tie (bytes_at a 1) (bytes_at b 1) ∙ sym (and-true (bytes_eq (bytes_at b 1) (bytes_at a 1))) ∙ ap (λ x. bytes_eq (bytes_at b 1) (bytes_at a 1) && x) (sym same) ∙ e) rows apart

module _ (t : Tables) (name : Text) (is : IsRegistry t) where
  abbrev rows : List Row
  rows = filter (of_second name) t.grants

  -- the map of the repository's tokens
  abbrev tokens : FinMap text_cmp Level
  tokens = from_entries (map (λ r. (bytes_at r 1, level_in r)) rows)

  listed : entries tokens ≡ levels_of t.grants name
  listed = rows_entries nat_list_cmp_total (λ r. bytes_at r 1) level_in rows (first_apart t.grants name is.tables.grants.apart)

  found : (token : Text) → get tokens token ≡ level_at (world_of t) token name
  found token =
      get_found nat_list_cmp_total exact_bytes (λ r. bytes_at r 1) level_in of_first first_tie token rows
      ∙ ap (option_map level_in) (find_filter (of_second name) (of_first token) t.grants ∙ find_alike (λ r. of_second name r && of_first token r) (has_key token name) (λ r. and_comm (of_second name r) (of_first token r)) t.grants)
      ∙ sym (level_found t token name)

  pub levels_found : AreLevelsOn (world_of t) name (levels_of t.grants name)
  levels_found = record {
    rise = subst (λ es. T (is_sorted text_cmp es)) listed (entries_sorted tokens);
    each = λ token. ap (finite.find text_cmp token) (sym listed) ∙ sym (get-entries tokens token) ∙ found token;
  }
