-- The names of all repositories and how many there are, and the tags of one, from the sorted rows.
use Rattle.std.proofs.Common.{◌≡◌, ◌∙◌, [], map, length, false, None, Some, refl, sym, ap}
use Rattle.std.specs.Prelude.{filter, find, Option, option_map}
use Rattle.std.specs.Option.{option_map_or}
use Rattle.std.specs.Ordering.{eq_by_cmp}
use Rattle.std.specs.FinMap.{entries}
use Rattle.std.proofs.lemmas.Cmp.{nat_list_cmp_total}
use Rattle.std.proofs.lemmas.List.{length-map}
use Rattle.sqlite.specs.Order.{Row}
use Rattle.sqlite.specs.Tree.{IsAscending}
use Rattle.sqlite_trees.proofs.ListLemmas.{ascending-map, ascending_weaker, map-map}
use Rattle.sqlite_keyed.specs.Lists.{sort_by}
use Rattle.oci_types.specs.Text.{Text}
use Rattle.registry_model.specs.World.{text_cmp, Repo}
use Rattle.registry_model.specs.Lookups.{repo_count, repo_names_of, tags_at}
use Rattle.store_schema.specs.Rows.{bytes_at}
use Rattle.store_statements.specs.Keys.{of_first, same_first}
use Rattle.store_statements.specs.ManifestShown.{by_second, tag_row}
use Rattle.store_statements.specs.Shown.{by_name}
use Rattle.store_statements.specs.Tables.{Tables}
use Rattle.store_statements.specs.World.{repo_in, tags_of, world_of}
use Rattle.store_statements.specs.Registry.{IsRegistry}
use Rattle.store_statements.proofs.Apart.{len_apart}
use Rattle.store_statements.proofs.Base.{repo_found, found_named}
use Rattle.store_statements.proofs.Children.{no_children}
use Rattle.store_statements.proofs.Found.{text_tie}
use Rattle.store_statements.proofs.Order.{rows_entries}
use Rattle.store_statements.proofs.Ordered.{named_entries}

module _ (t : Tables) (is : IsRegistry t) where
  apart : IsAscending (λ a b. eq_by_cmp text_cmp (bytes_at a 1) (bytes_at b 1) ≡ false) t.repos
  apart = ascending_weaker (λ a b. same_first a b ≡ false) (λ a b. eq_by_cmp text_cmp (bytes_at a 1) (bytes_at b 1) ≡ false) (λ a b e. text_tie (bytes_at a 1) (bytes_at b 1) ∙ e) t.repos is.tables.repos.apart

  pub names_found : repo_names_of (world_of t) ≡ map (λ r. bytes_at r 1) (sort_by by_name t.repos)
  names_found =
      ap (map (λ (e : Text × Repo). e.0)) (rows_entries nat_list_cmp_total (λ r. bytes_at r 1) (repo_in t) t.repos apart)
      ∙ map-map (λ (e : Text × Repo). e.0) (λ r. (bytes_at r 1, repo_in t r)) (sort_by by_name t.repos)

  pub count_found : repo_count (world_of t) ≡ length t.repos
  count_found =
      len_apart nat_list_cmp_total (map (λ r. (bytes_at r 1, repo_in t r)) t.repos) (ascending-map _ (λ r. (bytes_at r 1, repo_in t r)) t.repos apart)
      ∙ length-map t.repos (λ r. (bytes_at r 1, repo_in t r))

  -- of a repository that is there, and of one that is not
  pub tags_found : (name : Text) → tags_at (world_of t) name ≡ map tag_row (sort_by by_second (filter (of_first name) t.tags))
  tags_found name = ap (λ o. option_map_or (λ (r : Repo). entries r.tags) o []) (repo_found t name) ∙ go (find (of_first name) t.repos) refl
    where
      go : (o : Option Row) → find (of_first name) t.repos ≡ o → option_map_or (λ (r : Repo). entries r.tags) (option_map (repo_in t) o) [] ≡ map tag_row (sort_by by_second (filter (of_first name) t.tags))
      go None e = ap (λ xs. map tag_row (sort_by by_second xs)) (sym (no_children t.repos t.tags name is.agree.tagged e))
      go (Some r) e = ap (λ n. entries (tags_of t.tags n)) (found_named t.repos name r e) ∙ named_entries (λ x. bytes_at x 3) t.tags name is.tables.tags.apart
