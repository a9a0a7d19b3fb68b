-- What repositories use, from the rows.
use Rattle.std.proofs.Common.{◌≡◌, ◌+◌, ℕ, List, [], ◌∷◌, map, length, true, false, Option, None, Some, refl, sym, ap, ap₂, ◌∙◌, arith, Ordering}
use Rattle.std.specs.Prelude.{◌&&◌, ◌==◌, bytes_eq, filter, find, option_map, unwrap_or, sum_by}
use Rattle.std.specs.Option.{option_map_or}
use Rattle.std.specs.List.{AllByRecursion}
use Rattle.std.specs.Ordering.{eq_by_cmp, nat_cmp}
use Rattle.std.specs.FinMap.{values, len}
use Rattle.std.proofs.lemmas.Cmp.{nat_cmp_total, nat_list_cmp_total}
use Rattle.std.proofs.lemmas.List.{length-map}
use Rattle.std.proofs.lemmas.List.Sums.{sum_by-cons}
use Rattle.sqlite.specs.Order.{Row}
use Rattle.sqlite.specs.Tree.{IsAscending}
use Rattle.sqlite_trees.proofs.ListLemmas.{all_weaker, all-filter, ascending-map, ascending_weaker, map-map}
use Rattle.sqlite_keyed.specs.Lists.{sort_by}
use Rattle.oci_types.specs.Text.{Text}
use Rattle.registry_model.specs.declared.quota.Usage.{Usage}
use Rattle.registry_model.specs.World.{text_cmp, Repo}
use Rattle.registry_model.specs.Usage.{usage_of, in_64_bits}
use Rattle.registry_model.specs.Lookups.{usage_at, usages_of, no_usage}
use Rattle.store_schema.specs.Rows.{bytes_at, natural_at, integer_at}
use Rattle.store_statements.specs.Keys.{of_first, same_first, same_session}
use Rattle.store_statements.specs.Tables.{Tables}
use Rattle.store_statements.specs.World.{content_at, blobs_of, manifests_of, tags_of, sessions_of, pieces_of, joined, repo_in, world_of}
use Rattle.store_statements.specs.Registry.{IsRegistry, BlobAgrees, ManifestAgrees, UploadAgrees}
use Rattle.store_statements.proofs.Apart.{apart_within, len_apart}
use Rattle.store_statements.proofs.Found.{text_tie, number_tie, has_first}
use Rattle.store_statements.proofs.Base.{repo_found, found_named}
use Rattle.store_statements.proofs.ContentWorlds.{all-pieces_of}
use Rattle.store_statements.proofs.Reach.{reach_length}
use Rattle.store_statements.proofs.Order.{rows_entries, rows_sum}
use Rattle.store_statements.proofs.Ordered.{named_sum, named_len}

-- the sizes of a repository's rows
abbrev pub sizes : List Row → Text → ℕ
sizes rows name = sum_by (λ r. natural_at r 3) (filter (of_first name) rows)

abbrev pub count : List Row → Text → ℕ
count rows name = length (filter (of_first name) rows)

-- what the rows of a repository's name say that it uses
abbrev pub usage_in : Tables → Text → Row → Usage
usage_in t name r = record {
  used = in_64_bits (sizes t.blobs name + sizes t.manifests name + sizes t.uploads name);
  quota = natural_at r 2;
  blobs = count t.blobs name;
  manifests = count t.manifests name;
  tags = count t.tags name;
  sessions = count t.uploads name;
}

pub sum_same : {X : Type 0} (f g : X → ℕ) (xs : List X) → AllByRecursion (λ x. f x ≡ g x) xs → sum_by f xs ≡ sum_by g xs
sum_same f g [] all = refl
sum_same f g (x ∷ xs) all = sum_by-cons f x xs ∙ ap₂ ◌+◌ all.0 (sum_same f g xs all.1) ∙ sym (sum_by-cons g x xs)

-- ---- what the maps of a repository add up to

module _ (t : Tables) (name : Text) (is : IsRegistry t) where
  pub blobs_sum : sum_by length (values (blobs_of t.contents t.blobs name)) ≡ sizes t.blobs name
  blobs_sum = named_sum (λ r. content_at t.contents (integer_at r 4)) t.blobs name is.tables.blobs.apart length
      ∙ sum_same _ _ (filter (of_first name) t.blobs) (all-filter _ (of_first name) t.blobs (all_weaker (BlobAgrees t.contents) (λ r. length (content_at t.contents (integer_at r 4)) ≡ natural_at r 3) (λ r h. ap (λ o. length (unwrap_or o [])) h.there ∙ sym h.size) t.blobs is.agree.blobs))

  pub manifests_sum : sum_by length (values (manifests_of t.contents t.manifests name)) ≡ sizes t.manifests name
  manifests_sum = named_sum (λ r. content_at t.contents (integer_at r 6)) t.manifests name is.tables.manifests.apart length
      ∙ sum_same _ _ (filter (of_first name) t.manifests) (all-filter _ (of_first name) t.manifests (all_weaker (ManifestAgrees t.contents) (λ r. length (content_at t.contents (integer_at r 6)) ≡ natural_at r 3) (λ r h. ap (λ o. length (unwrap_or o [])) h.there ∙ sym h.size) t.manifests is.agree.manifests))

  -- the sessions of one name are apart in their numbers
  numbers_apart : IsAscending (λ a b. eq_by_cmp nat_cmp (natural_at a 2) (natural_at b 2) ≡ false) (filter (of_first name) t.uploads)
  numbers_apart = apart_within (of_first name) (λ a b. same_session a b ≡ false) (λ a b. eq_by_cmp nat_cmp (natural_at a 2) (natural_at b 2) ≡ false) (λ a b p q e.
      let same : bytes_eq (bytes_at b 1) (bytes_at a 1) ≡ true = ap (bytes_eq (bytes_at b 1)) (has_first name a p) ∙ q in
      number_tie (natural_at a 2) (natural_at b 2) ∙ ap (λ x. x && natural_at b 2 == natural_at a 2) (sym same) ∙ e) t.uploads is.tables.uploads.apart

  abbrev session_bytes : Row → Text
  session_bytes r = joined t.contents (pieces_of t.pieces (bytes_at r 1) (natural_at r 2))

  session_sized : (r : Row) → UploadAgrees t.repos t.pieces r → length (session_bytes r) ≡ natural_at r 3
  session_sized r h =
      let whole = reach_length t.contents 0 (natural_at r 3) (pieces_of t.pieces (bytes_at r 1) (natural_at r 2)) (all-pieces_of _ t.pieces (bytes_at r 1) (natural_at r 2) is.agree.pieces) h.whole in
      omega (arith, whole)

  pub sessions_sum : sum_by length (values (sessions_of t.contents t.pieces t.uploads name)) ≡ sizes t.uploads name
  sessions_sum = rows_sum nat_cmp_total (λ r. natural_at r 2) session_bytes length (filter (of_first name) t.uploads) numbers_apart
      ∙ sum_same _ _ (filter (of_first name) t.uploads) (all-filter _ (of_first name) t.uploads (all_weaker (UploadAgrees t.repos t.pieces) (λ r. length (session_bytes r) ≡ natural_at r 3) session_sized t.uploads is.agree.uploads))

  pub sessions_len : len (sessions_of t.contents t.pieces t.uploads name) ≡ count t.uploads name
  sessions_len = len_apart nat_cmp_total _ (ascending-map _ (λ r. (natural_at r 2, session_bytes r)) (filter (of_first name) t.uploads) numbers_apart) ∙ length-map (filter (of_first name) t.uploads) (λ r. (natural_at r 2, session_bytes r))

-- ---- the usage of a repository

pub usage_of_row : (t : Tables) (name : Text) (r : Row) → IsRegistry t → bytes_at r 1 ≡ name → usage_of (repo_in t r) ≡ usage_in t name r
usage_of_row t name r is e = ap (λ n. usage_of (record { blobs = blobs_of t.contents t.blobs n; manifests = manifests_of t.contents t.manifests n; tags = tags_of t.tags n; sessions = sessions_of t.contents t.pieces t.uploads n; last = natural_at r 3; quota = natural_at r 2 })) e
    ∙ (λ i. record {
      used = in_64_bits (blobs_sum t name is i + manifests_sum t name is i + sessions_sum t name is i);
      quota = natural_at r 2;
      blobs = named_len (λ x. content_at t.contents (integer_at x 4)) t.blobs name is.tables.blobs.apart i;
      manifests = named_len (λ x. content_at t.contents (integer_at x 6)) t.manifests name is.tables.manifests.apart i;
      tags = named_len (λ x. bytes_at x 3) t.tags name is.tables.tags.apart i;
      sessions = sessions_len t name is i;
    })

pub usage_found : (t : Tables) (name : Text) → IsRegistry t → usage_at (world_of t) name ≡ option_map_or (usage_in t name) (find (of_first name) t.repos) no_usage
usage_found t name is = ap (λ o. option_map_or usage_of o no_usage) (repo_found t name) ∙ go (find (of_first name) t.repos) refl
  where
    go : (o : Option Row) → find (of_first name) t.repos ≡ o → option_map_or usage_of (option_map (repo_in t) o) no_usage ≡ option_map_or (usage_in t name) o no_usage
    go None e = refl
    go (Some r) e = usage_of_row t name r is (found_named t.repos name r e)

-- ---- of all repositories

abbrev pub by_first : Row → Row → Ordering
by_first a b = text_cmp (bytes_at a 1) (bytes_at b 1)

pub usages_found : (t : Tables) → IsRegistry t → usages_of (world_of t) ≡ map (λ r. (bytes_at r 1, usage_in t (bytes_at r 1) r)) (sort_by by_first t.repos)
usages_found t is =
    let apart = ascending_weaker (λ a b. same_first a b ≡ false) (λ a b. eq_by_cmp text_cmp (bytes_at a 1) (bytes_at b 1) ≡ false) (λ a b e. text_tie (bytes_at a 1) (bytes_at b 1) ∙ e) t.repos is.tables.repos.apart in
    ap (map (λ (e : Text × Repo). (e.0, usage_of e.1))) (rows_entries nat_list_cmp_total (λ r. bytes_at r 1) (repo_in t) t.repos apart)
    ∙ map-map (λ (e : Text × Repo). (e.0, usage_of e.1)) (λ r. (bytes_at r 1, repo_in t r)) (sort_by by_first t.repos)
    ∙ (λ i. map (λ r. (bytes_at r 1, usage_of_row t (bytes_at r 1) r is refl i)) (sort_by by_first t.repos))
