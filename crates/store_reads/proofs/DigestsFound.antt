-- The digests of a repository, from the sorted rows.
use Rattle.std.proofs.Common.{◌≡◌, ◌∙◌, List, [], map, false, None, Some, refl, sym, ap}
use Rattle.std.specs.Prelude.{filter, find, Option, option_map}
use Rattle.std.specs.Option.{option_map_or}
use Rattle.std.specs.FinMap.{keys}
use Rattle.sqlite.specs.Order.{Row}
use Rattle.sqlite.specs.Tree.{IsAscending}
use Rattle.sqlite_trees.proofs.ListLemmas.{map-map}
use Rattle.sqlite_keyed.specs.Lists.{sort_by}
use Rattle.oci_types.specs.Text.{Text}
use Rattle.registry_model.specs.World.{Repo}
use Rattle.registry_model.specs.Lookups.{blob_digests_at, manifest_digests_at}
use Rattle.store_schema.specs.Rows.{bytes_at}
use Rattle.store_statements.specs.Keys.{of_first, same_key}
use Rattle.store_statements.specs.Tables.{Tables}
use Rattle.store_statements.specs.World.{repo_in, world_of}
use Rattle.store_statements.specs.Registry.{IsRegistry, HaveRepo}
use Rattle.store_statements.proofs.Base.{repo_found, found_named}
use Rattle.store_statements.proofs.BlobWorlds.{blob_bytes}
use Rattle.store_statements.proofs.Children.{no_children}
use Rattle.store_statements.proofs.ManifestWorlds.{manifest_bytes}
use Rattle.store_statements.proofs.Named.{named}
use Rattle.store_statements.proofs.Ordered.{by_second, named_entries}

-- the digests of the rows of the repository, in byte order
abbrev pub digests_of : List Row → Text → List Text
digests_of rows name = map (λ r. bytes_at r 2) (sort_by by_second (filter (of_first name) rows))

-- the keys of a repository's map are those
keys_found : (value : Row → Text) (rows : List Row) (name : Text) → IsAscending (λ a b. same_key a b ≡ false) rows → keys (named value rows name) ≡ digests_of rows name
keys_found value rows name apart = ap (map (λ (x : Text × Text). x.0)) (named_entries value rows name apart) ∙ map-map (λ (x : Text × Text). x.0) (λ x. (bytes_at x 2, value x)) (sort_by by_second (filter (of_first name) rows))

-- of one that is there, and of one that is not
keys_at : (t : Tables) (name : Text) (rows : List Row) (held : Repo → List Text) → HaveRepo t.repos rows
    → ((r : Row) → bytes_at r 1 ≡ name → held (repo_in t r) ≡ digests_of rows name) → option_map_or held (option_map (repo_in t) (find (of_first name) t.repos)) [] ≡ digests_of rows name
keys_at t name rows held have here = go (find (of_first name) t.repos) refl
  where
    go : (o : Option Row) → find (of_first name) t.repos ≡ o → option_map_or held (option_map (repo_in t) o) [] ≡ digests_of rows name
    go None e = ap (λ xs. map (λ r. bytes_at r 2) (sort_by by_second xs)) (sym (no_children t.repos rows name have e))
    go (Some r) e = here r (found_named t.repos name r e)

pub blob_digests_found : (t : Tables) (name : Text) → IsRegistry t → blob_digests_at (world_of t) name ≡ digests_of t.blobs name
blob_digests_found t name is = ap (λ o. option_map_or (λ (r : Repo). keys r.blobs) o []) (repo_found t name) ∙ keys_at t name t.blobs (λ (r : Repo). keys r.blobs) is.agree.blobs_repo
    (λ r e. ap (λ n. keys (named (blob_bytes t) t.blobs n)) e ∙ keys_found (blob_bytes t) t.blobs name is.tables.blobs.apart)

pub manifest_digests_found : (t : Tables) (name : Text) → IsRegistry t → manifest_digests_at (world_of t) name ≡ digests_of t.manifests name
manifest_digests_found t name is = ap (λ o. option_map_or (λ (r : Repo). keys r.manifests) o []) (repo_found t name) ∙ keys_at t name t.manifests (λ (r : Repo). keys r.manifests) is.agree.manifests_repo
    (λ r e. ap (λ n. keys (named (manifest_bytes t) t.manifests n)) e ∙ keys_found (manifest_bytes t) t.manifests name is.tables.manifests.apart)
