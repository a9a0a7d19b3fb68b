-- The manifests on a subject, from the sorted rows.
use Rattle.std.proofs.Common.{◌≡◌, ℤ, List, [], ◌∷◌, map, true, false, Option, None, Some, refl, sym, ap, ◌∙◌, true≢false}
use Rattle.std.specs.Prelude.{bytes_eq, filter, find, option_map, unwrap_or}
use Rattle.std.specs.Option.{option_map_or}
use Rattle.std.specs.FinMap.{entries}
use Rattle.std.proofs.lemmas.Cmp.{nat_list_cmp_total, on_total}
use Rattle.sqlite.specs.Order.{Row, bytes}
use Rattle.sqlite_trees.proofs.ListLemmas.{all_weaker, all-filter, filter_same, filter-map}
use Rattle.sqlite_keyed.specs.Lists.{sort_by}
use Rattle.oci_types.specs.Text.{Text}
use Rattle.oci_types.specs.Digest.{is_digest}
use Rattle.oci_types.specs.Manifest.{manifest_in}
use Rattle.registry_model.specs.Manifests.{is_text}
use Rattle.registry_model.specs.Referrers.{subject_or_none, has_subject, manifests_on}
use Rattle.registry_model.specs.Lookups.{manifests_on_at}
use Rattle.store_schema.specs.Rows.{bytes_at}
use Rattle.store_statements.specs.Keys.{of_first, on_subject}
use Rattle.store_statements.specs.Tables.{Tables}
use Rattle.store_statements.specs.World.{manifest_entry, manifests_of, repo_in, world_of}
use Rattle.store_statements.specs.Registry.{IsRegistry, ManifestAgrees, optional_text}
use Rattle.store_statements.proofs.Base.{repo_found, found_named}
use Rattle.store_statements.proofs.Children.{no_children}
use Rattle.store_statements.proofs.Order.{filter_sorted}
use Rattle.store_statements.proofs.Ordered.{by_second, named_entries}
use Rattle.store_statements.proofs.ManifestWorlds.{manifest_bytes}
use Rattle.store_statements.proofs.Pages.{twice_filtered}

-- a digest is not the empty text, as which a column without a subject reads
pub digest_not_empty : (digest : Text) → is_digest digest ≡ true → bytes_eq [] digest ≡ false
digest_not_empty [] e = absurd (true≢false (sym e))
digest_not_empty (b ∷ bs) e = refl

-- a row's subject is that of its content
pub subject_found : (contents : ℤ → Option Text) (digest : Text) (r : Row) → bytes_eq [] digest ≡ false → ManifestAgrees contents r → has_subject digest (manifest_entry contents r) ≡ bytes_eq (bytes_at r 5) digest
subject_found contents digest r some h =
    ap (λ o. is_text digest (subject_or_none (manifest_in (unwrap_or o [])))) h.there ∙ read (subject_or_none (manifest_in h.bytes)) ∙ ap (λ v. bytes_eq (bytes v) digest) (sym h.subject)
  where
    read : (subject : Option Text) → is_text digest subject ≡ bytes_eq (bytes (optional_text subject)) digest
    read None = sym some
    read (Some t) = refl

-- the digests and the bytes of the rows on the subject, in byte order of the digests
abbrev pub manifests_on_rows : Tables → Text → Text → List (Text × Text)
manifests_on_rows t name digest = map (manifest_entry t.contents) (sort_by by_second (filter (on_subject name digest) t.manifests))

pub manifests_on_in : (t : Tables) (name digest : Text) (r : Row) → IsRegistry t → bytes_eq [] digest ≡ false → bytes_at r 1 ≡ name → manifests_on (repo_in t r) digest ≡ manifests_on_rows t name digest
manifests_on_in t name digest r is some e =
    let rows = filter (of_first name) t.manifests in
    ap (λ n. filter (has_subject digest) (entries (manifests_of t.contents t.manifests n))) e
    ∙ ap (filter (has_subject digest)) (named_entries (manifest_bytes t) t.manifests name is.tables.manifests.apart)
    ∙ filter-map (has_subject digest) (manifest_entry t.contents) (sort_by by_second rows)
    ∙ ap (map (manifest_entry t.contents)) (filter_sorted by_second (on_total (λ x. bytes_at x 2) nat_list_cmp_total) (λ x. has_subject digest (manifest_entry t.contents x)) rows
    ∙ ap (sort_by by_second) (filter_same _ (λ x. bytes_eq (bytes_at x 5) digest) rows
    (all-filter _ (of_first name) t.manifests (all_weaker (ManifestAgrees t.contents) (λ x. has_subject digest (manifest_entry t.contents x) ≡ bytes_eq (bytes_at x 5) digest) (λ x h. subject_found t.contents digest x some h) t.manifests is.agree.manifests))
    ∙ twice_filtered (of_first name) (λ x. bytes_eq (bytes_at x 5) digest) t.manifests))

pub manifests_on_found : (t : Tables) (name digest : Text) → IsRegistry t → bytes_eq [] digest ≡ false → manifests_on_at (world_of t) name digest ≡ manifests_on_rows t name digest
manifests_on_found t name digest is some = ap (λ o. option_map_or (λ r. manifests_on r digest) o []) (repo_found t name) ∙ go (find (of_first name) t.repos) refl
  where
    go : (o : Option Row) → find (of_first name) t.repos ≡ o → option_map_or (λ r. manifests_on r digest) (option_map (repo_in t) o) [] ≡ manifests_on_rows t name digest
    go None e = ap (λ rows. map (manifest_entry t.contents) (sort_by by_second rows)) (sym (sym (twice_filtered (of_first name) (λ x. bytes_eq (bytes_at x 5) digest) t.manifests)
        ∙ ap (filter (λ x. bytes_eq (bytes_at x 5) digest)) (no_children t.repos t.manifests name is.agree.manifests_repo e)))
    go (Some r) e = manifests_on_in t name digest r is some (found_named t.repos name r e)
