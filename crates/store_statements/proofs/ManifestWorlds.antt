-- Manifests: found by their rows, put and taken.
use Rattle.std.proofs.Common.{◌≡◌, ◌⊎◌, inl, inr, ℕ, ℤ, List, [], ◌∷◌, map, length, Bool, true, false, cond, not, None, Some, refl, sym, ap, subst, ◌∙◌}
use Rattle.std.specs.Prelude.{◌&&◌, bytes_eq, filter, find, Option, option_map, is_some, unwrap_or}
use Rattle.std.specs.Option.{option_to_list}
use Rattle.std.specs.FinMap.{get, insert, remove, retain_keys, from_entries, get-retain_keys, same_map}
use Rattle.std.proofs.lemmas.Cmp.{nat_list_cmp_total}
use Rattle.std.proofs.lemmas.Map.Lookups.{exact_bytes}
use Rattle.sqlite.specs.declared.types.Value.TheVariants.{Null}
use Rattle.sqlite.specs.declared.types.Value.TheVariants as value
use Rattle.sqlite.specs.Order.{Row, bytes}
use Rattle.sqlite.specs.Tree.{IsAscending}
use Rattle.sqlite_rules.specs.Lists.{Has}
use Rattle.sqlite_rules.proofs.ListLemmas.{has_kept}
use Rattle.oci_types.specs.Text.{Text}
use Rattle.oci_types.specs.Manifest.{manifest_in}
use Rattle.oci_types.specs.declared.kind.Kind.{Kind}
use Rattle.oci_types.specs.declared.kind.Kind.TheVariants.{Image, Index}
use Rattle.registry_model.specs.World.{Repo}
use Rattle.registry_model.specs.Manifests.{is_text, kind_in, with_bytes, without_manifest}
use Rattle.registry_model.specs.Referrers.{subject_or_none}
use Rattle.registry_model.specs.Lookups.{manifest_bytes_at, manifest_at, manifest_size_at, put_manifest, delete_manifest}
use Rattle.store_schema.specs.Rows.{bytes_at, natural_at, natural, integer, integer_at}
use Rattle.store_schema.proofs.Lists.{only_one, find_left}
use Rattle.store_statements.specs.Keys.{of_first, has_key, same_key}
use Rattle.store_statements.specs.Tables.{Tables, IsManifestRow, IsTagRow}
use Rattle.store_statements.specs.World.{content_at, manifest_entry, tag_entry, manifests_of, tags_of, repo_in, world_of}
use Rattle.store_statements.specs.Registry.{is_repo, kind_number, kind_of, optional_text, IsRegistry, ManifestAgrees}
use Rattle.store_statements.specs.Changes.{without, Comes, manifest_columns}
use Rattle.store_statements.proofs.Found.{both_true, found_all, is_key}
use Rattle.store_statements.proofs.Base.{manifest_found, tag_found, found_named, OthersStay, updated_in_place}
use Rattle.store_statements.proofs.Others.{within_key, others_without, others_came}
use Rattle.store_statements.proofs.Kept.{all_without, all_came, rows_without, rows_came, same_key-sym}
use Rattle.store_statements.proofs.Named.{named_came, named_without}
use Rattle.store_statements.proofs.Children.{child_found}
use Rattle.store_statements.proofs.Frames.{with_tags_rows, with_manifests_rows}
use Rattle.store_statements.proofs.BlobWorlds.{update_same}

-- ---- reads

-- the bytes of a row's content
abbrev pub manifest_bytes : Tables → Row → Text
manifest_bytes t r = content_at t.contents (integer_at r 6)

pub manifest_bytes_found : (t : Tables) (name digest : Text) → IsRegistry t → manifest_bytes_at (world_of t) name digest ≡ option_map (manifest_bytes t) (find (has_key name digest) t.manifests)
manifest_bytes_found t name digest is = child_found t name t.manifests (has_key name digest) (manifest_bytes t) (λ r. get r.manifests digest) is.agree.manifests_repo (within_key name digest)
    (λ r e. ap (λ n. get (manifests_of t.contents t.manifests n) digest) e ∙ manifest_found t.contents t.manifests name digest)

pub manifest_agrees : (t : Tables) (name digest : Text) (r : Row) → IsRegistry t → find (has_key name digest) t.manifests ≡ Some r → ManifestAgrees t.contents r
manifest_agrees t name digest r is e = found_all (ManifestAgrees t.contents) (has_key name digest) t.manifests r is.agree.manifests e

pub kind_of_number : (kind : Kind) → kind_of (kind_number kind) ≡ kind
kind_of_number Image = refl
kind_of_number Index = refl

-- the kind that a column has is the one as which the content reads
pub kind_found : (contents : ℤ → Option Text) (r : Row) → ManifestAgrees contents r → kind_in (content_at contents (integer_at r 6)) ≡ kind_of (natural_at r 4)
kind_found contents r h = ap (λ o. kind_in (unwrap_or o [])) h.there ∙ sym (kind_of_number (kind_in h.bytes)) ∙ ap (λ v. kind_of (natural (integer v))) (sym h.kind)

manifest_sized : (contents : ℤ → Option Text) (r : Row) → ManifestAgrees contents r → length (content_at contents (integer_at r 6)) ≡ natural_at r 3
manifest_sized contents r h = ap (λ o. length (unwrap_or o [])) h.there ∙ sym h.size

pub manifest_at_found : (t : Tables) (name digest : Text) → IsRegistry t → manifest_at (world_of t) name digest ≡ option_map (λ r. (kind_of (natural_at r 4), manifest_bytes t r)) (find (has_key name digest) t.manifests)
manifest_at_found t name digest is = ap (option_map {U = Kind × Text} (λ content. (kind_in content, content))) (manifest_bytes_found t name digest is) ∙ go (find (has_key name digest) t.manifests) refl
  where
    go : (o : Option Row) → find (has_key name digest) t.manifests ≡ o → option_map {U = Kind × Text} (λ content. (kind_in content, content)) (option_map (manifest_bytes t) o) ≡ option_map (λ r. (kind_of (natural_at r 4), manifest_bytes t r)) o
    go None e = refl
    go (Some r) e = ap (λ k. Some (k, manifest_bytes t r)) (kind_found t.contents r (manifest_agrees t name digest r is e))

pub manifest_size_found : (t : Tables) (name digest : Text) → IsRegistry t → manifest_size_at (world_of t) name digest ≡ option_map (λ r. (kind_of (natural_at r 4), natural_at r 3)) (find (has_key name digest) t.manifests)
manifest_size_found t name digest is = ap (option_map {U = Kind × ℕ} (λ content. (kind_in content, length content))) (manifest_bytes_found t name digest is) ∙ go (find (has_key name digest) t.manifests) refl
  where
    go : (o : Option Row) → find (has_key name digest) t.manifests ≡ o → option_map {U = Kind × ℕ} (λ content. (kind_in content, length content)) (option_map (manifest_bytes t) o) ≡ option_map (λ r. (kind_of (natural_at r 4), natural_at r 3)) o
    go None e = refl
    go (Some r) e = let h = manifest_agrees t name digest r is e in λ i. Some (kind_found t.contents r h i, manifest_sized t.contents r h i)

-- ---- a manifest is put

manifest_under : (t : Tables) (name digest : Text) (r : Row) → find (of_first name) t.repos ≡ Some r → get (repo_in t r).manifests digest ≡ option_map (manifest_bytes t) (find (has_key name digest) t.manifests)
manifest_under t name digest r e = ap (λ n. get (manifests_of t.contents t.manifests n) digest) (found_named t.repos name r e) ∙ manifest_found t.contents t.manifests name digest

kept_bytes : (r : Repo) (digest content there : Text) → get r.manifests digest ≡ Some there → with_bytes r digest content ≡ r
kept_bytes r digest content there e = ap (λ o. cond (is_some o) r (record r { manifests = insert r.manifests digest content })) e

new_bytes : (r : Repo) (digest content : Text) → get r.manifests digest ≡ None → with_bytes r digest content ≡ record r { manifests = insert r.manifests digest content }
new_bytes r digest content e = ap (λ o. cond (is_some o) r (record r { manifests = insert r.manifests digest content })) e

-- one that is there keeps its bytes
pub manifest_there : (t : Tables) (name digest content : Text) (there : Row) → find (has_key name digest) t.manifests ≡ Some there → put_manifest (world_of t) name digest content None ≡ world_of t
manifest_there t name digest content there found =
    update_same t name (λ r. with_bytes r digest content) (λ r e. kept_bytes (repo_in t r) digest content (manifest_bytes t there) (manifest_under t name digest r e ∙ ap (option_map (manifest_bytes t)) found))

optional_subject : (subject : Option Text) → (optional_text subject ≡ Null) ⊎ (optional_text subject ≡ value.Text (bytes (optional_text subject)))
optional_subject None = inl refl
optional_subject (Some t) = inr refl

pub manifest_added : (t : Tables) (name digest content : Text) (id : ℤ) (rows : List Row) → IsRegistry t → is_repo t.repos name ≡ true → t.contents id ≡ Some content → find (has_key name digest) t.manifests ≡ None
    → Comes t.manifests rows (manifest_columns name digest (length content) (kind_in content) (subject_or_none (manifest_in content)) id)
    → let after : Tables = record t { manifests = rows } in (world_of after ≡ put_manifest (world_of t) name digest content None) × IsRegistry after
manifest_added t name digest content id rows is there held fresh c = (
  updated_in_place t after name (λ r. with_bytes r digest content) refl refl others mine,
  with_manifests_rows t rows is
      (rows_came IsManifestRow same_key t.manifests rows columns c same_key-sym (λ row. record { repo = refl; digest = refl; size = refl; kind = refl; subject = optional_subject (subject_or_none (manifest_in content)); content = refl }) fresh is.tables.manifests)
      (all_came (λ r. is_repo t.repos (bytes_at r 1) ≡ true) t.manifests rows columns c there is.agree.manifests_repo)
      (all_came (ManifestAgrees t.contents) t.manifests rows columns c (record { bytes = content; there = held; size = refl; kind = refl; subject = refl }) is.agree.manifests),
)
  where
    columns : Row
    columns = manifest_columns name digest (length content) (kind_in content) (subject_or_none (manifest_in content)) id

    after : Tables
    after = record t { manifests = rows }

    others : OthersStay t after name
    others = record {
      blobs = λ other e. refl;
      manifests = λ other e. ap (λ xs. from_entries (map (manifest_entry t.contents) xs)) (others_came name other t.manifests rows columns c (λ row. refl) e);
      tags = λ other e. refl;
      sessions = λ other e. refl;
    }

    put : (n : Text) → n ≡ name → manifests_of t.contents rows n ≡ insert (manifests_of t.contents t.manifests n) digest content
    put n e = ap (manifests_of t.contents rows) e ∙ named_came (manifest_bytes t) t.manifests rows name digest columns c (λ row. refl) (λ row. refl) fresh
        ∙ ap (λ o. insert (manifests_of t.contents t.manifests name) digest (unwrap_or o [])) held ∙ ap (λ m. insert (manifests_of t.contents t.manifests m) digest content) (sym e)

    mine : (r : Row) → find (of_first name) t.repos ≡ Some r → repo_in after r ≡ with_bytes (repo_in t r) digest content
    mine r e = (λ i. record (repo_in t r) { manifests = put (bytes_at r 1) (found_named t.repos name r e) i })
        ∙ sym (new_bytes (repo_in t r) digest content (manifest_under t name digest r e ∙ ap (option_map (manifest_bytes t)) fresh))

-- ---- a manifest is taken, with each tag that names it

-- at most one row has a key
pub only_key : (rows : List Row) (a b : Text) → IsAscending (λ x y. same_key x y ≡ false) rows → filter (has_key a b) rows ≡ option_to_list (find (has_key a b) rows)
only_key rows a b apart = only_one (has_key a b) (λ x y. same_key x y ≡ false) (λ x y e h. let key = is_key a b x h in (λ i. has_key (sym key.0 i) (sym key.1 i) y) ∙ e) rows apart

pub the_one : (rows : List Row) (a b : Text) (r x : Row) → IsAscending (λ y z. same_key y z ≡ false) rows → find (has_key a b) rows ≡ Some r → Has rows x → has_key a b x ≡ true → x ≡ r
the_one rows a b r x apart found there passes = first (subst (λ xs. Has xs x) (only_key rows a b apart ∙ ap option_to_list found) (has_kept (has_key a b) rows x there passes))
  where
    first : Has (r ∷ []) x → x ≡ r
    first (inl same) = same
    first (inr none) = absurd none

-- the tags of a repository that name a digest
abbrev pub naming : Text → Text → Row → Bool
naming name digest r = of_first name r && bytes_eq (bytes_at r 3) digest

pub tags_left : (rows : List Row) (name digest : Text) → IsAscending (λ x y. same_key x y ≡ false) rows
    → tags_of (without (naming name digest) rows) name ≡ retain_keys (tags_of rows name) (λ tag. not (is_text digest (get (tags_of rows name) tag)))
tags_left rows name digest apart = same_map nat_list_cmp_total exact_bytes _ _ (λ q.
    tag_found (without (naming name digest) rows) name q ∙ each q (find (has_key name q) rows) refl
    ∙ sym (get-retain_keys (tags_of rows name) stays q (λ x e. ap stays (sym (exact_bytes q x e))) ∙ ap (λ o. cond (not (is_text digest o)) o None) (tag_found rows name q)))
  where
    stays : Text → Bool
    stays tag = not (is_text digest (get (tags_of rows name) tag))

    shown : (b : Bool) (r : Row) → option_map (λ x. bytes_at x 3) (cond b None (Some r)) ≡ cond (not b) (Some (bytes_at r 3)) None
    shown true r = refl
    shown false r = refl

    each : (q : Text) (o : Option Row) → find (has_key name q) rows ≡ o
        → option_map (λ r. bytes_at r 3) (find (has_key name q) (without (naming name digest) rows)) ≡ cond (not (is_text digest (option_map (λ r. bytes_at r 3) o))) (option_map (λ r. bytes_at r 3) o) None
    each q None e = ap (option_map (λ r. bytes_at r 3)) (find_gone rows e)
      where
        find_gone : (xs : List Row) → find (has_key name q) xs ≡ None → find (has_key name q) (without (naming name digest) xs) ≡ None
        find_gone [] f = refl
        find_gone (x ∷ xs) f = step (has_key name q x) (naming name digest x) refl f (find_gone xs)
          where
            step : (k b : Bool) → has_key name q x ≡ k → cond k (Some x) (find (has_key name q) xs) ≡ None → (find (has_key name q) xs ≡ None → find (has_key name q) (without (naming name digest) xs) ≡ None)
                → find (has_key name q) (cond (not b) (x ∷ without (naming name digest) xs) (without (naming name digest) xs)) ≡ None
            step true b g f more = absurd cc
            step false true g f more = more f
            step false false g f more = ap (λ k. cond k (Some x) (find (has_key name q) (without (naming name digest) xs))) g ∙ more f
    each q (Some r) e =
        let gone = bytes_eq (bytes_at r 3) digest in
        ap (option_map (λ x. bytes_at x 3)) (find_left (naming name digest) (has_key name q) gone rows (λ x there passes.
        let same = the_one rows name q r x apart e there passes in
        ap (λ b. b && bytes_eq (bytes_at x 3) digest) (both_true _ _ passes).0 ∙ ap (λ y. bytes_eq (bytes_at y 3) digest) same))
        ∙ ap (λ o. option_map (λ x. bytes_at x 3) (cond gone None o)) e ∙ shown gone r

pub manifest_taken : (t : Tables) (name digest : Text) → IsRegistry t
    → let after : Tables = record t { manifests = without (has_key name digest) t.manifests; tags = without (naming name digest) t.tags } in (world_of after ≡ delete_manifest (world_of t) name digest) × IsRegistry after
manifest_taken t name digest is = (
  updated_in_place t after name (λ r. without_manifest r digest) refl refl others (λ r e. taken r (found_named t.repos name r e)),
  with_tags_rows (record t { manifests = without p t.manifests }) (without (naming name digest) t.tags)
      (with_manifests_rows t (without p t.manifests) is (rows_without IsManifestRow same_key p t.manifests is.tables.manifests) (all_without _ p t.manifests is.agree.manifests_repo) (all_without _ p t.manifests is.agree.manifests))
      (rows_without IsTagRow same_key (naming name digest) t.tags is.tables.tags) (all_without _ (naming name digest) t.tags is.agree.tagged),
)
  where
    p : Row → Bool
    p = has_key name digest

    after : Tables
    after = record t { manifests = without p t.manifests; tags = without (naming name digest) t.tags }

    others : OthersStay t after name
    others = record {
      blobs = λ other e. refl;
      manifests = λ other e. ap (λ xs. from_entries (map (manifest_entry t.contents) xs)) (others_without name other p t.manifests (within_key name digest) e);
      tags = λ other e. ap (λ xs. from_entries (map tag_entry xs)) (others_without name other (naming name digest) t.tags (λ r h. (both_true _ _ h).0) e);
      sessions = λ other e. refl;
    }

    links : (n : Text) → n ≡ name → manifests_of t.contents (without p t.manifests) n ≡ remove (manifests_of t.contents t.manifests n) digest
    links n e = ap (manifests_of t.contents (without p t.manifests)) e ∙ named_without (manifest_bytes t) t.manifests name digest ∙ ap (λ m. remove (manifests_of t.contents t.manifests m) digest) (sym e)

    tags : (n : Text) → n ≡ name → tags_of (without (naming name digest) t.tags) n ≡ retain_keys (tags_of t.tags n) (λ tag. not (is_text digest (get (tags_of t.tags n) tag)))
    tags n e = ap (tags_of (without (naming name digest) t.tags)) e ∙ tags_left t.tags name digest is.tables.tags.apart
        ∙ ap (λ m. retain_keys (tags_of t.tags m) (λ tag. not (is_text digest (get (tags_of t.tags m) tag)))) (sym e)

    taken : (r : Row) → bytes_at r 1 ≡ name → repo_in after r ≡ without_manifest (repo_in t r) digest
    taken r e = λ i. record (repo_in t r) { manifests = links (bytes_at r 1) e i; tags = tags (bytes_at r 1) e i }
