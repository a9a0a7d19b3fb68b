-- Tags: found by their rows, set, added and taken.
use Rattle.std.proofs.Common.{◌≡◌, List, map, Bool, true, false, None, Some, refl, sym, ap, ◌∙◌}
use Rattle.std.specs.Prelude.{bytes_eq, filter, find, option_map}
use Rattle.std.specs.FinMap.{get, insert, remove, from_entries}
use Rattle.sqlite.specs.Order.{Row}
use Rattle.oci_types.specs.Text.{Text}
use Rattle.registry_model.specs.World.{Repo, repo_at, update_repo}
use Rattle.registry_model.specs.Manifests.{with_tag, without_tag}
use Rattle.registry_model.specs.Lookups.{tag_at, delete_tag}
use Rattle.store_schema.specs.Rows.{bytes_at}
use Rattle.store_statements.specs.Keys.{of_first, has_key, same_key}
use Rattle.store_statements.specs.Tables.{Tables, IsTagRow}
use Rattle.store_statements.specs.World.{tag_entry, tags_of, repo_in, world_of}
use Rattle.store_statements.specs.Registry.{is_repo, IsRegistry}
use Rattle.store_statements.specs.Changes.{without, changed, with_digest, Comes, tag_columns}
use Rattle.store_statements.proofs.Base.{tag_found, found_named, updated_in_place}
use Rattle.store_statements.proofs.Others.{within_key, others_without, others_changed, others_came}
use Rattle.store_statements.proofs.Kept.{all_without, all_changed, all_came, rows_without, rows_changed, rows_came, same_key-sym}
use Rattle.store_statements.proofs.Named.{named_came, named_without, named_changed}
use Rattle.store_statements.proofs.Children.{child_found}
use Rattle.store_statements.proofs.Frames.{with_tags_rows}
use Rattle.store_statements.proofs.Updates.{set_tag}

-- ---- reads

pub tag_at_found : (t : Tables) (name tag : Text) → IsRegistry t → tag_at (world_of t) name tag ≡ option_map (λ r. bytes_at r 3) (find (has_key name tag) t.tags)
tag_at_found t name tag is = child_found t name t.tags (has_key name tag) (λ r. bytes_at r 3) (λ r. get r.tags tag) is.agree.tagged (within_key name tag)
    (λ r e. ap (λ n. get (tags_of t.tags n) tag) e ∙ tag_found t.tags name tag)

-- ---- writes

-- where only the tags of one repository change
pub tags_updated : (t : Tables) (rows : List Row) (name : Text) (change : Repo → Repo) → ((other : Text) → bytes_eq other name ≡ false → filter (of_first other) rows ≡ filter (of_first other) t.tags)
    → ((r : Row) → find (of_first name) t.repos ≡ Some r → repo_in (record t { tags = rows }) r ≡ change (repo_in t r)) → world_of (record t { tags = rows }) ≡ update_repo (world_of t) name change (repo_at (world_of t) name)
tags_updated t rows name change others mine = updated_in_place t (record t { tags = rows }) name change refl refl (record {
  blobs = λ other e. refl;
  manifests = λ other e. refl;
  tags = λ other e. ap (λ xs. from_entries (map tag_entry xs)) (others other e);
  sessions = λ other e. refl;
}) mine

pub tag_set : (t : Tables) (name tag digest : Text) (there : Row) → IsRegistry t → find (has_key name tag) t.tags ≡ Some there
    → let after : Tables = record t { tags = changed (has_key name tag) (with_digest digest) t.tags } in (world_of after ≡ set_tag (world_of t) name tag digest) × IsRegistry after
tag_set t name tag digest there is found = (
  tags_updated t rows name (λ r. with_tag r (Some tag) digest) (λ other e. others_changed name other p (with_digest digest) t.tags (within_key name tag) (λ r. refl) e)
      (λ r e i. record (repo_in t r) { tags = set (bytes_at r 1) (found_named t.repos name r e) i }),
  with_tags_rows t rows is
      (rows_changed IsTagRow same_key p (with_digest digest) t.tags (λ r h. record { repo = h.repo; tag = h.tag; digest = refl }) (λ a b. refl) (λ a b. refl) (λ r. refl) is.tables.tags)
      (all_changed _ p (with_digest digest) t.tags (λ r h. h) is.agree.tagged),
)
  where
    p : Row → Bool
    p = has_key name tag

    rows : List Row
    rows = changed p (with_digest digest) t.tags

    set : (n : Text) → n ≡ name → tags_of rows n ≡ insert (tags_of t.tags n) tag digest
    set n e = ap (tags_of rows) e ∙ named_changed (λ r. bytes_at r 3) t.tags name tag (with_digest digest) digest there (λ r. refl) (λ r. refl) (λ r. refl) found ∙ ap (λ m. insert (tags_of t.tags m) tag digest) (sym e)

pub tag_added : (t : Tables) (name tag digest : Text) (rows : List Row) → IsRegistry t → is_repo t.repos name ≡ true → find (has_key name tag) t.tags ≡ None → Comes t.tags rows (tag_columns name tag digest)
    → let after : Tables = record t { tags = rows } in (world_of after ≡ set_tag (world_of t) name tag digest) × IsRegistry after
tag_added t name tag digest rows is there fresh c = (
  tags_updated t rows name (λ r. with_tag r (Some tag) digest) (λ other e. others_came name other t.tags rows columns c (λ id. refl) e)
      (λ r e i. record (repo_in t r) { tags = put (bytes_at r 1) (found_named t.repos name r e) i }),
  with_tags_rows t rows is
      (rows_came IsTagRow same_key t.tags rows columns c same_key-sym (λ id. record { repo = refl; tag = refl; digest = refl }) fresh is.tables.tags)
      (all_came (λ r. is_repo t.repos (bytes_at r 1) ≡ true) t.tags rows columns c there is.agree.tagged),
)
  where
    columns : Row
    columns = tag_columns name tag digest

    put : (n : Text) → n ≡ name → tags_of rows n ≡ insert (tags_of t.tags n) tag digest
    put n e = ap (tags_of rows) e ∙ named_came (λ r. bytes_at r 3) t.tags rows name tag columns c (λ id. refl) (λ id. refl) fresh ∙ ap (λ m. insert (tags_of t.tags m) tag digest) (sym e)

pub tag_taken : (t : Tables) (name tag : Text) → IsRegistry t → let after : Tables = record t { tags = without (has_key name tag) t.tags } in (world_of after ≡ delete_tag (world_of t) name tag) × IsRegistry after
tag_taken t name tag is = (
  tags_updated t rows name (λ r. without_tag r tag) (λ other e. others_without name other p t.tags (within_key name tag) e) (λ r e i. record (repo_in t r) { tags = taken (bytes_at r 1) (found_named t.repos name r e) i }),
  with_tags_rows t rows is (rows_without IsTagRow same_key p t.tags is.tables.tags) (all_without _ p t.tags is.agree.tagged),
)
  where
    p : Row → Bool
    p = has_key name tag

    rows : List Row
    rows = without p t.tags

    taken : (n : Text) → n ≡ name → tags_of rows n ≡ remove (tags_of t.tags n) tag
    taken n e = ap (tags_of rows) e ∙ named_without (λ r. bytes_at r 3) t.tags name tag ∙ ap (λ m. remove (tags_of t.tags m) tag) (sym e)
