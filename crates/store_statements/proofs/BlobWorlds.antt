-- Blobs: found by their rows, put, mounted and taken.
use Rattle.std.proofs.Common.{◌≡◌, ℤ, List, [], map, length, Bool, true, cond, None, Some, refl, sym, ap, subst, ◌∙◌}
use Rattle.std.specs.Prelude.{find, Option, option_map, is_some, unwrap_or}
use Rattle.std.specs.FinMap.{get, insert, remove, from_entries}
use Rattle.sqlite.specs.Order.{Row}
use Rattle.oci_types.specs.Text.{Text}
use Rattle.registry_model.specs.World.{Repo, repo_at, update_repo}
use Rattle.registry_model.specs.Blobs.{with_blob, without_blob}
use Rattle.registry_model.specs.Lookups.{blob_at, blob_size_at, put_blob, delete_blob, mount, with_mounted}
use Rattle.store_schema.specs.Rows.{bytes_at, natural_at, integer_at}
use Rattle.store_statements.specs.Keys.{of_first, has_key, same_key}
use Rattle.store_statements.specs.Tables.{Tables, IsBlobRow}
use Rattle.store_statements.specs.World.{content_at, blobs_of, blob_entry, repo_in, world_of}
use Rattle.store_statements.specs.Registry.{is_repo, IsRegistry, BlobAgrees}
use Rattle.store_statements.specs.Changes.{without, Comes, blob_columns}
use Rattle.store_statements.proofs.Found.{found_all}
use Rattle.store_statements.proofs.Base.{blob_found, found_named, OthersStay, updated_in_place}
use Rattle.store_statements.proofs.Others.{within_key, others_without, others_came}
use Rattle.store_statements.proofs.Kept.{all_without, all_came, rows_without, rows_came, same_key-sym}
use Rattle.store_statements.proofs.Named.{named_came, named_without}
use Rattle.store_statements.proofs.Children.{child_found}
use Rattle.store_statements.proofs.Frames.{with_blobs_rows}

-- ---- reads

-- the bytes of a row's content
abbrev pub blob_bytes : Tables → Row → Text
blob_bytes t r = content_at t.contents (integer_at r 4)

pub blob_at_found : (t : Tables) (name digest : Text) → IsRegistry t → blob_at (world_of t) name digest ≡ option_map (blob_bytes t) (find (has_key name digest) t.blobs)
blob_at_found t name digest is = child_found t name t.blobs (has_key name digest) (blob_bytes t) (λ r. get r.blobs digest) is.agree.blobs_repo (within_key name digest)
    (λ r e. ap (λ n. get (blobs_of t.contents t.blobs n) digest) e ∙ blob_found t.contents t.blobs name digest)

-- a found row names the bytes that have its size
pub blob_agrees : (t : Tables) (name digest : Text) (r : Row) → IsRegistry t → find (has_key name digest) t.blobs ≡ Some r → BlobAgrees t.contents r
blob_agrees t name digest r is e = found_all (BlobAgrees t.contents) (has_key name digest) t.blobs r is.agree.blobs e

sized : (contents : ℤ → Option Text) (r : Row) → BlobAgrees contents r → length (content_at contents (integer_at r 4)) ≡ natural_at r 3
sized contents r h = ap (λ o. length (unwrap_or o [])) h.there ∙ sym h.size

pub blob_size_found : (t : Tables) (name digest : Text) → IsRegistry t → blob_size_at (world_of t) name digest ≡ option_map (λ r. natural_at r 3) (find (has_key name digest) t.blobs)
blob_size_found t name digest is = ap (option_map length) (blob_at_found t name digest is) ∙ go (find (has_key name digest) t.blobs) refl
  where
    go : (o : Option Row) → find (has_key name digest) t.blobs ≡ o → option_map length (option_map (blob_bytes t) o) ≡ option_map (λ r. natural_at r 3) o
    go None e = refl
    go (Some r) e = ap Some (sized t.contents r (blob_agrees t name digest r is e))

-- ---- a change that changes nothing

pub update_same : (t : Tables) (name : Text) (change : Repo → Repo) → ((r : Row) → find (of_first name) t.repos ≡ Some r → change (repo_in t r) ≡ repo_in t r) → update_repo (world_of t) name change (repo_at (world_of t) name) ≡ world_of t
update_same t name change same = sym (updated_in_place t t name change refl refl (record { blobs = λ other e. refl; manifests = λ other e. refl; tags = λ other e. refl; sessions = λ other e. refl }) (λ r e. sym (same r e)))

-- ---- a blob is put

-- what the repository of a name has under a digest
pub blob_in : (t : Tables) (name digest : Text) (r : Row) → find (of_first name) t.repos ≡ Some r → get (repo_in t r).blobs digest ≡ option_map (blob_bytes t) (find (has_key name digest) t.blobs)
blob_in t name digest r e = ap (λ n. get (blobs_of t.contents t.blobs n) digest) (found_named t.repos name r e) ∙ blob_found t.contents t.blobs name digest

kept_blob : (r : Repo) (digest bytes there : Text) → get r.blobs digest ≡ Some there → with_blob r digest bytes ≡ r
kept_blob r digest bytes there e = ap (λ o. cond (is_some o) r (record r { blobs = insert r.blobs digest bytes })) e

new_blob : (r : Repo) (digest bytes : Text) → get r.blobs digest ≡ None → with_blob r digest bytes ≡ record r { blobs = insert r.blobs digest bytes }
new_blob r digest bytes e = ap (λ o. cond (is_some o) r (record r { blobs = insert r.blobs digest bytes })) e

-- one that is there keeps its bytes
pub blob_there : (t : Tables) (name digest bytes : Text) (there : Row) → find (has_key name digest) t.blobs ≡ Some there → put_blob (world_of t) name digest bytes ≡ world_of t
blob_there t name digest bytes there found = update_same t name (λ r. with_blob r digest bytes) (λ r e. kept_blob (repo_in t r) digest bytes (blob_bytes t there) (blob_in t name digest r e ∙ ap (option_map (blob_bytes t)) found))

pub blob_added : (t : Tables) (name digest bytes : Text) (id : ℤ) (rows : List Row) → IsRegistry t → is_repo t.repos name ≡ true → t.contents id ≡ Some bytes → find (has_key name digest) t.blobs ≡ None
    → Comes t.blobs rows (blob_columns name digest (length bytes) id) → let after : Tables = record t { blobs = rows } in (world_of after ≡ put_blob (world_of t) name digest bytes) × IsRegistry after
blob_added t name digest bytes id rows is there content fresh c = (
  updated_in_place t after name (λ r. with_blob r digest bytes) refl refl others mine,
  with_blobs_rows t rows is
      (rows_came IsBlobRow same_key t.blobs rows columns c same_key-sym (λ row. record { repo = refl; digest = refl; size = refl; content = refl }) fresh is.tables.blobs)
      (all_came (λ r. is_repo t.repos (bytes_at r 1) ≡ true) t.blobs rows columns c there is.agree.blobs_repo)
      (all_came (BlobAgrees t.contents) t.blobs rows columns c (record { bytes = bytes; there = content; size = refl }) is.agree.blobs),
)
  where
    columns : Row
    columns = blob_columns name digest (length bytes) id

    after : Tables
    after = record t { blobs = rows }

    others : OthersStay t after name
    others = record {
      blobs = λ other e. ap (λ xs. from_entries (map (blob_entry t.contents) xs)) (others_came name other t.blobs rows columns c (λ row. refl) e);
      manifests = λ other e. refl;
      tags = λ other e. refl;
      sessions = λ other e. refl;
    }

    put : (n : Text) → n ≡ name → blobs_of t.contents rows n ≡ insert (blobs_of t.contents t.blobs n) digest bytes
    put n e = ap (blobs_of t.contents rows) e ∙ named_came (blob_bytes t) t.blobs rows name digest columns c (λ row. refl) (λ row. refl) fresh
        ∙ ap (λ o. insert (blobs_of t.contents t.blobs name) digest (unwrap_or o [])) content ∙ ap (λ m. insert (blobs_of t.contents t.blobs m) digest bytes) (sym e)

    mine : (r : Row) → find (of_first name) t.repos ≡ Some r → repo_in after r ≡ with_blob (repo_in t r) digest bytes
    mine r e = (λ i. record (repo_in t r) { blobs = put (bytes_at r 1) (found_named t.repos name r e) i })
        ∙ sym (new_blob (repo_in t r) digest bytes (blob_in t name digest r e ∙ ap (option_map (blob_bytes t)) fresh))

-- ---- a blob is mounted: its link has the content and the size of the other repository's

pub blob_mounted : (t : Tables) (source name digest : Text) (other : Row) (rows : List Row) → IsRegistry t → is_repo t.repos name ≡ true → find (has_key source digest) t.blobs ≡ Some other → find (has_key name digest) t.blobs ≡ None
    → Comes t.blobs rows (blob_columns name digest (natural_at other 3) (integer_at other 4)) → let after : Tables = record t { blobs = rows } in (world_of after ≡ mount (world_of t) source name digest) × IsRegistry after
blob_mounted t source name digest other rows is there found fresh c =
    let it = blob_agrees t source digest other is found in
    let put = blob_added t name digest it.bytes (integer_at other 4) rows is there it.there fresh (subst (λ n. Comes t.blobs rows (blob_columns name digest n (integer_at other 4))) it.size c) in
    let has : blob_at (world_of t) source digest ≡ Some it.bytes = blob_at_found t source digest is ∙ ap (option_map (blob_bytes t)) found ∙ ap (λ o. Some (unwrap_or o [])) it.there in
    (put.0 ∙ sym (ap (λ o. update_repo (world_of t) name (with_mounted digest o) (repo_at (world_of t) name)) has), put.1)

pub mount_there : (t : Tables) (source name digest : Text) (there : Row) → find (has_key name digest) t.blobs ≡ Some there → mount (world_of t) source name digest ≡ world_of t
mount_there t source name digest there found = update_same t name (with_mounted digest (blob_at (world_of t) source digest)) (λ r e.
    kept (blob_at (world_of t) source digest) (repo_in t r) (blob_in t name digest r e ∙ ap (option_map (blob_bytes t)) found))
  where
    kept : (o : Option Text) (r : Repo) → get r.blobs digest ≡ Some (blob_bytes t there) → with_mounted digest o r ≡ r
    kept None r e = refl
    kept (Some bytes) r e = kept_blob r digest bytes (blob_bytes t there) e

-- ---- a blob is taken

pub blob_taken : (t : Tables) (name digest : Text) → IsRegistry t → let after : Tables = record t { blobs = without (has_key name digest) t.blobs } in (world_of after ≡ delete_blob (world_of t) name digest) × IsRegistry after
blob_taken t name digest is = (
  updated_in_place t after name (λ r. without_blob r digest) refl refl others (λ r e i. record (repo_in t r) { blobs = taken (bytes_at r 1) (found_named t.repos name r e) i }),
  with_blobs_rows t rows is (rows_without IsBlobRow same_key p t.blobs is.tables.blobs) (all_without _ p t.blobs is.agree.blobs_repo) (all_without _ p t.blobs is.agree.blobs),
)
  where
    p : Row → Bool
    p = has_key name digest

    rows : List Row
    rows = without p t.blobs

    after : Tables
    after = record t { blobs = rows }

    others : OthersStay t after name
    others = record {
      blobs = λ other e. ap (λ xs. from_entries (map (blob_entry t.contents) xs)) (others_without name other p t.blobs (within_key name digest) e);
      manifests = λ other e. refl;
      tags = λ other e. refl;
      sessions = λ other e. refl;
    }

    taken : (n : Text) → n ≡ name → blobs_of t.contents rows n ≡ remove (blobs_of t.contents t.blobs n) digest
    taken n e = ap (blobs_of t.contents rows) e ∙ named_without (blob_bytes t) t.blobs name digest ∙ ap (λ m. remove (blobs_of t.contents t.blobs m) digest) (sym e)
