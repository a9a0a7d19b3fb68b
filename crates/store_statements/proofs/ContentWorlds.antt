-- The world does not change where each content that a row names keeps its bytes.
use Rattle.std.proofs.Common.{◌≡◌, ℕ, ℤ, List, [], ◌∷◌, map, refl, sym, ap, ◌∙◌}
use Rattle.std.specs.Prelude.{filter, Option, unwrap_or}
use Rattle.std.specs.List.{AllByRecursion, concat}
use Rattle.std.specs.Cmp.{IsTotalOrder}
use Rattle.std.specs.FinMap.{from_entries}
use Rattle.std.proofs.lemmas.Cmp.{nat_cmp_total, on_total}
use Rattle.std.proofs.lemmas.List.Sorted.{IsPermutation-sym}
use Rattle.sqlite.specs.Order.{Row}
use Rattle.sqlite_trees.proofs.ListLemmas.{all_weaker, all_both, all-filter, all-permutation}
use Rattle.sqlite_keyed.specs.Lists.{sort_by}
use Rattle.sqlite_keyed.proofs.SortLemmas.{IsPermutation-sort_by}
use Rattle.oci_types.specs.Text.{Text}
use Rattle.store_schema.specs.Rows.{bytes_at, natural_at, integer_at}
use Rattle.store_statements.specs.Keys.{of_first, of_session}
use Rattle.store_statements.specs.Tables.{Tables, AreTables}
use Rattle.store_statements.specs.World.{blobs_of, manifests_of, tags_of, sessions_of, blob_entry, manifest_entry, by_start, pieces_of, joined, piece_bytes, repo_in, grants_of, world_of}
use Rattle.store_statements.specs.Registry.{IsRegistry, Agree, BlobAgrees, ManifestAgrees, PieceAgrees}
use Rattle.store_statements.specs.Changes.{Grow}

pub map_same_on : {A B : Type 0} (f g : A → B) (xs : List A) → AllByRecursion (λ x. f x ≡ g x) xs → map f xs ≡ map g xs
map_same_on f g [] all = refl
map_same_on f g (x ∷ xs) all = λ i. all.0 i ∷ map_same_on f g xs all.1 i

pub starts_total : IsTotalOrder by_start
starts_total = on_total (λ (r : Row). natural_at r 3) nat_cmp_total

-- what holds of all pieces holds of those of a session
pub all-pieces_of : (P : Row → Type 0) (pieces : List Row) (name : Text) (number : ℕ) → AllByRecursion P pieces → AllByRecursion P (pieces_of pieces name number)
all-pieces_of P pieces name number all =
    let some = filter (of_session name number) pieces in
    all-permutation P some (sort_by by_start some) (IsPermutation-sym _ _ (IsPermutation-sort_by by_start starts_total some)) (all-filter P (of_session name number) pieces all)

-- the ids that the rows have in a column have the same bytes
abbrev pub Same : (ℤ → Option Text) → (ℤ → Option Text) → ℕ → List Row → Type 0
Same olds news at rows = AllByRecursion (λ r. news (integer_at r at) ≡ olds (integer_at r at)) rows

module _ (olds news : ℤ → Option Text) where
  pub blobs_kept : (rows : List Row) (name : Text) → Same olds news 4 rows → blobs_of news rows name ≡ blobs_of olds rows name
  blobs_kept rows name all = ap from_entries (map_same_on (blob_entry news) (blob_entry olds) _
      (all_weaker _ (λ r. blob_entry news r ≡ blob_entry olds r) (λ r e i. (bytes_at r 2, unwrap_or (e i) [])) _ (all-filter _ (of_first name) rows all)))

  pub manifests_kept : (rows : List Row) (name : Text) → Same olds news 6 rows → manifests_of news rows name ≡ manifests_of olds rows name
  manifests_kept rows name all = ap from_entries (map_same_on (manifest_entry news) (manifest_entry olds) _
      (all_weaker _ (λ r. manifest_entry news r ≡ manifest_entry olds r) (λ r e i. (bytes_at r 2, unwrap_or (e i) [])) _ (all-filter _ (of_first name) rows all)))

  pub joined_kept : (pieces : List Row) → Same olds news 5 pieces → joined news pieces ≡ joined olds pieces
  joined_kept pieces all = ap concat (map_same_on (piece_bytes news) (piece_bytes olds) pieces (all_weaker _ (λ r. piece_bytes news r ≡ piece_bytes olds r) (λ r e i. unwrap_or (e i) []) pieces all))

  pub sessions_kept : (pieces rows : List Row) (name : Text) → Same olds news 5 pieces → sessions_of news pieces rows name ≡ sessions_of olds pieces rows name
  sessions_kept pieces rows name all = λ i. from_entries (map (λ r. (natural_at r 2, joined_kept (pieces_of pieces (bytes_at r 1) (natural_at r 2)) (all-pieces_of _ pieces (bytes_at r 1) (natural_at r 2) all) i)) (filter (of_first name) rows))

pub contents_kept : (t : Tables) (news : ℤ → Option Text) (places : List Row) → IsRegistry t → Same t.contents news 4 t.blobs → Same t.contents news 6 t.manifests → Same t.contents news 5 t.pieces
    → let after : Tables = record t { contents = news; places = places } in (world_of after ≡ world_of t) × IsRegistry after
contents_kept t news places is blobs manifests pieces = (λ i. record { repos = from_entries (map (λ r. (bytes_at r 1, same r i)) t.repos); grants = grants_of t.grants }, record { tables = still; agree = agrees })
  where
    after : Tables
    after = record t { contents = news; places = places }

    same : (r : Row) → repo_in after r ≡ repo_in t r
    same r = λ i. record {
      blobs = blobs_kept t.contents news t.blobs (bytes_at r 1) blobs i;
      manifests = manifests_kept t.contents news t.manifests (bytes_at r 1) manifests i;
      tags = tags_of t.tags (bytes_at r 1);
      sessions = sessions_kept t.contents news t.pieces t.uploads (bytes_at r 1) pieces i;
      last = natural_at r 3;
      quota = natural_at r 2;
    }

    still : AreTables after
    still = record { repos = is.tables.repos; grants = is.tables.grants; tags = is.tables.tags; blobs = is.tables.blobs; manifests = is.tables.manifests; uploads = is.tables.uploads; pieces = is.tables.pieces }

    agrees : Agree after
    agrees = record {
      version = is.agree.version;
      granted = is.agree.granted;
      tagged = is.agree.tagged;
      blobs_repo = is.agree.blobs_repo;
      manifests_repo = is.agree.manifests_repo;
      uploads_repo = is.agree.uploads_repo;
      blobs = all_both _ _ (BlobAgrees news) (λ r h e. record { bytes = h.bytes; there = e ∙ h.there; size = h.size }) t.blobs is.agree.blobs blobs;
      manifests = all_both _ _ (ManifestAgrees news) (λ r h e. record { bytes = h.bytes; there = e ∙ h.there; size = h.size; kind = h.kind; subject = h.subject }) t.manifests is.agree.manifests manifests;
      uploads = is.agree.uploads;
      pieces = all_both _ _ (PieceAgrees news) (λ r h e. record { bytes = h.bytes; there = e ∙ h.there; size = h.size; more = h.more }) t.pieces is.agree.pieces pieces;
      pieces_open = is.agree.pieces_open;
      beside = is.agree.beside;
    }

-- where contents came and those that were there keep their bytes
pub contents_grown : (t : Tables) (news : ℤ → Option Text) (places : List Row) → IsRegistry t → Grow t.contents news → let after : Tables = record t { contents = news; places = places } in (world_of after ≡ world_of t) × IsRegistry after
contents_grown t news places is grow = contents_kept t news places is
    (all_weaker (BlobAgrees t.contents) (λ r. news (integer_at r 4) ≡ t.contents (integer_at r 4)) (λ r h. grow (integer_at r 4) h.bytes h.there ∙ sym h.there) t.blobs is.agree.blobs)
    (all_weaker (ManifestAgrees t.contents) (λ r. news (integer_at r 6) ≡ t.contents (integer_at r 6)) (λ r h. grow (integer_at r 6) h.bytes h.there ∙ sym h.there) t.manifests is.agree.manifests)
    (all_weaker (PieceAgrees t.contents) (λ r. news (integer_at r 5) ≡ t.contents (integer_at r 5)) (λ r h. grow (integer_at r 5) h.bytes h.there ∙ sym h.there) t.pieces is.agree.pieces)
