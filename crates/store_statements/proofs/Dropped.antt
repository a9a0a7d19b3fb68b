-- A repository goes, with every row that names it.
use Rattle.std.proofs.Common.{◌≡◌, ℕ, ℤ, List, [], ◌∷◌, map, Bool, true, false, cond, not, refl, sym, ap, subst, ◌∙◌, le_trans, le_of_eq}
use Rattle.std.specs.Prelude.{bytes_eq, filter, find, Option, is_some, ⊤}
use Rattle.std.specs.Option.{option_map_or}
use Rattle.std.specs.List.{AllByRecursion}
use Rattle.std.specs.FinMap.{remove, from_entries}
use Rattle.std.proofs.lemmas.Cmp.{nat_list_cmp_total}
use Rattle.std.proofs.lemmas.Map.Lookups.{exact_bytes}
use Rattle.sqlite.specs.Order.{Row}
use Rattle.sqlite_trees.proofs.ListLemmas.{all_of}
use Rattle.sqlite_keyed.specs.Lists.{sort_by}
use Rattle.oci_types.specs.Text.{Text}
use Rattle.registry_model.specs.Command.{drop_repo}
use Rattle.store_schema.specs.Rows.{bytes_at, natural_at}
use Rattle.store_schema.proofs.Lists.{find_left}
use Rattle.store_statements.specs.Keys.{of_first, of_second, of_session, same_first, same_key, same_session, same_start}
use Rattle.store_statements.specs.Tables.{Tables, AreTables, IsRepoRow, IsGrantRow, IsTagRow, IsBlobRow, IsManifestRow, IsUploadRow, IsPieceRow, level_of}
use Rattle.store_statements.specs.World.{blob_entry, manifest_entry, tag_entry, session_entry, by_start, pieces_of, joined, sessions_of, grants_of, repo_entry, repo_in, world_of, grant_entry}
use Rattle.store_statements.specs.Registry.{is_repo, last_in, IsRegistry, Agree, HaveRepo, HaveGranted, UploadAgrees, IsOpen, Reach}
use Rattle.store_statements.specs.Changes.{without}
use Rattle.store_statements.proofs.Found.{has_first, both_true, map_without}
use Rattle.store_statements.proofs.Base.{first_tie, second_tie, OthersStay, other_repo}
use Rattle.store_statements.proofs.Others.{Parts, filter_apart, other_first, within_itself, others_without}
use Rattle.store_statements.proofs.Kept.{all_without, rows_without}
use Rattle.store_statements.proofs.Named.{filter_swapped}
use Rattle.store_statements.proofs.ContentWorlds.{map_same_on}

-- ---- of rows that do not pass

pub all_left : (P Q : Row → Type 0) (p : Row → Bool) (rows : List Row) → ((r : Row) → p r ≡ false → P r → Q r) → AllByRecursion P rows → AllByRecursion Q (without p rows)
all_left P Q p [] weaker all = tt
all_left P Q p (r ∷ rs) weaker all = step (p r) refl (all_left P Q p rs weaker all.1)
  where
    step : (b : Bool) → p r ≡ b → AllByRecursion Q (without p rs) → AllByRecursion Q (cond (not b) (r ∷ without p rs) (without p rs))
    step true e more = more
    step false e more = (weaker r e all.0, more)

pub all_passing : (P : Row → Type 0) (p : Row → Bool) (rows : List Row) → ((r : Row) → p r ≡ true → P r) → AllByRecursion P (filter p rows)
all_passing P p [] passes = tt
all_passing P p (r ∷ rs) passes = step (p r) refl (all_passing P p rs passes)
  where
    step : (b : Bool) → p r ≡ b → AllByRecursion P (filter p rs) → AllByRecursion P (cond b (r ∷ filter p rs) (filter p rs))
    step true e more = (passes r e, more)
    step false e more = more

pub find_apart : (p q : Row → Bool) (rows : List Row) → Parts p q → find q (without p rows) ≡ find q rows
find_apart p q rows parts = find_left p q false rows (λ r h e. parts r e)

-- ---- of another name

pub other_session : (name other : Text) (number : ℕ) → bytes_eq other name ≡ false → Parts (of_first name) (of_session other number)
other_session name other number apart r e = other_first name other apart r (both_true _ _ e).0

pub pieces_apart : (pieces : List Row) (name other : Text) (number : ℕ) → bytes_eq other name ≡ false → pieces_of (without (of_first name) pieces) other number ≡ pieces_of pieces other number
pieces_apart pieces name other number apart = ap (sort_by by_start) (filter_apart (of_first name) (of_session other number) (other_session name other number apart) pieces)

pub sessions_apart : (contents : ℤ → Option Text) (pieces uploads : List Row) (name other : Text) → bytes_eq other name ≡ false
    → sessions_of contents (without (of_first name) pieces) (without (of_first name) uploads) other ≡ sessions_of contents pieces uploads other
sessions_apart contents pieces uploads name other apart =
    ap (λ xs. from_entries (map (session_entry contents (without (of_first name) pieces)) xs)) (others_without name other (of_first name) uploads (within_itself name) apart)
    ∙ ap from_entries (map_same_on _ _ (filter (of_first other) uploads) (all_passing _ (of_first other) uploads (λ r e.
    λ i. (natural_at r 2, joined contents (pieces_apart pieces name (bytes_at r 1) (natural_at r 2) (ap (λ n. bytes_eq n name) (has_first other r e) ∙ apart) i)))))

pub is_repo_apart : (repos : List Row) (name other : Text) → bytes_eq other name ≡ false → is_repo (without (of_first name) repos) other ≡ is_repo repos other
is_repo_apart repos name other apart = ap is_some (find_apart (of_first name) (of_first other) repos (other_first name other apart))

pub last_in_apart : (repos : List Row) (name other : Text) → bytes_eq other name ≡ false → last_in (without (of_first name) repos) other ≡ last_in repos other
last_in_apart repos name other apart = ap (λ o. option_map_or (λ r. natural_at r 3) o 0) (find_apart (of_first name) (of_first other) repos (other_first name other apart))

-- ---- all that names the repository is gone

abbrev pub without_repo : Tables → Text → Tables
without_repo t name = record t {
  repos = without (of_first name) t.repos;
  grants = without (of_second name) t.grants;
  tags = without (of_first name) t.tags;
  blobs = without (of_first name) t.blobs;
  manifests = without (of_first name) t.manifests;
  uploads = without (of_first name) t.uploads;
  pieces = without (of_first name) t.pieces;
}

tables_left : (t : Tables) (name : Text) → AreTables t → AreTables (without_repo t name)
tables_left t name are = record {
  repos = rows_without IsRepoRow same_first (of_first name) t.repos are.repos;
  grants = rows_without IsGrantRow same_key (of_second name) t.grants are.grants;
  tags = rows_without IsTagRow same_key (of_first name) t.tags are.tags;
  blobs = rows_without IsBlobRow same_key (of_first name) t.blobs are.blobs;
  manifests = rows_without IsManifestRow same_key (of_first name) t.manifests are.manifests;
  uploads = rows_without IsUploadRow same_session (of_first name) t.uploads are.uploads;
  pieces = rows_without IsPieceRow same_start (of_first name) t.pieces are.pieces;
}

have_left : (repos rows : List Row) (name : Text) → HaveRepo repos rows → HaveRepo (without (of_first name) repos) (without (of_first name) rows)
have_left repos rows name have = all_left _ _ (of_first name) rows (λ r apart h. is_repo_apart repos name (bytes_at r 1) apart ∙ h) have

granted_left : (repos rows : List Row) (name : Text) → HaveGranted repos rows → HaveGranted (without (of_first name) repos) (without (of_second name) rows)
granted_left repos rows name have = all_left _ _ (of_second name) rows (λ r apart h. is_repo_apart repos name (bytes_at r 2) apart ∙ h) have

-- uploads and pieces without a name, whatever the repositories are that are left
pub uploads_left : (repos left pieces uploads : List Row) (name : Text) → ((other : Text) → bytes_eq other name ≡ false → last_in left other ≡ last_in repos other) → AllByRecursion (UploadAgrees repos pieces) uploads
    → AllByRecursion (UploadAgrees left (without (of_first name) pieces)) (without (of_first name) uploads)
uploads_left repos left pieces uploads name last agree = all_left (UploadAgrees repos pieces) (UploadAgrees left (without (of_first name) pieces)) (of_first name) uploads (λ r apart h. record {
  whole = subst (λ ps. Reach 0 ps (natural_at r 3)) (sym (pieces_apart pieces name (bytes_at r 1) (natural_at r 2) apart)) h.whole;
  given = le_trans h.given (le_of_eq (sym (last (bytes_at r 1) apart)));
}) agree

pub open_left : (uploads pieces : List Row) (name : Text) → AllByRecursion (IsOpen uploads) pieces → AllByRecursion (IsOpen (without (of_first name) uploads)) (without (of_first name) pieces)
open_left uploads pieces name opens = all_left _ _ (of_first name) pieces (λ p apart h. ap is_some (find_apart (of_first name) (of_session (bytes_at p 1) (natural_at p 2)) uploads (other_session name (bytes_at p 1) (natural_at p 2) apart)) ∙ h) opens

agree_left : (t : Tables) (name : Text) → Agree t → Agree (without_repo t name)
agree_left t name h = record {
  version = h.version;
  granted = granted_left t.repos t.grants name h.granted;
  tagged = have_left t.repos t.tags name h.tagged;
  blobs_repo = have_left t.repos t.blobs name h.blobs_repo;
  manifests_repo = have_left t.repos t.manifests name h.manifests_repo;
  uploads_repo = have_left t.repos t.uploads name h.uploads_repo;
  blobs = all_without _ (of_first name) t.blobs h.blobs;
  manifests = all_without _ (of_first name) t.manifests h.manifests;
  uploads = uploads_left t.repos (without (of_first name) t.repos) t.pieces t.uploads name (last_in_apart t.repos name) h.uploads;
  pieces = all_without _ (of_first name) t.pieces h.pieces;
  pieces_open = open_left t.uploads t.pieces name h.pieces_open;
  beside = h.beside;
}

-- ---- the world

others_stay : (t : Tables) (name : Text) → OthersStay t (without_repo t name) name
others_stay t name = record {
  blobs = λ other e. ap (λ xs. from_entries (map (blob_entry t.contents) xs)) (others_without name other (of_first name) t.blobs (within_itself name) e);
  manifests = λ other e. ap (λ xs. from_entries (map (manifest_entry t.contents) xs)) (others_without name other (of_first name) t.manifests (within_itself name) e);
  tags = λ other e. ap (λ xs. from_entries (map tag_entry xs)) (others_without name other (of_first name) t.tags (within_itself name) e);
  sessions = λ other e. sessions_apart t.contents t.pieces t.uploads name other e;
}

grants_left : (rows : List Row) (name token : Text) → grants_of (without (of_second name) rows) token ≡ remove (grants_of rows token) name
grants_left rows name token = ap (λ xs. from_entries (map grant_entry xs)) (filter_swapped (of_first token) (λ r. not (of_second name r)) rows)
    ∙ map_without nat_list_cmp_total exact_bytes (λ r. bytes_at r 2) (λ r. level_of (natural_at r 3)) of_second second_tie name (filter (of_first token) rows)

pub repo_dropped : (t : Tables) (name : Text) → IsRegistry t → (world_of (without_repo t name) ≡ drop_repo (world_of t) name) × IsRegistry (without_repo t name)
repo_dropped t name is = (
  (λ i. record { repos = left i; grants = λ token. grants_left t.grants name token i }),
  record { tables = tables_left t name is.tables; agree = agree_left t name is.agree },
)
  where
    after : Tables
    after = without_repo t name

    left : (world_of after).repos ≡ remove (world_of t).repos name
    left = ap from_entries (map_same_on (repo_entry after) (repo_entry t) (without (of_first name) t.repos)
        (all_left (λ r. ⊤) _ (of_first name) t.repos (λ r apart h i. (bytes_at r 1, other_repo t after name (others_stay t name) r apart i)) (all_of _ (λ r. tt) t.repos)))
        ∙ map_without nat_list_cmp_total exact_bytes (λ r. bytes_at r 1) (repo_in t) of_first first_tie name t.repos
