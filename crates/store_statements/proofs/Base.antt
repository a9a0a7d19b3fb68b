-- What the world that rows stand for has, found in the rows; and the change of one repository among all.
use Rattle.std.proofs.Common.{◌≡◌, ℕ, ℤ, List, [], ◌∷◌, map, Bool, true, false, cond, None, Some, refl, sym, ap, ◌∙◌}
use Rattle.std.specs.Prelude.{bytes_eq, filter, find, Option, option_map, ◌==◌}
use Rattle.std.specs.Ordering.{eq_by_cmp}
use Rattle.std.specs.FinMap.{FinMap, get, from_entries, get-insert, same_map}
use Rattle.std.proofs.lemmas.Cmp.{nat_cmp_total, nat_list_cmp_total}
use Rattle.std.proofs.lemmas.Map.Lookups.{exact_bytes, exact_unsigned}
use Rattle.sqlite.specs.Order.{Row}
use Rattle.oci_types.specs.Text.{Text}
use Rattle.registry_model.specs.World.{text_cmp, Repo, World, repo_at, update_repo}
use Rattle.store_schema.specs.Rows.{bytes_at, natural_at, integer_at}
use Rattle.store_schema.proofs.Lists.{bytes_eq_true, bytes_eq-sym}
use Rattle.store_statements.specs.Keys.{of_first, of_second, has_key, of_session}
use Rattle.store_statements.specs.Tables.{Tables, level_of}
use Rattle.store_statements.specs.World.{content_at, blobs_of, manifests_of, tags_of, sessions_of, grants_of, pieces_of, joined, repo_in, world_of}
use Rattle.store_statements.specs.Changes.{changed}
use Rattle.store_statements.proofs.Found.{text_tie, number_tie, get_found, find_filter, find_changed, found_alike, found_passes, has_first, is_session}

-- ---- a repository

pub first_tie : (q : Text) (r : Row) → eq_by_cmp text_cmp q (bytes_at r 1) ≡ of_first q r
first_tie q r = text_tie q (bytes_at r 1)

pub second_tie : (q : Text) (r : Row) → eq_by_cmp text_cmp q (bytes_at r 2) ≡ of_second q r
second_tie q r = text_tie q (bytes_at r 2)

pub found_named : (rows : List Row) (name : Text) (r : Row) → find (of_first name) rows ≡ Some r → bytes_at r 1 ≡ name
found_named rows name r e = has_first name r (found_passes (of_first name) rows r e)

pub repo_found : (t : Tables) (name : Text) → repo_at (world_of t) name ≡ option_map (repo_in t) (find (of_first name) t.repos)
repo_found t name = get_found nat_list_cmp_total exact_bytes (λ r. bytes_at r 1) (repo_in t) of_first first_tie name t.repos

-- ---- what a repository has, and what a token has

-- in a map of the rows that have the name
in_named : {X : Type 0} (value : Row → X) (rows : List Row) (name key : Text) → get (from_entries {R = text_cmp} (map (λ r. (bytes_at r 2, value r)) (filter (of_first name) rows))) key ≡ option_map value (find (has_key name key) rows)
in_named value rows name key = get_found nat_list_cmp_total exact_bytes (λ r. bytes_at r 2) value of_second second_tie key (filter (of_first name) rows)
    ∙ ap (option_map value) (find_filter (of_first name) (of_second key) rows)

pub blob_found : (c : ℤ → Option Text) (rows : List Row) (name digest : Text) → get (blobs_of c rows name) digest ≡ option_map (λ r. content_at c (integer_at r 4)) (find (has_key name digest) rows)
blob_found c rows name digest = in_named (λ r. content_at c (integer_at r 4)) rows name digest

pub manifest_found : (c : ℤ → Option Text) (rows : List Row) (name digest : Text) → get (manifests_of c rows name) digest ≡ option_map (λ r. content_at c (integer_at r 6)) (find (has_key name digest) rows)
manifest_found c rows name digest = in_named (λ r. content_at c (integer_at r 6)) rows name digest

pub tag_found : (rows : List Row) (name tag : Text) → get (tags_of rows name) tag ≡ option_map (λ r. bytes_at r 3) (find (has_key name tag) rows)
tag_found rows name tag = in_named (λ r. bytes_at r 3) rows name tag

pub grant_found : (rows : List Row) (token name : Text) → get (grants_of rows token) name ≡ option_map (λ r. level_of (natural_at r 3)) (find (has_key token name) rows)
grant_found rows token name = in_named (λ r. level_of (natural_at r 3)) rows token name

pub session_found : (c : ℤ → Option Text) (pieces rows : List Row) (name : Text) (number : ℕ)
    → get (sessions_of c pieces rows name) number ≡ option_map (λ r. joined c (pieces_of pieces name number)) (find (of_session name number) rows)
session_found c pieces rows name number =
    get_found nat_cmp_total exact_unsigned (λ r. natural_at r 2) (λ r. joined c (pieces_of pieces (bytes_at r 1) (natural_at r 2))) (λ q r. natural_at r 2 == q) (λ q r. number_tie q (natural_at r 2)) number (filter (of_first name) rows)
    ∙ ap (option_map (λ r. joined c (pieces_of pieces (bytes_at r 1) (natural_at r 2)))) (find_filter (of_first name) (λ r. natural_at r 2 == number) rows)
    ∙ found_alike (λ r. joined c (pieces_of pieces (bytes_at r 1) (natural_at r 2))) (λ r. joined c (pieces_of pieces name number)) (of_session name number) (find (of_session name number) rows)
    (λ r e. let key = is_session name number r (found_passes (of_session name number) rows r e) in λ i. joined c (pieces_of pieces (key.0 i) (key.1 i)))

-- ---- the change of one repository

-- each other repository has what it had
pub record OthersStay (old new : Tables) (name : Text) : Type 0 where
  pub blobs : (other : Text) → bytes_eq other name ≡ false → blobs_of new.contents new.blobs other ≡ blobs_of old.contents old.blobs other
  pub manifests : (other : Text) → bytes_eq other name ≡ false → manifests_of new.contents new.manifests other ≡ manifests_of old.contents old.manifests other
  pub tags : (other : Text) → bytes_eq other name ≡ false → tags_of new.tags other ≡ tags_of old.tags other
  pub sessions : (other : Text) → bytes_eq other name ≡ false → sessions_of new.contents new.pieces new.uploads other ≡ sessions_of old.contents old.pieces old.uploads other

pub other_repo : (old new : Tables) (name : Text) → OthersStay old new name → (r : Row) → bytes_eq (bytes_at r 1) name ≡ false → repo_in new r ≡ repo_in old r
other_repo old new name stay r other =
    λ i. record {
      blobs = stay.blobs (bytes_at r 1) other i;
      manifests = stay.manifests (bytes_at r 1) other i;
      tags = stay.tags (bytes_at r 1) other i;
      sessions = stay.sessions (bytes_at r 1) other i;
      last = natural_at r 3;
      quota = natural_at r 2;
    }

-- the worlds of tables whose repositories and grants agree
pub same_worlds : (old new : Tables) → new.grants ≡ old.grants → (repos : FinMap text_cmp Repo) → (world_of new).repos ≡ repos → world_of new ≡ record (world_of old) { repos = repos }
same_worlds old new grants repos e = λ i. record { repos = e i; grants = grants_of (grants i) }

pub updated : (old new : Tables) (name : Text) (change : Repo → Repo) (f : Row → Row) → new.grants ≡ old.grants → new.repos ≡ changed (of_first name) f old.repos → ((r : Row) → bytes_at (f r) 1 ≡ bytes_at r 1)
    → OthersStay old new name → ((r : Row) → find (of_first name) old.repos ≡ Some r → repo_in new (f r) ≡ change (repo_in old r))
    → world_of new ≡ update_repo (world_of old) name change (repo_at (world_of old) name)
updated old new name change f grants repos named stay mine = go (find (of_first name) old.repos) refl
  where
    w : World
    w = world_of old

    fixed : Row → Row
    fixed r = cond (of_first name r) (f r) r

    -- what the new world has at a name, from the old rows
    there : (q : Text) → repo_at (world_of new) q ≡ option_map (λ r. repo_in new (fixed r)) (find (of_first q) old.repos)
    there q = repo_found new q ∙ ap (λ rows. option_map (repo_in new) (find (of_first q) rows)) repos
        ∙ ap (option_map (repo_in new)) (find_changed (of_first name) (of_first q) f (λ r. ap (λ n. bytes_eq n q) (named r)) old.repos) ∙ twice (find (of_first q) old.repos)
      where
        twice : (o : Option Row) → option_map (repo_in new) (option_map fixed o) ≡ option_map (λ r. repo_in new (fixed r)) o
        twice None = refl
        twice (Some r) = refl

    -- a row of another name is as it was
    apart : (q : Text) → bytes_eq q name ≡ false → repo_at (world_of new) q ≡ repo_at w q
    apart q other = there q ∙ found_alike _ _ (of_first q) (find (of_first q) old.repos) (λ r e.
        let is = found_named old.repos q r e in
        let off : of_first name r ≡ false = ap (λ n. bytes_eq n name) is ∙ other in
        ap (λ b. repo_in new (cond b (f r) r)) off ∙ other_repo old new name stay r off) ∙ sym (repo_found old q)

    go : (o : Option Row) → find (of_first name) old.repos ≡ o → world_of new ≡ update_repo w name change (repo_at w name)
    go None e = same_worlds old new grants w.repos (same_map nat_list_cmp_total exact_bytes _ _ (λ q. each q (bytes_eq q name) refl)) ∙ sym (ap (update_repo w name change) (repo_found old name ∙ ap (option_map (repo_in old)) e))
      where
        each : (q : Text) (b : Bool) → bytes_eq q name ≡ b → repo_at (world_of new) q ≡ repo_at w q
        each q true same =
            let none : find (of_first q) old.repos ≡ None = ap (λ n. find (of_first n) old.repos) (bytes_eq_true q name same) ∙ e in
            there q ∙ ap (option_map (λ r. repo_in new (fixed r))) none ∙ sym (repo_found old q ∙ ap (option_map (repo_in old)) none)
        each q false other = apart q other
    go (Some r) e = same_worlds old new grants _ (same_map nat_list_cmp_total exact_bytes _ _ (λ q. each q (bytes_eq q name) refl ∙ sym (get-insert nat_list_cmp_total w.repos name (change (repo_in old r)) q)))
        ∙ sym (ap (update_repo w name change) (repo_found old name ∙ ap (option_map (repo_in old)) e))
      where
        tied : (q : Text) (b : Bool) → bytes_eq q name ≡ b → eq_by_cmp text_cmp q name ≡ b
        tied q b is = text_tie q name ∙ bytes_eq-sym name q ∙ is

        each : (q : Text) (b : Bool) → bytes_eq q name ≡ b → repo_at (world_of new) q ≡ cond (eq_by_cmp text_cmp q name) (Some (change (repo_in old r))) (repo_at w q)
        each q true same =
            let is : find (of_first q) old.repos ≡ Some r = ap (λ n. find (of_first n) old.repos) (bytes_eq_true q name same) ∙ e in
            let on : of_first name r ≡ true = found_passes (of_first name) old.repos r e in
            there q ∙ ap (option_map (λ x. repo_in new (fixed x))) is ∙ ap (λ b. Some (repo_in new (cond b (f r) r))) on ∙ ap Some (mine r e)
            ∙ ap (λ b. cond b (Some (change (repo_in old r))) (repo_at w q)) (sym (tied q true same))
        each q false other = apart q other ∙ ap (λ b. cond b (Some (change (repo_in old r))) (repo_at w q)) (sym (tied q false other))

-- the same where the rows of repositories stay
pub updated_in_place : (old new : Tables) (name : Text) (change : Repo → Repo) → new.grants ≡ old.grants → new.repos ≡ old.repos → OthersStay old new name
    → ((r : Row) → find (of_first name) old.repos ≡ Some r → repo_in new r ≡ change (repo_in old r)) → world_of new ≡ update_repo (world_of old) name change (repo_at (world_of old) name)
updated_in_place old new name change grants repos stay mine = updated old new name change (λ r. r) grants (repos ∙ sym (none_changed old.repos)) (λ r. refl) stay mine
  where
    kept : (b : Bool) (r : Row) → cond b r r ≡ r
    kept true r = refl
    kept false r = refl

    none_changed : (rows : List Row) → changed (of_first name) (λ r. r) rows ≡ rows
    none_changed [] = refl
    none_changed (r ∷ rs) = λ i. kept (of_first name r) r i ∷ none_changed rs i
