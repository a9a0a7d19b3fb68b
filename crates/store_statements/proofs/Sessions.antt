-- The writes of upload sessions: what each change of rows makes of the world, and that the rows stand for it.
use Rattle.std.proofs.Common.{◌≡◌, ◌<◌, ◌+◌, ℕ, ℤ, List, [], ◌++◌, length, Bool, true, false, cond, Option, None, Some, refl, sym, ap, subst, ◌∙◌, true≢false}
use Rattle.std.specs.Prelude.{find, option_map, is_some}
use Rattle.std.specs.Ordering.{eq_by_cmp}
use Rattle.std.specs.Cmp.{IsTotalOrder}
use Rattle.std.specs.declared.cmp.Ordering.{Ordering}
use Rattle.std.specs.FinMap.{FinMap, get, insert, get-insert, same_map}
use Rattle.std.proofs.lemmas.Cmp.{nat_cmp_total, nat_list_cmp_total, eq_by_cmp_equiv}
use Rattle.std.proofs.lemmas.List.{append-nil}
use Rattle.std.proofs.lemmas.Map.Lookups.{CmpEqualImpliesEq, exact_unsigned, exact_bytes}
use Rattle.sqlite.specs.Order.{Row}
use Rattle.oci_types.specs.Text.{Text}
use Rattle.registry_model.specs.World.{Repo, World, repo_at, update_repo, with_repo}
use Rattle.registry_model.specs.Sessions as model
use Rattle.registry_model.specs.Blobs.{with_blob}
use Rattle.registry_model.specs.Lookups.{open_session, append, finish, put_blob, bytes_or_none}
use Rattle.registry_model.specs.Command.{drop_sessions}
use Rattle.store_schema.specs.Rows.{natural_at}
use Rattle.store_schema.proofs.Ids.{is_eq_equal}
use Rattle.store_statements.specs.Keys.{of_first, of_session, has_key}
use Rattle.store_statements.specs.Tables.{Tables}
use Rattle.store_statements.specs.World.{pieces_of, joined, sessions_of, repo_in, world_of}
use Rattle.store_statements.specs.Registry.{is_repo, last_in, Reach, IsRegistry}
use Rattle.store_statements.specs.Changes.{without, changed, with_last, with_size, upload_columns, piece_columns, blob_columns, Comes, Grow}
use Rattle.store_statements.proofs.Base.{found_named}
use Rattle.store_statements.proofs.ContentWorlds.{contents_grown}
use Rattle.store_statements.proofs.BlobWorlds.{blob_added, blob_there, update_same}
use Rattle.store_statements.proofs.SessionMaps.{has_session, session_get}
use Rattle.store_statements.proofs.SessionReads.{upload_reach}
use Rattle.store_statements.proofs.SessionWorlds.{without_session, tables_ended, world_opened, world_appended, world_ended, world_cleared}
use Rattle.store_statements.proofs.SessionsKept.{registry_opened, registry_appended, registry_ended, registry_cleared}

-- ---- a session is opened, under the number behind the last one

pub opened : (t : Tables) (name : Text) (uploads : List Row) → IsRegistry t → is_repo t.repos name ≡ true → Comes t.uploads uploads (upload_columns name (last_in t.repos name + 1))
    → let after : Tables = record t { repos = changed (of_first name) (with_last (last_in t.repos name + 1)) t.repos; uploads = uploads } in (world_of after ≡ open_session (world_of t) name) × IsRegistry after
opened t name uploads is there c = (world_opened t name uploads is c, registry_opened t name uploads is there c)

-- ---- bytes come behind those of a session

-- the row of a session of this size
upload_of : (t : Tables) (name : Text) (number size : ℕ) (o : Option Row) → find (of_session name number) t.uploads ≡ o → option_map (λ r. natural_at r 3) o ≡ Some size → (r : Row) × (find (of_session name number) t.uploads ≡ Some r) × (natural_at r 3 ≡ size)
upload_of t name number size None e sized = absurd (true≢false (sym (ap is_some sized)))
upload_of t name number size (Some r) e sized = (r, e, cc)

pub appended : (t : Tables) (contents : ℤ → Option Text) (places : List Row) (name : Text) (number size : ℕ) (bytes : Text) (id : ℤ) (pieces : List Row) → IsRegistry t → option_map (λ r. natural_at r 3) (find (of_session name number) t.uploads) ≡ Some size
    → 0 < length bytes → Grow t.contents contents → contents id ≡ Some bytes → Comes t.pieces pieces (piece_columns name number size (length bytes) id)
    → let after : Tables = record t { contents = contents; places = places; pieces = pieces; uploads = changed (of_session name number) (with_size (size + length bytes)) t.uploads } in
    (world_of after ≡ append (world_of t) name number bytes) × IsRegistry after
appended t contents places name number size bytes id pieces is sized more grow has c =
    let grown = contents_grown t contents places is grow in
    let mid : Tables = record t { contents = contents; places = places } in
    let row = upload_of t name number size (find (of_session name number) t.uploads) refl sized in
    let there : has_session t.uploads name number ≡ true = ap is_some row.1 in
    let reach : Reach 0 (pieces_of t.pieces name number) size = subst (Reach 0 (pieces_of t.pieces name number)) row.2 (upload_reach t name number row.0 is row.1) in
    (world_appended mid name number size bytes id pieces grown.1.agree.pieces reach there has c ∙ ap (λ w. append w name number bytes) grown.0, registry_appended mid name number size bytes id pieces grown.1 reach there more has c)

-- what a map has already changes nothing
insert_same : {K X : Type 0} {R : K → K → Ordering} (o : IsTotalOrder R) → CmpEqualImpliesEq R → (m : FinMap R X) (k : K) (v : X) → get m k ≡ Some v → insert m k v ≡ m
insert_same {R = R} o exact m k v has = same_map o exact _ _ (λ q. get-insert o m k v q ∙ step q (eq_by_cmp R q k) refl)
  where
    step : (q : _) (b : Bool) → eq_by_cmp R q k ≡ b → cond b (Some v) (get m q) ≡ get m q
    step q true e = sym (ap (get m) (exact q k (is_eq_equal _ e)) ∙ has)
    step q false e = refl

pub append_nothing : (t : Tables) (name : Text) (number : ℕ) → is_some (find (of_session name number) t.uploads) ≡ true → append (world_of t) name number [] ≡ world_of t
append_nothing t name number there = update_same t name (λ r. model.appended r number (bytes_or_none (get r.sessions number) ++ [])) (λ r e i. record (repo_in t r) { sessions = same r e i })
  where
    bytes : Text
    bytes = joined t.contents (pieces_of t.pieces name number)

    has : (r : Row) → find (of_first name) t.repos ≡ Some r → get (repo_in t r).sessions number ≡ Some bytes
    has r e = ap (λ n. get (sessions_of t.contents t.pieces t.uploads n) number) (found_named t.repos name r e) ∙ session_get t.contents t.pieces t.uploads name number ∙ ap (λ b. cond b (Some bytes) None) there

    same : (r : Row) → find (of_first name) t.repos ≡ Some r → insert (repo_in t r).sessions number (bytes_or_none (get (repo_in t r).sessions number) ++ []) ≡ (repo_in t r).sessions
    same r e = ap (insert (repo_in t r).sessions number) (append-nil _ ∙ ap bytes_or_none (has r e)) ∙ insert_same nat_cmp_total exact_unsigned (repo_in t r).sessions number bytes (has r e)

-- ---- a session ends

pub ended : (t : Tables) (name : Text) (number : ℕ) → IsRegistry t → let after : Tables = record t { pieces = without (of_session name number) t.pieces; uploads = without (of_session name number) t.uploads } in
    (world_of after ≡ update_repo (world_of t) name (without_session number) (repo_at (world_of t) name)) × IsRegistry after
ended t name number is = (world_ended t name number, registry_ended t name number is)

insert_twice : {K X : Type 0} {R : K → K → Ordering} (o : IsTotalOrder R) → CmpEqualImpliesEq R → (m : FinMap R X) (k : K) (u v : X) → insert (insert m k u) k v ≡ insert m k v
insert_twice {R = R} o exact m k u v = same_map o exact _ _ (λ q. get-insert o (insert m k u) k v q ∙ ap (cond (eq_by_cmp R q k) (Some v)) (get-insert o m k u q) ∙ step (eq_by_cmp R q k) (get m q) ∙ sym (get-insert o m k v q))
  where
    step : (b : Bool) (left : Option _) → cond b (Some v) (cond b (Some u) left) ≡ cond b (Some v) left
    step true left = refl
    step false left = refl

-- a repository that is changed twice
pub updated_twice : (w : World) (name : Text) (f g : Repo → Repo) → let mid : World = update_repo w name f (repo_at w name) in update_repo mid name g (repo_at mid name) ≡ update_repo w name (λ r. g (f r)) (repo_at w name)
updated_twice w name f g = go (repo_at w name) refl
  where
    go : (o : Option Repo) → repo_at w name ≡ o → update_repo (update_repo w name f o) name g (repo_at (update_repo w name f o) name) ≡ update_repo w name (λ r. g (f r)) o
    go None e = ap (update_repo w name g) e
    go (Some r) e =
        let here : repo_at (with_repo w name (f r)) name ≡ Some (f r) = get-insert nat_list_cmp_total w.repos name (f r) name ∙ ap (λ b. cond b (Some (f r)) (repo_at w name)) ((eq_by_cmp_equiv nat_list_cmp_total).refl name) in
        ap (update_repo (with_repo w name (f r)) name g) here ∙ (λ i. record w { repos = insert_twice nat_list_cmp_total exact_bytes w.repos name (f r) (g (f r)) i })

-- its bytes become a blob where the session has ended
finish_parts : (t after : Tables) (name : Text) (number : ℕ) (digest bytes : Text) → world_of after ≡ update_repo (world_of t) name (without_session number) (repo_at (world_of t) name) → put_blob (world_of after) name digest bytes ≡ finish (world_of t) name number digest bytes
finish_parts t after name number digest bytes e = ap (λ w. put_blob w name digest bytes) e ∙ updated_twice (world_of t) name (without_session number) (λ r. with_blob r digest bytes)

pub finished_new : (t : Tables) (contents : ℤ → Option Text) (places : List Row) (name : Text) (number : ℕ) (digest bytes : Text) (id : ℤ) (blobs : List Row) → IsRegistry t → is_repo t.repos name ≡ true → Grow t.contents contents → contents id ≡ Some bytes
    → find (has_key name digest) t.blobs ≡ None → Comes t.blobs blobs (blob_columns name digest (length bytes) id)
    → let after : Tables = record t { contents = contents; places = places; blobs = blobs; pieces = without (of_session name number) t.pieces; uploads = without (of_session name number) t.uploads } in
    (world_of after ≡ finish (world_of t) name number digest bytes) × IsRegistry after
finished_new t contents places name number digest bytes id blobs is there grow has fresh c =
    let grown = contents_grown t contents places is grow in
    let mid : Tables = record t { contents = contents; places = places } in
    let closed = ended mid name number grown.1 in
    let put = blob_added (tables_ended mid name number) name digest bytes id blobs closed.1 there has fresh c in
    (put.0 ∙ finish_parts mid (tables_ended mid name number) name number digest bytes closed.0 ∙ ap (λ w. finish w name number digest bytes) grown.0, put.1)

-- a digest that is there keeps its bytes
pub finished_there : (t : Tables) (name : Text) (number : ℕ) (digest bytes : Text) (there : Row) → IsRegistry t → find (has_key name digest) t.blobs ≡ Some there
    → let after : Tables = record t { pieces = without (of_session name number) t.pieces; uploads = without (of_session name number) t.uploads } in
    (world_of after ≡ finish (world_of t) name number digest bytes) × IsRegistry after
finished_there t name number digest bytes there is found =
    let closed = ended t name number is in
    (sym (blob_there (tables_ended t name number) name digest bytes there found) ∙ finish_parts t (tables_ended t name number) name number digest bytes closed.0, closed.1)

-- ---- every session of a repository ends

pub sessions_dropped : (t : Tables) (name : Text) → IsRegistry t → let after : Tables = record t { pieces = without (of_first name) t.pieces; uploads = without (of_first name) t.uploads } in
    (world_of after ≡ drop_sessions (world_of t) name) × IsRegistry after
sessions_dropped t name is = (world_cleared t name, registry_cleared t name is)
