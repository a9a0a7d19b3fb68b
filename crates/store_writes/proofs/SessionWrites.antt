-- What the writes of upload sessions make of the world.
use Rattle.std.proofs.Common.{◌≡◌, ◌==◌, ◌∙◌, ◌<◌, ◌+◌, ℕ, zero, suc, List, [], ◌∷◌, length, true, false, true≢false, Option, Some, None, refl, sym, ap, subst, arith}
use Rattle.std.specs.Prelude.{find, is_some, option_map}
use Rattle.std.specs.Option.{option_map_or}
use Rattle.sqlite.specs.Order.{Row}
use Rattle.sqlite.specs.State.{State}
use Rattle.oci_types.specs.Text.{Text}
use Rattle.registry_model.specs.Lookups.{append, finish, session_at, open_session, last_number_at}
use Rattle.store_schema.specs.Rows.{natural_at}
use Rattle.store_contents.specs.Layouts.{Layout}
use Rattle.store_statements.specs.Keys.{of_first, of_session, has_key, has_start}
use Rattle.store_statements.specs.Tables.{Tables}
use Rattle.store_statements.specs.World.{pieces_of}
use Rattle.store_statements.specs.Registry.{is_repo, last_in, Reach}
use Rattle.store_statements.proofs.RepoWorlds.{last_number_found}
use Rattle.store_statements.proofs.PieceWorlds as rows
use Rattle.store_statements.proofs.SessionRows.{number_free}
use Rattle.store_statements.proofs.SessionReads.{upload_reach, session_there, session_repo}
use Rattle.store_statements.proofs.Sessions.{opened, appended, append_nothing, finished_new, finished_there}
use Rattle.store_statements.specs.declared.blobs.BlobLink.{BlobLink}
use Rattle.store_statements.specs.declared.repos.RepoRow.{RepoRow}
use Rattle.store_statements.specs.Shown.{blob_link, repo_row}
use Rattle.store_statements.specs.Held.{IsSettled, StaysSettled, Commits, SettlesOn, held, world_in}
use Rattle.store_statements.specs.Steps.{SessionOpened, Appended, Finished, sessions_without}
use Rattle.store_statements.proofs.Transactions.{registry, makes}
use Rattle.store_statements.proofs.WritesAfterReads.{some_found, same_held}
use Rattle.store_statements.proofs.Alone.{commits_as}
use borrow.Author.Tests.{eqb-true}

-- a session that the world has is in the tables
has_upload : {l : Layout} → (s : State) (name : Text) (number : ℕ) → IsSettled l s → is_some (session_at (world_in l s) name number) ≡ true → is_some (find (of_session name number) (held l s).uploads) ≡ true
has_upload {l} s name number settled there = sym (session_there (held l s) name number (registry s settled)) ∙ there

-- and so is its repository
has_repo : {l : Layout} → (s : State) (name : Text) (number : ℕ) → IsSettled l s → is_some (session_at (world_in l s) name number) ≡ true → is_repo (held l s).repos name ≡ true
has_repo {l} s name number settled there = go (find (of_session name number) (held l s).uploads) refl
  where
    go : (o : Option Row) → find (of_session name number) (held l s).uploads ≡ o → is_repo (held l s).repos name ≡ true
    go None e = absurd (true≢false (sym (has_upload s name number settled there) ∙ ap is_some e))
    go (Some r) e = session_repo (held l s) name number r (registry s settled) e

-- ---- bytes come

no_bytes : (bytes : Text) → length bytes ≡ 0 → bytes ≡ []
no_bytes [] e = refl
no_bytes (b ∷ bs) e = absurd (omega (arith, e))

pub appends_nothing : {l : Layout} → (s : State) (name : Text) (number : ℕ) (bytes : Text) → IsSettled l s → is_some (session_at (world_in l s) name number) ≡ true → length bytes ≡ 0 → SettlesOn l s (append (world_in l s) name number bytes)
appends_nothing {l} s name number bytes settled there none =
    (settled, subst (λ more. world_in l s ≡ append (world_in l s) name number more) (sym (no_bytes bytes none)) (sym (append_nothing (held l s) name number (has_upload s name number settled there))))

pub is_zero : (n : ℕ) → (n == 0) ≡ true → n ≡ 0
is_zero n e = eqb-true n 0 e

pub more_than_none : (n : ℕ) → (n == 0) ≡ false → 0 < n
more_than_none zero e = absurd cc
more_than_none (suc n) e = omega arith

-- no piece begins where a session ends
pub piece_free : {l : Layout} → (old mid : State) (name : Text) (number size : ℕ) → IsSettled l old → StaysSettled l old mid → Some size ≡ option_map (λ r. natural_at r 3) (find (of_session name number) (held l old).uploads) → find (has_start name number size) (held l mid).pieces ≡ None
piece_free {l} old mid name number size settled stays sized =
    let found = some_found (λ r. natural_at r 3) (find (of_session name number) (held l old).uploads) size sized in
    let reach : Reach 0 (pieces_of (held l old).pieces name number) size = subst (Reach 0 (pieces_of (held l old).pieces name number)) (sym found.2) (upload_reach (held l old) name number found.0 (registry old settled) found.1) in
    ap (λ (t : Tables). find (has_start name number size) t.pieces) (same_held old mid stays) ∙ rows.piece_fresh (held l old).contents (held l old).pieces name number size settled.agree.pieces reach

pub appends : {l : Layout} → (old mid end : State) (name : Text) (number size : ℕ) (bytes : Text) {runs : List (ℕ × ℕ)} → IsSettled l old → StaysSettled l old mid → Some size ≡ option_map (λ r. natural_at r 3) (find (of_session name number) (held l old).uploads) → 0 < length bytes
    → Commits l end (held l end) × Appended (held l mid) (held l end) name number size bytes runs → SettlesOn l end (append (world_in l old) name number bytes)
appends {l} old mid end name number size bytes {runs} settled stays sized more it =
    let added = subst (λ (t : Tables). Appended t (held l end) name number size bytes runs) (same_held old mid stays) it.1 in
    makes end _ _ (commits_as end _ it.0 added.others)
    (appended (held l old) (held l end).contents (held l end).places name number size bytes added.id (held l end).pieces (registry old settled) (sym sized) more added.grow added.there added.comes)

-- ---- a session ends

pub finishes_there : {l : Layout} → (old mid end : State) (name : Text) (number : ℕ) (digest bytes : Text) (link : BlobLink) → IsSettled l old → StaysSettled l old mid → Some link ≡ option_map blob_link (find (has_key name digest) (held l old).blobs)
    → Commits l end (sessions_without (of_session name number) (held l mid)) → SettlesOn l end (finish (world_in l old) name number digest bytes)
finishes_there {l} old mid end name number digest bytes link settled stays e c =
    let found = some_found blob_link (find (has_key name digest) (held l old).blobs) link e in
    makes end _ _ (subst (λ (t : Tables). Commits l end (sessions_without (of_session name number) t)) (same_held old mid stays) c)
    (finished_there (held l old) name number digest bytes found.0 (registry old settled) found.1)

pub finishes_new : {l : Layout} → (old mid end : State) (name : Text) (number : ℕ) (digest bytes : Text) {runs : List (ℕ × ℕ)} → IsSettled l old → is_some (session_at (world_in l old) name number) ≡ true → StaysSettled l old mid → find (has_key name digest) (held l old).blobs ≡ None
    → Commits l end (held l end) × Finished (held l mid) (held l end) name number digest bytes runs → SettlesOn l end (finish (world_in l old) name number digest bytes)
finishes_new {l} old mid end name number digest bytes {runs} settled there stays fresh it =
    let stored = subst (λ (t : Tables). Finished t (held l end) name number digest bytes runs) (same_held old mid stays) it.1 in
    makes end _ _ (commits_as end _ it.0 stored.others)
    (finished_new (held l old) (held l end).contents (held l end).places name number digest bytes stored.id (held l end).blobs (registry old settled) (has_repo old name number settled there) stored.grow stored.there fresh stored.comes)

-- ---- a session is opened

last_is : (rows : List Row) (name : Text) (o : Option Row) (last : ℕ) → find (of_first name) rows ≡ o → Some last ≡ option_map (λ r. natural_at r 3) o → (last_in rows name ≡ last) × (is_repo rows name ≡ true)
last_is rows name None last e found = absurd cc
last_is rows name (Some r) last e found = (ap (λ o. option_map_or (λ r. natural_at r 3) o 0) e ∙ cc, ap is_some e)

pub last_found : (o : Option Row) (row : RepoRow) → Some row ≡ option_map repo_row o → Some row.last ≡ option_map (λ r. natural_at r 3) o
last_found None row e = absurd cc
last_found (Some r) row e = let same : row ≡ repo_row r = cc in ap (λ (x : RepoRow). Some x.last) same

-- no session has a number behind the last
pub number_behind : {l : Layout} → (old mid : State) (name : Text) (last : ℕ) → IsSettled l old → StaysSettled l old mid → Some last ≡ option_map (λ r. natural_at r 3) (find (of_first name) (held l old).repos) → find (of_session name (last + 1)) (held l mid).uploads ≡ None
number_behind {l} old mid name last settled stays found =
    let is = last_is (held l old).repos name (find (of_first name) (held l old).repos) last refl found in
    ap (λ (t : Tables). find (of_session name (last + 1)) t.uploads) (same_held old mid stays) ∙ number_free (held l old) name (last + 1) (registry old settled) (omega (arith, is.0))

pub opens : {l : Layout} → (old mid end : State) (name : Text) (last : ℕ) → IsSettled l old → StaysSettled l old mid → Some last ≡ option_map (λ r. natural_at r 3) (find (of_first name) (held l old).repos)
    → Commits l end (held l end) × SessionOpened (held l mid) (held l end) name (last + 1) → (last + 1 ≡ last_number_at (world_in l old) name + 1) × SettlesOn l end (open_session (world_in l old) name)
opens {l} old mid end name last settled stays found it =
    let is = last_is (held l old).repos name (find (of_first name) (held l old).repos) last refl found in
    let come = subst (λ (t : Tables). SessionOpened t (held l end) name (last + 1)) (same_held old mid stays) it.1 in
    let come = subst (λ n. SessionOpened (held l old) (held l end) name (n + 1)) (sym is.0) come in
    (ap (λ n. n + 1) (sym (last_number_found (held l old) name ∙ is.0)), makes end _ _ (commits_as end _ it.0 come.others) (opened (held l old) name (held l end).uploads (registry old settled) is.1 come.comes))
