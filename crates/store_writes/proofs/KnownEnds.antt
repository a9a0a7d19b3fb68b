-- What is known of upload sessions of one piece, and what their end makes of the world.
use Rattle.std.proofs.Common.{◌≡◌, ◌∙◌, ◌||◌, ◌++◌, ℕ, List, [], ◌∷◌, map, length, Bool, true, false, true≢false, cond, inl, inr, Option, Some, None, Ok, Err, Result, IfOk, OnOk, OnErr, refl, sym, ap, subst, arith}
use Rattle.std.specs.Prelude.{⊤, find, is_some, is_none, option_map, bytes_eq, MatchResult, Vec}
use Rattle.std.specs.declared.alloc.Global.{Global}
use Rattle.std.specs.Option.{option_and_then, option_map_or}
use Rattle.std.specs.List.{AllByRecursion}
use Rattle.sqlite.specs.Order.{Row}
use Rattle.sqlite_trees.specs.declared.store.Store.{Ghosts}
use Rattle.sqlite.specs.State.{State}
use Rattle.sqlite.specs.Held.{Held, state}
use Rattle.oci_types.specs.Text.{Text}
use Rattle.oci_types.specs.Digest.{matches, sha512_digest}
use Rattle.oci_types.specs.declared.fault.Fault.{Fault}
use Rattle.oci_types.specs.declared.fault.Fault.TheVariants.{Memory, Storage}
use Rattle.registry_model.specs.World.{World}
use Rattle.registry_model.specs.Lookups.{blob_at, session_at, session_size_at, bytes_or_none, finish}
use Rattle.registry_model.specs.Closing.{session_matches, finish_as_is}
use Rattle.store_schema.specs.Rows.{natural_at, integer_at}
use Rattle.store_contents.specs.Layouts.{Layout}
use Rattle.store_statements.specs.Keys.{of_session, has_key}
use Rattle.store_statements.specs.Tables.{Tables}
use Rattle.store_statements.specs.World.{pieces_of, joined, world_of}
use Rattle.store_statements.specs.Registry.{IsRegistry, PieceAgrees, Reach}
use Rattle.store_statements.specs.Changes.{Comes, blob_columns}
use Rattle.store_statements.proofs.SessionReads.{upload_reach, session_at_found, session_pieces}
use Rattle.store_statements.proofs.Reach.{content_found}
use Rattle.store_contents.specs.declared.content_id.ContentId.{ContentId}
use Rattle.store_statements.specs.declared.blobs.BlobLink.{BlobLink}
use Rattle.store_statements.specs.Shown.{blob_link, content_named}
use Rattle.store_statements.specs.ContentShown.{has_sha256_digest}
use Rattle.store_statements.specs.Held.{IsReady, IsSettled, StaysSettled, Commits, SettlesOn, IsKept, held, world_in, is_storage}
use Rattle.store_statements.specs.Steps.{Finished, BlobComes, sessions_without}
use Rattle.store_statements.proofs.Transactions.{registry}
use Rattle.store_statements.specs.StepsFrom.{LinkIsPut}
use Rattle.store_writes.specs.Whole.{only_link, whole_link, if_digest, known_link, IsKnown, WholeEnds, DoneWhereSo}
use Rattle.store_statements.specs.Between.{Outcomes}
use Rattle.store_statements.proofs.Crashes.{outcome_kept, outcome_then}
use Rattle.store_statements.proofs.BlobLinks.{link_came}
use Rattle.store_statements.proofs.PlacesKept.{no_runs}
use Rattle.store_statements.proofs.WritesAfterReads.{same_world}
use Rattle.store_writes.proofs.SessionWrites.{finishes_there, finishes_new}
use Rattle.store_statements.proofs.WritesAfterReads.{none_found, some_found, same_held}

-- ---- what is known

-- there is one piece
one_piece : (size : ℕ) (ps : List Row) (link : BlobLink) → Some link ≡ only_link size (map (content_named 5) ps) → (p : Row) × (ps ≡ p ∷ []) × (link ≡ record { size = size; content = content_named 5 p })
one_piece size [] link e = absurd cc
one_piece size (p ∷ []) link e = (p, refl, cc)
one_piece size (p ∷ q ∷ ps) link e = absurd cc

nothing_behind : (t : Text) → t ++ [] ≡ t
nothing_behind [] = refl
nothing_behind (b ∷ bs) = ap (λ l. b ∷ l) (nothing_behind bs)

module _ (t : Tables) (name : Text) (number : ℕ) (is : IsRegistry t) where
  -- the content of the one piece is the session's bytes
  whole_is : (link : BlobLink) → Some link ≡ whole_link t name number → (bytes : Text) × (session_at (world_of t) name number ≡ Some bytes) × (t.contents link.content.id ≡ Some bytes) × (link.size ≡ length bytes)
  whole_is link e = go (find (of_session name number) t.uploads) refl e
    where
      go : (o : Option Row) → find (of_session name number) t.uploads ≡ o → Some link ≡ option_and_then (λ r. only_link (natural_at r 3) (map (content_named 5) (pieces_of t.pieces name number))) o
          → (bytes : Text) × (session_at (world_of t) name number ≡ Some bytes) × (t.contents link.content.id ≡ Some bytes) × (link.size ≡ length bytes)
      go None f e = absurd cc
      go (Some r) f e =
          let one = one_piece (natural_at r 3) (pieces_of t.pieces name number) link e in
          let p = one.0 in
          let agrees : PieceAgrees t.contents p = (subst (AllByRecursion (PieceAgrees t.contents)) one.1 (session_pieces t name number is)).0 in
          let reach : Reach 0 (p ∷ []) (natural_at r 3) = subst (λ ps. Reach 0 ps (natural_at r 3)) one.1 (upload_reach t name number r is f) in
          let named : link.content.id ≡ integer_at p 5 = ap (λ (l : BlobLink). l.content.id) one.2 in
          let sized : link.size ≡ natural_at r 3 = ap (λ (l : BlobLink). l.size) one.2 in (
            agrees.bytes,
            session_at_found t name number is ∙ ap (option_map (λ r. joined t.contents (pieces_of t.pieces name number))) f ∙ ap (λ ps. Some (joined t.contents ps)) one.1
                ∙ ap Some (nothing_behind _ ∙ content_found t.contents (integer_at p 5) agrees.bytes agrees.there),
            ap t.contents named ∙ agrees.there,
            sized ∙ omega (arith, reach.1, agrees.size),
          )

  pub known_is : (digest : Text) (link : BlobLink) → Some link ≡ known_link t name number digest → IsKnown t name number digest link
  known_is digest link e = go (whole_link t name number) refl e
    where
      found : (l : BlobLink) → Some l ≡ whole_link t name number → (b : Bool) → has_sha256_digest (t.contents l.content.id) digest ≡ b → Some link ≡ cond b (Some l) None → IsKnown t name number digest link
      found l w false h e = absurd cc
      found l w true h e =
          let whole = whole_is l w in
          let same : l ≡ link = cc in
          let has = sym (ap (λ o. has_sha256_digest o digest) whole.2) ∙ h in
          subst (IsKnown t name number digest) same
          (record { bytes = whole.0; session = whole.1; there = whole.2; size = whole.3; matching = ap (λ b. b || bytes_eq digest (sha512_digest whole.0)) has })

      go : (o : Option BlobLink) → whole_link t name number ≡ o → Some link ≡ option_and_then (λ l. if_digest t digest l) o → IsKnown t name number digest link
      go None f e = absurd cc
      go (Some l) f e = found l (sym f) (has_sha256_digest (t.contents l.content.id) digest) refl e

-- ---- what the end makes of the world

as_is : (w : World) (name : Text) (number : ℕ) (digest bytes : Text) → session_at w name number ≡ Some bytes → finish w name number digest bytes ≡ finish_as_is w name number digest
as_is w name number digest bytes e = ap (λ o. finish w name number digest (bytes_or_none o)) (sym e)

pub matches_it : (w : World) (name : Text) (number : ℕ) (digest bytes : Text) → session_at w name number ≡ Some bytes → matches digest bytes ≡ true → session_matches w name number digest ≡ true
matches_it w name number digest bytes e m = ap (λ o. option_map_or (λ b. matches digest b) o false) e ∙ m

finished_from : (t u : Tables) (name : Text) (number : ℕ) (digest bytes : Text) (link : BlobLink) → t.contents link.content.id ≡ Some bytes → link.size ≡ length bytes → WholeEnds t u name number digest link → Finished t u name number digest bytes []
finished_from t u name number digest bytes link there size it =
    let ended = sessions_without (of_session name number) t in
    let same : u.contents ≡ t.contents = ap (λ (x : Tables). x.contents) it.others in
    let placed : u.places ≡ t.places = ap (λ (x : Tables). x.places) it.others in
    record {
      id = link.content.id;
      grow = λ i b was. ap (λ c. c i) same ∙ was;
      there = ap (λ c. c link.content.id) same ∙ there;
      rest = λ i other. ap (λ c. c i) same;
      placed = no_runs ended u placed (ap (λ (x : Tables). x.packs) it.others);
      comes = subst (λ n. Comes ended.blobs u.blobs (blob_columns name digest n link.content.id)) size it.comes;
      others = it.others ∙ (λ i. record ended { contents = sym same i; places = sym placed i; blobs = u.blobs });
    }

pub ends_there : {l : Layout} → (old mid end : State) (name : Text) (number : ℕ) (digest : Text) (link other : BlobLink) → IsSettled l old → IsKnown (held l old) name number digest link → StaysSettled l old mid → Some other ≡ option_map blob_link (find (has_key name digest) (held l old).blobs)
    → Commits l end (sessions_without (of_session name number) (held l mid)) → SettlesOn l end (finish_as_is (world_in l old) name number digest)
ends_there {l} old mid end name number digest link other settled known stays e c =
    subst (SettlesOn l end) (as_is (world_in l old) name number digest known.bytes known.session) (finishes_there old mid end name number digest known.bytes other settled stays e c)

pub ends_new : {l : Layout} → (old mid end : State) (name : Text) (number : ℕ) (digest : Text) (link : BlobLink) → IsSettled l old → IsKnown (held l old) name number digest link → StaysSettled l old mid → find (has_key name digest) (held l old).blobs ≡ None
    → Commits l end (held l end) × WholeEnds (held l mid) (held l end) name number digest link → SettlesOn l end (finish_as_is (world_in l old) name number digest)
ends_new {l} old mid end name number digest link settled known stays fresh it =
    let there = ap (λ (t : Tables). t.contents link.content.id) (same_held old mid stays) ∙ known.there in
    subst (SettlesOn l end) (as_is (world_in l old) name number digest known.bytes known.session)
    (finishes_new old mid end name number digest known.bytes settled (ap is_some known.session) stays fresh (it.0, finished_from (held l mid) (held l end) name number digest known.bytes link there known.size it.1))

-- the whole of it
pub done : {l : Layout} → (old mid new : State) (name : Text) (number : ℕ) (digest : Text) (link : BlobLink) → IsSettled l old → StaysSettled l old mid → Some link ≡ known_link (held l old) name number digest → SettlesOn l new (finish_as_is (world_in l mid) name number digest)
    → DoneWhereSo l true old new (λ w. session_matches w name number digest) (λ w. finish_as_is w name number digest)
done {l} old mid new name number digest link settled stays found it =
    let known = known_is (held l old) name number (registry old settled) digest link found in
    (matches_it (world_in l old) name number digest known.bytes known.session known.matching, subst (λ w. SettlesOn l new (finish_as_is w name number digest)) (same_world old mid stays) it)

-- what a crash leaves of it
module _ (l : Layout) {S : Type 0} (g : Ghosts S) (old new : Held S) (name : Text) (number : ℕ) (digest : Text) where
  -- the bytes match, and the world is that of the session's end
  abbrev pub Ended : State → Type 0
  Ended s = (session_matches (world_in l (state g old)) name number digest ≡ true) × SettlesOn l s (finish_as_is (world_in l (state g old)) name number digest)

  pub ends_kept : IsSettled l (state g old) → IsKept (state g old) (state g new) → Outcomes (state g old).now (state g new) (λ s. SettlesOn l s (world_in l (state g old))) (λ s. SettlesOn l s (world_in l (state g old))) Ended
  ends_kept is kept = outcome_kept (state g old) (state g new) (λ s. SettlesOn l s (world_in l (state g old))) Ended is kept (λ s again. again)

  pub ends_failed : IsSettled l (state g old) → IsKept (state g old) (state g new) → Outcomes (state g old).now (state g new) (λ _. ⊤) (λ s. SettlesOn l s (world_in l (state g old))) Ended
  ends_failed is kept = outcome_kept (state g old) (state g new) (λ _. ⊤) Ended is kept (λ s again. tt)

  module _ (mid : Held S) (link : BlobLink) (settled : IsSettled l (state g old)) (stays : StaysSettled l (state g old) (state g mid)) (found : Some link ≡ known_link (held l (state g old)) name number digest) where
    ends_left : (Told Told' : State → Type 0) → ((s : State) → Told s → Told' s) → Outcomes (state g mid).now (state g new) Told (λ s. SettlesOn l s (world_in l (state g mid))) (λ s. SettlesOn l s (finish_as_is (world_in l (state g mid)) name number digest))
        → Outcomes (state g old).now (state g new) Told' (λ s. SettlesOn l s (world_in l (state g old))) Ended
    ends_left Told Told' told crash db may =
        let known = known_is (held l (state g old)) name number (registry (state g old) settled) digest link found in
        let so = matches_it (world_in l (state g old)) name number digest known.bytes known.session known.matching in
        let out = outcome_then (state g old) (state g mid) (state g new) (λ w. finish_as_is w name number digest) Told Told' stays told crash db may in
        (out.0, elim out.1 [ inl same ↦ inl same | inr it ↦ inr (so, it) ])

    pub ends_done : Outcomes (state g mid).now (state g new) (λ s. SettlesOn l s (finish_as_is (world_in l (state g mid)) name number digest)) (λ s. SettlesOn l s (world_in l (state g mid))) (λ s. SettlesOn l s (finish_as_is (world_in l (state g mid)) name number digest))
        → Outcomes (state g old).now (state g new) (λ s. SettlesOn l s (finish_as_is (world_in l (state g old)) name number digest)) (λ s. SettlesOn l s (world_in l (state g old))) Ended
    ends_done crash =
        ends_left (λ s. SettlesOn l s (finish_as_is (world_in l (state g mid)) name number digest)) (λ s. SettlesOn l s (finish_as_is (world_in l (state g old)) name number digest))
        (λ s it. subst (λ (w : World). SettlesOn l s (finish_as_is w name number digest)) (same_world (state g old) (state g mid) stays) it) crash

    pub ends_undone : Outcomes (state g mid).now (state g new) (λ _. ⊤) (λ s. SettlesOn l s (world_in l (state g mid))) (λ s. SettlesOn l s (finish_as_is (world_in l (state g mid)) name number digest))
        → Outcomes (state g old).now (state g new) (λ _. ⊤) (λ s. SettlesOn l s (world_in l (state g old))) Ended
    ends_undone crash = ends_left (λ _. ⊤) (λ _. ⊤) (λ s it. tt) crash

-- and what it tells
pub end_told : {l : Layout} → (old mid : State) (name : Text) (number : ℕ) (digest : Text) (link : BlobLink) (came : Bool) → IsSettled l old → StaysSettled l old mid → Some link ≡ known_link (held l old) name number digest → came ≡ is_none (blob_at (world_in l mid) name digest)
    → (session_size_at (world_in l old) name number ≡ Some link.size) × (came ≡ is_none (blob_at (world_in l old) name digest))
end_told {l} old mid name number digest link came settled stays found told =
    let known = known_is (held l old) name number (registry old settled) digest link found in
    (ap (option_map length) known.session ∙ ap Some (sym known.size), told ∙ ap (λ w. is_none (blob_at w name digest)) (same_world old mid stays))

-- ---- an answer to a change that was made

pub came_so : {A P Q : Type 0} (made : Result A Fault) (came : Bool) (r : Result Bool Fault) → MatchResult made (λ _. r ≡ Ok came) (λ fault. r ≡ Err fault) → (P → Q) → OnOk made P → OnOk r Q
came_so {Q = Q} (Ok x) came r is f p = subst (λ q. OnOk q Q) (sym is) (f p)
came_so {Q = Q} (Err fault) came r is f p = subst (λ q. OnOk q Q) (sym is) tt

pub came_told : {A : Type 0} (made : Result A Fault) (came is_new : Bool) (r : Result Bool Fault) → MatchResult made (λ _. r ≡ Ok came) (λ fault. r ≡ Err fault) → came ≡ is_new → IfOk r (λ b. b ≡ is_new)
came_told (Ok x) came is_new r is e = subst (λ q. IfOk q (λ b. b ≡ is_new)) (sym is) e
came_told (Err fault) came is_new r is e = subst (λ q. IfOk q (λ b. b ≡ is_new)) (sym is) tt

-- this is so of the answer
pub came_by : {A P : Type 0} (Q : Bool → Type 0) (made : Result A Fault) (came : Bool) (r : Result Bool Fault) → MatchResult made (λ _. r ≡ Ok came) (λ fault. r ≡ Err fault) → (P → Q came) → OnOk made P → IfOk r Q
came_by Q (Ok x) came r is f p = subst (λ q. IfOk q Q) (sym is) (f p)
came_by Q (Err fault) came r is f p = subst (λ q. IfOk q Q) (sym is) tt

pub came_back : {A : Type 0} (P : Type 0) (made : Result A Fault) (came : Bool) (r : Result Bool Fault) → MatchResult made (λ _. r ≡ Ok came) (λ fault. r ≡ Err fault) → OnErr made P → OnErr r P
came_back P (Ok x) came r is p = subst (λ q. OnErr q P) (sym is) tt
came_back P (Err fault) came r is p = subst (λ q. OnErr q P) (sym is) p

pub came_memory : {A : Type 0} (made : Result A Fault) (came : Bool) (r : Result Bool Fault) → MatchResult made (λ _. r ≡ Ok came) (λ fault. r ≡ Err fault) → r ≡ Err Memory → made ≡ Err Memory
came_memory (Ok x) came r is e = absurd (not_refused (sym is ∙ e))
  where
    not_refused : ◌≡◌ {A = Result Bool Fault} (Ok came) (Err Memory) → ⊥
    not_refused h = absurd cc
came_memory {A = A} (Err fault) came r is e = same (sym is ∙ e)
  where
    same : ◌≡◌ {A = Result Bool Fault} (Err fault) (Err Memory) → ◌≡◌ {A = Result A Fault} (Err fault) (Err Memory)
    same h = cc

-- ---- a step of the tables, and then one that is said of them

pub ended_if : (l : Layout) → {A E : Type 0} (t : Tables) (mid new : State) (name : Text) (number : ℕ) (digest : Text) (link : BlobLink) (r : Result A E) → held l mid ≡ sessions_without (of_session name number) t → OnOk r (BlobComes l mid new (blob_columns name digest link.size link.content.id))
    → OnOk r (IsReady l new × WholeEnds t (held l new) name number digest link)
ended_if l t mid new name number digest link (Ok x) e h = (h.ready, subst (λ (s : Tables). LinkIsPut s (held l new) name digest link.size link.content.id) e (link_came mid new name digest link.size link.content.id h))
ended_if l t mid new name number digest link (Err x) e h = tt

-- ---- what was read, of tables that stay

-- what a look-up of a link answers
abbrev pub Found : Type 0
Found = Result (Option BlobLink) Fault

module _ {l : Layout} (old mid : State) (stays : StaysSettled l old mid) (name : Text) (number : ℕ) where
  pub whole_found : (size : ℕ) (r : Found) → Some size ≡ option_map (λ r. natural_at r 3) (find (of_session name number) (held l old).uploads)
      → IfOk r (λ o. o ≡ only_link size (map (content_named 5) (pieces_of (held l mid).pieces name number))) → IfOk r (λ o. o ≡ whole_link (held l old) name number)
  whole_found size (Err e) sized h = tt
  whole_found size (Ok o) sized h =
      let found = some_found (λ r. natural_at r 3) (find (of_session name number) (held l old).uploads) size sized in
      let link : ℕ → Option BlobLink = λ n. only_link n (map (content_named 5) (pieces_of (held l old).pieces name number)) in
      h ∙ ap (λ (t : Tables). only_link size (map (content_named 5) (pieces_of t.pieces name number))) (same_held old mid stays) ∙ ap link found.2
      ∙ sym (ap (λ x. option_and_then (λ r. link (natural_at r 3)) x) found.1)

  pub known_found : (digest : Text) (link : BlobLink) (r : Found) → Some link ≡ whole_link (held l old) name number → IfOk r (λ o. o ≡ if_digest (held l mid) digest link) → IfOk r (λ o. o ≡ known_link (held l old) name number digest)
  known_found digest link (Err e) found h = tt
  known_found digest link (Ok o) found h = h ∙ ap (λ (t : Tables). if_digest t digest link) (same_held old mid stays) ∙ ap (λ x. option_and_then (λ k. if_digest (held l old) digest k) x) found

  -- it is still known
  pub still_known : (digest : Text) (link : BlobLink) → Some link ≡ known_link (held l old) name number digest → Some link ≡ known_link (held l mid) name number digest
  still_known digest link found = found ∙ sym (ap (λ (t : Tables). known_link t name number digest) (same_held old mid stays))

pub no_whole : (t : Tables) (name : Text) (number : ℕ) → None ≡ option_map (λ r. natural_at r 3) (find (of_session name number) t.uploads) → None ≡ whole_link t name number
no_whole t name number e = sym (ap (λ x. option_and_then (λ r. only_link (natural_at r 3) (map (content_named 5) (pieces_of t.pieces name number))) x) (none_found (λ r. natural_at r 3) (find (of_session name number) t.uploads) e))

pub no_known : (t : Tables) (name : Text) (number : ℕ) (digest : Text) → None ≡ whole_link t name number → None ≡ known_link t name number digest
no_known t name number digest e = ap (λ x. option_and_then (λ l. if_digest t digest l) x) e

-- ---- what is made of what was read, where a failure is passed on

pub unspent_before : {A B : Type 0} (f : A → B) (read : Result A Fault) (r : Result B Fault) → MatchResult read (λ v. r ≡ Ok (f v)) (λ e. r ≡ Err e) → is_storage r ≡ false → is_storage read ≡ false
unspent_before f (Ok v) r is e = refl
unspent_before f (Err Memory) r is e = refl
unspent_before f (Err Storage) r is e = absurd (true≢false (subst (λ x. is_storage x ≡ false) is e))

pub piece_made : (size : ℕ) (ids : List ContentId) (read : Result (Vec ContentId Global) Fault) (r : Found) → MatchResult read (λ xs. r ≡ Ok (only_link size xs.items)) (λ e. r ≡ Err e)
    → IfOk read (λ xs. xs.items ≡ ids) → IfOk r (λ o. o ≡ only_link size ids)
piece_made size ids (Ok xs) r is e = subst (λ x. IfOk x (λ o. o ≡ only_link size ids)) (sym is) (ap (only_link size) e)
piece_made size ids (Err x) r is e = subst (λ x. IfOk x (λ o. o ≡ only_link size ids)) (sym is) tt

pub digest_made : (t : Tables) (digest : Text) (link : BlobLink) (read : Result Bool Fault) (r : Found) → MatchResult read (λ so. r ≡ Ok (cond so (Some link) None)) (λ e. r ≡ Err e)
    → IfOk read (λ so. so ≡ has_sha256_digest (t.contents link.content.id) digest) → IfOk r (λ o. o ≡ if_digest t digest link)
digest_made t digest link (Ok so) r is e = subst (λ x. IfOk x (λ o. o ≡ if_digest t digest link)) (sym is) (ap (λ b. cond b (Some link) None) e)
digest_made t digest link (Err x) r is e = subst (λ x. IfOk x (λ o. o ≡ if_digest t digest link)) (sym is) tt
