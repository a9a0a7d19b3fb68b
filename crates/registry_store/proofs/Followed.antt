-- What is known of usages behind a write, and what a write tells whose change was looked up before.
use Rattle.std.proofs.Common.{◌≡◌, ◌≢◌, ◌+◌, ◌++◌, ℕ, arith, is_some, true, false, None, Some, Ok, Err, Result, OnOk, OnErr, ap, sym, subst, refl}
use Rattle.std.specs.Prelude.{Option, IfOk, IfSome}
use Rattle.std.specs.FinMap.{get}
use Rattle.sqlite_trees.specs.declared.store.Store.{Ghosts}
use Rattle.sqlite.specs.State as sqlite
use Rattle.sqlite.specs.State.{HasCleanDisk}
use Rattle.sqlite.specs.Held.{Held, state}
use Rattle.oci_types.specs.Text.{Text}
use Rattle.oci_types.specs.declared.fault.Fault.{Fault}
use Rattle.oci_types.specs.declared.fault.Fault.TheVariants.{Memory}
use Rattle.registry_model.specs.World.{Repo, World, repo_at, has_repo, update_repo}
use Rattle.registry_model.specs.Sessions.{opened, appended}
use Rattle.registry_model.specs.Lookups.{append, bytes_or_none, last_number_at, open_session, session_at}
use Rattle.store_contents.specs.Layouts.{Layout}
use Rattle.store_reads.proofs.WorldReads.{no_session}
use Rattle.store_statements.specs.Tables.{Tables}
use Rattle.store_statements.specs.Held.{IsSettled, StaysSettled, SettlesOn, is_storage, held, tables_in, world_in}
use Rattle.store_statements.specs.Between.{CrashLeaves, RelatesBy, Stays, Tells, StaysOnMemory, MakesWorld}
use Rattle.store_statements.specs.Clauses.{Lasts, WorldHas}
use Rattle.store_statements.proofs.Crashes.{crash_then}
use Rattle.store_statements.proofs.SettledAfter.{stays_then}
use Rattle.store_statements.proofs.Transactions.{registry}
use Rattle.store_reads.specs.declared.usage_change.Change.{Change}
use Rattle.registry_store.specs.declared.known_usages.KnownUsages.{KnownUsages}
use Rattle.store_reads.specs.Usages.{Foretells}
use Rattle.registry_store.specs.Outcomes.{RowsLeave}
use Rattle.registry_store.specs.Usages.{known_at, Knows, IsKnown, StaysKnown, Sets, IsNext}
use Rattle.store_reads.proofs.CleanBefore.{was_clean}
use Rattle.store_reads.proofs.Foretold.{earlier, later, session_has_repo}
use Rattle.registry_store.proofs.KnownWorlds.{follows, unfollowed, forgets}
use Rattle.registry_store.proofs.KeeperAnswers.{made}

-- what is known, whether the write was made or not
pub follows_made : {A : Type 0} (l : Layout) (known knew : KnownUsages) (before after : sqlite.State) (name : Text) (f : Repo → Repo) (change : Option Change) (answer : Result A Fault)
    → Knows known (world_in l before) → has_repo (world_in l before) name ≡ true → IfSome change (Foretells (world_in l before) name f)
    → OnOk answer (Sets known knew name (IsNext (known_at known name) change)) → OnErr answer (knew ≡ known) → is_storage answer ≡ false
    → OnOk answer (SettlesOn l after (update_repo (world_in l before) name f (repo_at (world_in l before) name))) → (answer ≡ Err Memory → StaysSettled l before after) → Knows knew (world_in l after)
follows_made l known knew before after name f change (Ok v) knows there told sets kept sound made stays = follows l known knew after (world_in l before) name f change knows there told sets made.1
follows_made l known knew before after name f change (Err fault) knows there told sets kept sound made stays =
    subst (λ k. Knows k (world_in l after)) (sym kept) (unfollowed l known before after fault knows sound stays)

-- behind a write to a repository of which nothing is known any more
pub forgotten : {S A : Type 0} (g : Ghosts S) (l : Layout) (old new : Held S) (known knew : KnownUsages) (name : Text) (f : World → World) (answer : Result A Fault) → Lasts g old new → Sets known knew name (λ _. ⊥)
    → ((w : World) (q : Text) → q ≢ name → repo_at (f w) q ≡ repo_at w q) → MakesWorld g l old new answer f → StaysOnMemory g l old new answer → IsKnown g l old known → StaysKnown g l old new knew answer
forgotten g l old new known knew name f answer wrote sets beside made memory knows clean is sound =
    forgets l known knew (state g old) (state g new) name f answer (knows (was_clean (state g old) (state g new) wrote clean)) sets (beside (world_in l (state g old))) sound (made clean is) (memory clean is)

-- behind a session that was opened
pub opened_known : {S : Type 0} (g : Ghosts S) (l : Layout) (old new : Held S) (known knew : KnownUsages) (name : Text) (change : Change) (answer : Result ℕ Fault) → Lasts g old new
    → ((w : World) → session_at w name (last_number_at w name + 1) ≡ None → Foretells w name opened change) → WorldHas g l old (λ w. has_repo w name ≡ true)
    → OnOk answer (Sets known knew name (IsNext (known_at known name) (Some change))) → OnErr answer (knew ≡ known)
    → (HasCleanDisk (state g new) → IsSettled l (state g old) → IfOk answer (λ n. (n ≡ last_number_at (world_in l (state g old)) name + 1) × SettlesOn l (state g new) (open_session (world_in l (state g old)) name)))
    → StaysOnMemory g l old new answer → IsKnown g l old known → StaysKnown g l old new knew answer
opened_known g l old new known knew name change answer wrote foretold there sets kept opens memory knows clean is sound =
    let w = world_in l (state g old) in
    let early : HasCleanDisk (state g old) = was_clean (state g old) (state g new) wrote clean in
    let last = last_number_at w name in
    let none : session_at w name (last + 1) ≡ None = no_session (held l (state g old)) name (last + 1) last (registry (state g old) is) refl (omega arith) in
    follows_made l known knew (state g old) (state g new) name opened (Some change) answer (knows early) (there early) (foretold w none) sets kept sound
    (made (λ n. n ≡ last + 1) (SettlesOn l (state g new) (open_session w name)) answer (opens clean is)) (memory clean is)

-- behind one that became longer
pub longer_known : {S A : Type 0} (g : Ghosts S) (l : Layout) (old new : Held S) (known knew : KnownUsages) (name : Text) (number : ℕ) (bytes : Text) (change : Change) (answer : Result A Fault) → Lasts g old new
    → ((w : World) → is_some (session_at w name number) ≡ true → Foretells w name (λ r. appended r number (bytes_or_none (get r.sessions number) ++ bytes)) change)
    → WorldHas g l old (λ w. is_some (session_at w name number) ≡ true)
    → OnOk answer (Sets known knew name (IsNext (known_at known name) (Some change))) → OnErr answer (knew ≡ known)
    → (WorldHas g l old (λ w. is_some (session_at w name number) ≡ true) → MakesWorld g l old new answer (λ w. append w name number bytes))
    → StaysOnMemory g l old new answer → IsKnown g l old known → StaysKnown g l old new knew answer
longer_known g l old new known knew name number bytes change answer wrote foretold is_open sets kept makes memory knows clean is sound =
    let w = world_in l (state g old) in
    let early : HasCleanDisk (state g old) = was_clean (state g old) (state g new) wrote clean in
    follows_made l known knew (state g old) (state g new) name (λ (r : Repo). appended r number (bytes_or_none (get r.sessions number) ++ bytes)) (Some change) answer (knows early)
    (session_has_repo w name number (is_open early)) (foretold w (is_open early)) sets kept sound (makes is_open clean is) (memory clean is)

module _ {S : Type 0} (g : Ghosts S) (l : Layout) (old mid new : Held S) (told : Result (Option Change) Fault) (change : Option Change) (is_told : told ≡ Ok change)
    (looked : Lasts g old mid) (stays : Stays g l old mid told) (wrote : Lasts g mid new) where
  -- the look-up changed nothing
  pub looked_up : HasCleanDisk (state g new) → IsSettled l (state g old) → StaysSettled l (state g old) (state g mid)
  looked_up clean is = stays (was_clean (state g mid) (state g new) wrote clean) is (ap is_storage is_told)

  has_then : (P : World → Type 0) → WorldHas g l old P → IsSettled l (state g old) → WorldHas g l mid P
  has_then P has is clean =
      later l P (state g old) (state g mid) (stays clean is (ap is_storage is_told)).1 (has (was_clean (state g old) (state g mid) looked clean))

  module _ {A : Type 0} (answer : Result A Fault) where
    -- the write made its change of what was there before
    pub made_then : (P : World → Type 0) (f : World → World) → (WorldHas g l mid P → MakesWorld g l mid new answer f) → WorldHas g l old P → MakesWorld g l old new answer f
    made_then P f made has clean is = by (looked_up clean is)
      where
        by : StaysSettled l (state g old) (state g mid) → OnOk answer (SettlesOn l (state g new) (f (world_in l (state g old))))
        by same = earlier l (λ w. OnOk answer (SettlesOn l (state g new) (f w))) (state g old) (state g mid) same.1 (made (has_then P has is) clean same.0)

    -- and what is so of the tables before and after
    pub relates_then : (P : World → Type 0) (Q : A → Tables → Tables → Type 0) → (WorldHas g l mid P → RelatesBy g l mid new answer Q) → WorldHas g l old P → RelatesBy g l old new answer Q
    relates_then P Q relates has clean is = by (looked_up clean is)
      where
        by : StaysSettled l (state g old) (state g mid) → IfOk answer (λ v. Q v (held l (state g old)) (held l (state g new)))
        by same = subst (λ db. IfOk answer (λ v. Q v (tables_in l db) (held l (state g new)))) same.1 (relates (has_then P has is) clean same.0)

    memory_then : StaysOnMemory g l mid new answer → StaysOnMemory g l old new answer
    memory_then memory clean is wanting = by (looked_up clean is)
      where
        by : StaysSettled l (state g old) (state g mid) → StaysSettled l (state g old) (state g new)
        by same = stays_then (state g old) (state g mid) (state g new) same (memory clean same.0 wanting)

    pub memory_where : (P : World → Type 0) → (WorldHas g l mid P → StaysOnMemory g l mid new answer) → WorldHas g l old P → StaysOnMemory g l old new answer
    memory_where P memory has clean is wanting = memory_then (memory (has_then P has is)) clean is wanting

    -- and so does a crash
    pub crash_where : (P : World → Type 0) (f : World → World) → (WorldHas g l mid P → CrashLeaves g l mid new answer f) → WorldHas g l old P → CrashLeaves g l old new answer f
    crash_where P f crash has clean is = by (looked_up clean is)
      where
        by : StaysSettled l (state g old) (state g mid) → RowsLeave l (state g old) (state g new) answer f
        by same = crash_then g old new f mid answer same (crash (has_then P has is) clean same.0)

    pub known_then : (known knew : KnownUsages) (name : Text) (f : World → Repo → Repo) → IsKnown g l old known → WorldHas g l old (λ w. has_repo w name ≡ true)
        → Tells g l old mid told (λ w change. IfSome change (Foretells w name (f w))) → OnOk answer (Sets known knew name (IsNext (known_at known name) change)) → OnErr answer (knew ≡ known)
        → MakesWorld g l old new answer (λ w. update_repo w name (f w) (repo_at w name)) → StaysOnMemory g l old new answer → StaysKnown g l old new knew answer
    known_then known knew name f knows there tells sets kept made memory clean is sound = by (was_clean (state g mid) (state g new) wrote clean)
      where
        by : HasCleanDisk (state g mid) → Knows knew (world_in l (state g new))
        by then =
            follows_made l known knew (state g old) (state g new) name (f (world_in l (state g old))) change answer (knows (was_clean (state g old) (state g mid) looked then))
            (there (was_clean (state g old) (state g mid) looked then)) (subst (λ r. IfOk r (λ o. IfSome o (Foretells (world_in l (state g old)) name (f (world_in l (state g old)))))) is_told (tells then is)) sets kept sound (made clean is) (memory clean is)
