-- What a call of the keeper tells, once a failure of the storage is noted.
use Rattle.std.proofs.Common.{◌≡◌, ◌∙◌, Bool, true, false, true≢false, Ok, Err, Result, OnOk, IfOk, sym, subst, refl}
use Rattle.std.specs.Prelude.{◌||◌, ⊤}
use Rattle.sqlite_trees.specs.declared.store.Store.{Ghosts}
use Rattle.sqlite.specs.Held.{Held}
use Rattle.oci_types.specs.declared.fault.Fault.{Fault}
use Rattle.oci_types.specs.declared.fault.Fault.TheVariants.{Memory, Storage}
use Rattle.registry_model.specs.World.{World}
use Rattle.registry_model.specs.Keeping as keeping
use Rattle.registry_model.specs.Keeping.{nothing_held, ReadsBy, ReadsSo, Writes, WritesBy, Spends}
use Rattle.store_bytes.specs.declared.contents.Contents as contents
use Rattle.store_statements.specs.Held.{is_storage}
use Rattle.registry_store.specs.Kept.{Both, Kept, IsClean, IsHonest, IsInOrder, both, shown, world_at}
use Rattle.registry_store.specs.Calls.{CrashLeaves, Leaves, Makes, Stays, StaysOnMemory, Tells}
use Rattle.registry_store.specs.KeptWrites.{IsOneWrite, WritesOnce, WritesOnceBy}
use Rattle.registry_store.specs.declared.known_usages.KnownUsages.{KnownUsages}
use Rattle.registry_store.specs.Usages.{Knows}
use Rattle.registry_store.proofs.KeeperStates.{found, found_so, shows, stood, wrote}

-- nothing was noted
pub unfailed : (failed spent later : Bool) → later ≡ (failed || spent) → later ≡ false → failed ≡ false
unfailed false spent later is sound = refl
unfailed true spent later is sound = absurd (true≢false (sym is ∙ sound))

-- it made it, whatever it tells
pub made : {A : Type 0} (P : A → Type 0) (Q : Type 0) (answer : Result A Fault) → IfOk answer (λ v. P v × Q) → OnOk answer Q
made P Q (Ok v) it = it.1
made P Q (Err e) it = tt

module _ {S C : Type 0} (g : Ghosts S) (c : contents.Ghosts C) (conn : Held S) (kept : C) (old : Kept S C) (spent : Bool) (is : ◌≡◌ {A = Kept S C} (record { conn = conn; contents = kept; spent = spent }) old) (new : Both S C) where
  abbrev was : World
  was = world_at g c (conn, kept)

  abbrev before : keeping.Kept
  before = shown g c old

  abbrev after : Bool → keeping.Kept
  after later = shows g c new later

  -- in order after it, unless the storage failed, with the same world
  abbrev Same : {A : Type 0} → Result A Fault → Type 0
  Same answer = is_storage answer ≡ false → IsInOrder g c new × (world_at g c new ≡ was)

  abbrev SameOnMemory : {A : Type 0} → Result A Fault → Type 0
  SameOnMemory answer = answer ≡ Err Memory → IsInOrder g c new × (world_at g c new ≡ was)

  read : {A B : Type 0} (show : A → B) (look : World → B) (answer : Result A Fault) (later : Bool) → later ≡ (is_storage answer || spent)
      → IfOk answer (λ v. show v ≡ look was) → Same answer → ReadsBy show answer (look before.world) before (after later)
  read show look (Ok v) later notes finds stays =
      (found g c conn kept old spent is look (show v) finds, subst (λ b. ◌≡◌ {A = keeping.Kept} (after b) before) (sym notes) (stood g c conn kept old spent is new (stays refl).1))
  read show look (Err Memory) later notes finds stays = subst (λ b. ◌≡◌ {A = keeping.Kept} (after b) before) (sym notes) (stood g c conn kept old spent is new (stays refl).1)
  read show look (Err Storage) later notes finds stays = tt

  -- a read tells what it found
  pub read_told : {A B : Type 0} (show : A → B) (look : World → B) (r answer : Result A Fault) (later : Bool) → r ≡ answer → later ≡ (is_storage answer || spent)
      → IfOk answer (λ v. show v ≡ look was) → Same answer → ReadsBy show r (look before.world) before (after later)
  read_told show look r answer later same notes finds stays = subst (λ x. ReadsBy show x (look before.world) before (after later)) (sym same) (read show look answer later notes finds stays)

  read_so : {A : Type 0} (P : World → A → Type 0) (answer : Result A Fault) (later : Bool) → later ≡ (is_storage answer || spent)
      → IfOk answer (P was) → Same answer → ReadsSo (P before.world) answer before (after later)
  read_so P (Ok v) later notes finds stays =
      (found_so g c conn kept old spent is P v finds, subst (λ b. ◌≡◌ {A = keeping.Kept} (after b) before) (sym notes) (stood g c conn kept old spent is new (stays refl).1))
  read_so P (Err Memory) later notes finds stays = subst (λ b. ◌≡◌ {A = keeping.Kept} (after b) before) (sym notes) (stood g c conn kept old spent is new (stays refl).1)
  read_so P (Err Storage) later notes finds stays = tt

  -- a read tells a value of which something is so
  pub read_so_told : {A : Type 0} (P : World → A → Type 0) (r answer : Result A Fault) (later : Bool) → r ≡ answer → later ≡ (is_storage answer || spent)
      → IfOk answer (P was) → Same answer → ReadsSo (P before.world) r before (after later)
  read_so_told P r answer later same notes finds stays = subst (λ x. ReadsSo (P before.world) x before (after later)) (sym same) (read_so P answer later notes finds stays)

  write : {A : Type 0} (change : World → World) (answer : Result A Fault) (later : Bool) → spent ≡ false → later ≡ (is_storage answer || spent)
      → OnOk answer (IsInOrder g c new × (world_at g c new ≡ change was)) → SameOnMemory answer → Writes answer (change before.world) before (after later)
  write change (Ok v) later unspent notes makes stays =
      subst (λ b. ◌≡◌ {A = keeping.Kept} (after b) (record { world = change before.world; spent = false; held = nothing_held })) (sym notes) (wrote g c conn kept old spent is new change unspent makes.1)
  write change (Err Memory) later unspent notes makes stays = subst (λ b. ◌≡◌ {A = keeping.Kept} (after b) before) (sym notes) (stood g c conn kept old spent is new (stays refl).1)
  write change (Err Storage) later unspent notes makes stays = tt

  -- a write made its change, or none
  pub write_told : {A : Type 0} (change : World → World) (r answer : Result A Fault) (later : Bool) → spent ≡ false → r ≡ answer → later ≡ (is_storage answer || spent)
      → OnOk answer (IsInOrder g c new × (world_at g c new ≡ change was)) → SameOnMemory answer → Writes r (change before.world) before (after later)
  write_told change r answer later unspent same notes makes stays = subst (λ x. Writes x (change before.world) before (after later)) (sym same) (write change answer later unspent notes makes stays)

  -- what a write did to both
  pub did_told : {A : Type 0} (P : Both S C → Both S C → Type 0) (r answer : Result A Fault) → r ≡ answer → OnOk answer (P (conn, kept) new) → OnOk r (P (both old) new)
  did_told P r answer same h = subst (λ x. OnOk x (P (both old) new)) (sym same) (subst (λ (k : Kept S C). OnOk answer (P (both k) new)) is h)

  numbered : {A : Type 0} (look : World → A) (change : World → World) (answer : Result A Fault) (later : Bool) → spent ≡ false → later ≡ (is_storage answer || spent)
      → IfOk answer (λ v. (v ≡ look was) × (IsInOrder g c new × (world_at g c new ≡ change was))) → SameOnMemory answer
      → WritesBy (λ v. v) answer (look before.world) (change before.world) before (after later)
  numbered look change (Ok v) later unspent notes makes stays = (
    found g c conn kept old spent is look v makes.0,
    subst (λ b. ◌≡◌ {A = keeping.Kept} (after b) (record { world = change before.world; spent = false; held = nothing_held })) (sym notes) (wrote g c conn kept old spent is new change unspent makes.1.1),
  )
  numbered look change (Err Memory) later unspent notes makes stays = subst (λ b. ◌≡◌ {A = keeping.Kept} (after b) before) (sym notes) (stood g c conn kept old spent is new (stays refl).1)
  numbered look change (Err Storage) later unspent notes makes stays = tt

  -- a write made its change and tells a value, or made none
  pub numbered_told : {A : Type 0} (look : World → A) (change : World → World) (r answer : Result A Fault) (later : Bool) → spent ≡ false → r ≡ answer → later ≡ (is_storage answer || spent)
      → IfOk answer (λ v. (v ≡ look was) × (IsInOrder g c new × (world_at g c new ≡ change was))) → SameOnMemory answer
      → WritesBy (λ v. v) r (look before.world) (change before.world) before (after later)
  numbered_told look change r answer later unspent same notes makes stays =
      subst (λ x. WritesBy (λ v. v) x (look before.world) (change before.world) before (after later)) (sym same) (numbered look change answer later unspent notes makes stays)

-- ---- a call of a keeper

module _ {S C : Type 0} (g : Ghosts S) (c : contents.Ghosts C) (ours : Bool) (conn : Held S) (kept : C) (old : Kept S C) (spent : Bool) (is : ◌≡◌ {A = Kept S C} (record { conn = conn; contents = kept; spent = spent }) old) where
  abbrev here : Both S C
  here = (conn, kept)

  -- what was honest is so still where nothing was asked
  pub same_honest : IsHonest g c ours (record { conn = conn; contents = kept; spent = spent }) → IsHonest g c ours old
  same_honest h = subst (λ (k : Kept S C). IsHonest g c ours k) is h

  -- and what was spent is so
  pub still_spent : spent ≡ true → old.spent ≡ true
  still_spent e = subst (λ (k : Kept S C). k.spent ≡ true) is e

  -- one that was spent is not touched
  pub nothing_once : {A Left : Type 0} → spent ≡ true → IsOneWrite g c ours old old {A = A} (Err Storage) ⊤ Left
  nothing_once e = record {
    made = λ h. tt;
    spends = still_spent e;
    honest = λ h. h;
    crash = λ h unspent. absurd (true≢false (sym (still_spent e) ∙ unspent));
    idle = λ _. refl;
  }

  module _ (known : KnownUsages) (holds : spent ≡ false → ours ≡ true → IsClean g c here → IsInOrder g c here × Knows known (world_at g c here))
      (unspent : spent ≡ false) (new : Both S C) (early : IsClean g c new → IsClean g c here) where
    abbrev behind : Bool → Kept S C
    behind later = record { conn = new.0; contents = new.1; spent = later }

    -- what is honest behind the call was so before
    pub was_honest : (later : Bool) → IsHonest g c ours (behind later) → IsHonest g c ours old
    was_honest later h = same_honest (early h.0, h.1)

    was_sound : ours ≡ true → IsClean g c new → IsInOrder g c here × Knows known (world_at g c here)
    was_sound is_ours clean = holds unspent is_ours (early clean)

    module _ {A : Type 0} (r answer : Result A Fault) (later : Bool) (same : r ≡ answer) (notes : later ≡ (is_storage answer || spent)) where
      spends : (x : Result A Fault) → later ≡ (is_storage x || spent) → old.spent ≡ false → Spends x (shown g c old) (shows g c new later)
      spends (Ok v) e unspent_before = (unspent_before, e ∙ unspent)
      spends (Err Memory) e unspent_before = (unspent_before, e ∙ unspent)
      spends (Err Storage) e unspent_before = e

      was_unspent : old.spent ≡ false
      was_unspent = subst (λ (k : Kept S C). k.spent ≡ false) is unspent

      pub spends_told : Spends r (shown g c old) (shows g c new later)
      spends_told = subst (λ x. Spends x (shown g c old) (shows g c new later)) (sym same) (spends answer notes was_unspent)

      sound : later ≡ false → is_storage answer ≡ false
      sound e = unfailed (is_storage answer) spent later notes e

      -- after a call the store is as sound as before
      pub call_holds : (next : KnownUsages) → (ours ≡ true → IsClean g c new → IsInOrder g c here → is_storage answer ≡ false → IsInOrder g c new)
          → (ours ≡ true → Knows known (world_at g c here) → IsClean g c new → IsInOrder g c here → is_storage answer ≡ false → Knows next (world_at g c new))
          → later ≡ false → ours ≡ true → IsClean g c new → IsInOrder g c new × Knows next (world_at g c new)
      call_holds next settled keeps e is_ours clean = by (was_sound is_ours clean) (sound e)
        where
          by : IsInOrder g c here × Knows known (world_at g c here) → is_storage answer ≡ false → IsInOrder g c new × Knows next (world_at g c new)
          by it s = (settled is_ours clean it.0 s, keeps is_ours it.1 clean it.0 s)

      pub read_holds : Stays g c here new answer → later ≡ false → ours ≡ true → IsClean g c new → IsInOrder g c new × Knows known (world_at g c new)
      read_holds stays e is_ours clean = by (was_sound is_ours clean)
        where
          by : IsInOrder g c here × Knows known (world_at g c here) → IsInOrder g c new × Knows known (world_at g c new)
          by it = let then = stays clean it.0 (sound e) in (then.0, subst (Knows known) (sym then.1) it.1)

      in_order : (x : Result A Fault) (P : Type 0) → is_storage x ≡ false → OnOk x (IsInOrder g c new × P) → (x ≡ Err Memory → IsInOrder g c new × (world_at g c new ≡ world_at g c here)) → IsInOrder g c new
      in_order (Ok v) P s makes stays = makes.0
      in_order (Err Memory) P s makes stays = (stays refl).0
      in_order (Err Storage) P s makes stays = absurd (true≢false s)

      pub write_holds : (next : KnownUsages) (change : World → World) → (ours ≡ true → Makes g c here new answer change) → (ours ≡ true → StaysOnMemory g c here new answer)
          → (ours ≡ true → Knows known (world_at g c here) → IsClean g c new → IsInOrder g c here → is_storage answer ≡ false → Knows next (world_at g c new))
          → later ≡ false → ours ≡ true → IsClean g c new → IsInOrder g c new × Knows next (world_at g c new)
      write_holds next change makes wanting =
          call_holds next (λ is_ours clean it s. in_order answer (world_at g c new ≡ change (world_at g c here)) s (makes is_ours clean it) (wanting is_ours clean it))

      untouched : (change : World → World) (x : Result A Fault) → Knows known (world_at g c here) → Knows known (change (world_at g c here)) → is_storage x ≡ false
          → OnOk x (IsInOrder g c new × (world_at g c new ≡ change (world_at g c here))) → (x ≡ Err Memory → IsInOrder g c new × (world_at g c new ≡ world_at g c here)) → Knows known (world_at g c new)
      untouched change (Ok v) k l s makes stays = subst (Knows known) (sym makes.1) l
      untouched change (Err Memory) k l s makes stays = subst (Knows known) (sym (stays refl).1) k
      untouched change (Err Storage) k l s makes stays = absurd (true≢false s)

      -- after a write to no repository
      pub untouched_holds : (change : World → World) → (ours ≡ true → Makes g c here new answer change) → (ours ≡ true → StaysOnMemory g c here new answer)
          → (Knows known (world_at g c here) → Knows known (change (world_at g c here)))
          → later ≡ false → ours ≡ true → IsClean g c new → IsInOrder g c new × Knows known (world_at g c new)
      untouched_holds change makes wanting same_usages =
          write_holds known change makes wanting (λ is_ours k clean it s. untouched change answer k (same_usages k) s (makes is_ours clean it) (wanting is_ours clean it))

      -- after a write that tells a value
      pub numbered_holds : (next : KnownUsages) (look : World → A) (change : World → World)
          → (IsClean g c new → IsInOrder g c here → IfOk answer (λ v. (v ≡ look (world_at g c here)) × (IsInOrder g c new × (world_at g c new ≡ change (world_at g c here)))))
          → StaysOnMemory g c here new answer → (ours ≡ true → Knows known (world_at g c here) → IsClean g c new → IsInOrder g c here → is_storage answer ≡ false → Knows next (world_at g c new))
          → later ≡ false → ours ≡ true → IsClean g c new → IsInOrder g c new × Knows next (world_at g c new)
      numbered_holds next look change makes wanting =
          write_holds next change
          (λ _ clean it. made (λ v. v ≡ look (world_at g c here)) (IsInOrder g c new × (world_at g c new ≡ change (world_at g c here))) answer (makes clean it)) (λ _. wanting)

      -- ---- and what it says

      pub was_settled : IsHonest g c ours (behind later) → IsInOrder g c here
      was_settled h = (was_sound h.1 h.0).0

      pub read_says : {B : Type 0} (show : A → B) (look : World → B) → (ours ≡ true → Tells g c here new answer (λ w v. show v ≡ look w)) → Stays g c here new answer → IsHonest g c ours (behind later)
          → ReadsBy show r (look (world_at g c (both old))) (shown g c old) (shows g c new later)
      read_says show look finds stays h = by (was_settled h)
        where
          by : IsInOrder g c here → ReadsBy show r (look (world_at g c (both old))) (shown g c old) (shows g c new later)
          by it = read_told g c conn kept old spent is new show look r answer later same notes (finds h.1 h.0 it) (stays h.0 it)

      pub write_says : (change : World → World) → (ours ≡ true → Makes g c here new answer change) → (ours ≡ true → StaysOnMemory g c here new answer) → IsHonest g c ours (behind later)
          → Writes r (change (world_at g c (both old))) (shown g c old) (shows g c new later)
      write_says change makes wanting h = by (was_settled h)
        where
          by : IsInOrder g c here → Writes r (change (world_at g c (both old))) (shown g c old) (shows g c new later)
          by it = write_told g c conn kept old spent is new change r answer later unspent same notes (makes h.1 h.0 it) (wanting h.1 h.0 it)

      pub read_so_says : (P : World → A → Type 0) → Tells g c here new answer P → Stays g c here new answer → IsHonest g c ours (behind later)
          → ReadsSo (P (world_at g c (both old))) r (shown g c old) (shows g c new later)
      read_so_says P finds stays h = by (was_settled h)
        where
          by : IsInOrder g c here → ReadsSo (P (world_at g c (both old))) r (shown g c old) (shows g c new later)
          by it = read_so_told g c conn kept old spent is new P r answer later same notes (finds h.0 it) (stays h.0 it)

      pub numbered_says : (look : World → A) (change : World → World)
          → (IsClean g c new → IsInOrder g c here → IfOk answer (λ v. (v ≡ look (world_at g c here)) × (IsInOrder g c new × (world_at g c new ≡ change (world_at g c here)))))
          → StaysOnMemory g c here new answer → IsHonest g c ours (behind later)
          → WritesBy (λ v. v) r (look (world_at g c (both old))) (change (world_at g c (both old))) (shown g c old) (shows g c new later)
      numbered_says look change makes wanting h = by (was_settled h)
        where
          by : IsInOrder g c here → WritesBy (λ v. v) r (look (world_at g c (both old))) (change (world_at g c (both old))) (shown g c old) (shows g c new later)
          by it = numbered_told g c conn kept old spent is new look change r answer later unspent same notes (makes h.0 it) (wanting h.0 it)

      -- ---- a write that is one transaction

      pub one_write : {Made Left : Type 0} → (IsHonest g c ours (behind later) → Made) → (IsHonest g c ours (behind later) → Left) → IsOneWrite g c ours old (behind later) r Made Left
      one_write says left = record {
        made = says;
        spends = spends_told;
        honest = was_honest later;
        crash = λ h _. left h;
        idle = λ e. absurd (true≢false (sym e ∙ was_unspent));
      }

      left_told : (change : World → World) → (ours ≡ true → CrashLeaves g c here new answer change) → IsHonest g c ours (behind later) → Leaves g c (both old) new r change
      left_told change crash h = by (was_settled h)
        where
          by : IsInOrder g c here → Leaves g c (both old) new r change
          by it = subst (λ x. Leaves g c (both old) new x change) (sym same) (subst (λ (k : Kept S C). Leaves g c (both k) new answer change) is (crash h.1 h.0 it))

      pub writes_once : (change : World → World) → (ours ≡ true → Makes g c here new answer change) → (ours ≡ true → StaysOnMemory g c here new answer) → (ours ≡ true → CrashLeaves g c here new answer change)
          → WritesOnce g c ours old (behind later) r change
      writes_once change makes wanting crash = one_write (write_says change makes wanting) (left_told change crash)

      pub numbers_once : (look : World → A) (change : World → World)
          → (IsClean g c new → IsInOrder g c here → IfOk answer (λ v. (v ≡ look (world_at g c here)) × (IsInOrder g c new × (world_at g c new ≡ change (world_at g c here)))))
          → StaysOnMemory g c here new answer → CrashLeaves g c here new answer change → WritesOnceBy g c ours old (behind later) r look change
      numbers_once look change makes wanting crash = one_write (numbered_says look change makes wanting) (left_told change (λ _. crash))
