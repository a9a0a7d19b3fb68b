-- What a write tells that is made only where something is so.
use Rattle.std.proofs.Common.{◌≡◌, ℕ, Bool, true, false, true≢false, None, Some, Ok, Err, Result, IfOk, sym, subst, refl}
use Rattle.std.specs.Prelude.{◌||◌, Option, is_some}
use Rattle.std.specs.Option.{option_map_or}
use Rattle.sqlite_trees.specs.declared.store.Store.{Ghosts}
use Rattle.sqlite.specs.Held.{Held}
use Rattle.oci_types.specs.Text.{Text}
use Rattle.oci_types.specs.Digest.{matches}
use Rattle.oci_types.specs.declared.fault.Fault.{Fault}
use Rattle.oci_types.specs.declared.fault.Fault.TheVariants.{Memory, Storage}
use Rattle.registry_model.specs.World.{World}
use Rattle.registry_model.specs.Keeping as keeping
use Rattle.registry_model.specs.Keeping.{nothing_held}
use Rattle.registry_model.specs.Closing.{WritesWhereSo, session_matches}
use Rattle.registry_model.specs.Lookups.{session_at}
use Rattle.store_bytes.specs.declared.contents.Contents as contents
use Rattle.store_statements.specs.Held.{is_storage}
use Rattle.registry_store.specs.Kept.{Both, Kept, IsClean, IsHonest, IsInOrder, both, shown, world_at}
use Rattle.registry_store.specs.Calls.{DoneWhereSo, StaysOnMemory}
use Rattle.registry_store.specs.KeptWrites.{LeavesWhereSo, WritesOnceWhereSo}
use Rattle.registry_store.specs.Usages.{Knows}
use Rattle.registry_store.specs.declared.known_usages.KnownUsages.{KnownUsages}
use Rattle.registry_store.proofs.KeeperAnswers.{one_write, was_settled}
use Rattle.registry_store.proofs.KeeperStates.{found, shows, stood, wrote}

-- it was made of a session that is open
pub was_open : (w : World) (name : Text) (number : ℕ) (digest : Text) → session_matches w name number digest ≡ true → is_some (session_at w name number) ≡ true
was_open w name number digest = by (session_at w name number)
  where
    by : (o : Option Text) → option_map_or (λ bytes. matches digest bytes) o false ≡ true → is_some o ≡ true
    by None so = so
    by (Some bytes) so = refl

module _ {S C : Type 0} (g : Ghosts S) (c : contents.Ghosts C) (conn : Held S) (kept : C) (old : Kept S C) (spent : Bool) (is : ◌≡◌ {A = Kept S C} (record { conn = conn; contents = kept; spent = spent }) old) (new : Both S C) where
  abbrev here : Both S C
  here = (conn, kept)

  -- both are in order, whether it was made or not
  pub in_order_whether : (so : World → Bool) (change : World → World) (answer : Result Bool Fault) → is_storage answer ≡ false → IfOk answer (λ done. DoneWhereSo g c here new done so change)
      → (answer ≡ Err Memory → IsInOrder g c new × (world_at g c new ≡ world_at g c here)) → IsInOrder g c new
  in_order_whether so change (Ok true) sound makes stays = makes.1.0
  in_order_whether so change (Ok false) sound makes stays = makes.0
  in_order_whether so change (Err Memory) sound makes stays = (stays refl).0
  in_order_whether so change (Err Storage) sound makes stays = absurd (true≢false sound)

  whether : (so : World → Bool) (change : World → World) (answer : Result Bool Fault) (later : Bool) → spent ≡ false → later ≡ (is_storage answer || spent)
      → IfOk answer (λ done. DoneWhereSo g c here new done so change) → (answer ≡ Err Memory → IsInOrder g c new × (world_at g c new ≡ world_at g c here))
      → WritesWhereSo answer (so (world_at g c (both old))) (change (world_at g c (both old))) (shown g c old) (shows g c new later)
  whether so change (Ok true) later unspent notes makes stays = (
    sym (found g c conn kept old spent is so true (sym makes.0)),
    subst (λ b. ◌≡◌ {A = keeping.Kept} (shows g c new b) (record { world = change (world_at g c (both old)); spent = false; held = nothing_held })) (sym notes) (wrote g c conn kept old spent is new change unspent makes.1.1),
  )
  whether so change (Ok false) later unspent notes makes stays = subst (λ b. ◌≡◌ {A = keeping.Kept} (shows g c new b) (shown g c old)) (sym notes) (stood g c conn kept old spent is new makes.1)
  whether so change (Err Memory) later unspent notes makes stays = subst (λ b. ◌≡◌ {A = keeping.Kept} (shows g c new b) (shown g c old)) (sym notes) (stood g c conn kept old spent is new (stays refl).1)
  whether so change (Err Storage) later unspent notes makes stays = tt

  -- it was made where this was so, or nothing changed
  pub whether_told : (so : World → Bool) (change : World → World) (r answer : Result Bool Fault) (later : Bool) → spent ≡ false → r ≡ answer → later ≡ (is_storage answer || spent)
      → IfOk answer (λ done. DoneWhereSo g c here new done so change) → (answer ≡ Err Memory → IsInOrder g c new × (world_at g c new ≡ world_at g c here))
      → WritesWhereSo r (so (world_at g c (both old))) (change (world_at g c (both old))) (shown g c old) (shows g c new later)
  whether_told so change r answer later unspent same notes makes stays =
      subst (λ x. WritesWhereSo x (so (world_at g c (both old))) (change (world_at g c (both old))) (shown g c old) (shows g c new later)) (sym same) (whether so change answer later unspent notes makes stays)

-- and by what it says of a crash: it is one transaction
module _ {S C : Type 0} (g : Ghosts S) (c : contents.Ghosts C) (ours : Bool) (conn : Held S) (kept : C) (old : Kept S C) (spent : Bool) (is : ◌≡◌ {A = Kept S C} (record { conn = conn; contents = kept; spent = spent }) old)
    (known : KnownUsages) (holds : spent ≡ false → ours ≡ true → IsClean g c (conn, kept) → IsInOrder g c (conn, kept) × Knows known (world_at g c (conn, kept)))
    (unspent : spent ≡ false) (new : Both S C) (early : IsClean g c new → IsClean g c (conn, kept)) (r answer : Result Bool Fault) (later : Bool) (same : r ≡ answer) (notes : later ≡ (is_storage answer || spent)) where
  pub ends_once : (so : World → Bool) (change : World → World)
      → (IsClean g c new → IsInOrder g c (conn, kept) → IfOk answer (λ done. DoneWhereSo g c (conn, kept) new done so change)) → StaysOnMemory g c (conn, kept) new answer
      → (IsClean g c new → IsInOrder g c (conn, kept) → LeavesWhereSo g c (conn, kept) new answer so change)
      → WritesOnceWhereSo g c ours old (record { conn = new.0; contents = new.1; spent = later }) r so change
  ends_once so change makes wanting crash =
      one_write g c ours conn kept old spent is known holds unspent new early r answer later same notes
      (λ h. whether_told g c conn kept old spent is new so change r answer later unspent same notes (makes h.0 (settled h)) (wanting h.0 (settled h)))
      (λ h. left h.0 (settled h))
    where
      settled : IsHonest g c ours (record { conn = new.0; contents = new.1; spent = later }) → IsInOrder g c (conn, kept)
      settled h = was_settled g c ours conn kept old spent is known holds unspent new early r answer later same notes h

      left : IsClean g c new → IsInOrder g c (conn, kept) → LeavesWhereSo g c (both old) new r so change
      left clean it =
          subst (λ x. LeavesWhereSo g c (both old) new x so change) (sym same)
          (subst (λ (k : Kept S C). LeavesWhereSo g c (both k) new answer so change) is (crash clean it))
