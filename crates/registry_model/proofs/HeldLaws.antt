-- What is held beside the world stays, call after call.
use Rattle.std.proofs.Common.{◌≡◌, ◌∙◌, true, false, sym, ap}
use Rattle.std.proofs.lemmas.Bool.{true≢false}
use Rattle.std.specs.Prelude.{Result, Ok, Err}
use Rattle.oci_types.specs.declared.fault.Fault.{Fault}
use Rattle.oci_types.specs.declared.fault.Fault.TheVariants.{Memory, Storage}
use Rattle.registry_model.specs.World.{World}
use Rattle.registry_model.specs.Keeping.{Kept, state_of, goes_on, HeldStays, ReadsBy, ReadsSo, Writes, WritesBy, Spends}

-- one call after the other
pub held_on : (k mid k' : Kept) → HeldStays k mid → HeldStays mid k' → HeldStays k k'
held_on k mid k' first second unspent =
    let b = second unspent in
    let a = first b.0 in
    (a.0, b.1 ∙ a.1)

-- where nothing changed
pub held_rests : (k k' : Kept) → k' ≡ k → HeldStays k k'
held_rests k k' e unspent = (sym (ap (λ (x : Kept). x.spent) e) ∙ unspent, ap (λ (x : Kept). x.held) e)

-- where the world did
pub held_goes_on : (k k' : Kept) (w : World) → k.spent ≡ false → k' ≡ goes_on k w → HeldStays k k'
held_goes_on k k' w before e unspent = (before, ap (λ (x : Kept). x.held) e)

-- a keeper whose state and what it holds are as they were is as it was
pub held_same : (k k' : Kept) → state_of k' ≡ state_of k → k'.held ≡ k.held → k' ≡ k
held_same k k' e h = λ i. record { world = (e i).world; spent = (e i).spent; held = h i }

-- nothing is said where the storage failed
pub held_lost : (k k' : Kept) → k'.spent ≡ true → HeldStays k k'
held_lost k k' spent unspent = absurd (true≢false (sym spent ∙ unspent))

pub held_read : {A B : Type 0} (show : A → B) (r : Result A Fault) (value : B) (k k' : Kept) → Spends r k k' → ReadsBy show r value k k' → HeldStays k k'
held_read show (Ok v) value k k' spends h = held_rests k k' h.1
held_read show (Err Memory) value k k' spends h = held_rests k k' h
held_read show (Err Storage) value k k' spends h = held_lost k k' spends

pub held_write : {A : Type 0} (r : Result A Fault) (w : World) (k k' : Kept) → Spends r k k' → Writes r w k k' → HeldStays k k'
held_write (Ok v) w k k' spends h = held_goes_on k k' w spends.0 h
held_write (Err Memory) w k k' spends h = held_rests k k' h
held_write (Err Storage) w k k' spends h = held_lost k k' spends

pub held_write_by : {A B : Type 0} (show : A → B) (r : Result A Fault) (value : B) (w : World) (k k' : Kept) → Spends r k k' → WritesBy show r value w k k' → HeldStays k k'
held_write_by show (Ok v) value w k k' spends h = held_goes_on k k' w spends.0 h.1
held_write_by show (Err Memory) value w k k' spends h = held_rests k k' h
held_write_by show (Err Storage) value w k k' spends h = held_lost k k' spends
