-- What the calls of a keeper say of the world that it keeps, and of what it holds beside the world.
use Rattle.std.specs.Prelude.{◌≡◌, ℕ, Bool, true, false, List, map, Option, None, Result, Ok, Err, ⊤, Vec, option_map}
use Rattle.std.specs.declared.alloc.Global.{Global}
use Rattle.std.specs.declared.rc.Rc.{Rc}
use Rattle.oci_types.specs.Text.{Text}
use Rattle.oci_types.specs.declared.fault.Fault.{Fault}
use Rattle.oci_types.specs.declared.fault.Fault.TheVariants.{Memory, Storage}
use Rattle.oci_types.specs.declared.kind.Kind.{Kind}
use Rattle.registry_model.specs.declared.quota.Usage.{Usage}
use Rattle.registry_model.specs.TagPage.{Page}
use Rattle.registry_model.specs.World.{World}
pub use Rattle.registry_model.specs.State.{State}

-- beside the world, under the numbers of connections: the bytes of bodies that came so far, and contents that
-- go out
pub record Held : Type 0 where
  pub stages : ℕ → Option Text
  pub pins : ℕ → Option Text

abbrev pub nothing_held : Held
nothing_held = record { stages = λ _. None; pins = λ _. None }

-- what a keeper keeps: a state, and what is held beside it
pub record Kept : Type 0 where
  pub world : World
  pub spent : Bool
  pub held : Held

abbrev pub state_of : Kept → State
state_of k = record { world = k.world; spent = k.spent }

-- the keeper goes on with this world, and holds what it held
abbrev pub goes_on : Kept → World → Kept
goes_on k w = record { world = w; spent = false; held = k.held }

-- this world, with nothing held beside it
abbrev pub bare : World → Kept
bare w = record { world = w; spent = false; held = nothing_held }

-- where the storage has not failed, it had not failed before, and what is held is as it was
abbrev pub HeldStays : Kept → Kept → Type 0
HeldStays k k' = k'.spent ≡ false → (k.spent ≡ false) × (k'.held ≡ k.held)

-- what a call asks of the world: this is so where the keeper is honest and not spent
abbrev pub Asks : Type 0 → Kept → (World → Type 0) → Type 0
Asks honest k IsSo = honest → k.spent ≡ false → IsSo k.world

-- a read gives the value, or gives up, and nothing changes; of a keeper whose storage fails nothing is known
abbrev pub ReadsBy : {A B : Type 0} → (A → B) → Result A Fault → B → Kept → Kept → Type 0
ReadsBy show (Ok v) value k k' = (show v ≡ value) × (k' ≡ k)
ReadsBy show (Err Memory) value k k' = k' ≡ k
ReadsBy show (Err Storage) value k k' = ⊤

-- a read gives a value of which something is so, or gives up, and nothing changes
abbrev pub ReadsSo : {A : Type 0} → (A → Type 0) → Result A Fault → Kept → Kept → Type 0
ReadsSo IsSo (Ok v) k k' = IsSo v × (k' ≡ k)
ReadsSo IsSo (Err Memory) k k' = k' ≡ k
ReadsSo IsSo (Err Storage) k k' = ⊤

abbrev pub Reads : {A : Type 0} → Result A Fault → A → Kept → Kept → Type 0
Reads {A} r value k k' = ReadsBy {A = A} {B = A} (λ v. v) r value k k'

-- a write leads to the world w and leaves what is held, or gives up and nothing changes
abbrev pub WritesBy : {A B : Type 0} → (A → B) → Result A Fault → B → World → Kept → Kept → Type 0
WritesBy show (Ok v) value w k k' = (show v ≡ value) × (k' ≡ goes_on k w)
WritesBy show (Err Memory) value w k k' = k' ≡ k
WritesBy show (Err Storage) value w k k' = ⊤

abbrev pub Writes : {A : Type 0} → Result A Fault → World → Kept → Kept → Type 0
Writes (Ok v) w k k' = k' ≡ goes_on k w
Writes (Err Memory) w k k' = k' ≡ k
Writes (Err Storage) w k k' = ⊤

-- the storage fails exactly where the answer says so, and from then on each answer says so
abbrev pub Spends : {A : Type 0} → Result A Fault → Kept → Kept → Type 0
Spends (Ok v) k k' = (k.spent ≡ false) × (k'.spent ≡ false)
Spends (Err Memory) k k' = (k.spent ≡ false) × (k'.spent ≡ false)
Spends (Err Storage) k k' = k'.spent ≡ true

-- the bytes that a vector holds, if there is one
abbrev pub bytes_in : Option (Vec ℕ Global) → Option Text
bytes_in o = option_map (λ v. v.items) o

-- the same of one that is shared
abbrev pub shared_in : Option (Rc (Vec ℕ Global) Global) → Option Text
shared_in o = option_map (λ r. r.value.items) o

-- ---- what the answers show

abbrev pub manifest_shown : Option (Kind × Vec ℕ Global) → Option (Kind × Text)
manifest_shown o = option_map (λ p. (p.0, p.1.items)) o

abbrev pub page_shown : Vec Text Global × Bool → Page
page_shown p = record { tags = p.0.items; more = p.1 }

abbrev pub entries_shown : Vec (Text × Vec ℕ Global) Global → List (Text × Text)
entries_shown v = map (λ p. (p.0, p.1.items)) v.items

abbrev pub usages_shown : Vec (Text × Usage) Global → List (Text × Usage)
usages_shown v = v.items

abbrev pub digests_shown : Vec Text Global → List Text
digests_shown v = v.items

abbrev pub names_shown : Vec Text Global → List Text
names_shown v = v.items

abbrev pub tags_shown : Vec (Text × Text) Global → List (Text × Text)
tags_shown v = v.items
