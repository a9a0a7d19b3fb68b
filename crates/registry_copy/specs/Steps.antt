-- What a step of a copy does, from the keepers before it to those behind it, by its answer.
use Rattle.std.specs.Prelude.{◌≡◌, ◌⊎◌, Bool, true, List, [], ◌∷◌, Result, Ok, Err, ⊤, IfOk, OnOk}
use Rattle.oci_types.specs.Text.{Text}
use Rattle.registry_model.specs.World.{World, no_world, has_repo}
use Rattle.registry_model.specs.Keeping.{Kept, bare}
use Rattle.registry_copy.specs.declared.fault.CopyFault.{CopyFault}
use Rattle.registry_copy.specs.declared.fault.CopyFault.TheVariants.{Memory, Source, Target, Damaged, Occupied}
use Rattle.registry_copy.specs.Faults.{IsDamaged, IsOccupied}

-- a keeper before a step and behind it: whether it is honest, and what it keeps
pub record Side : Type 1 where
  pub before : Type 0
  pub after : Type 0
  pub old : Kept
  pub new : Kept

abbrev pub side : {K : Type 0} → (K → Type 0) → (K → Kept) → K → K → Side
side {K} is_honest kept k k' =
    record { before = is_honest k; after = is_honest k'; old = kept k; new = kept k' }

-- no keeper
abbrev pub nobody : Side
nobody = record { before = Unit {0}; after = Unit {0}; old = bare no_world; new = bare no_world }

-- what is copied stays, unless its storage fails
abbrev pub StaysUnlessSource : {A : Type 0} → Result A CopyFault → Kept → Kept → Type 0
StaysUnlessSource (Ok v) k k' = k' ≡ k
StaysUnlessSource (Err Memory) k k' = k' ≡ k
StaysUnlessSource (Err Source) k k' = ⊤
StaysUnlessSource (Err Target) k k' = k' ≡ k
StaysUnlessSource (Err Damaged) k k' = k' ≡ k
StaysUnlessSource (Err Occupied) k k' = k' ≡ k

-- a storage fails exactly where the answer says so: whether each had failed, before and behind
abbrev pub SpendsBoth : {A : Type 0} → Result A CopyFault → Bool → Bool → Bool → Bool → Type 0
SpendsBoth (Ok v) f f' t t' = (f' ≡ f) × (t' ≡ t)
SpendsBoth (Err Memory) f f' t t' = (f' ≡ f) × (t' ≡ t)
SpendsBoth (Err Source) f f' t t' = (f' ≡ true) × (t' ≡ t)
SpendsBoth (Err Target) f f' t t' = (f' ≡ f) × (t' ≡ true)
SpendsBoth (Err Damaged) f f' t t' = (f' ≡ f) × (t' ≡ t)
SpendsBoth (Err Occupied) f f' t t' = (f' ≡ f) × (t' ≡ t)

-- no repository goes
abbrev pub KeepsRepos : World → World → Type 0
KeepsRepos w w' = (name : Text) → has_repo w name ≡ true → has_repo w' name ≡ true

-- what is held stays, and this comes of the world
abbrev pub Makes : (World → World → Type 0) → Kept → Kept → Type 0
Makes Made t t' = (t'.held ≡ t.held) × Made t.world t'.world

-- A step from the keeper f to the keeper t. Where it is made, `Made` says of the world of f and the answer
-- what became of the world of t. `Damaged` is no answer where `Fit` holds of the world of f, and `Occupied`
-- is one only where `Taken` holds of both.
pub record IsStep (f t : Side) {A : Type 0} (r : Result A CopyFault)
    (Made : World → A → World → World → Type 0) (Fit : World → Type 0) (Taken : World → World → Type 0)
    : Type 0 where
  pub source : f.after → StaysUnlessSource r f.old f.new
  pub made : f.after → t.after → IfOk r (λ v. Makes (Made f.old.world v) t.old t.new)
  pub there : t.after → OnOk r (KeepsRepos t.old.world t.new.world)
  pub damaged : f.after → IsDamaged r → Fit f.old.world → ⊥
  pub occupied : f.after → t.after → IsOccupied r → Taken f.old.world t.old.world
  pub spends : SpendsBoth r f.old.spent f.new.spent t.old.spent t.new.spent
  pub honest : f.after → f.before
  pub trusted : t.after → t.before

-- a step that asks nothing of the keeper that is copied
abbrev pub IsPut : Side → {A : Type 0} → Result A CopyFault → (World → World → Type 0) → Type 0
    → (World → Type 0) → Type 0
IsPut t r Made Fit Taken = IsStep nobody t r (λ _ _ w w'. Made w w') (λ _. Fit) (λ _ w. Taken w)

-- steps of the world, one behind the other, one for each of a list
abbrev pub Chain : {E : Type 0} → (E → World → World → Type 0) → List E → World → World → Type 0
Chain Step [] w w' = w' ≡ w
Chain Step (e ∷ es) w w' = (m : World) × Step e w m × Chain Step es m w'

-- such a step found the world so that this was so of it
abbrev pub Meets : {E : Type 0} → (E → World → World → Type 0) → (E → World → Type 0) → List E → World
    → Type 0
Meets Step At [] w = ⊥
Meets Step At (e ∷ es) w = At e w ⊎ ((m : World) × Step e w m × Meets Step At es m)
