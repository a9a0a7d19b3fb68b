-- A write that first looks whether something is there.
use Rattle.std.proofs.Common.{◌≡◌, ◌∙◌, false, Option, Some, None, Err, Result, refl, ap}
use Rattle.std.specs.Prelude.{option_map}
use Rattle.sqlite.specs.Effect.{Database}
use Rattle.sqlite.specs.State.{State}
use Rattle.oci_types.specs.declared.fault.Fault.{Fault}
use Rattle.oci_types.specs.declared.fault.Fault.TheVariants.{Memory, Storage}
use Rattle.registry_model.specs.World.{World}
use Rattle.store_contents.specs.Layouts.{Layout}
use Rattle.store_statements.specs.World.{world_of}
use Rattle.store_statements.specs.Held.{StaysSettled, SettlesOn, is_storage, held, world_in, tables_in}

pub none_found : {A B : Type 0} (f : A → B) (o : Option A) → None ≡ option_map f o → o ≡ None
none_found f None e = refl
none_found f (Some x) e = absurd cc

pub some_found : {A B : Type 0} (f : A → B) (o : Option A) (y : B) → Some y ≡ option_map f o → (x : A) × (o ≡ Some x) × (y ≡ f x)
some_found f None y e = absurd cc
some_found f (Some x) y e = (x, refl, cc)

pub same_held : {l : Layout} → (old mid : State) → StaysSettled l old mid → held l mid ≡ held l old
same_held {l} old mid stays = ap (tables_in l) stays.1

pub same_world : {l : Layout} → (a b : State) → StaysSettled l a b → world_in l b ≡ world_in l a
same_world {l} a b s = ap (λ (db : Database). world_of (tables_in l db)) s.1

-- it was there: nothing was written, and the world is what the write makes of it
pub makes_same : {l : Layout} → (old mid : State) (w : World) → StaysSettled l old mid → world_in l old ≡ w → SettlesOn l mid w
makes_same {l} old mid w stays e = (stays.0, ap (λ (db : Database). world_of (tables_in l db)) stays.1 ∙ e)

-- want of memory does not spend the store
pub memory_told : {A : Type 0} (B : Type 0) (f : Fault) → ◌≡◌ {A = Result A Fault} (Err f) (Err Memory) → is_storage {A = B} (Err f) ≡ false
memory_told B Memory e = refl
memory_told B Storage e = absurd cc
