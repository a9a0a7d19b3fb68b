-- What is looked for in the world, and in the repository of a name.
use Rattle.std.specs.Prelude.{Option, Result}
use Rattle.std.specs.Option.{option_and_then}
use Rattle.oci_types.specs.Text.{Text}
use Rattle.oci_types.specs.declared.fault.Fault.{Fault}
use Rattle.registry_model.specs.World.{World, Repo, repo_at}
use Rattle.registry_model.specs.Keeping.{Kept, Reads}

-- what a look into the world finds
abbrev pub Finds : {A : Type 0} → Result A Fault → (World → A) → Kept → Kept → Type 0
Finds r find s s' = Reads r (find s.world) s s'

-- what a look into the repository finds, and nothing where there is none
abbrev pub FindsIn : {A : Type 0}
    → Result (Option A) Fault → Text → (Repo → Option A) → Kept → Kept → Type 0
FindsIn r name find s s' = Reads r (option_and_then find (repo_at s.world name)) s s'
