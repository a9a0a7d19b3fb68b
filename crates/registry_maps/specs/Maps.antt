-- The world that ordered maps stand for.
use Rattle.std.specs.Prelude.{◌≡◌, ℕ, false, List, map, Some, Result, Ok, Err, Vec}
use Rattle.std.specs.Option.{option_map_or}
use Rattle.std.specs.declared.cmp.Ordering.{Ordering}
use Rattle.std.specs.Ordering.{nat_cmp}
use Rattle.std.specs.BTreeMap.{BTreeMap}
use Rattle.std.specs.BTreeMap as btree
use Rattle.std.specs.FinMap.{FinMap, from_entries, empty}
use Rattle.std.specs.declared.alloc.Global.{Global}
use Rattle.std.specs.declared.alloc.AllocError.{AllocError}
use Rattle.oci_types.specs.Text.{Text}
use Rattle.oci_types.specs.declared.fault.Fault.{Fault}
use Rattle.oci_types.specs.declared.fault.Fault.TheVariants.{Memory}
use Rattle.registry_model.specs.declared.level.Level.{Level}
use Rattle.registry_maps.specs.declared.repository.Repository.{Repository}
use Rattle.registry_model.specs.World.{text_cmp, Repo, Grants, World}
use Rattle.registry_model.specs.Keeping.{Kept, bare}

-- entries, each value as it is shown
abbrev pub seen : {K X Y : Type 0} → (R : K → K → Ordering) → (X → Y) → List (K × X) → FinMap R Y
seen R show es = from_entries (map (λ e. (e.0, show e.1)) es)

abbrev pub texts_in : List (Text × Vec ℕ Global) → FinMap text_cmp Text
texts_in es = seen text_cmp (λ v. v.items) es

abbrev pub names_in : List (Text × Text) → FinMap text_cmp Text
names_in es = seen text_cmp (λ t. t) es

abbrev pub sessions_in : List (ℕ × Vec ℕ Global) → FinMap nat_cmp Text
sessions_in es = seen nat_cmp (λ v. v.items) es

abbrev pub repo_of : Repository → Repo
repo_of r = record {
  blobs = texts_in r.blobs.entries;
  manifests = names_in r.manifests.entries;
  tags = names_in r.tags.entries;
  sessions = sessions_in r.sessions.entries;
  last = r.last;
  quota = r.quota;
}

abbrev pub levels_in : List (Text × Level) → Grants
levels_in es = seen text_cmp (λ l. l) es

-- no level where the token has no entry
abbrev pub grants_in : BTreeMap Text (BTreeMap Text Level) → Text → Grants
grants_in m token = option_map_or (λ levels. levels_in levels.entries) (btree.get text_cmp m token) empty

abbrev pub world_of : BTreeMap Text Repository → BTreeMap Text (BTreeMap Text Level) → World
world_of repos grants = record { repos = seen text_cmp repo_of repos.entries; grants = grants_in grants }

abbrev pub kept_of : BTreeMap Text Repository → BTreeMap Text (BTreeMap Text Level) → Kept
kept_of repos grants = bare (world_of repos grants)

-- ---- what may want memory

-- a change is made, or nothing changes
abbrev pub Makes : {A B : Type 0} → Result A AllocError → B → B → B → Type 0
Makes (Ok v) made old new = new ≡ made
Makes (Err e) made old new = new ≡ old

-- a value is put at a key, or nothing changes
abbrev pub Puts : {K X : Type 0} → (K → K → Ordering) → Result (Unit {0}) AllocError → K → X
    → BTreeMap K X → BTreeMap K X → Type 0
Puts R (Ok v) k x m n = btree.Updates R m n k (Some x)
Puts R (Err e) k x m n = n.entries ≡ m.entries

abbrev pub or_memory : {A : Type 0} → Result A AllocError → Result A Fault
or_memory (Ok v) = Ok v
or_memory (Err e) = Err Memory
