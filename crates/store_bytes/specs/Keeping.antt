-- Two layouts of one kind, of which one has the contents that the other has.
use Rattle.std.specs.Prelude.{◌≡◌, ⊤, ℕ, ℤ}
use Rattle.std.specs.List.{AllByRecursion}
use Rattle.sqlite.specs.Effect.{Database}
use Rattle.store_contents.specs.Layouts.{Layout, InTables, InPack, Holds, contents_in, places_in}
use Rattle.store_contents.specs.Places.{runs_of}

-- both have bytes in the tables, or both in a pack
abbrev pub AreOfKind : Layout → Layout → Type 0
AreOfKind InTables InTables = ⊤
AreOfKind (InPack file) (InPack other) = ⊤
AreOfKind l m = ⊥

-- the database has the same contents under both, and what is kept true of it under the one is so under the
-- other
pub record KeepsBytes (l m : Layout) (db : Database) : Type 0 where
  pub kind : AreOfKind l m
  pub contents : (id : ℤ) → contents_in m db id ≡ contents_in l db id
  pub holds : Holds l db → Holds m db

-- this is so of each place that the rows of the database name: of its offset and its size
abbrev pub AllPlaces : (ℕ × ℕ → Type 0) → Layout → Database → Type 0
AllPlaces P l db = AllByRecursion P (runs_of (places_in l db))
