-- The bytes of a content that comes, by where a registry keeps bytes.
use Rattle.std.specs.Prelude.{◌≡◌, ◌<◌, ◌^◌, ⊤, ℕ, List, [], length}
use Rattle.std.specs.List.{AllByRecursion}
use Rattle.sha2.specs.Sha256.{sha256}
use Rattle.registry_pack.specs.Extents.{AreWithin, bytes_at, size_of, total_of}
use Rattle.store_contents.specs.Layouts.{Layout, InTables, InPack}
use Rattle.store_places.specs.Places.{runs_at}
use Rattle.store_places.specs.declared.source.Source.{Source}
use Rattle.store_places.specs.declared.source.Source.TheVariants.{Bytes, Extents}

-- each extent has bytes, and the number of all fits a column
abbrev pub Fits : Source → Type 0
Fits (Bytes bytes) = ⊤
Fits (Extents extents hash) =
    (total_of extents.now < 2 ^ 63) × AllByRecursion (λ e. 0 < size_of e) extents.now

abbrev pub size_in : Source → ℕ
size_in (Bytes bytes) = length bytes.now
size_in (Extents extents hash) = total_of extents.now

-- which bytes of the pack they are: where each run begins, and how long it is
abbrev pub runs_in : Source → List (ℕ × ℕ)
runs_in (Bytes bytes) = []
runs_in (Extents extents hash) = runs_at extents.now

-- the bytes, of a layout that keeps them so
abbrev pub text_in : Layout → Source → List ℕ
text_in InTables (Bytes bytes) = bytes.now
text_in (InPack file) (Extents extents hash) = bytes_at file extents.now
text_in layout source = []

-- the layout keeps them so, and they are there, with this SHA-256
abbrev pub Suits : Layout → Source → Type 0
Suits InTables (Bytes bytes) = ⊤
Suits (InPack file) (Extents extents hash) =
    AreWithin file extents.now × (hash ≡ sha256 (bytes_at file extents.now))
Suits layout source = ⊥

-- where they are in memory, this is so of them
abbrev pub IfBytes : (List ℕ → Type 0) → Source → Type 0
IfBytes P (Bytes bytes) = P bytes.now
IfBytes P (Extents extents hash) = ⊤
