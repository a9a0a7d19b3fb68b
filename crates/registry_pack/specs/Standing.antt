-- What stands in the file, now and after a crash.
use Rattle.std.specs.Prelude.{◌≡◌, ◌+◌, ◌≤◌, ℕ, List, length, slice_index, IsTrue}
use Rattle.std.specs.List.{AllByRecursion}
use Rattle.sqlite_disk.specs.declared.Disk.{Ghosts}
use Rattle.sqlite_disk.specs.Disk.{Holds}
use Rattle.registry_pack.specs.declared.extent.Extent.{Extent}
use Rattle.registry_pack.specs.Extents.{AreApart, Covers}

-- the bytes stand there, and stay so whatever a crash leaves
pub record Lasts {D : Type 0} (g : Ghosts D) (file : D) (at : ℕ) (bytes : List ℕ) : Type 0 where
  pub now : Holds (g.seen file) at bytes
  pub after : (c : List ℕ) → g.may_leave file c → Holds c at bytes

-- a call changed nothing: what stood stands, and a crash leaves nothing that it did not leave before
pub record KeepsAll {D : Type 0} (g : Ghosts D) (old new : D) : Type 0 where
  pub seen : g.seen new ≡ g.seen old
  pub crash : (c : List ℕ) → g.may_leave new c → g.may_leave old c
  pub clean : IsTrue (g.is_clean new) → IsTrue (g.is_clean old)

-- a call changed at most these n bytes: what stands or lasts elsewhere does so still
pub record KeepsElsewhere {D : Type 0} (g : Ghosts D) (at n : ℕ) (old new : D) : Type 0 where
  pub stands : (a : ℕ) (bytes : List ℕ) → AreApart at n a (length bytes)
      → Holds (g.seen old) a bytes → Holds (g.seen new) a bytes
  pub lasts : (a : ℕ) (bytes : List ℕ) → AreApart at n a (length bytes)
      → Lasts g old a bytes → Lasts g new a bytes
  pub no_shorter : length (g.seen old) ≤ length (g.seen new)
  pub clean : IsTrue (g.is_clean new) → IsTrue (g.is_clean old)

-- a content's extents lie within the file, and the bytes of each last
pub record IsKept {D : Type 0} (g : Ghosts D) (file : D) (e : Extent) : Type 0 where
  pub within : e.at + e.size ≤ length (g.seen file)
  pub lasts : (c : List ℕ) → g.may_leave file c
      → (e.at + e.size ≤ length c) × ((i : ℕ) → Covers e i → slice_index c i ≡ slice_index (g.seen file) i)

abbrev pub AreKept : {D : Type 0} → Ghosts D → D → List Extent → Type 0
AreKept g file es = AllByRecursion (IsKept g file) es

-- a call changed nothing below this length: what stands or lasts there does so still
pub record KeepsBelow {D : Type 0} (g : Ghosts D) (len : ℕ) (old new : D) : Type 0 where
  pub stands : (a : ℕ) (bytes : List ℕ) → a + length bytes ≤ len
      → Holds (g.seen old) a bytes → Holds (g.seen new) a bytes
  pub lasts : (a : ℕ) (bytes : List ℕ) → a + length bytes ≤ len → Lasts g old a bytes → Lasts g new a bytes
  pub clean : IsTrue (g.is_clean new) → IsTrue (g.is_clean old)
