-- What a pack keeps of the bytes that rows name, or have named.
use Rattle.std.specs.Prelude.{◌≡◌, ◌⊎◌, ◌+◌, ◌≤◌, ◌<◌, ℕ, pos, List, [], ◌∷◌, length, slice_range, IsTrue}
use Rattle.sqlite.specs.declared.types.Value.TheVariants.{Int, Blob}
use Rattle.sqlite.specs.Order.{Row, column}
use Rattle.sqlite_disk.specs.declared.Disk.{Ghosts}
use Rattle.registry_pack.specs.declared.extent.Extent.{Extent}
use Rattle.registry_pack.specs.declared.head.Head.{Head}
use Rattle.registry_pack.specs.declared.pack.Pack.{Pack}
use Rattle.registry_pack.specs.Blocks.{IsInBlocks, IsInUse}
use Rattle.registry_pack.specs.Extents.{size_of, starts_at}
use Rattle.registry_pack.specs.Pack.{IsRetired, IsWritable, KeepsRetired, file_of, head_of}
use Rattle.registry_pack.specs.Standing.{Lasts}
use Rattle.store_pack.specs.Joint.{IsKept, IsRefused}

-- there are some, none of them in the head
pub record IsPlaced (run : ℕ × ℕ) : Type 0 where
  pub behind : 8192 ≤ run.0
  pub some : 0 < run.1

-- they last, and are not written over in this age
pub record IsRemembered {D : Type 0} {g : Ghosts D} (pack : Pack D g) (run : ℕ × ℕ) : Type 0 where
  pub kept : IsKept g (file_of pack) run
  pub placed : IsPlaced run
  pub closed : (p : ℕ) → run.0 ≤ p → p < run.0 + run.1 → IsWritable pack p → ⊥

-- nor in the next
pub record IsSpared {D : Type 0} {g : Ghosts D} (pack : Pack D g) (run : ℕ × ℕ) : Type 0 where
  pub remembered : IsRemembered pack run
  pub closed : (p : ℕ) → run.0 ≤ p → p < run.0 + run.1 → IsRetired pack p → ⊥

-- a database of this age is an older copy
abbrev pub Refuses : {D : Type 0} {g : Ghosts D} → Pack D g → ℕ → Type 0
Refuses {g = g} pack age = IsRefused g (file_of pack) (age, [])

-- one row says this mark, and this age or the next one
pub record IsNamedBy (head : Head) (rows : List Row) : Type 0 where
  pub row : Row
  pub only : rows ≡ row ∷ []
  pub has_mark : column row 1 ≡ Blob head.mark
  pub has_age : (column row 2 ≡ Int (pos head.age)) ⊎ (column row 2 ≡ Int (pos (head.age + 1)))

-- the rows say which pack it is, and its age or the next one, as they may where memory was wanting
abbrev pub Names : {D : Type 0} {g : Ghosts D} → Pack D g → List Row → Type 0
Names pack rows = IsNamedBy (head_of pack) rows

-- what may be written is never what is retired
abbrev pub AreApart : {D : Type 0} {g : Ghosts D} → Pack D g → Type 0
AreApart pack = (p : ℕ) → IsWritable pack p → IsRetired pack p → ⊥

-- no block of the extents is retired
abbrev pub Owns : {D : Type 0} {g : Ghosts D} → Pack D g → List Extent → Type 0
Owns pack extents = (p : ℕ) → IsInUse extents p → IsRetired pack p → ⊥

-- ---- what a call leaves

-- what was remembered is so still, with the same bytes, and nothing more may be written
pub record Spares {D : Type 0} {g : Ghosts D} (old new : Pack D g) : Type 0 where
  pub kept : (run : ℕ × ℕ) → IsRemembered old run → IsKept g (file_of new) run
  pub bytes : (run : ℕ × ℕ) → IsRemembered old run
      → slice_range (g.seen (file_of new)) run.0 (run.0 + run.1)
      ≡ slice_range (g.seen (file_of old)) run.0 (run.0 + run.1)
  pub writable : (p : ℕ) → IsWritable new p → IsWritable old p
  pub retired : KeepsRetired old new
  pub refuses : (age : ℕ) → Refuses old age → Refuses new age
  pub head : head_of new ≡ head_of old
  pub clean : IsTrue (g.is_clean (file_of new)) → IsTrue (g.is_clean (file_of old))

-- the bytes last at an extent that could be written and can be no longer
pub record Places {D : Type 0} {g : Ghosts D} (old new : Pack D g) (bytes : List ℕ) (e : Extent)
    : Type 0 where
  pub some : 0 < length bytes
  pub size : size_of e ≡ length bytes
  pub behind : 8192 ≤ starts_at e
  pub lasts : Lasts g (file_of new) (starts_at e) bytes
  pub was_writable : (p : ℕ) → IsInBlocks e p → IsWritable old p
  pub closed : (p : ℕ) → IsInBlocks e p → IsWritable new p → ⊥
