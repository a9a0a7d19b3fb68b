-- What rows and a file hold together, now and after a crash.
use Rattle.std.specs.Prelude.{◌≡◌, ◌⊎◌, ◌+◌, ◌<◌, ◌≤◌, ℕ, ℤ, List, length, slice_range, Option, None, Some, if◌then◌else◌}
use Rattle.std.specs.List.{AllByRecursion}
use Rattle.std.specs.Ordering.{int_eq}
use Rattle.sqlite.specs.Tree.{Trees}
use Rattle.sqlite.specs.State.{State}
use Rattle.sqlite_disk.specs.declared.Disk.{Ghosts}
use Rattle.registry_pack.specs.declared.head.Head.{Head}
use Rattle.registry_pack.specs.declared.head.HeadCopy.{HeadCopy}
use Rattle.registry_pack.specs.Extents.{AreApart}
use Rattle.registry_pack.specs.Heads.{head_bytes, offset_of}
use Rattle.registry_pack.specs.Standing.{Lasts}
use Rattle.store_pack.specs.Commits.{IsSettled, with_trees}
use Rattle.store_contents.specs.Places.{bytes_in, place_rows, runs_of}

-- so many bytes, from this offset on, stand in the file, whatever a crash leaves of it
pub record IsKept {D : Type 0} (g : Ghosts D) (file : D) (run : ℕ × ℕ) : Type 0 where
  pub within : run.0 + run.1 ≤ length (g.seen file)
  pub lasts : Lasts g file run.0 (slice_range (g.seen file) run.0 (run.0 + run.1))

abbrev pub AreKept : {D : Type 0} → Ghosts D → D → List (ℕ × ℕ) → Type 0
AreKept g file runs = AllByRecursion (IsKept g file) runs

-- THE INVARIANT over both: the rows are settled, and the bytes of each place last
pub record IsJoint {D : Type 0} (s : State) (g : Ghosts D) (file : D) : Type 0 where
  pub settled : IsSettled s
  pub kept : AreKept g file (runs_of (place_rows s.now))

-- ---- the bytes by their ids

abbrev pub World : Type 0
World = ℤ → Option (List ℕ)

abbrev pub IsSame : World → World → Type 0
IsSame new old = (i : ℤ) → new i ≡ old i

-- the old world, and these bytes under an id that it had not
abbrev pub HasMore : World → World → ℤ → List ℕ → Type 0
HasMore new old id bytes =
    (old id ≡ None) × ((i : ℤ) → new i ≡ (if int_eq id i then Some bytes else old i))

-- the old world without an id
abbrev pub HasLess : World → World → ℤ → Type 0
HasLess new old id = (i : ℤ) → new i ≡ (if int_eq id i then None else old i)

-- Each outcome of the database together with each outcome of the file is the world as it was, or what the
-- call makes of it. There is no order between the two.
abbrev pub CrashesInto : {D : Type 0} → State → State → Ghosts D → D → D → (World → Type 0) → Type 0
CrashesInto old new g was is After =
    (db : Trees) → new.may_leave db → (c : List ℕ) → g.may_leave is c
    → IsSame (bytes_in (with_trees old.now db) c) (bytes_in old.now (g.seen was))
    ⊎ After (bytes_in (with_trees old.now db) c)

-- each outcome of both is the world as it is now
abbrev pub IsDurable : {D : Type 0} → State → Ghosts D → D → Type 0
IsDurable s g file =
    (db : Trees) → s.may_leave db → (c : List ℕ) → g.may_leave file c
    → IsSame (bytes_in (with_trees s.now db) c) (bytes_in s.now (g.seen file))

-- ---- places that are used again

-- none of the runs has any of these bytes of the file
abbrev pub IsFree : ℕ → ℕ → List (ℕ × ℕ) → Type 0
IsFree at n runs = AllByRecursion (λ (run : ℕ × ℕ). AreApart at n run.0 run.1) runs

-- another database that may be found beside this file: its age, and what its places name
abbrev pub Older : Type 0
Older = ℕ × List (ℕ × ℕ)

-- A copy of the file's head says a higher age, whatever a crash leaves. An opening goes by the higher of both
-- copies, so it refuses the two.
pub record IsRefused {D : Type 0} (g : Ghosts D) (file : D) (old : Older) : Type 0 where
  pub copy : HeadCopy
  pub head : Head
  pub lasts : Lasts g file (offset_of copy) (head_bytes head)
  pub higher : old.0 < head.age

-- THE INVARIANT of ages: an older database is refused beside this file, or each of its places has its bytes
abbrev pub AreAged : {D : Type 0} → Ghosts D → D → List Older → Type 0
AreAged g file olds = AllByRecursion (λ old. IsRefused g file old ⊎ AreKept g file old.1) olds

-- what may be written there: each older database is refused by a head that stands elsewhere, or has all its
-- bytes elsewhere
abbrev pub AreAside : {D : Type 0} → Ghosts D → D → List Older → ℕ → ℕ → Type 0
AreAside g file olds at n =
    AllByRecursion
    (λ old. ((it : IsRefused g file old) × AreApart at n (offset_of it.copy) (length (head_bytes it.head)))
    ⊎ (AreKept g file old.1 × IsFree at n old.1))
    olds
