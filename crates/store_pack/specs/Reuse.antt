-- What is left where space of the pack is used again that no row names.
use Rattle.std.specs.Prelude.{◌≡◌, ◌⊎◌, ◌+◌, ◌≤◌, ◌<◌, ℕ, List}
use Rattle.std.specs.List.{AllByRecursion}
use Rattle.sqlite.specs.State.{State}
use Rattle.sqlite_disk.specs.declared.Disk.{Ghosts}
use Rattle.registry_pack.specs.declared.head.Head.{Head}
use Rattle.registry_pack.specs.declared.head.HeadCopy.TheVariants.{First, Second}
use Rattle.registry_pack.specs.Blocks.{block_ceil, block_floor}
use Rattle.registry_pack.specs.Heads.{head_bytes, offset_of}
use Rattle.registry_pack.specs.Standing.{Lasts}
use Rattle.store_contents.specs.Layouts.{InPack}
use Rattle.store_statements.specs.Held.{SettlesOn, held, world_in}

-- settled, with the same world, and the same tables but for the row of the pack
pub record KeepsTables (file : List ℕ) (old new : State) : Type 0 where
  pub settles : SettlesOn (InPack file) new (world_in (InPack file) old)
  pub tables : held (InPack file) new
      ≡ record (held (InPack file) old) { packs = (held (InPack file) new).packs }

-- the blocks of none of the runs have this offset
abbrev pub IsOutside : List (ℕ × ℕ) → ℕ → Type 0
IsOutside runs p =
    AllByRecursion
    (λ (run : ℕ × ℕ). block_floor run.0 ≤ p → p < block_ceil (run.0 + run.1) → ⊥)
    runs

-- the second copy of the head says what it said, or the first one says this age
abbrev pub OneStands : {D : Type 0} → Ghosts D → D → D → ℕ → Type 0
OneStands g old new age =
    (was : Head) → Lasts g old (offset_of Second) (head_bytes was)
    → Lasts g new (offset_of Second) (head_bytes was)
    ⊎ ((head : Head) × ((head.age ≡ age) × Lasts g new (offset_of First) (head_bytes head)))
