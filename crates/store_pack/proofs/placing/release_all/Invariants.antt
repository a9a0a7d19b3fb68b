use Rattle.std.proofs.Common.{◌⊎◌, ℕ}
use Rattle.registry_pack.specs.Blocks.{IsInUse}
use Rattle.registry_pack.specs.Pack.{IsWritable, KeepsFile, KeepsRetired}
use Rattle.store_pack.proofs.placing.release_all.Given as goal

-- no more may be written than before, but for blocks of the extents
abbrev pub invariant-loop-extent : goal.invariant-loop-extent
invariant-loop-extent g l = record {
  writable : (p : ℕ) → IsWritable l.pack p → IsWritable l.fn.pack p ⊎ IsInUse l.extents p;
  retired : KeepsRetired l.fn.pack l.pack;
  file : KeepsFile l.fn.pack l.pack;
}
