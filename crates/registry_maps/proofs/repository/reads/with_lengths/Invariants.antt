use Rattle.std.proofs.Common.{◌≡◌, ℕ, ◌+◌, ◌^◌, ◌<◌, length}
use Rattle.std.specs.Prelude.{sum_by, Vec}
use Rattle.std.specs.declared.alloc.Global.{Global}
use Rattle.std.specs.BTreeMap.{values}
use Rattle.registry_model.specs.Usage.{in_64_bits}
use Rattle.registry_maps.proofs.repository.reads.with_lengths.Given as goal

-- the total so far, with what is left
abbrev pub invariant-loop-bytes : goal.invariant-loop-bytes
invariant-loop-bytes g l = (l.total < 2 ^ 64) × (in_64_bits (l.total + sum_by (λ (v : Vec ℕ Global). length v.items) l.bytes-iterator) ≡ in_64_bits (l.before + sum_by (λ (v : Vec ℕ Global). length v.items) (values l.held)))
