use Rattle.std.proofs.Common.{◌≡◌, take}
use Rattle.std.specs.Prelude.{sum_by}
use Rattle.registry_model.specs.Usage.{in_64_bits}
use Rattle.store_reads.proofs.tallies.added_up.Given as goal

-- the bytes so far
abbrev pub invariant-loop-size : goal.invariant-loop-size
invariant-loop-size l = l.bytes ≡ in_64_bits (sum_by (λ n. n) (take l.size-index l.sizes))
