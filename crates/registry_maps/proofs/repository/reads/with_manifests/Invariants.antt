use Rattle.std.proofs.Common.{◌≡◌, ℕ, ◌+◌, ◌^◌, ◌<◌, length}
use Rattle.std.specs.Prelude.{sum_by}
use Rattle.std.specs.BTreeMap.{values}
use Rattle.registry_model.specs.Usage.{in_64_bits}
use Rattle.registry_maps.proofs.repository.reads.with_manifests.Given as goal

-- the total so far, with what is left
abbrev pub invariant-loop-manifest : goal.invariant-loop-manifest
invariant-loop-manifest l = (l.total < 2 ^ 64) × (in_64_bits (l.total + sum_by (length {A = ℕ}) l.manifest-iterator) ≡ in_64_bits (l.before + sum_by (length {A = ℕ}) (values l.held)))
