use Rattle.std.proofs.Common.{◌≡◌, take}
use Rattle.std.specs.Prelude.{sum_by}
use Rattle.registry_model.specs.Usage.{in_64_bits}
use Rattle.registry_copy.proofs.copying.count_uploads.Given as goal

-- the sessions of the repositories so far
abbrev pub invariant-loop-usage : goal.invariant-loop-usage
invariant-loop-usage l = l.number ≡ in_64_bits (sum_by (λ u. u.1.sessions) (take l.usage-index l.usages))
