use Rattle.std.proofs.Common.{◌≡◌, ◌++◌}
use Rattle.std.specs.BTreeMap.{keys}
use Rattle.registry_maps.proofs.repository.digests.digests_of.Given as goal

-- those found so far and those that are left
abbrev pub invariant-loop-digest : goal.invariant-loop-digest
invariant-loop-digest g l = l.found.items ++ l.digest-iterator ≡ keys l.held
