use Rattle.std.proofs.Common.{◌≡◌, ◌++◌}
use Rattle.registry_maps.proofs.repository.Repository.tags.Given as goal

-- those so far and those that are left
abbrev pub invariant-loop-tag : goal.invariant-loop-tag
invariant-loop-tag l = l.found.items ++ l.tag-iterator ≡ l.self.tags.entries
