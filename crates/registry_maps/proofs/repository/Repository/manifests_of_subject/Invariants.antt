use Rattle.std.proofs.Common.{◌≡◌, ◌++◌}
use Rattle.std.specs.Prelude.{filter}
use Rattle.registry_model.specs.Referrers.{has_subject}
use Rattle.registry_model.specs.Keeping.{entries_shown}
use Rattle.registry_maps.proofs.repository.Repository.manifests_of_subject.Given as goal

-- those found so far and those in what is left
abbrev pub invariant-loop-name : goal.invariant-loop-name
invariant-loop-name l = entries_shown l.found ++ filter (has_subject l.digest) l.name-iterator ≡ filter (has_subject l.digest) l.self.manifests.entries
