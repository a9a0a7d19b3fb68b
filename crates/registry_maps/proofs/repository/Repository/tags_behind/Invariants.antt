use Rattle.std.proofs.Common.{◌≡◌, ◌++◌}
use Rattle.std.specs.Prelude.{filter}
use Rattle.std.specs.Ordering.{is_lt}
use Rattle.std.specs.BTreeMap.{keys}
use Rattle.registry_model.specs.World.{text_cmp}
use Rattle.registry_maps.proofs.repository.Repository.tags_behind.Given as goal

-- those found so far and those in what is left
abbrev pub invariant-loop-tag : goal.invariant-loop-tag
invariant-loop-tag l = l.behind.items ++ filter (λ tag. is_lt (text_cmp l.last tag)) l.tag-iterator ≡ filter (λ tag. is_lt (text_cmp l.last tag)) (keys l.self.tags)
