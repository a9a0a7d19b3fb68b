use Rattle.std.proofs.Common.{◌≡◌, map, take}
use Rattle.store_reads.specs.LevelLists.{token_level_shown}
use Rattle.store_reads.proofs.level_lists.levels_in.Given as goal

-- the levels so far
abbrev pub invariant-loop-row : goal.invariant-loop-row
invariant-loop-row l = l.levels.items ≡ map token_level_shown (take l.row-index l.rows)
