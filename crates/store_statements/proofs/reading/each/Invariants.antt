use Rattle.std.proofs.Common.{◌≡◌, map, take}
use Rattle.store_statements.proofs.reading.each.Given as goal

-- the values so far
abbrev pub invariant-loop-row : goal.invariant-loop-row
invariant-loop-row g l = l.values.items ≡ map g.T.FromRow.shown (take l.row-index l.rows)
