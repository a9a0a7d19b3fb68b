use Rattle.std.proofs.Common.{take}
use Rattle.store_migration.specs.Shown.{AllShown}
use Rattle.store_migration.proofs.old_keys.keys_in.Given as goal

-- the keys so far
abbrev pub invariant-loop-row : goal.invariant-loop-row
invariant-loop-row g l = AllShown g.K.FromRow.shows (take l.row-index l.rows) l.keys.items
