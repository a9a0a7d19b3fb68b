use Rattle.std.proofs.Common.{◌≡◌, take}
use Rattle.sqlite.specs.Held.{state}
use Rattle.store_migration.specs.Moving.{without_listed_manifests}
use Rattle.store_migration.proofs.ListedMoves.{MovedSoFar}
use Rattle.store_migration.proofs.manifest_moves.move_listed.Given as goal

-- the manifests so far are moved
abbrev pub invariant-loop-key : goal.invariant-loop-key
invariant-loop-key g l = record {
  moved : MovedSoFar (without_listed_manifests (take l.key-index l.keys)) (state g.S.Store l.fn.tx.conn.now) (state g.S.Store l.tx.conn.now);
  done : l.done ≡ l.key-index;
  same_reference : l.tx.conn.ghost_name ≡ l.fn.tx.conn.ghost_name;
}
