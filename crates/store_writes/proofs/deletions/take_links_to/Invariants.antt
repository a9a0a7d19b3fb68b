use Rattle.std.proofs.Common.{◌≡◌, take}
use Rattle.sqlite.specs.Held.{state}
use Rattle.store_contents.specs.Layouts.{Layout}
use Rattle.store_writes.proofs.SeveralBlobs.{TakenSoFar}
use Rattle.store_writes.proofs.deletions.take_links_to.Given as goal

-- the links so far are gone
abbrev pub invariant-loop-digest : goal.invariant-loop-digest
invariant-loop-digest g l = record { taken : (layout : Layout) → TakenSoFar layout (state g.S.Store l.fn.tx.conn.now) (state g.S.Store l.tx.conn.now) l.repo (take l.digest-index l.digests); same_reference : l.tx.conn.ghost_name ≡ l.fn.tx.conn.ghost_name }
