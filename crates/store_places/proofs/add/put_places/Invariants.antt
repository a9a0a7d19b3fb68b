use Rattle.std.proofs.Common.{◌≡◌, take}
use Rattle.store_places.proofs.ChainLemmas.{SoFar}
use Rattle.store_places.proofs.add.put_places.Given as goal

-- the places so far are in
abbrev pub invariant-loop-extent : goal.invariant-loop-extent
invariant-loop-extent g l = record { so_far : SoFar g.S.Store l.id.id (take l.extent-index l.extents) l.start l.fn.tx.conn.now l.tx.conn.now; same_reference : l.tx.conn.ghost_name ≡ l.fn.tx.conn.ghost_name }
