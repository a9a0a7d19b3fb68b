use Rattle.std.proofs.Common.{◌≡◌, ℕ, List, take}
use Rattle.sqlite.specs.Held.{state}
use Rattle.store_contents.specs.Layouts.{InPack}
use Rattle.store_writes.specs.Naming.{PlacedGone}
use Rattle.store_writes.proofs.ContentsFreed.{GoneSoFar}
use Rattle.store_writes.proofs.pack_clearing.take_all_placed.Given as goal

-- the contents so far are gone
abbrev pub invariant-loop-id : goal.invariant-loop-id
invariant-loop-id g l = record { gone : (file : List ℕ) → GoneSoFar (InPack file) PlacedGone (state g.S.Store l.fn.tx.conn.now) (state g.S.Store l.tx.conn.now) (take l.id-index l.ids); same_reference : l.tx.conn.ghost_name ≡ l.fn.tx.conn.ghost_name }
