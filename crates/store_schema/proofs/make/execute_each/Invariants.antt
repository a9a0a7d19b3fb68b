use Rattle.std.proofs.Common.{◌≡◌, take}
use Rattle.store_schema.proofs.InTurn.{RanSoFar, texts_of}
use Rattle.store_schema.proofs.make.execute_each.Given as goal

-- the texts so far ran
abbrev pub invariant-loop-text : goal.invariant-loop-text
invariant-loop-text g l = record { so_far : RanSoFar g.S.Store (texts_of (take l.text-index l.texts)) l.fn.tx.conn.now l.tx.conn.now; same_reference : l.tx.conn.ghost_name ≡ l.fn.tx.conn.ghost_name }
