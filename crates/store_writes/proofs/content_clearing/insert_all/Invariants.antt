use Rattle.std.proofs.Common.{◌≡◌, ℤ, take}
use Rattle.std.specs.Prelude.{◌||◌}
use Rattle.std.specs.BTreeSet.{keys}
use Rattle.store_writes.specs.Naming.{is_among}
use Rattle.store_writes.proofs.content_clearing.insert_all.Given as goal

-- the ids so far
abbrev pub invariant-loop-id : goal.invariant-loop-id
invariant-loop-id l = (i : ℤ) → is_among (keys l.set) i ≡ (is_among (keys l.initial.set) i || is_among (take l.id-index l.ids) i)
