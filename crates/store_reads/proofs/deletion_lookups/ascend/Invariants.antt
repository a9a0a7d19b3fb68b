use Rattle.std.proofs.Common.{◌≡◌}
use Rattle.std.specs.List.{AllAdjacentBelow}
use Rattle.std.specs.declared.cmp.Ordering.TheVariants.{Less}
use Rattle.registry_model.specs.World.{text_cmp}
use Rattle.store_reads.proofs.deletion_lookups.ascend.Given as goal

-- each digest so far stands behind the one before it
abbrev pub invariant-loop-i : goal.invariant-loop-i
invariant-loop-i l = AllAdjacentBelow (λ x y. text_cmp x y ≡ Less) l.digests l.i
