use Rattle.std.proofs.Common.{◌+◌, arith}
use Rattle.store_places.proofs.ChainLemmas.{total_next, total_within}
use Rattle.store_places.proofs.source.total.Goals as goal

pub overflow_add-total : goal.overflow_add-total
overflow_add-total c =
    omega (
      arith,
      c.requires.fits,
      c.loop-extent.invariant,
      c.size-total.ensures.size,
      total_within c.args.extents.now (c.loop-extent.extent-index + 1),
      total_next c.args.extents.now c.loop-extent.extent-index c.extent-item.result c.loop-extent-test.true c.extent-item.is,
    )

pub loop-extent-preserved : goal.loop-extent-preserved
loop-extent-preserved c =
    omega (arith, c.loop-extent.invariant, c.size-total.ensures.size, total_next c.args.extents.now c.loop-extent.extent-index c.extent-item.result c.loop-extent-test.true c.extent-item.is)
