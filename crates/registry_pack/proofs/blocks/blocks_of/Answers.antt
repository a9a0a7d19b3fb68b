use Rattle.std.proofs.Common.{arith}
use Rattle.registry_pack.proofs.blocks.blocks_of.Goals as goal

pub returns : goal.returns
returns c p = (
  λ k. let w = (c.between.ensures.covers p).0 k in ((omega (arith, w.0), omega (arith, w.0), omega (arith, w.1)), omega (arith, w.1)),
  λ k. (c.between.ensures.covers p).1 (omega (arith, k.0.0, k.0.1), omega (arith, k.0.2, k.1)),
)
