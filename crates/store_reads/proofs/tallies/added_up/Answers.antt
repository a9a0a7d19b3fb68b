use Rattle.std.proofs.Common.{◌<◌, ◌∙◌, length, get_or, refl, arith}
use Rattle.store_reads.proofs.TallyLemmas.{more_bytes}
use Rattle.store_reads.proofs.tallies.added_up.Goals as goal

pub loop-size-preserved : goal.loop-size-preserved
loop-size-preserved c =
    let low : c.loop-size.size-index < length c.args.sizes.now = omega arith in
    c.saturating_add-bytes.ensures ∙ more_bytes c.args.sizes.now c.loop-size.size-index c.loop-size.bytes (get_or c.args.sizes.now c.loop-size.size-index 0) low refl c.loop-size.invariant
