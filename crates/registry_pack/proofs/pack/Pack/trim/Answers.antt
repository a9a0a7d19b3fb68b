use Rattle.std.proofs.Common.{◌<◌, ◌≤◌, arith}
use Rattle.registry_pack.proofs.BlockLemmas.{trimmed_start, trimmed_before, trimmed_whole}
use Rattle.registry_pack.proofs.pack.Pack.trim.Goals as goal

pub invariant_of-self-2 : goal.invariant_of-self-2
invariant_of-self-2 g c =
    let s = c.args.self.now in
    let old = s.free.holes.items in
    let new = c.trim_from-end.new.self.holes.items in
    let end = c.trim_from-end.result in
    let cut = c.trim_from-end.ensures in
    let lt : end < s.end = omega (arith, cut.order, c.if-end-self.false) in
    let from : c.max-from.result ≤ end = cut.from lt in
    record {
      behind_head = omega (arith, from, c.max-from.ensures);
      fits = omega (arith, lt, s.fits);
      whole = trimmed_start old new end s.end s.free_whole s.whole lt cut.was_free cut.after (cut.whole lt);
      free_before = trimmed_before old new end s.end s.free_whole s.whole lt cut.was_free cut.after (cut.whole lt) s.free_before;
      free_whole = trimmed_whole old new end s.end s.free_whole s.whole lt cut.was_free cut.after (cut.whole lt);
      retired_before = λ p f. ((s.retired_before p f).0, omega (arith, c.end.ensures p f, from, c.max-from.ensures));
      retired_whole = s.retired_whole;
    }

pub returns-clause-heads : goal.returns-clause-heads
returns-clause-heads g c =
    let s = c.args.self.now in
    let end = c.trim_from-end.result in
    let cut = c.trim_from-end.ensures in
    let lt : end < s.end = omega (arith, cut.order, c.if-end-self.false) in
    let from : c.max-from.result ≤ end = cut.from lt in
    let behind : 8192 ≤ end = omega (arith, from, c.max-from.ensures) in
    record {
      stands = λ a bytes low. c.cut.ensures.below.stands a bytes (omega (arith, low, behind));
      lasts = λ a bytes low. c.cut.ensures.below.lasts a bytes (omega (arith, low, behind));
      clean = c.cut.ensures.below.clean;
    }
