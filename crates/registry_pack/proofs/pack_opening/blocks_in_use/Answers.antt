use Rattle.std.proofs.Common.{arith}
use Rattle.registry_pack.proofs.OutcomeLemmas.{IfOk-then}
use Rattle.registry_pack.proofs.InUseLemmas.{AreInUse-more, AreInUse-all}
use Rattle.registry_pack.proofs.pack_opening.blocks_in_use.Goals as goal

pub loop-extent-preserved : goal.loop-extent-preserved
loop-extent-preserved c =
    AreInUse-more c.args.end c.args.used.now c.loop-extent.extent-index c.extent-item.result c.blocks_of.result (omega arith) c.extent-item.is
    c.blocks_of.ensures c.loop-extent.blocks.items c.push.new.self.items c.in_ok-push.ensures.items c.loop-extent.invariant

pub returns : goal.returns
returns c =
    let found = AreInUse-all c.args.end c.args.used.now c.loop-extent.extent-index c.loop-extent.blocks.items (omega arith) c.loop-extent.invariant in
    IfOk-then c.of.result _ _ (λ space is p. (λ f. (found p).0 ((is p).0 f), λ h. (is p).1 ((found p).1 h))) c.of.ensures
