use Rattle.registry_pack.specs.Blocks.{AreBefore, AreWhole}
use Rattle.registry_pack.proofs.BlockLemmas.{AreBefore-given, AreWhole-given, given_retired}
use Rattle.registry_pack.proofs.OutcomeLemmas.{kept_either, OnOk-then}
use Rattle.registry_pack.proofs.pack.Pack.retire.Goals as goal

pub invariant_of-self : goal.invariant_of-self
invariant_of-self g c =
    let s = c.args.self.now in
    let old = s.retired.holes.items in
    let new = c.give.new.self.holes.items in
    let given = c.blocks_of.result in
    let is = c.blocks_of.ensures in
    record {
      behind_head = s.behind_head;
      fits = s.fits;
      whole = s.whole;
      free_before = s.free_before;
      free_whole = s.free_whole;
      retired_before = kept_either c.give.result (AreBefore s.end) old new c.give.ensures.err s.retired_before
          (OnOk-then c.give.result _ _ (λ gives. AreBefore-given old new given c.args.extent s.end is gives s.retired_before) c.give.ensures.ok);
      retired_whole = kept_either c.give.result AreWhole old new c.give.ensures.err s.retired_whole
          (OnOk-then c.give.result _ _ (λ gives. AreWhole-given old new given c.args.extent s.end s.whole is gives s.retired_whole) c.give.ensures.ok);
    }

pub returns-clause-ok : goal.returns-clause-ok
returns-clause-ok g c =
    let s = c.args.self.now in
    OnOk-then c.give.result _ _
    (λ gives. given_retired s.retired.holes.items c.give.new.self.holes.items s.end c.blocks_of.result c.args.extent c.blocks_of.ensures gives) c.give.ensures.ok
