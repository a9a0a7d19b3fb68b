use Rattle.std.proofs.Common.{List, subst}
use Rattle.registry_pack.specs.declared.extent.Extent.{Extent}
use Rattle.registry_pack.proofs.InUseLemmas.{AreInUse, AreTaken-both, rest_before, rest_whole, rest_are}
use Rattle.registry_pack.proofs.pack.Pack.reclaim.Goals as goal

pub invariant_of-self : goal.invariant_of-self
invariant_of-self g c =
    let s = c.args.self.now in
    let free = s.free.holes.items in
    let taken = c.in_ok-taken.taken.holes.items in
    let rest = c.in_ok-self.field-0.holes.items in
    let used = c.args.used.items in
    let in_use = subst (λ (u : List Extent). AreInUse s.end c.in_ok-in_use.in_use.holes.items u) c.deref.ensures.value c.in_ok-in_use.ensures in
    let found = AreTaken-both s.end c.in_ok-in_use.in_use.holes.items taken used free in_use c.in_ok-taken.ensures in
    record {
      behind_head = s.behind_head;
      fits = s.fits;
      whole = s.whole;
      free_before = s.free_before;
      free_whole = s.free_whole;
      retired_before = rest_before s.end s.whole used free taken rest s.free_whole found c.in_ok-self.ensures;
      retired_whole = rest_whole s.end s.whole used free taken rest s.free_whole found c.in_ok-self.ensures;
    }

pub returns-clause-ok : goal.returns-clause-ok
returns-clause-ok g c =
    let s = c.args.self.now in
    let free = s.free.holes.items in
    let taken = c.in_ok-taken.taken.holes.items in
    let rest = c.in_ok-self.field-0.holes.items in
    let used = c.args.used.items in
    let in_use = subst (λ (u : List Extent). AreInUse s.end c.in_ok-in_use.in_use.holes.items u) c.deref.ensures.value c.in_ok-in_use.ensures in
    let found = AreTaken-both s.end c.in_ok-in_use.in_use.holes.items taken used free in_use c.in_ok-taken.ensures in
    rest_are s.end s.whole used free taken rest s.free_whole found c.in_ok-self.ensures
