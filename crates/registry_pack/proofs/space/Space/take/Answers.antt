use Rattle.std.proofs.Common.{◌≡◌, ◌<◌, List, length, get_or, subst, All, arith}
use Rattle.std.proofs.lemmas.List.{get_or_default}
use Rattle.std.specs.List.{AllWithin}
use Rattle.registry_pack.specs.declared.extent.Extent.{Extent}
use Rattle.registry_pack.proofs.RunLemmas.{no_longer_run, first_run, on_none}
use Rattle.registry_pack.proofs.space.Space.take.Goals as goal

pub returns-in_err-index-clause-no_room : goal.returns-in_err-index-clause-no_room
returns-in_err-index-clause-no_room c =
    let s = c.args.self.now in
    let small = subst (λ (l : List Extent). All (λ e. e.size < c.args.size) l) c.deref.ensures.value c.in_err-index.ensures.none in
    on_none c.from_residual.result _ (no_longer_run s.holes.items s.apart c.args.size c.requires.some small)

pub returns-clause-first : goal.returns-clause-first
returns-clause-first c =
    let s = c.args.self.now in
    let i = c.in_ok-index.index in
    let hole = get_or s.holes.items i c.cut.result in
    let lt = subst (λ (l : List Extent). i < length l) c.deref.ensures.value c.in_ok-index.ensures.found.0 in
    let before = subst (λ (l : List Extent). AllWithin (λ e. e.size < c.args.size) l 0 i) c.deref.ensures.value c.in_ok-index.ensures.before in
    let is : hole ≡ get_or s.holes.items i hole = get_or_default s.holes.items i c.cut.result hole lt in
    λ at run. omega (arith, c.cut.ensures.front c.cut.result, first_run s.holes.items s.apart c.args.size c.requires.some i hole lt is before at run)
