use Rattle.std.proofs.Common.{◌++◌, ◌∙◌, ap}
use Rattle.std.proofs.Common.{List}
use Rattle.registry_pack.specs.declared.extent.Extent.{Extent}
use Rattle.registry_pack.proofs.SpaceLemmas.{AreAlike-together}
use Rattle.registry_pack.proofs.space.Space.add.Goals as goal

pub returns-clause-ok : goal.returns-clause-ok
returns-clause-ok c =
    let other = c.args.other.holes.items in
    AreAlike-together other c.args.self.now.holes.items c.extend_from_slice.new.self.items c.in_ok-self.field-0.holes.items
    (c.in_ok-extend_from_slice.ensures.items ∙ ap (λ (l : List Extent). other ++ l) c.deref.ensures.value) c.in_ok-self.ensures
