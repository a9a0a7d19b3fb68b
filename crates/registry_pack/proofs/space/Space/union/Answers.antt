use Rattle.std.proofs.Common.{◌≡◌, List, ◌++◌, ◌∙◌, ap}
use Rattle.registry_pack.specs.declared.extent.Extent.{Extent}
use Rattle.registry_pack.proofs.OutcomeLemmas.{IfOk-then}
use Rattle.registry_pack.proofs.SpaceLemmas.{AreAlike-together}
use Rattle.registry_pack.proofs.space.Space.union.Goals as goal

pub returns : goal.returns
returns c =
    let ours = c.args.self.now.holes.items in
    let others = c.args.other.now.holes.items in
    let first : c.extend_from_slice.new.self.items ≡ others =
    c.in_ok-extend_from_slice.ensures.items ∙ ap (λ (l : List Extent). l ++ c.deref.result.now) c.new-extents.ensures.items ∙ c.deref.ensures.value in
    let both : c.extend_from_slice-2.new.self.items ≡ others ++ ours =
    c.in_ok-extend_from_slice-2.ensures.items ∙ ap (λ (l : List Extent). l ++ c.deref-2.result.now) first ∙ ap (λ (l : List Extent). others ++ l) c.deref-2.ensures.value in
    IfOk-then c.of.result _ _ (λ space alike. AreAlike-together others ours c.extend_from_slice-2.new.self.items space.holes.items both alike) c.of.ensures
