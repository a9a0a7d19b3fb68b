use Rattle.std.proofs.Common.{◌≡◌, ◌∙◌, List, [], ◌∷◌, ◌++◌, sym, ap}
use Rattle.oci_types.specs.Text.{Text}
use Rattle.registry_model.specs.declared.grant.Grant.{Grant}
use Rattle.registry_model.specs.declared.level.Level.{Level}
use Rattle.registry_model.specs.World.{World}
use Rattle.registry_model.specs.Lookups.{AreLevelsOver, grants_on}
use Rattle.registry_model.proofs.TextOrder.{one_list}
use Rattle.registry_model.proofs.laws.grants_are_one_list.Goals as goal

one_over : (w : World) (names : List Text) (grants others : List Grant) → AreLevelsOver w names grants → AreLevelsOver w names others → grants ≡ others
one_over w [] grants others these those = these ∙ sym those
one_over w (name ∷ names) grants others these those =
    let firsts : these.0 ≡ those.0 = one_list these.0 those.0 these.2.rise those.2.rise (λ token. these.2.each token ∙ sym (those.2.each token)) in
    these.4 ∙ ap (λ (levels : List (Text × Level)). grants_on name levels ++ these.1) firsts
    ∙ ap (λ (t : List Grant). grants_on name those.0 ++ t) (one_over w names these.1 those.1 these.3 those.3) ∙ sym those.4

pub returns : goal.returns
returns c = one_over
