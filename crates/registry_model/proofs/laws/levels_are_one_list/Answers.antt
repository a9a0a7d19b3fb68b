use Rattle.std.proofs.Common.{◌∙◌, sym}
use Rattle.registry_model.proofs.TextOrder.{one_list}
use Rattle.registry_model.proofs.laws.levels_are_one_list.Goals as goal

pub returns : goal.returns
returns c = λ w name levels others these those.
    one_list levels others these.rise those.rise (λ token. these.each token ∙ sym (those.each token))
