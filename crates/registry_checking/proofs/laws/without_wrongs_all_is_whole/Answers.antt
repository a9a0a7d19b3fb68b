use Rattle.registry_checking.proofs.WholeLemmas.{is_whole}
use Rattle.registry_checking.proofs.laws.without_wrongs_all_is_whole.Goals as goal

pub returns : goal.returns
returns c = λ w name r none is. is_whole w none name r is
