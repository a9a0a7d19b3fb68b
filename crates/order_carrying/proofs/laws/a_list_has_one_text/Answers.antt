use Rattle.order_carrying.proofs.GrantLemmas.{one_text}
use Rattle.order_carrying.proofs.laws.a_list_has_one_text.Goals as goal

pub returns : goal.returns
returns c = one_text
