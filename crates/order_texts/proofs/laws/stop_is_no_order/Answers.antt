use Rattle.order_texts.proofs.LineLaws.{stop_spells_none}
use Rattle.order_texts.proofs.laws.stop_is_no_order.Goals as goal

pub returns : goal.returns
returns c = stop_spells_none
