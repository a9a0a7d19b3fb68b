use Rattle.order_texts.proofs.LineLaws.{one_order}
use Rattle.order_texts.proofs.laws.a_line_spells_one_order.Goals as goal

pub returns : goal.returns
returns c = one_order
