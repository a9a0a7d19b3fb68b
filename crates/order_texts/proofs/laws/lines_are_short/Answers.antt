use Rattle.order_texts.proofs.LineLaws.{long_line}
use Rattle.order_texts.proofs.laws.lines_are_short.Goals as goal

pub returns : goal.returns
returns c = long_line
