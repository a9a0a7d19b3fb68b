use Rattle.std.proofs.Common.{◌≡◌, take, map, string_bytes}
use Rattle.order_texts.specs.Items.{item_shown}
use Rattle.order_texts.specs.Texts.{lines_of}
use Rattle.order_texts.proofs.lines.as_lines.Given as goal

abbrev pub invariant-loop-item : goal.invariant-loop-item
invariant-loop-item l = string_bytes l.text ≡ lines_of (map item_shown (take l.item-index l.items))
