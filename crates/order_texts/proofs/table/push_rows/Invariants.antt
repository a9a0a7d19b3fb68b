use Rattle.std.proofs.Common.{◌≡◌, ◌++◌, take, string_bytes}
use Rattle.order_texts.specs.Table.{rows_of}
use Rattle.order_texts.proofs.table.push_rows.Given as goal

abbrev pub invariant-loop-name : goal.invariant-loop-name
invariant-loop-name l = string_bytes l.text ≡ string_bytes l.fn.text ++ rows_of (take l.name-index l.usages)
