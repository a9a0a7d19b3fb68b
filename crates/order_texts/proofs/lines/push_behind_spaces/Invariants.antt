use Rattle.std.proofs.Common.{◌≡◌, ◌++◌, take, string_bytes}
use Rattle.order_texts.specs.Texts.{behind_spaces}
use Rattle.order_texts.proofs.lines.push_behind_spaces.Given as goal

abbrev pub invariant-loop-digest : goal.invariant-loop-digest
invariant-loop-digest l = string_bytes l.text ≡ string_bytes l.fn.text ++ behind_spaces (take l.digest-index l.digests)
