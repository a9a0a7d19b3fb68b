use Rattle.std.proofs.Common.{◌≡◌, ◌≤◌, false, length}
use Rattle.std.specs.Io.KnownBytes.{Consumes}
use Rattle.registry_orders.specs.Causes.{has_line_end}
use Rattle.registry_orders.proofs.tokens.first_line.Given as goal

-- what was read so far is the line, which has no end in it, a byte a turn
abbrev pub invariant-loop : goal.invariant-loop
invariant-loop g l = record {
  read : Consumes (g.R.Read.remaining l.fn.reader) (g.R.Read.remaining l.reader) l.line.items;
  is_line : has_line_end l.line.items ≡ false;
  short : length l.line.items ≤ l.counter;
}
