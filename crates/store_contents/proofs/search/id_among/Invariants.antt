use Rattle.std.proofs.Common.{◌≡◌, false, take}
use Rattle.std.specs.List.{list_any}
use Rattle.store_contents.specs.Search.{shows_bytes}
use Rattle.store_contents.proofs.search.id_among.Given as goal

-- no row so far has the bytes
abbrev pub invariant-loop-row : goal.invariant-loop-row
invariant-loop-row l = list_any (shows_bytes l.bytes) (take l.row-index l.rows) ≡ false
