use Rattle.std.proofs.Common.{◌≡◌, false, take}
use Rattle.std.specs.List.{list_any}
use Rattle.store_contents.specs.Hashed.{shows_id}
use Rattle.store_contents.proofs.hashed.show_id.Given as goal

-- no row so far shows the id
abbrev pub invariant-loop-row : goal.invariant-loop-row
invariant-loop-row l = list_any (shows_id l.id) (take l.row-index l.rows) ≡ false
