use Rattle.std.proofs.Common.{◌≡◌, false, take}
use Rattle.std.specs.List.{list_any}
use Rattle.store_contents.specs.Hashed.{shows_digits}
use Rattle.store_contents.proofs.pack_digests.any_shows.Given as goal

-- no row so far shows the digits
abbrev pub invariant-loop-row : goal.invariant-loop-row
invariant-loop-row l = list_any (shows_digits l.sha256) (take l.row-index l.rows) ≡ false
