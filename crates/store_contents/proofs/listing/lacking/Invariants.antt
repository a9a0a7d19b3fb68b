use Rattle.std.proofs.Common.{◌≡◌, map, filter, not, take}
use Rattle.store_contents.specs.Linked.{is_linked, id_shown}
use Rattle.store_contents.proofs.listing.lacking.Given as goal

-- the ids so far that the set lacks
abbrev pub invariant-loop-row : goal.invariant-loop-row
invariant-loop-row l = l.ids.items ≡ filter (λ id. not (is_linked l.linked id)) (map id_shown (take l.row-index l.rows))
