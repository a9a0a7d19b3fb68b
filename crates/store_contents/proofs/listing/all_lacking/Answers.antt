use Rattle.std.proofs.Common.{◌≡◌, map, not}
use Rattle.std.specs.Prelude.{filter}
use Rattle.store_contents.specs.Linked.{is_linked, id_shown}
use Rattle.store_contents.proofs.Reading.{is_read, not_read, told_if}
use Rattle.store_contents.proofs.listing.all_lacking.Goals as goal

pub returns-in-Ok : goal.returns-in-Ok
returns-in-Ok c =
    is_read c.args.shown c.in-Ok.rows c.told.result (λ rows ids. ids.items ≡ filter (λ id. not (is_linked c.args.linked.now id)) (map id_shown rows)) c.in-Ok.is (told_if c.lacking.result c.told.result c.told.ensures.exact _ (rw c.deref.ensures.value at c.lacking.ensures))

pub returns-in-Err : goal.returns-in-Err
returns-in-Err c = not_read c.args.shown c.in-Err.error _ (λ rows ids. ids.items ≡ filter (λ id. not (is_linked c.args.linked.now id)) (map id_shown rows)) c.in-Err.is
