use Rattle.store_contents.specs.Search.{ShowsFirst}
use Rattle.store_contents.proofs.SearchLemmas.{shows_first}
use Rattle.store_contents.proofs.Reading.{is_read, not_read, told_if}
use Rattle.store_contents.proofs.search.first_with.Goals as goal

pub returns-in-Ok : goal.returns-in-Ok
returns-in-Ok c =
    is_read c.args.shown c.in-Ok.rows c.told.result (ShowsFirst c.args.bytes.now) c.in-Ok.is (told_if c.id_among.result c.told.result c.told.ensures.exact _ (shows_first c.args.bytes.now c.in-Ok.rows.items c.id_among.result (rw c.deref.ensures.value at c.id_among.ensures.none) (rw c.deref.ensures.value at c.id_among.ensures.some)))

pub returns-in-Err : goal.returns-in-Err
returns-in-Err c = not_read c.args.shown c.in-Err.error _ (ShowsFirst c.args.bytes.now) c.in-Err.is
