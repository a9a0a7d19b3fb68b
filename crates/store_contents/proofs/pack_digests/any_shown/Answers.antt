use Rattle.std.proofs.Common.{◌≡◌, Ok}
use Rattle.std.specs.List.{list_any}
use Rattle.store_contents.specs.Hashed.{shows_digits}
use Rattle.store_contents.proofs.Reading.{is_read, not_read}
use Rattle.store_contents.proofs.pack_digests.any_shown.Goals as goal

pub returns-in-Ok : goal.returns-in-Ok
returns-in-Ok c =
    is_read c.args.shown c.in-Ok.rows (Ok c.any_shows.result) (λ rows found. found ≡ list_any (shows_digits c.args.sha256.now) rows) c.in-Ok.is (rw c.deref.ensures.value at c.any_shows.ensures)

pub returns-in-Err : goal.returns-in-Err
returns-in-Err c = not_read c.args.shown c.in-Err.error _ (λ rows found. found ≡ list_any (shows_digits c.args.sha256.now) rows) c.in-Err.is
