use Rattle.std.proofs.Common.{◌≡◌, ◌∙◌, rules, w64, SFits}
use Rattle.std.proofs.lemmas.Int.{to_z-of_z}
use Rattle.std.specs.List.{list_any}
use Rattle.store_contents.specs.Hashed.{shows_id}
use Rattle.store_contents.proofs.Reading.{is_read, not_read, told_if}
use Rattle.store_contents.proofs.hashed.any_shown.Goals as goal

pub returns-in-Ok : goal.returns-in-Ok
returns-in-Ok c =
    let range : SFits w64 c.get.result = search rules in
    is_read c.args.shown c.in-Ok.rows c.told.result (λ rows found. found ≡ list_any (shows_id c.args.id.id) rows) c.in-Ok.is (told_if c.show_id.result c.told.result c.told.ensures.exact _ (rw (c.deref.ensures.value, to_z-of_z w64 c.get.result range ∙ c.get.ensures) at c.show_id.ensures))

pub returns-in-Err : goal.returns-in-Err
returns-in-Err c = not_read c.args.shown c.in-Err.error _ (λ rows found. found ≡ list_any (shows_id c.args.id.id) rows) c.in-Err.is
