use Rattle.std.proofs.Common.{◌≡◌, ◌∙◌, length, rules}
use Rattle.std.specs.Vec.{vec_len}
use Rattle.std.specs.Prelude.{Ok}
use Rattle.store_statements.proofs.ReadRows.{is_read, not_read}
use Rattle.store_statements.proofs.reading.count_rows.Goals as goal

pub returns-in-Ok : goal.returns-in-Ok
returns-in-Ok c =
    let len : vec_len c.in-Ok.rows ≡ length c.in-Ok.rows.items = search rules in
    is_read c.args.shown c.in-Ok.rows (Ok c.len.result) (λ rows n. n ≡ length rows) c.in-Ok.is (c.len.ensures ∙ len)

pub returns-in-Err : goal.returns-in-Err
returns-in-Err c = not_read c.args.shown c.in-Err.error _ (λ rows n. n ≡ length rows) c.in-Err.is
