use Rattle.std.proofs.Common.{◌≡◌, ◌∙◌, ap, not, length, rules}
use Rattle.std.specs.Prelude.{◌==◌, Ok}
use Rattle.std.specs.Vec.{vec_len}
use Rattle.store_statements.proofs.ReadRows.{is_read, not_read}
use Rattle.store_statements.proofs.reading.any_row.Goals as goal

pub returns-in-Ok : goal.returns-in-Ok
returns-in-Ok c =
    let len : vec_len c.in-Ok.rows ≡ length c.in-Ok.rows.items = search rules in
    is_read c.args.shown c.in-Ok.rows (Ok (not c.is_empty.result)) (λ rows any. any ≡ not (length rows == 0)) c.in-Ok.is (ap not c.is_empty.ensures ∙ ap (λ n. not (n == 0)) len)

pub returns-in-Err : goal.returns-in-Err
returns-in-Err c = not_read c.args.shown c.in-Err.error _ (λ rows any. any ≡ not (length rows == 0)) c.in-Err.is
