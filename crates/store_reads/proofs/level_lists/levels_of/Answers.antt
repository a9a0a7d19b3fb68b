use Rattle.std.proofs.Common.{◌≡◌, map}
use Rattle.store_statements.proofs.ReadRows.{is_read, not_read}
use Rattle.store_reads.specs.LevelLists.{token_level_shown}
use Rattle.store_reads.proofs.level_lists.levels_of.Goals as goal

pub returns-in-Ok : goal.returns-in-Ok
returns-in-Ok c = is_read c.args.shown c.in-Ok.rows c.levels_in.result (λ rows levels. levels.items ≡ map token_level_shown rows) c.in-Ok.is (rw c.deref.ensures.value at c.levels_in.ensures)

pub returns-in-Err : goal.returns-in-Err
returns-in-Err c = not_read c.args.shown c.in-Err.error _ (λ rows levels. levels.items ≡ map token_level_shown rows) c.in-Err.is
