use Rattle.std.proofs.Common.{◌≡◌, length, map}
use Rattle.store_schema.specs.Rows.{bytes_at}
use Rattle.store_statements.specs.TagPages.{first_rows, are_more}
use Rattle.store_statements.proofs.Executed.{number_told}
use Rattle.store_statements.proofs.ReadRows.{is_read, not_read}
use Rattle.store_statements.proofs.tag_pages.page_of.Goals as goal

pub returns-in-Ok : goal.returns-in-Ok
returns-in-Ok c = is_read c.args.shown c.in-Ok.rows c.told.result (λ rows page. (page.tags.items ≡ map (λ row. bytes_at row 0) (first_rows c.args.n rows)) × (page.more ≡ are_more c.args.n (length rows))) c.in-Ok.is (number_told _ c.page_in.result c.told.result c.told.ensures.ok (rw c.deref.ensures.value at c.page_in.ensures))

pub returns-in-Err : goal.returns-in-Err
returns-in-Err c = not_read c.args.shown c.in-Err.error _ (λ rows page. (page.tags.items ≡ map (λ row. bytes_at row 0) (first_rows c.args.n rows)) × (page.more ≡ are_more c.args.n (length rows))) c.in-Err.is
