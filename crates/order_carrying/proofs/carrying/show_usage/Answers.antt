use Rattle.std.proofs.Common.{◌∙◌, ap}
use Rattle.order_texts.specs.Table.{table_of}
use Rattle.order_carrying.proofs.TableLemmas.{shown_table}
use Rattle.order_carrying.proofs.carrying.show_usage.Goals as goal

pub returns-in-Ok-table_of-clause-shows : goal.returns-in-Ok-table_of-clause-shows
returns-in-Ok-table_of-clause-shows g c = λ honest.
    let found = c.in-Ok.ensures.found honest in
    let table = c.as_str.ensures.value ∙ c.in-Ok-table_of.ensures ∙ ap table_of (c.as_slice.ensures.value ∙ found.0) in
    shown_table _ _ c.show.result _ _ c.as_str.result.now table found.1 c.show.ensures.written c.show.ensures.part c.show.ensures.fails
