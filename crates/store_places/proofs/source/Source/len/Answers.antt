use Rattle.std.proofs.Common.{◌≡◌, length, subst, sym}
use Rattle.store_places.specs.Source.{Suits, text_in}
use Rattle.store_places.proofs.SourceLemmas.{sized}
use Rattle.store_places.proofs.source.Source.len.Goals as goal

pub returns-in-Extents-clause-text : goal.returns-in-Extents-clause-text
returns-in-Extents-clause-text c l = subst (λ x. Suits l x → length (text_in l x) ≡ c.total.result) (sym c.in-Extents.is) (sized l c.in-Extents.extents c.in-Extents.field-1 c.total.result c.total.ensures)
