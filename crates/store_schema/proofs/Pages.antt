-- What a query makes of a row.
use Rattle.std.proofs.Common.{◌∷◌, []}
use Rattle.sqlite.specs.Order.{Row}
use Rattle.sqlite.specs.Query.{Query, Output, output}

abbrev pub out_of : Query → Row → Row → Output
out_of q params r = output q (params ∷ r ∷ [])
