-- The contents that nothing names.
use Rattle.std.specs.Prelude.{Bool, List, map}
use Rattle.std.specs.List.{list_any}
use Rattle.std.specs.Ordering.{int_eq}
use Rattle.std.specs.BTreeSet.{BTreeSet, keys}
use Rattle.sqlite.specs.Order.{Row}
use Rattle.sqlite.specs.Effect.{Database}
use Rattle.store_schema.specs.Rows.{integer_at}
use Rattle.store_contents.specs.declared.content_id.ContentId.{ContentId}
use Rattle.store_contents.specs.Contents.{content_rows}
use Rattle.store_contents.specs.Layouts.{Layout, InTables, InPack}
use Rattle.store_contents.specs.Places as places

-- the set has the id
abbrev pub is_linked : BTreeSet ContentId → ContentId → Bool
is_linked linked id = list_any (λ (other : ContentId). int_eq id.id other.id) (keys linked)

-- the id in a row's first column
abbrev pub id_shown : Row → ContentId
id_shown row = record { id = integer_at row 0 }

-- the rows of contents, wherever their bytes are
abbrev pub rows_in : Layout → Database → List Row
rows_in InTables db = content_rows db
rows_in (InPack file) db = places.content_rows db

-- the id of each content
abbrev pub ids_in : Layout → Database → List ContentId
ids_in l db = map id_shown (rows_in l db)
