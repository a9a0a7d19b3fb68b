-- Rows of one table in the order of one column or of two, and one row of any.
use Rattle.std.specs.Prelude.{ℕ, pos, List, ◌∷◌, []}
use Rattle.sqlite.specs.Collation.TheVariants.{Binary}
use Rattle.sqlite.specs.declared.types.Value.TheVariants.{Int}
use Rattle.sqlite.specs.Term.{Term, lit, col, op2}
use Rattle.sqlite.specs.Query.{Query}
use Rattle.sqlite_value.specs.Keys.{ascending}
use Rattle.sqlite_sql.specs.declared.ops.BinaryOp.TheVariants.{Compare}
use Rattle.sqlite_sql.specs.declared.ops.CompareOp.TheVariants.{Gt}
use Rattle.store_schema.specs.Layout.{select_from}

-- the column of the one table is greater than the parameter
abbrev pub above : ℕ → ℕ → Term
above place param = op2 (Compare Gt Binary) (col 1 place) (col 0 param)

-- ordered by one column
abbrev pub ordered_from : ℕ → List Term → List Term → ℕ → Query
ordered_from tree terms project at =
    record (select_from tree terms project) { order = (col 1 at, ascending Binary) ∷ [] }

-- and cut to as many as the parameter says
abbrev pub page_from : ℕ → List Term → List Term → ℕ → ℕ → Query
page_from tree terms project at limit = record (ordered_from tree terms project at) { limit = col 0 limit }

-- ordered by one column, and by the next one where that is the same
abbrev pub ordered_twice_from : ℕ → List Term → List Term → ℕ → ℕ → Query
ordered_twice_from tree terms project at next = record (select_from tree terms project) {
  order = (col 1 at, ascending Binary) ∷ (col 1 next, ascending Binary) ∷ [];
}

-- one row, if there is one
abbrev pub first_from : ℕ → List Term → List Term → Query
first_from tree terms project = record (select_from tree terms project) { limit = lit (Int (pos 1)) }
