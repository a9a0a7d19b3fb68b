-- The commands that a store's texts mean, each over one table of a schema.
use Rattle.std.specs.Prelude.{ℕ, List, [], ◌∷◌}
use Rattle.sqlite.specs.Schema.{Schema}
use Rattle.sqlite.specs.Table.{Table}
use Rattle.sqlite.specs.Term.{Term, col}
use Rattle.sqlite.specs.Command.{Command}
use Rattle.sqlite.specs.Command.TheVariants.{Update, Delete, Select}
use Rattle.store_schema.specs.Layout.{tree_of, select_from}
use Rattle.store_schema.specs.Ordered.{ordered_from, page_from, ordered_twice_from, first_from}

-- columns of the rows at which each term holds, under these names
abbrev pub selects : Schema → Table → List Term → List Term → List (List ℕ) → Command
selects schema table terms project names =
    Select (record { lets = []; body = select_from (tree_of schema table) terms project }) names

-- the same in the order of one column
abbrev pub selects_ordered : Schema → Table → List Term → List Term → ℕ → List (List ℕ) → Command
selects_ordered schema table terms project at names =
    Select (record { lets = []; body = ordered_from (tree_of schema table) terms project at }) names

-- and cut to as many as a parameter says
abbrev pub selects_page : Schema → Table → List Term → List Term → ℕ → ℕ → List (List ℕ) → Command
selects_page schema table terms project at limit names =
    Select (record { lets = []; body = page_from (tree_of schema table) terms project at limit }) names

-- in the order of one column, and of the next one where that is the same
abbrev pub selects_ordered_twice : Schema → Table → List Term → List Term → ℕ → ℕ → List (List ℕ) → Command
selects_ordered_twice schema table terms project at next names =
    let body = ordered_twice_from (tree_of schema table) terms project at next in
    Select (record { lets = []; body = body }) names

-- one row of those at which each term holds, if there is one
abbrev pub selects_first : Schema → Table → List Term → List Term → List (List ℕ) → Command
selects_first schema table terms project names =
    Select (record { lets = []; body = first_from (tree_of schema table) terms project }) names

-- new columns for the rows at which each term holds
abbrev pub updates : ℕ → Schema → Table → List Term → List Term → Command
updates at schema table terms project =
    Update at (record { lets = []; body = select_from (tree_of schema table) terms project })

-- the rows go at which each term holds
abbrev pub deletes : ℕ → Schema → Table → List Term → Command
deletes at schema table terms =
    Delete at (record { lets = []; body = select_from (tree_of schema table) terms (col 1 0 ∷ []) })
