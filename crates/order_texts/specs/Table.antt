-- The table of what the repositories hold and may hold (profile).
use Rattle.std.specs.Prelude.{ℕ, ◌-◌, List, ◌∷◌, ◌++◌, length, replicate, codes}
use Rattle.std.specs.List.{flat_map}
use Rattle.std.specs.Fmt.{decimal}
use Rattle.oci_types.specs.Text.{Text}
use Rattle.registry_model.specs.declared.quota.Usage.{Usage}
use Rattle.registry_orders.specs.Outputs.{newline}

-- the number in decimal digits, with spaces before it up to so many places
abbrev pub right : ℕ → ℕ → Text
right places n = replicate (places - length (decimal n)) 32 ++ decimal n

-- bytes in 20 places, other numbers in 10
abbrev pub numbers_of : Usage → Text
numbers_of u =
    right 20 u.used ++ right 20 u.quota
    ++ right 10 u.blobs ++ right 10 u.manifests ++ right 10 u.tags ++ right 10 u.sessions

abbrev pub row_of : Text → Usage → Text
row_of name u = numbers_of u ++ 32 ∷ name

abbrev pub heading : Text
heading = codes "                used               quota     blobs manifests      tags  sessions name"

-- a line for each repository
abbrev pub rows_of : List (Text × Usage) → Text
rows_of usages = flat_map (λ e. row_of e.0 e.1 ++ newline) usages

abbrev pub table_of : List (Text × Usage) → Text
table_of usages = heading ++ newline ++ rows_of usages
