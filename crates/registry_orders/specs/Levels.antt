-- The numbers of the levels (profile).
use Rattle.std.specs.Prelude.{ℕ, Option, Some, None, ◌==◌, if◌then◌else◌}
use Rattle.registry_model.specs.declared.level.Level.{Level}
use Rattle.registry_model.specs.declared.level.Level.TheVariants.{Pull, Push, Delete}

abbrev pub level_numbered : ℕ → Option Level
level_numbered n =
    if n == 1 then Some Pull
    else (if n == 2 then Some Push
    else (if n == 3 then Some Delete
    else None))
