-- The registry that connections are served over (profile).
use Rattle.std.specs.Prelude.{◌≡◌, List, [], None, codes}
use Rattle.clap.specs.Words.{Row, first_of}
use Rattle.registry_orders.specs.declared.served.Served.{Served}
use Rattle.registry_orders.specs.declared.served.Served.TheVariants.{Memory, Stored}
use Rattle.registry_orders.specs.Options.{texts_of, HasFlag, SpellsSetup}
use Rattle.registry_orders.specs.Orders.{HasValue}

-- `--memory` is given and `--db` is not, and the setup is as `--repo` and `--grant` spell it; or `--db` has
-- this value, and none of these three is given
abbrev pub IsServedIn : List Row → Served → Type 0
IsServedIn options (Memory setup) =
    HasFlag options (codes "memory") × (first_of (codes "db") options ≡ None)
    × SpellsSetup (texts_of (codes "repo") options) (texts_of (codes "grant") options) setup
IsServedIn options (Stored path) =
    ¬ (HasFlag options (codes "memory")) × HasValue options (codes "db") path.now
    × (texts_of (codes "repo") options ≡ []) × (texts_of (codes "grant") options ≡ [])
