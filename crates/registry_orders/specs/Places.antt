-- Where an order is carried out (profile).
use Rattle.std.specs.Prelude.{◌≡◌, List, None, codes, is_some}
use Rattle.clap.specs.Words.{Row, first_of}
use Rattle.registry_orders.specs.declared.place.Place.{Place}
use Rattle.registry_orders.specs.declared.place.Place.TheVariants.{Database, Server}
use Rattle.registry_orders.specs.Orders.{HasValue}

-- `--db` has this value and `--orders` is not given, or the other way round
abbrev pub IsPlaceIn : List Row → Place → Type 0
IsPlaceIn options (Database path) =
    HasValue options (codes "db") path.now × (first_of (codes "orders") options ≡ None)
IsPlaceIn options (Server path) =
    HasValue options (codes "orders") path.now × (first_of (codes "db") options ≡ None)

-- both are given, or neither is
abbrev pub IsPlaceless : List Row → Type 0
IsPlaceless options = is_some (first_of (codes "db") options) ≡ is_some (first_of (codes "orders") options)
