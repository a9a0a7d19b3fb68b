-- What the words of a command line ask for (profile).
use Rattle.std.specs.Prelude.{◌≡◌, ◌↔◌, true, List, Option, Some, None, codes, option_map}
use Rattle.clap.specs.Words.{Row, first_of, one_of, subcommand_of}
use Rattle.oci_types.specs.Text.{Text}
use Rattle.registry_orders.specs.declared.beside.Beside.{Beside}
use Rattle.registry_orders.specs.declared.served.Served.TheVariants as served
use Rattle.registry_orders.specs.declared.tasks.Task.{Task}
use Rattle.registry_orders.specs.declared.tasks.Task.TheVariants.{Memory, Stored, Server, Order, TokenOrder, Check, Migration, Stop}
use Rattle.command_line.specs.CommandLine.{registry}
use Rattle.registry_orders.specs.Layouts.{IsLayoutIn}
use Rattle.registry_orders.specs.Limits.{AreLimitsIn}
use Rattle.registry_orders.specs.Options.{HasFlag, IsNumberOf}
use Rattle.registry_orders.specs.Orders.{HasValue, IsOrderIn, IsTokenOrderIn}
use Rattle.registry_orders.specs.Places.{IsPlaceIn}
use Rattle.registry_orders.specs.Served.{IsServedIn}
use Rattle.registry_orders.specs.Settings.{AreSettingsIn}
use Rattle.registry_orders.specs.Tokens.{IsTokenFrom}

-- where a server takes orders, whether it says each request, and whether it ends at the end of standard
-- input
pub record IsBesideIn (options : List Row) (b : Beside) : Type 0 where
  pub orders : option_map (λ path. path.now) b.orders ≡ first_of (codes "orders") options
  pub log : (b.log ≡ true) ↔ HasFlag options (codes "log")
  pub stop_at_eof : (b.stop_at_eof ≡ true) ↔ HasFlag options (codes "stop-at-eof")

-- the word of the subcommand, and the options that it was given, say what the task is
abbrev pub IsTaskIn : Text → List Row → Task → Type 0
IsTaskIn word options (Memory setup settings) =
    (word ≡ codes "stdio") × IsServedIn options (served.Memory setup)
    × (first_of (codes "layout") options ≡ None) × AreSettingsIn options settings
IsTaskIn word options (Stored path layout settings) =
    (word ≡ codes "stdio") × IsServedIn options (served.Stored path) × IsLayoutIn options layout
    × AreSettingsIn options settings
IsTaskIn word options (Server over layout address connections limits beside settings) =
    (word ≡ codes "serve") × IsServedIn options over × IsLayoutIn options layout
    × HasValue options (codes "listen") address.now
    × IsNumberOf (one_of (codes "connections") options) connections × AreLimitsIn options limits
    × IsBesideIn options beside × AreSettingsIn options settings
IsTaskIn word options (Order place layout order) =
    IsPlaceIn options place × IsLayoutIn options layout × IsOrderIn word options order
IsTaskIn word options (TokenOrder place layout source order) =
    IsPlaceIn options place × IsLayoutIn options layout × IsTokenFrom options source
    × IsTokenOrderIn word options order
IsTaskIn word options (Check path) = (word ≡ codes "check") × HasValue options (codes "db") path.now
IsTaskIn word options (Migration path) = (word ≡ codes "migrate") × HasValue options (codes "db") path.now
IsTaskIn word options (Stop path) = (word ≡ codes "stop") × HasValue options (codes "orders") path.now

-- the same of a subcommand that was found, with its options
abbrev pub IsTaskOf : Option (Text × List Row) → Task → Type 0
IsTaskOf None task = ⊥
IsTaskOf (Some found) task = IsTaskIn found.0 found.1 task

-- the task that the words spell: of the subcommand and the options that `clap` finds in them, for the command
-- line of the program
abbrev pub IsTask : List Text → Task → Type 0
IsTask words task = IsTaskOf (subcommand_of registry words) task
