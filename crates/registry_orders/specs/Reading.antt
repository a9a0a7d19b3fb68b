-- Why words are not read (profile).
use Rattle.std.specs.Prelude.{◌≡◌, true, List, ⊤}
use Rattle.clap.specs.Takes.{takes}
use Rattle.clap.specs.Values.{kind_of}
use Rattle.clap.specs.declared.error.kind.ErrorKind.TheVariants.{OutOfMemory}
use Rattle.oci_types.specs.Text.{Text}
use Rattle.command_line.specs.CommandLine.{registry}
use Rattle.registry_orders.specs.declared.unread.Told.{Told}
use Rattle.registry_orders.specs.declared.unread.Told.TheVariants.{Failed, Options, Line}
use Rattle.registry_orders.specs.Failures.{IsOfWords}

-- the words fit the command line: a subcommand with options of its own, each with the values that it wants
abbrev pub fit : List Text → Type 0
fit words = takes registry words ≡ true

-- words that fit are refused for a name, a token, options that do not go together, or want of memory; what
-- `clap` tells of words is told of those alone that do not fit, or for want of memory
abbrev pub IsToldOfWords : List Text → Told → Type 0
IsToldOfWords words (Failed f) = IsOfWords f
IsToldOfWords words (Options word cause) = ⊤
IsToldOfWords words (Line e) = fit words → kind_of e ≡ OutOfMemory
