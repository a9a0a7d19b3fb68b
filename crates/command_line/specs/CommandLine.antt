-- The command line: the subcommands, and the options that each takes (profile).
use Rattle.std.specs.Prelude.{◌≡◌, ℕ, true, false, List, [], ◌∷◌, ◌++◌, Some, codes}
use Rattle.clap.specs.Words.{App, Shape, Rule, Text, new_rule, app_of, rule_of}
use Rattle.clap.specs.Simple.{new_shape}
use Rattle.clap.specs.declared.builder.ArgAction.TheVariants.{Set, SetTrue, Append}
use Rattle.clap.specs.declared.builder.ValueParser.TheVariants.{Unsigned}
use Rattle.clap.specs.declared.builder.Arg.{Arg}
use Rattle.clap.specs.declared.builder.Command.{Command}

-- `--word VALUE`, at most once
abbrev pub option : Text → Rule
option word = record (new_rule word) { long = Some word; action = Some Set; value_names = 1 }

abbrev pub required : Rule → Rule
required r = record r { required = true }

-- `--word VALUE`, any number of times
abbrev pub repeated : Text → Rule
repeated word = record (option word) { action = Some Append }

abbrev pub flag : Text → Rule
flag word = record (new_rule word) { long = Some word; action = Some SetTrue }

-- with a number from the first to the last
abbrev pub within : ℕ → ℕ → Rule → Rule
within first last r = record r { parser = Some (Unsigned first last) }

abbrev pub most : ℕ
most = 9223372036854775807

abbrev pub db : Rule
db = option (codes "db")

-- how a new registry keeps contents
abbrev pub layout : Rule
layout = option (codes "layout")

abbrev pub orders : Rule
orders = option (codes "orders")

abbrev pub name : Rule
name = required (option (codes "name"))

-- the name may be left out
abbrev pub name_if : Rule
name_if = option (codes "name")

abbrev pub token : Rule
token = option (codes "token")

abbrev pub token_file : Rule
token_file = option (codes "token-file")

abbrev pub quota : Rule
quota = within 0 most (required (option (codes "quota")))

abbrev pub level : Rule
level = within 1 3 (required (option (codes "level")))

abbrev pub listen : Rule
listen = required (option (codes "listen"))

-- an option that is not given has this value
abbrev pub with_default : Text → Rule → Rule
with_default value r = record r { defaults = value ∷ [] }

abbrev pub connections : Rule
connections = with_default (codes "9223372036854775807") (within 0 most (option (codes "connections")))

abbrev pub at_once : Rule
at_once = with_default (codes "256") (within 1 65536 (option (codes "at-once")))

-- at least the largest request and the largest reply
abbrev pub buffer : Rule
buffer = with_default (codes "536870912") (within 134217728 most (option (codes "buffer")))

-- at least a largest blob
abbrev pub staged : Rule
staged = within 67108864 most (option (codes "staged"))

abbrev pub idle : Rule
idle = with_default (codes "60") (within 1 86400 (option (codes "idle")))

abbrev pub login : Rule
login = option (codes "login")

abbrev pub health : Rule
health = flag (codes "health")

-- a registry that is served without a database, and the repositories and grants that it begins with
abbrev pub memory : Rule
memory = flag (codes "memory")

abbrev pub begin_repo : Rule
begin_repo = repeated (codes "repo")

abbrev pub begin_grant : Rule
begin_grant = repeated (codes "grant")

abbrev pub subcommand : Text → List Rule → Shape
subcommand word options = record (new_shape word) { rules = options }

abbrev pub serve : Shape
serve = subcommand (codes "serve")
    (db ∷ layout ∷ memory ∷ begin_repo ∷ begin_grant ∷ listen ∷ connections ∷ at_once ∷ buffer ∷ staged ∷ idle
    ∷ orders ∷ flag (codes "log") ∷ flag (codes "stop-at-eof") ∷ login ∷ health ∷ [])

abbrev pub stdio : Shape
stdio = subcommand (codes "stdio")
    (db ∷ layout ∷ memory ∷ begin_repo ∷ begin_grant ∷ login ∷ health ∷ [])

-- over a database that no server holds
abbrev pub over_database : Text → Shape
over_database word = subcommand word (required db ∷ [])

abbrev pub stop : Shape
stop = subcommand (codes "stop") (required orders ∷ [])

-- an order wants one of `--db` and `--orders`
abbrev pub ordering : Text → Shape
ordering word = subcommand word (db ∷ layout ∷ orders ∷ [])

abbrev pub over_repo : Text → Shape
over_repo word = subcommand word (db ∷ layout ∷ orders ∷ name ∷ [])

abbrev pub over_quota : Text → Shape
over_quota word = subcommand word (db ∷ layout ∷ orders ∷ name ∷ quota ∷ [])

abbrev pub grant : Shape
grant = subcommand (codes "grant") (db ∷ layout ∷ orders ∷ token ∷ token_file ∷ name ∷ level ∷ [])

-- without a name, all levels of the token go
abbrev pub revoke : Shape
revoke = subcommand (codes "revoke") (db ∷ layout ∷ orders ∷ token ∷ token_file ∷ name_if ∷ [])

-- `--dry-run` lists what pruning would take away
abbrev pub prune : Shape
prune = subcommand (codes "prune") (db ∷ layout ∷ orders ∷ name ∷ flag (codes "dry-run") ∷ [])

-- a list is of lines, or of JSON
abbrev pub listing : Text → Shape
listing word = subcommand word (db ∷ layout ∷ orders ∷ flag (codes "json") ∷ [])

abbrev pub listing_of_repo : Text → Shape
listing_of_repo word = subcommand word (db ∷ layout ∷ orders ∷ name ∷ flag (codes "json") ∷ [])

-- of one token or of all, on one repository or on all
abbrev pub listing_of_grants : Shape
listing_of_grants = subcommand (codes "grants")
    (db ∷ layout ∷ orders ∷ token ∷ token_file ∷ name_if ∷ flag (codes "show-tokens") ∷ flag (codes "json")
    ∷ [])

abbrev pub repo_commands : List Shape
repo_commands = over_quota (codes "repo") ∷ over_quota (codes "quota") ∷ over_repo (codes "drop")
    ∷ over_repo (codes "sessions") ∷ prune ∷ []

abbrev pub list_commands : List Shape
list_commands =
    listing (codes "repos") ∷ listing_of_repo (codes "tags") ∷ listing_of_repo (codes "blobs")
    ∷ listing_of_grants ∷ []

abbrev pub other_commands : List Shape
other_commands = grant ∷ revoke ∷ ordering (codes "clear") ∷ ordering (codes "usage")
    ∷ over_database (codes "check") ∷ over_database (codes "migrate") ∷ stop ∷ []

abbrev pub with_subcommands : List Shape → App → App
with_subcommands subs a = record { top = record a.top { is_leaf = false }; subs = a.subs ++ subs }

-- the program by itself, which has a version and wants a subcommand; the words do not begin with its name
abbrev pub program : App
program = record {
  top = record (new_shape (codes "registry")) {
    no_binary_name = true;
    subcommand_required = true;
    has_version = true;
  };
  subs = [];
}

abbrev pub serving : App
serving = with_subcommands (serve ∷ stdio ∷ []) program

abbrev pub over_repos : App
over_repos = with_subcommands repo_commands serving

abbrev pub showing : App
showing = with_subcommands list_commands over_repos

abbrev pub registry : App
registry = with_subcommands other_commands showing

abbrev pub alone : Shape → App
alone s = record { top = s; subs = [] }

-- the argument is read by the rule, in its own command alone
abbrev pub HasRule : Rule → Arg → Type 0
HasRule r a = (rule_of a ≡ r) × (a.global ≡ false)

-- the command is this one
abbrev pub IsApp : App → Command → Type 0
IsApp a c = app_of c ≡ a

abbrev pub IsSub : Shape → Command → Type 0
IsSub s c = IsApp (alone s) c
