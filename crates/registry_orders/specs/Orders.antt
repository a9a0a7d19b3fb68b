-- What the administrator orders of a registry over a database (profile).
use Rattle.std.specs.Prelude.{◌≡◌, ◌≢◌, List, Option, Some, None, Result, Ok, Err, codes}
use Rattle.clap.specs.Words.{Row, first_of, one_of}
use Rattle.oci_types.specs.Text.{Text}
use Rattle.registry_model.specs.declared.admin.AdminCommand.{AdminCommand}
use Rattle.registry_model.specs.declared.admin.AdminCommand.TheVariants as command
use Rattle.registry_model.specs.declared.admin.AdminFault.{AdminFault}
use Rattle.registry_model.specs.Keeping.{Kept, state_of, HeldStays}
use Rattle.registry_model.specs.Doing.{CarriesOut}
use Rattle.registry_orders.specs.declared.failure.Failure.{Failure}
use Rattle.registry_orders.specs.declared.orders.Change.{Change}
use Rattle.registry_orders.specs.declared.orders.Change.TheVariants.{AddRepo, SetQuota, DropRepo, DropSessions, Prune, Grant, Revoke, RevokeAll, Clear}
use Rattle.registry_orders.specs.declared.orders.TokenOrder.{TokenOrder}
use Rattle.registry_orders.specs.declared.orders.TokenOrder.TheVariants as but_token
use Rattle.registry_orders.specs.declared.orders.Order.{Order}
use Rattle.registry_orders.specs.declared.orders.Order.TheVariants as order
use Rattle.registry_orders.specs.Failures.{failure_of}
use Rattle.registry_orders.specs.declared.listing.Held.{Held}
use Rattle.registry_orders.specs.declared.listing.Held.TheVariants.{Tags, Blobs, Unnamed}
use Rattle.registry_orders.specs.declared.listing.Listing.{Listing}
use Rattle.registry_orders.specs.declared.listing.Listing.TheVariants.{Repos, InRepo, Grants}
use Rattle.registry_orders.specs.declared.listing.Shown.{Shown}
use Rattle.registry_orders.specs.declared.listing.Shown.TheVariants.{Beginning, Whole}
use Rattle.registry_orders.specs.declared.listing.Form.{Form}
use Rattle.registry_orders.specs.declared.listing.Form.TheVariants.{Lines, Json}
use Rattle.registry_orders.specs.Options.{HasFlag, IsNumberOf, IsLevelOf}

-- the command says the same as the change
abbrev pub IsCommandOf : Change → AdminCommand → Type 0
IsCommandOf (AddRepo name quota) (command.AddRepo n q) = (n.now ≡ name) × (q ≡ quota)
IsCommandOf (SetQuota name quota) (command.SetQuota n q) = (n.now ≡ name) × (q ≡ quota)
IsCommandOf (DropRepo name) (command.DropRepo n) = n.now ≡ name
IsCommandOf (DropSessions name) (command.DropSessions n) = n.now ≡ name
IsCommandOf (Prune name) (command.Prune n) = n.now ≡ name
IsCommandOf (Grant token name level) (command.Grant t n l) = (t.now ≡ token) × (n.now ≡ name) × (l ≡ level)
IsCommandOf (Revoke token name) (command.Revoke t n) = (t.now ≡ token) × (n.now ≡ name)
IsCommandOf (RevokeAll token) (command.RevokeAll t) = t.now ≡ token
IsCommandOf Clear command.Clear = Unit {0}
IsCommandOf _ _ = ⊥

-- the option was given this text
abbrev pub HasValue : List Row → Text → Text → Type 0
HasValue options name text = first_of name options ≡ Some text

-- the token is on the command line, where `-` stands for standard input
abbrev pub HasToken : List Row → Text → Type 0
HasToken options token =
    HasValue options (codes "token") token × (token ≢ codes "-")
    × (first_of (codes "token-file") options ≡ None)

-- the option has this name for its value, or is not given
abbrev pub IsNameIf : List Row → Option Text → Type 0
IsNameIf options None = first_of (codes "name") options ≡ None
IsNameIf options (Some name) = HasValue options (codes "name") name

-- the token is on the command line, or neither there nor elsewhere
abbrev pub IsTokenIf : List Row → Option Text → Type 0
IsTokenIf options None =
    (first_of (codes "token") options ≡ None) × (first_of (codes "token-file") options ≡ None)
IsTokenIf options (Some token) = HasToken options token

-- the word of the subcommand, and the options that it was given, say what the change is
abbrev pub IsChangeIn : Text → List Row → Change → Type 0
IsChangeIn word options (AddRepo name quota) =
    (word ≡ codes "repo") × HasValue options (codes "name") name
    × IsNumberOf (one_of (codes "quota") options) quota.bytes
IsChangeIn word options (SetQuota name quota) =
    (word ≡ codes "quota") × HasValue options (codes "name") name
    × IsNumberOf (one_of (codes "quota") options) quota.bytes
IsChangeIn word options (DropRepo name) = (word ≡ codes "drop") × HasValue options (codes "name") name
IsChangeIn word options (DropSessions name) = (word ≡ codes "sessions") × HasValue options (codes "name") name
IsChangeIn word options (Prune name) =
    (word ≡ codes "prune") × HasValue options (codes "name") name × ¬ (HasFlag options (codes "dry-run"))
IsChangeIn word options (Grant token name level) =
    (word ≡ codes "grant") × HasValue options (codes "name") name × HasToken options token
    × IsLevelOf (one_of (codes "level") options) level
IsChangeIn word options (Revoke token name) =
    (word ≡ codes "revoke") × HasValue options (codes "name") name × HasToken options token
IsChangeIn word options (RevokeAll token) =
    (word ≡ codes "revoke") × (first_of (codes "name") options ≡ None) × HasToken options token
IsChangeIn word options Clear = word ≡ codes "clear"

-- the subcommand lists this of a repository
abbrev pub IsHeldIn : Text → List Row → Held → Type 0
IsHeldIn word options Tags = word ≡ codes "tags"
IsHeldIn word options Blobs = word ≡ codes "blobs"
IsHeldIn word options Unnamed = (word ≡ codes "prune") × HasFlag options (codes "dry-run")

abbrev pub IsShownIn : List Row → Shown → Type 0
IsShownIn options Beginning = ¬ (HasFlag options (codes "show-tokens"))
IsShownIn options Whole = HasFlag options (codes "show-tokens")

abbrev pub IsListingIn : Text → List Row → Listing → Type 0
IsListingIn word options Repos = word ≡ codes "repos"
IsListingIn word options (InRepo name what) =
    IsHeldIn word options what × HasValue options (codes "name") name
IsListingIn word options (Grants name token shown) =
    (word ≡ codes "grants") × IsNameIf options name × IsTokenIf options token × IsShownIn options shown

abbrev pub IsFormIn : List Row → Form → Type 0
IsFormIn options Lines = ¬ (HasFlag options (codes "json"))
IsFormIn options Json = HasFlag options (codes "json")

abbrev pub IsOrderIn : Text → List Row → Order → Type 0
IsOrderIn word options (order.Change change) = IsChangeIn word options change
IsOrderIn word options order.Usage = word ≡ codes "usage"
IsOrderIn word options (order.List listing form) = IsListingIn word options listing × IsFormIn options form

-- the same of an order but for its token
abbrev pub IsTokenOrderIn : Text → List Row → TokenOrder → Type 0
IsTokenOrderIn word options (but_token.Grant name level) =
    (word ≡ codes "grant") × HasValue options (codes "name") name
    × IsLevelOf (one_of (codes "level") options) level
IsTokenOrderIn word options (but_token.Revoke name) =
    (word ≡ codes "revoke") × HasValue options (codes "name") name
IsTokenOrderIn word options but_token.RevokeAll =
    (word ≡ codes "revoke") × (first_of (codes "name") options ≡ None)
IsTokenOrderIn word options (but_token.Grants name shown form) =
    (word ≡ codes "grants") × IsNameIf options name × IsShownIn options shown × IsFormIn options form

abbrev pub order_with : TokenOrder → Text → Order
order_with (but_token.Grant name level) token = order.Change (Grant token name level)
order_with (but_token.Revoke name) token = order.Change (Revoke token name)
order_with but_token.RevokeAll token = order.Change (RevokeAll token)
order_with (but_token.Grants name shown form) token = order.List (Grants name (Some token) shown) form

-- the outcome of a command, as the program tells it
abbrev pub told : Result (Unit {0}) AdminFault → Result (Unit {0}) Failure
told (Ok v) = Ok tt
told (Err fault) = Err (failure_of fault)

-- the change was made, or why not, as the command that says the same; what is held beside the world stays
pub record Obeys (k : Kept) (change : Change) (result : Result (Unit {0}) Failure)
    (k' : Kept) : Type 0 where
  pub command : AdminCommand
  pub outcome : Result (Unit {0}) AdminFault
  pub says : IsCommandOf change command
  pub is : result ≡ told outcome
  pub does : CarriesOut (state_of k) command outcome (state_of k')
  pub holds : HeldStays k k'
