-- The line of text that spells an order (profile).
use Rattle.std.specs.Prelude.{◌≡◌, ℕ, true, List, [], ◌∷◌, Option, Some, None, IfSome, codes, decimal}
use Rattle.std.specs.List.{join_with_byte}
use Rattle.oci_types.specs.Text.{Text}
use Rattle.oci_types.specs.RepoName.{is_repo_name}
use Rattle.oci_types.specs.Token.{is_token}
use Rattle.registry_model.specs.declared.level.Level.{Level}
use Rattle.registry_model.specs.declared.level.Level.TheVariants.{Pull, Push, Delete}
use Rattle.registry_orders.specs.declared.listing.Held.{Held}
use Rattle.registry_orders.specs.declared.listing.Held.TheVariants.{Tags, Blobs, Unnamed}
use Rattle.registry_orders.specs.declared.listing.Listing.{Listing}
use Rattle.registry_orders.specs.declared.listing.Listing.TheVariants.{Repos, InRepo, Grants}
use Rattle.registry_orders.specs.declared.listing.Shown.{Shown}
use Rattle.registry_orders.specs.declared.listing.Shown.TheVariants.{Beginning, Whole}
use Rattle.registry_orders.specs.declared.listing.Form.{Form}
use Rattle.registry_orders.specs.declared.listing.Form.TheVariants as form
use Rattle.registry_orders.specs.declared.orders.Change.{Change}
use Rattle.registry_orders.specs.declared.orders.Change.TheVariants.{AddRepo, SetQuota, DropRepo, DropSessions, Prune, Grant, Revoke, RevokeAll, Clear}
use Rattle.registry_orders.specs.declared.orders.Order.{Order}
use Rattle.registry_orders.specs.declared.orders.Order.TheVariants as order

-- the number of a level
abbrev pub digit_of : Level → Text
digit_of Pull = codes "1"
digit_of Push = codes "2"
digit_of Delete = codes "3"

abbrev pub words_of_change : Change → List Text
words_of_change (AddRepo name quota) = codes "repo" ∷ name ∷ decimal quota.bytes ∷ []
words_of_change (SetQuota name quota) = codes "quota" ∷ name ∷ decimal quota.bytes ∷ []
words_of_change (DropRepo name) = codes "drop" ∷ name ∷ []
words_of_change (DropSessions name) = codes "sessions" ∷ name ∷ []
words_of_change (Prune name) = codes "prune" ∷ name ∷ []
words_of_change (Grant token name level) = codes "grant" ∷ name ∷ digit_of level ∷ token ∷ []
words_of_change (Revoke token name) = codes "revoke" ∷ name ∷ token ∷ []
words_of_change (RevokeAll token) = codes "revoke" ∷ token ∷ []
words_of_change Clear = codes "clear" ∷ []

abbrev pub form_word : Form → Text
form_word form.Lines = codes "lines"
form_word form.Json = codes "json"

-- what is listed of a repository
abbrev pub held_word : Held → Text
held_word Tags = codes "tags"
held_word Blobs = codes "blobs"
held_word Unnamed = codes "unnamed"

-- how much of a token is shown
abbrev pub shown_word : Shown → Text
shown_word Beginning = codes "beginning"
shown_word Whole = codes "whole"

-- `*`, which is no name and no token, stands where none is given
abbrev pub or_any : Option Text → Text
or_any None = codes "*"
or_any (Some word) = word

abbrev pub words_of_listing : Listing → List Text
words_of_listing Repos = codes "repos" ∷ []
words_of_listing (InRepo name what) = held_word what ∷ name ∷ []
words_of_listing (Grants name token shown) =
    codes "grants" ∷ shown_word shown ∷ or_any name ∷ or_any token ∷ []

-- what is ordered, and of what; a number is decimal, with no leading zero
abbrev pub words_of : Order → List Text
words_of (order.Change change) = words_of_change change
words_of order.Usage = codes "usage" ∷ []
words_of (order.List listing f) = codes "list" ∷ form_word f ∷ words_of_listing listing

abbrev pub space : ℕ
space = 32

-- the words, with a space between each two, and no line's end
abbrev pub line_of : Order → Text
line_of o = join_with_byte space (words_of o)

abbrev pub IsProperChange : Change → Type 0
IsProperChange (AddRepo name quota) = is_repo_name name ≡ true
IsProperChange (SetQuota name quota) = is_repo_name name ≡ true
IsProperChange (DropRepo name) = is_repo_name name ≡ true
IsProperChange (DropSessions name) = is_repo_name name ≡ true
IsProperChange (Prune name) = is_repo_name name ≡ true
IsProperChange (Grant token name level) = (is_repo_name name ≡ true) × (is_token token ≡ true)
IsProperChange (Revoke token name) = (is_repo_name name ≡ true) × (is_token token ≡ true)
IsProperChange (RevokeAll token) = is_token token ≡ true
IsProperChange Clear = Unit {0}

-- a repository's name, or none; a token, or none
abbrev pub IsProperName : Option Text → Type 0
IsProperName name = IfSome name (λ t. is_repo_name t ≡ true)

abbrev pub IsProperToken : Option Text → Type 0
IsProperToken token = IfSome token (λ t. is_token t ≡ true)

abbrev pub IsProperListing : Listing → Type 0
IsProperListing Repos = Unit {0}
IsProperListing (InRepo name what) = is_repo_name name ≡ true
IsProperListing (Grants name token shown) = IsProperName name × IsProperToken token

-- its name is a repository's name and its token a token, as they are of each order that there is
abbrev pub IsProper : Order → Type 0
IsProper (order.Change change) = IsProperChange change
IsProper order.Usage = Unit {0}
IsProper (order.List listing f) = IsProperListing listing

-- the words spell the order; they spell none
abbrev pub AreWordsOf : List Text → Order → Type 0
AreWordsOf words o = (words ≡ words_of o) × IsProper o

abbrev pub AreWordsOfNone : List Text → Type 0
AreWordsOfNone words = (o : Order) → ¬ (AreWordsOf words o)

-- the text is the order's line; it is no order's
abbrev pub Spells : Text → Order → Type 0
Spells text o = (text ≡ line_of o) × IsProper o

abbrev pub SpellsNone : Text → Type 0
SpellsNone text = (o : Order) → ¬ (Spells text o)
