-- What the items of levels of tokens on a repository show (profile).
use Rattle.std.specs.Prelude.{Bool, true, List, ◌++◌, map, filter, take, codes, bytes_eq, Option, Some, None}
use Rattle.oci_types.specs.Text.{Text}
use Rattle.registry_model.specs.declared.grant.Grant.{Grant}
use Rattle.registry_model.specs.declared.level.Level.{Level}
use Rattle.registry_orders.specs.declared.listing.Shown.{Shown}
use Rattle.registry_orders.specs.declared.listing.Shown.TheVariants.{Beginning, Whole}
use Rattle.order_texts.specs.Items.{ItemShown, grant_item}

-- a token as a list shows it: its first four characters, and dots; or all of it
abbrev pub written : Shown → Text → Text
written Beginning token = take 4 token ++ codes "..."
written Whole token = token

-- any token is asked for where none is named
abbrev pub is_asked : Option Text → Text → Bool
is_asked None token = true
is_asked (Some asked) token = bytes_eq token asked

-- the items of the levels on a repository, of those tokens that are asked for
abbrev pub grants_of : Text → Option Text → Shown → List (Text × Level) → List ItemShown
grants_of name asked shown levels =
    map (λ l. grant_item name (written shown l.0) l.1) (filter (λ l. is_asked asked l.0) levels)

-- the items of levels on any repositories, of those tokens that are asked for
abbrev pub items_of_grants : Option Text → Shown → List Grant → List ItemShown
items_of_grants asked shown grants =
    map (λ g. grant_item g.repo (written shown g.token) g.level) (filter (λ g. is_asked asked g.token) grants)
