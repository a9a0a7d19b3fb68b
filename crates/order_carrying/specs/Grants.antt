-- What the lists of the levels of tokens on repositories show of the world (profile).
use Rattle.std.specs.Prelude.{◌≡◌, List, [], ◌∷◌, ◌++◌, Option, Some, None}
use Rattle.std.specs.Bool.{MatchBool}
use Rattle.std.specs.Option.{IsSomeAnd}
use Rattle.std.specs.FinMap.{keys}
use Rattle.oci_types.specs.Text.{Text}
use Rattle.registry_model.specs.declared.level.Level.{Level}
use Rattle.registry_model.specs.World.{World, has_repo}
use Rattle.registry_model.specs.Lookups.{AreLevelsOn}
use Rattle.registry_orders.specs.declared.listing.Shown.{Shown}
use Rattle.order_texts.specs.Items.{ItemShown}
use Rattle.order_texts.specs.Grants.{grants_of}

-- the items of the levels that tokens have on the repository, in byte order of the tokens
abbrev pub AreGrantsOn : World → Text → Option Text → Shown → List ItemShown → Type 0
AreGrantsOn w name asked shown items =
    (levels : List (Text × Level)) × AreLevelsOn w name levels × (items ≡ grants_of name asked shown levels)

-- those on each repository, one after the other
abbrev pub AreGrantsOver : World → List Text → Option Text → Shown → List ItemShown → Type 0
AreGrantsOver w [] asked shown items = items ≡ []
AreGrantsOver w (name ∷ names) asked shown items =
    (first others : List ItemShown) × AreGrantsOn w name asked shown first
    × AreGrantsOver w names asked shown others × (items ≡ first ++ others)

-- those on the repository of a name, if it is there; or on all, in byte order of their names
abbrev pub AreGrantsOf : World → Option Text → Option Text → Shown → Option (List ItemShown) → Type 0
AreGrantsOf w (Some name) asked shown items =
    MatchBool (has_repo w name) (IsSomeAnd items (AreGrantsOn w name asked shown)) (items ≡ None)
AreGrantsOf w None asked shown items = IsSomeAnd items (AreGrantsOver w (keys w.repos) asked shown)
