-- What the texts of options spell (profile).
use Rattle.std.specs.Prelude.{◌≡◌, ◌≢◌, ℕ, Option, Some, None, List, [], ◌∷◌, ◌++◌, unwrap_or, codes, slice_index, EachIndex, ⊤}
use Rattle.std.specs.Str.Parse.{IsNumeral, digits_value, without_leading_plus}
use Rattle.clap.specs.Words.{Row, all_of, one_of}
use Rattle.oci_types.specs.Text.{Text}
use Rattle.registry_model.specs.declared.level.Level.{Level}
use Rattle.registry_orders.specs.declared.options.RepoOption.{RepoOption}
use Rattle.registry_orders.specs.declared.options.GrantOption.{GrantOption}
use Rattle.registry_orders.specs.declared.options.Setup.{Setup}
use Rattle.registry_orders.specs.Levels.{level_numbered}

-- the texts that an option was given, in their order
abbrev pub texts_of : Text → List Row → List Text
texts_of name options = unwrap_or (all_of name options) []

-- the flag was given
abbrev pub HasFlag : List Row → Text → Type 0
HasFlag options flag = one_of flag options ≡ Some (codes "true")

-- the text is decimal digits, which write the number; leading zeros are allowed
abbrev pub IsDecimal : Text → ℕ → Type 0
IsDecimal text n = IsNumeral 10 text × (n ≡ digits_value 10 text)

-- the option was given, and its value is decimal digits, before which a plus may stand, that write the number
abbrev pub IsNumberOf : Option Text → ℕ → Type 0
IsNumberOf None n = ⊥
IsNumberOf (Some text) n = IsDecimal (without_leading_plus text) n

-- the option was not given, or its value writes the number
abbrev pub IsNumberIf : Option Text → Option ℕ → Type 0
IsNumberIf value None = value ≡ None
IsNumberIf value (Some n) = IsNumberOf value n

-- and the number is the level's
abbrev pub IsLevelOf : Option Text → Level → Type 0
IsLevelOf value level = (n : ℕ) × IsNumberOf value n × (level_numbered n ≡ Some level)

-- `=`
abbrev pub equals : ℕ
equals = 61

abbrev pub HasNoEquals : Text → Type 0
HasNoEquals text = EachIndex text (λ i. slice_index text i ≢ equals)

-- `NAME=QUOTA`; as digits are no `=`, the last `=` ends the name
abbrev pub IsRepoText : Text → Text → ℕ → Type 0
IsRepoText text name bytes = (digits : Text) × (text ≡ name ++ equals ∷ digits) × IsDecimal digits bytes

-- `TOKEN=NAME=LEVEL`; as a name has no `=`, the last two end the token and the name
abbrev pub IsGrantText : Text → Text → Text → Level → Type 0
IsGrantText text token name level =
    (digits : Text) × (n : ℕ) × (text ≡ token ++ equals ∷ name ++ equals ∷ digits) × HasNoEquals name
    × IsDecimal digits n × (level_numbered n ≡ Some level)

abbrev pub SpellsRepo : Text → RepoOption → Type 0
SpellsRepo text o = IsRepoText text o.name o.quota.bytes

abbrev pub SpellsGrant : Text → GrantOption → Type 0
SpellsGrant text o = IsGrantText text o.token o.name o.level

-- the lists have items in pairs, in one order, and each pair is as told
abbrev pub EachPair : {A B : Type 0} → (A → B → Type 0) → List A → List B → Type 0
EachPair Says [] [] = ⊤
EachPair Says (x ∷ xs) (y ∷ ys) = Says x y × EachPair Says xs ys
EachPair Says _ _ = ⊥

-- the setup has a repository for each value of `--repo`, and a grant for each of `--grant`, in their order
abbrev pub SpellsSetup : List Text → List Text → Setup → Type 0
SpellsSetup repos grants s =
    EachPair SpellsRepo repos s.repos.items × EachPair SpellsGrant grants s.grants.items
