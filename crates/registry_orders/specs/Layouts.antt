-- How a new registry keeps its contents (profile).
use Rattle.std.specs.Prelude.{◌≡◌, ◌≢◌, List, Option, Some, None, codes, ⊤}
use Rattle.clap.specs.Words.{Row, first_of}
use Rattle.oci_types.specs.Text.{Text}
use Rattle.registry_orders.specs.declared.layout.Layout.{Layout}
use Rattle.registry_orders.specs.declared.layout.Layout.TheVariants.{Tables, Beside}

abbrev pub layout_text : Layout → Text
layout_text Tables = codes "tables"
layout_text Beside = codes "beside"

abbrev pub NamesNoLayout : Text → Type 0
NamesNoLayout text = (text ≢ codes "tables") × (text ≢ codes "beside")

-- the option was not given, and then it is tables; or its text is the layout's, and `--db` was given
abbrev pub IsLayoutOf : Option Text → Option Text → Layout → Type 0
IsLayoutOf None db layout = layout ≡ Tables
IsLayoutOf (Some text) None layout = ⊥
IsLayoutOf (Some text) (Some path) layout = text ≡ layout_text layout

abbrev pub IsLayoutIn : List Row → Layout → Type 0
IsLayoutIn options layout =
    IsLayoutOf (first_of (codes "layout") options) (first_of (codes "db") options) layout

-- the option was given, and `--db` was not or the text is that of no layout
abbrev pub IsUnfitFor : Option Text → Option Text → Type 0
IsUnfitFor None db = ⊥
IsUnfitFor (Some text) None = ⊤
IsUnfitFor (Some text) (Some path) = NamesNoLayout text

abbrev pub IsUnfitLayout : List Row → Type 0
IsUnfitLayout options = IsUnfitFor (first_of (codes "layout") options) (first_of (codes "db") options)
