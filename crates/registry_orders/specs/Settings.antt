-- What an operator chooses of how requests are answered.
use Rattle.std.specs.Prelude.{◌≡◌, ◌↔◌, true, List, Option, Some, None, codes, ⊤}
use Rattle.clap.specs.Words.{Row, first_of}
use Rattle.oci_types.specs.Text.{Text}
use Rattle.registry_model.specs.declared.settings.Scheme.{Scheme}
use Rattle.registry_model.specs.declared.settings.Settings.{Settings}
use Rattle.registry_model.specs.Login.{scheme_text}
use Rattle.registry_orders.specs.Options.{HasFlag}

-- the option was not given, or its text is the scheme's
abbrev pub IsLoginOf : Option Text → Option Scheme → Type 0
IsLoginOf None None = ⊤
IsLoginOf None (Some scheme) = ⊥
IsLoginOf (Some text) None = ⊥
IsLoginOf (Some text) (Some scheme) = text ≡ scheme_text scheme

abbrev pub AreSettingsIn : List Row → Settings → Type 0
AreSettingsIn options s =
    IsLoginOf (first_of (codes "login") options) s.login
    × ((s.health ≡ true) ↔ HasFlag options (codes "health"))
