-- A connection that is taken from somewhere, and served to its end.
use Rattle.std.specs.Prelude.{◌≡◌, Option, Result, Ok, Err}
use Rattle.oci_types.specs.Text.{Text}
use Rattle.registry_model.specs.declared.settings.Settings.{Settings}
use Rattle.registry_model.specs.Keeping.{State}
use Rattle.registry_http.specs.Serving.{Traffic, Serves}
use Rattle.registry_http.specs.declared.ending.End.{End}

-- the bytes that a reader had left before and after, and those that a writer held, where they are known
pub record Streams : Type 0 where
  pub left : Option Text
  pub left' : Option Text
  pub held : Option Text
  pub held' : Option Text

-- what a connection over these ends took and gave, with its settings, from one state to another
abbrev pub traffic_of : Settings → Streams → State → State → Traffic
traffic_of settings e s s' = record {
  settings = settings;
  left = e.left;
  left' = e.left';
  held = e.held;
  held' = e.held';
  state = s;
  state' = s';
}

-- some connection was served to this end, from one state to another
abbrev pub Connects : Settings → End → State → State → Type 0
Connects settings end s s' = (e : Streams) × Serves end (traffic_of settings e s s')

-- one connection was taken and served; or none was taken, and nothing is done
abbrev pub ServesNext : {E : Type 0} → Settings → Result End E → State → State → Type 0
ServesNext settings (Ok end) s s' = Connects settings end s s'
ServesNext settings (Err e) s s' = s' ≡ s
