-- The requests on a connection as steps, and their replies as outcomes (profile).
use Rattle.std.specs.Prelude.{◌≡◌, List, [], ◌∷◌, map}
use Rattle.oci_types.specs.Text.{Text}
use Rattle.registry_model.specs.Answer.{Answer}
use Rattle.registry_model.specs.Keeping.{State}
use Rattle.registry_model.specs.Team.{Step, asks}
use Rattle.registry_model.specs.Runs.{told, RunSays}
use Rattle.registry_model.specs.declared.settings.Settings.{Settings}
use Rattle.registry_http.specs.Asking.{ask_in}
use Rattle.registry_http.specs.Spelling.{Item}
use Rattle.registry_http.specs.Serving.{text_for}

abbrev pub step_of : Settings → Item → Step
step_of settings i = asks (ask_in settings i.head i.body)

-- the text of each request's answer
abbrev pub texts_of : Settings → List Item → List Answer → List Text
texts_of settings [] answers = []
texts_of settings (i ∷ items) [] = []
texts_of settings (i ∷ items) (a ∷ answers) = text_for settings i a ∷ texts_of settings items answers

-- the texts are those of answers, one for each request, of which the laws of a run hold: among them that a
-- team is told what it would be told alone
pub record IsPrivateRun (settings : Settings) (s : State) (items : List Item) (texts : List Text) (s' : State)
    : Type 0 where
  pub answers : List Answer
  pub are_texts : texts ≡ texts_of settings items answers
  pub says : RunSays s (map (step_of settings) items) (map told answers) s'
