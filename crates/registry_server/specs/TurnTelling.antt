-- What a turn tells, of all connections.
use Rattle.std.specs.Prelude.{◌≡◌, ℕ, Option, Some}
use Rattle.oci_types.specs.Text.{Text}
use Rattle.registry_model.specs.Keeping.{Kept}
use Rattle.registry_conversation.specs.declared.phase.Step.{Step}
use Rattle.registry_outbox.specs.declared.report.Report.{Report}
use Rattle.registry_server.specs.Open.{Open, conversation_of}
use Rattle.registry_conversation.specs.Shown.{Shown}
use Rattle.registry_conversation.specs.Receiving.{Lies, TellsApart}

-- the conversation under n came to this: what is told is told of the request of it that was answered or
-- refused
pub record TellsTurn (n : ℕ) (found : Step) (report : Option Report) (u : Open) (k : Kept) (u' : Open)
    (k' : Kept)
    : Type 0 where
  pub old : Shown
  pub new : Shown
  pub was : conversation_of n u.slots ≡ Some old
  pub is : conversation_of n u'.slots ≡ Some new
  pub tells : (apart : Text) → Lies n k old apart → TellsApart u.settings found n apart old k new k' report
