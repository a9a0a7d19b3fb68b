-- A connection whose body in hand may lie apart from its head: what it shows, alone and with the bytes of
-- that body.
use Rattle.std.specs.Prelude.{◌≡◌, ◌⊎◌, ℕ, ◌≤◌, Bool, true, false, ◌++◌, length, Some, None, Option, ⊤}
use Rattle.oci_types.specs.Text.{Text}
use Rattle.registry_model.specs.declared.settings.Settings.{Settings}
use Rattle.registry_model.specs.Keeping.{Kept, HeldStays, state_of}
use Rattle.registry_service.specs.Bodies.{StageIs, from_body}
use Rattle.registry_http.specs.declared.ending.End.{End}
use Rattle.registry_outbox.specs.declared.report.Report.{Report}
use Rattle.registry_conversation.specs.declared.body_place.BodyPlace.{BodyPlace}
use Rattle.registry_conversation.specs.declared.body_place.BodyPlace.TheVariants.{Buffer, Stage, Nowhere}
use Rattle.registry_conversation.specs.declared.phase.Phase.{Phase}
use Rattle.registry_conversation.specs.declared.phase.Phase.TheVariants.{Head, Body, Ended}
use Rattle.registry_conversation.specs.declared.phase.Step.{Step}
use Rattle.registry_conversation.specs.declared.phase.Step.TheVariants as step
use Rattle.registry_conversation.specs.declared.receiver.Receiver.{Receiver}
use Rattle.registry_conversation.specs.ConversationShowing.{shown}
use Rattle.registry_conversation.specs.Headings.{IsHead}
use Rattle.registry_conversation.specs.Holding.{Holds}
use Rattle.registry_conversation.specs.Shown.{Shown}
use Rattle.registry_conversation.specs.Stepping.{Acts}
use Rattle.registry_conversation.specs.Telling.{Tells}

abbrev pub placed : BodyPlace → Shown → Shown
placed place c = record c { place = place }

-- what the connection shows
abbrev pub received : Receiver → Shown
received r = placed r.place (shown r.conversation)

-- ---- with the bytes that lie apart

-- the body in hand lies apart from its head
abbrev pub is_apart : BodyPlace → Bool
is_apart Buffer = false
is_apart Stage = true
is_apart Nowhere = true

-- what was taken of the request in hand, where these bytes of it lie apart
abbrev pub taken_at : BodyPlace → Text → Text → Text
taken_at Buffer taken apart = taken
taken_at Stage taken apart = taken ++ apart
taken_at Nowhere taken apart = taken ++ apart

-- the conversation that has the whole body
abbrev pub joined : Text → Shown → Shown
joined apart c = record c { place = Buffer; taken = taken_at c.place c.taken apart }

-- these bytes lie apart from the head that was taken: staged under the number; or they are kept nowhere
abbrev pub LiesApart : BodyPlace → ℕ → Kept → Text → Text → Type 0
LiesApart Buffer n k taken apart = ⊤
LiesApart Stage n k taken apart = IsHead taken × StageIs k n apart
LiesApart Nowhere n k taken apart = IsHead taken

-- where there may be a further request
abbrev pub LiesAs : Phase → BodyPlace → ℕ → Kept → Text → Text → Type 0
LiesAs Head place n k taken apart = LiesApart place n k taken apart
LiesAs (Body part) place n k taken apart = LiesApart place n k taken apart
LiesAs (Ended e) place n k taken apart = ⊤

-- of the connection of this number
abbrev pub Lies : ℕ → Kept → Shown → Text → Type 0
Lies n k c apart = LiesAs c.phase c.place n k c.taken apart

-- a connection that had a stage has it still, or nothing is staged under its number
abbrev pub StageIsKept : BodyPlace → BodyPlace → ℕ → Kept → Type 0
StageIsKept old new n k = old ≡ Stage → (new ≡ Stage) ⊎ (k.held.stages n ≡ None)

-- ---- a turn

-- some of what was taken is let go, or lies elsewhere, and nothing else
abbrev pub Shortens : Shown → Shown → Type 0
Shortens old new =
    (new ≡ record old { place = new.place; taken = new.taken }) × (length new.taken ≤ length old.taken)

-- these bytes lay apart: it is a turn of a conversation that has the whole body, and but for what is staged
-- under the number all that is held stays
pub record ActsApart (settings : Settings) (found : Step) (n : ℕ) (apart : Text) (c : Shown) (k : Kept)
    (c' : Shown) (k' : Kept)
    : Type 0 where
  pub apart' : Text
  pub lies : Lies n k' c' apart'
  pub holds : (b said : Text) → Holds settings (joined apart c) b said
      → HeldStays (from_body (Some n) k k') k'
  pub acts : (b said : Text) → Holds settings (joined apart c) b said
      → Acts settings found b said (joined apart c) (state_of k) (state_of k') (joined apart' c')

-- the same, with what is told of it
pub record TellsApart (settings : Settings) (found : Step) (n : ℕ) (apart : Text) (c : Shown) (k : Kept)
    (c' : Shown) (k' : Kept) (report : Option Report)
    : Type 0 where
  pub apart' : Text
  pub lies : Lies n k' c' apart'
  pub holds : (b said : Text) → Holds settings (joined apart c) b said
      → HeldStays (from_body (Some n) k k') k'
  pub tells : (b said : Text) → Holds settings (joined apart c) b said
      → Tells settings found b said (joined apart c) (state_of k) (state_of k') (joined apart' c') None report

-- what a turn of the connection of this number says
abbrev pub ActsOn : Settings → Step → ℕ → Shown → Kept → Shown → Kept → Type 0
ActsOn settings found n c k c' k' =
    ((e : End) → c.phase ≡ Ended e → (found ≡ step.Ended e) × (c' ≡ c) × (k' ≡ k))
    × (c'.finished ≡ c.finished)
    × ((apart : Text) → Lies n k c apart → ActsApart settings found n apart c k c' k')
