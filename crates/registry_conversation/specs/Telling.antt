-- What is told of the request that a turn answered or refused.
use Rattle.std.specs.Prelude.{◌≡◌, ℕ, Option}
use Rattle.oci_types.specs.Text.{Text}
use Rattle.registry_model.specs.declared.settings.Settings.{Settings}
use Rattle.registry_model.specs.Keeping.{State}
use Rattle.registry_http.specs.declared.ending.End.{End}
use Rattle.registry_http.specs.declared.ending.End.TheVariants.{Closed, Cut, Refused, ReadFailed, WriteFailed}
use Rattle.registry_conversation.specs.declared.phase.Step.{Step}
use Rattle.registry_conversation.specs.declared.phase.Step.TheVariants as step
use Rattle.registry_outbox.specs.declared.report.Report.{Report}
use Rattle.registry_outbox.specs.Reports.{TellsAnswer, TellsRefusal, Reported}
use Rattle.registry_conversation.specs.Shown.{Shown}
use Rattle.registry_conversation.specs.Stepping.{PutsPart, replying, refusing, continuing, EndsAs, ActsAs}

-- ---- by what a turn came to; `was` is what was to be told before it, and `now` is to be told behind it

abbrev pub PartTold : (settings : Settings) (n : ℕ) (b before going : Text) (s s' : State) (going' : Text)
    → PutsPart settings n b before going s s' going' → Option Report → Option Report → Type 0
PartTold settings n b before going s s' going' (replying i rest a _ _ _ _ _ _) was now =
    Reported now going going' (λ r. TellsAnswer r i a)
PartTold settings n b before going s s' going' (refusing refusal _ _ _ _) was now =
    Reported now going going' (λ r. TellsRefusal r refusal)
PartTold settings n b before going s s' going' (continuing text _ _ _ _ _) was now = now ≡ was

abbrev pub EndTold : (settings : Settings) (e : End) (b before going : Text) (s s' : State) (new : Shown)
    → EndsAs settings e b before going s s' new → Option Report → Option Report → Type 0
EndTold settings Closed b before going s s' new x was now = now ≡ was
EndTold settings Cut b before going s s' new x was now = now ≡ was
EndTold settings (Refused refusal) b before going s s' new x was now =
    Reported now going new.going (λ r. TellsRefusal r refusal)
EndTold settings ReadFailed b before going s s' new x was now = now ≡ was
EndTold settings (WriteFailed n) b before going s s' new x was now =
    PartTold settings n b before going s s' new.going x was now

-- of the request that was answered or refused in the turn, and of no other
abbrev pub ActTold : (settings : Settings) (found : Step) (b before going : Text) (s s' : State) (new : Shown)
    → ActsAs settings found b before going s s' new → Option Report → Option Report → Type 0
ActTold settings step.Answered b before going s s' new x was now =
    Reported now going new.going (λ r. TellsAnswer r x.item x.answer)
ActTold settings step.Interim b before going s s' new x was now = now ≡ was
ActTold settings step.Waits b before going s s' new x was now = now ≡ was
ActTold settings (step.Ended e) b before going s s' new x was now =
    EndTold settings e b before going s s' new x.1 was now

-- what a turn came to, as `ActsAs` has it, and what is told of that
abbrev pub TellsAs : Settings → Step → Text → Text → Text → State → State → Shown → Option Report
    → Option Report → Type 0
TellsAs settings found b before going s s' new was now =
    (x : ActsAs settings found b before going s s' new)
    × ActTold settings found b before going s s' new x was now

-- said was put out before, of the text of the request in hand
abbrev pub Tells : Settings → Step → Text → Text → Shown → State → State → Shown → Option Report
    → Option Report → Type 0
Tells settings found b said old s s' new was now = TellsAs settings found b said old.going s s' new was now
