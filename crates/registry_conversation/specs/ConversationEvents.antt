-- What any list of a conversation's calls comes to.
use Rattle.std.specs.Prelude.{◌≡◌, Bool, true, false, List, [], ◌∷◌, ◌++◌, Some}
use Rattle.oci_types.specs.Text.{Text}
use Rattle.registry_model.specs.declared.settings.Settings.{Settings}
use Rattle.registry_model.specs.Keeping.{State}
use Rattle.registry_http.specs.Spelling.{Item, Front}
use Rattle.registry_http.specs.Serving.{Run, joined, Traffic, Serves}
use Rattle.registry_http.specs.declared.ending.End.{End}
use Rattle.registry_http.specs.declared.ending.End.TheVariants.{Closed, Cut, Refused, ReadFailed, WriteFailed}
use Rattle.registry_conversation.specs.declared.phase.Phase.{Phase}
use Rattle.registry_conversation.specs.declared.phase.Phase.TheVariants.{Head, Body, Ended}
use Rattle.registry_conversation.specs.declared.phase.Step.{Step}
use Rattle.registry_conversation.specs.declared.phase.Step.TheVariants as step
use Rattle.registry_conversation.specs.Shown.{Shown, listens, with_finished, with_going}
use Rattle.registry_conversation.specs.Holding.{Holds}
use Rattle.registry_conversation.specs.Stepping.{Acts, Receives}

-- ---- events

-- a call: bytes came, the input ended, a turn was taken and came to this, or these bytes went out
pub data Event : Type 0 where
  came : Text → Event
  ended : Event
  acted : Step → Event
  sent : Text → Event

-- what the call says of the conversation and of the service, whose keeper is honest: the clauses of
-- `receive`, `finish`, `answer_next` and `sent`
abbrev pub Happens : Settings → Event → Shown → State → Shown → State → Type 0
Happens settings (came bytes) c s c' s' =
    (listens c ≡ false → c' ≡ c) × (listens c ≡ true → Receives bytes c c') × (s' ≡ s)
Happens settings ended c s c' s' = (c' ≡ with_finished c) × (s' ≡ s)
Happens settings (acted found) c s c' s' =
    ((e : End) → c.phase ≡ Ended e → (found ≡ step.Ended e) × (c' ≡ c) × (s' ≡ s))
    × (c'.finished ≡ c.finished)
    × ((b said : Text) → Holds settings c b said → Acts settings found b said c s s' c')
Happens settings (sent text) c s c' s' =
    (c.going ≡ text ++ c'.going) × (c' ≡ with_going c c'.going) × (s' ≡ s)

-- the events, one after the other; nobody else touches the service
abbrev pub Passes : Settings → List Event → Shown → State → Shown → State → Type 0
Passes settings [] c s c' s' = (c' ≡ c) × (s' ≡ s)
Passes settings (e ∷ es) c s c' s' =
    (mid : Shown) × (t : State) × Happens settings e c s mid t × Passes settings es mid t c' s'

-- all bytes that came, as long as the input had not ended
abbrev pub heard_if : Bool → List Event → Text
heard_if true es = []
heard_if false [] = []
heard_if false (came bytes ∷ es) = bytes ++ heard_if false es
heard_if false (ended ∷ es) = []
heard_if false (acted found ∷ es) = heard_if false es
heard_if false (sent text ∷ es) = heard_if false es

abbrev pub heard : List Event → Text
heard es = heard_if false es

-- all bytes that went out
abbrev pub went : List Event → Text
went [] = []
went (came bytes ∷ es) = went es
went (ended ∷ es) = went es
went (acted found ∷ es) = went es
went (sent text ∷ es) = text ++ went es

-- ---- what they come to

-- b is these requests and then what is held, they were answered one after the other, and all that was put out
-- are their texts and what was said of the next
pub record SoFar (settings : Settings) (b out : Text) (s s' : State) (c : Shown) : Type 0 where
  pub items : List Item
  pub texts : List Text
  pub rest : Text
  pub said : Text
  pub front : Front settings b items rest
  pub run : Run settings s items texts s'
  pub put : out ≡ joined texts ++ said
  pub holds : Holds settings c rest said

-- the bytes that came and were put out, and the service's states
abbrev pub traffic : Settings → Text → Text → State → State → Traffic
traffic settings b out s s' =
    record {
      settings = settings;
      left = Some b;
      left' = Some [];
      held = Some [];
      held' = Some out;
      state = s;
      state' = s';
    }

-- what serving a connection to this end says; none of it ends with a read
abbrev pub ServedTo : End → Traffic → Type 0
ServedTo Closed t = Serves Closed t
ServedTo Cut t = Serves Cut t
ServedTo (Refused r) t = Serves (Refused r) t
ServedTo ReadFailed t = ⊥
ServedTo (WriteFailed n) t = Serves (WriteFailed n) t

-- while there may be a further request, and at the end: of a reader that gives b and a writer that takes out
abbrev pub AccountsAs : Settings → Phase → Text → Text → State → State → Shown → Type 0
AccountsAs settings Head b out s s' c = SoFar settings b out s s' c
AccountsAs settings (Body part) b out s s' c = SoFar settings b out s s' c
AccountsAs settings (Ended e) b out s s' c = ServedTo e (traffic settings b out s s')

abbrev pub Accounts : Settings → Text → Text → State → State → Shown → Type 0
Accounts settings b out s s' c = AccountsAs settings c.phase b out s s' c
