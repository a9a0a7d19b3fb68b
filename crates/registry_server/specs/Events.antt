-- What any list of calls comes to, over all connections and one service.
use Rattle.std.specs.Prelude.{◌≡◌, ℕ, ◌<◌, ◌≤◌, ◌==◌, if◌then◌else◌, List, [], ◌∷◌, ◌++◌, length, map, None, IfSome, All, ⊤}
use Rattle.oci_types.specs.Text.{Text}
use Rattle.registry_model.specs.declared.settings.Settings.{Settings}
use Rattle.registry_model.specs.Keeping.{State, Kept, HeldStays, state_of}
use Rattle.registry_model.specs.Runs.{Outcome, told, Takes, TakesAll, RunSays}
use Rattle.registry_model.specs.Team.{Step, asks}
use Rattle.registry_holding.specs.Holding.{with_stage}
use Rattle.registry_http.specs.Asking.{ask_in}
use Rattle.registry_conversation.specs.Shown.{Shown, with_going, coming_len}
use Rattle.registry_conversation.specs.Receiving.{ActsOn, joined}
use Rattle.registry_conversation.specs.ConversationEvents.{Event as Call, came, ended, acted, sent, heard, went}
use Rattle.registry_server.specs.Open.{Open, Slot, conversation_of, Opens, Changes, Closes, TakesTurn, with_slots, hears, sends, Hears, Finishes}
use Rattle.registry_server.specs.Room.{room_of, going_sum}
use Rattle.registry_server.specs.Accounts.{Replied, Accounts}

-- nothing is staged under this number, where it is that of no connection
abbrev pub IsUnstaged : List Slot → Kept → ℕ → Type 0
IsUnstaged slots k n = conversation_of n slots ≡ None → k.held.stages n ≡ None

-- ---- events

-- a connection came, a call for one that is open (of `turn`, the one that took it), one is gone, what was
-- staged of one that is gone was let go, or somebody else had the service take a step
pub data Event : Type 0 where
  comes : ℕ → Event
  on : ℕ → Call → Event
  goes : ℕ → Event
  unstages : ℕ → Event
  elsewhere : Step → Outcome → Event

-- these bytes went out
abbrev pub SendsText : Text → Shown → Shown → Type 0
SendsText text c c' = (c.going ≡ text ++ c'.going) × (c' ≡ with_going c c'.going)

-- what a call for one connection says: the clauses of `receive` where it took the bytes, `finish`, `turn` and
-- `sent`
abbrev pub HappensOn : ℕ → Call → Open → Kept → Open → Kept → Type 0
HappensOn n (came bytes) u k u' k' =
    Changes n (Hears bytes) hears u.slots u'.slots × (length bytes ≤ room_of n u) × (k' ≡ k)
HappensOn n ended u k u' k' = Changes n Finishes hears u.slots u'.slots × (k' ≡ k)
HappensOn n (acted found) u k u' k' =
    TakesTurn n found (λ c c'. ActsOn u.settings found n c k c' k' × (coming_len c' ≤ coming_len c))
    u.slots u'.slots
    × (going_sum u.slots < u.bounds.going)
HappensOn n (sent text) u k u' k' =
    Changes n (SendsText text) (sends (length text)) u.slots u'.slots × (k' ≡ k)

-- what an event says of the connections and of the service, whose keeper is honest
abbrev pub Happens : Event → Open → Kept → Open → Kept → Type 0
Happens (comes n) u k u' k' = Opens n u u' × (k' ≡ k)
Happens (on n call) u k u' k' = HappensOn n call u k u' k' × (u' ≡ with_slots u u'.slots)
Happens (goes n) u k u' k' = Closes n u.slots u'.slots × (u' ≡ with_slots u u'.slots) × (k' ≡ k)
Happens (unstages n) u k u' k' =
    (u' ≡ u) × (conversation_of n u.slots ≡ None) × (k' ≡ with_stage k n None)
Happens (elsewhere step outcome) u k u' k' =
    (u' ≡ u) × Takes (state_of k) step outcome (state_of k') × HeldStays k k'

-- the events, one after the other; nobody touches the service but as they say
abbrev pub Passes : List Event → Open → Kept → Open → Kept → Type 0
Passes [] u k u' k' = (u' ≡ u) × (k' ≡ k)
Passes (e ∷ events) u k u' k' =
    (mid : Open) × (t : Kept) × Happens e u k mid t × Passes events mid t u' k'

-- it is of a connection, and no step of somebody else's
abbrev pub IsOfConnection : Event → Type 0
IsOfConnection (elsewhere step outcome) = ⊥
IsOfConnection _ = ⊤

-- some events of connections lead from these, and what is kept, to those
abbrev pub Leads : Open → Kept → Open → Kept → Type 0
Leads u k u' k' = (events : List Event) × Passes events u k u' k' × All IsOfConnection events

-- some events that leave the service as it is, whatever it keeps
abbrev pub Carries : Open → Open → Type 0
Carries u u' = (k : Kept) → Leads u k u' k

-- the calls for one connection, in their order
abbrev pub calls_of : ℕ → List Event → List Call
calls_of n [] = []
calls_of n (on m call ∷ events) = if m == n then call ∷ calls_of n events else calls_of n events
calls_of n (comes m ∷ events) = calls_of n events
calls_of n (goes m ∷ events) = calls_of n events
calls_of n (unstages m ∷ events) = calls_of n events
calls_of n (elsewhere step outcome ∷ events) = calls_of n events

-- ---- what they come to

-- what the service did: it answered a request of a connection, or took somebody else's step
pub data Entry : Type 0 where
  replied : ℕ → Replied → Entry
  took : Step → Outcome → Entry

abbrev pub step_of : Settings → Entry → Step
step_of settings (replied n r) = asks (ask_in settings r.item.head r.item.body)
step_of settings (took step outcome) = step

abbrev pub outcome_of : Entry → Outcome
outcome_of (replied n r) = told r.answer
outcome_of (took step outcome) = outcome

-- the requests of one connection that were answered, in their order
abbrev pub replies_of : ℕ → List Entry → List Replied
replies_of n [] = []
replies_of n (replied m r ∷ ledger) = if m == n then r ∷ replies_of n ledger else replies_of n ledger
replies_of n (took step outcome ∷ ledger) = replies_of n ledger

-- of one connection, its calls and the requests of it that were answered: where its conversation stands, or
-- stood when it was gone, with what of the body in hand lies apart, they are those that all bytes which came
-- begin with, and all bytes that went out and are still to go out are their texts
pub record Explains (calls : List Call) (replies : List Replied) (n : ℕ) (u : Open) : Type 0 where
  pub conversation : Shown
  pub apart : Text
  pub there : IfSome (conversation_of n u.slots) (λ c. joined apart c ≡ conversation)
  pub accounts : Accounts u.settings (heard calls) (went calls ++ conversation.going) replies conversation

-- one ledger of all that the service did, in the order in which it took effect, explains its states and every
-- connection
pub record OneLedger (events : List Event) (s s' : State) (u : Open) : Type 0 where
  pub ledger : List Entry
  -- each entry is taken in the state that those before it left
  pub takes : TakesAll s (map (step_of u.settings) ledger) (map outcome_of ledger) s'
  -- so the laws of a run hold of it, of all connections together: among them isolation
  pub says : RunSays s (map (step_of u.settings) ledger) (map outcome_of ledger) s'
  pub connections : (n : ℕ) → Explains (calls_of n events) (replies_of n ledger) n u
