-- Connections that are served together (profile).
use Rattle.std.specs.Prelude.{◌≡◌, ◌/◌, ◌*◌, ℕ, zero, suc, min, List, [], ◌++◌}
use Rattle.registry_model.specs.Keeping.{Held, Kept, nothing_held, state_of}
use Rattle.registry_model.specs.declared.settings.Settings.{Settings}
use Rattle.registry_server.specs.declared.bounds.Bounds.{Bounds}
use Rattle.registry_orders.specs.declared.limits.Limits.{Limits}
use Rattle.registry_server.specs.Open.{Open, none}
use Rattle.registry_server.specs.Room.{HoldsWithin}
use Rattle.registry_server.specs.Events.{Event, Passes, OneLedger, Leads}
use Rattle.order_sockets.specs.Calling.{Called, AttendsRound}

-- half of the buffer is for requests that are coming, and half for replies that are going
abbrev pub bounds_of : ℕ → ℕ → Bounds
bounds_of at_once buffer = record { at_once = at_once; coming = buffer / 2; going = buffer / 2 }

-- for how many milliseconds a connection may be silent; a number of 64 bits
abbrev pub most_silence : Limits → ℕ
most_silence limits = min (limits.idle * 1000) 18446744073709551615

-- some connections were served with these settings, at most so many at once and within these bounds: calls
-- of them led from what was kept to what is kept now, and one ledger of all that the service did explains the
-- states and every connection
pub record ServesBounded (settings : Settings) (bounds : Bounds) (k k' : Kept) : Type 0 where
  pub events : List Event
  pub last : Open
  pub passes : Passes events (none settings bounds) k last k'
  pub ledger : OneLedger events (state_of k) (state_of k') last
  -- at the end, and in every state on the way, no more was in hand than may be
  pub within : (front back : List Event) → events ≡ front ++ back → (u : Open) (t : Kept)
      → Passes front (none settings bounds) k u t → (u.bounds ≡ bounds) × HoldsWithin u

-- the bounds are those of this buffer
abbrev pub ServesWithin : Settings → ℕ → ℕ → Kept → Kept → Type 0
ServesWithin settings at_once buffer k k' = ServesBounded settings (bounds_of at_once buffer) k k'

-- those of some buffer
abbrev pub ServesTogether : Settings → ℕ → Kept → Kept → Type 0
ServesTogether settings at_once k k' = (buffer : ℕ) × ServesWithin settings at_once buffer k k'

-- some events lead there, those beside connections among them
abbrev pub Passed : Open → Kept → Open → Kept → Type 0
Passed u k u' k' = (events : List Event) × Passes events u k u' k'

-- some events that leave all connections as they are, whatever those are
abbrev pub PassesBeside : Kept → Kept → Type 0
PassesBeside k k' = (u : Open) → Passed u k u k'

-- ---- what is done beside connections is what those who give orders have said

-- One round. Calls of connections lead to some state; there each of those who give orders is attended,
-- whether they were there or came; and calls of connections lead on.
pub record Round (u : Open) (c : List Called) (k : Kept) (u' : Open) (c' : List Called) (k' : Kept)
    : Type 0 where
  pub mid : Open
  pub before : Kept
  pub behind : Kept
  pub leads : Leads u k mid before
  pub attends : AttendsRound c c' before behind
  pub goes_on : Leads mid behind u' k'

-- so many rounds, each over those whom the one before left
abbrev pub Rounds : ℕ → Open → List Called → Kept → Open → List Called → Kept → Type 0
Rounds zero u c k u' c' k' = (u' ≡ u) × (c' ≡ c) × (k' ≡ k)
Rounds (suc n) u c k u' c' k' =
    (v : Open) × (d : List Called) × (t : Kept) × Rounds n u c k v d t × Round v d t u' c' k'

-- some rounds, and behind them calls of connections alone
pub record GoesRounds (u : Open) (c : List Called) (k : Kept) (u' : Open) (k' : Kept) : Type 0 where
  pub count : ℕ
  pub mid : Open
  pub there : List Called
  pub behind : Kept
  pub rounds : Rounds count u c k mid there behind
  pub ends : Leads mid behind u' k'

-- the same from no connection on, with these settings and within these bounds, where these give orders
abbrev pub ServesRounds : Settings → Bounds → List Called → Kept → Kept → Type 0
ServesRounds settings bounds c k k' = (last : Open) × GoesRounds (none settings bounds) c k last k'

-- what is kept, with this held beside it
abbrev pub with_held : Held → Kept → Kept
with_held held k = record k { held = held }

-- Served together with these settings, at most so many at once and within this buffer, from nobody on, and
-- from nothing that is held beside what is kept: what is done beside connections is what those who give
-- orders have said.
abbrev pub ServesAll : Settings → ℕ → ℕ → Kept → Kept → Type 0
ServesAll settings at_once buffer k k' = (held : Held)
    × ServesWithin settings at_once buffer (with_held nothing_held k) (with_held held k')
    × ServesRounds settings (bounds_of at_once buffer) [] (with_held nothing_held k) (with_held held k')
