-- How long each connection has been silent, by the time that is handed in (profile).
use Rattle.std.specs.Prelude.{◌≡◌, ◌≢◌, ℕ, ◌+◌, ◌-◌, ◌≤◌, ◌<◌, Bool, ◌&&◌, nat_le, nat_lt, if◌then◌else◌, List, [], ◌∷◌, ◌==◌, length, Option, Some, None, IfSome, option_map}
use Rattle.oci_types.specs.Text.{Text}
use Rattle.registry_server.specs.declared.life.Life.{Life}
use Rattle.registry_server.specs.declared.connection.Connection.{Connection}
use Rattle.registry_server.specs.declared.connections.Connections.{Connections}
use Rattle.registry_server.specs.declared.receipt.Receipt.{Receipt}
use Rattle.registry_server.specs.declared.receipt.Receipt.TheVariants.{Taken, NoRoom, NotOpen}

-- ---- what is a sign of life

-- so many bytes that moved
abbrev pub sign : ℕ
sign = 65536

abbrev pub alive_at : ℕ → Life
alive_at now = record { since = now; moved = 0 }

-- so many bytes came or went
abbrev pub moved_by : ℕ → ℕ → Life → Life
moved_by count t l =
    if nat_le sign (l.moved + count) then alive_at t else record { since = l.since; moved = l.moved + count }

-- the server itself made it wait
abbrev pub excused_at : ℕ → Life → Life
excused_at now l = alive_at now

-- so many bytes went out, and then none was left to go, or some were
abbrev pub sent_by : ℕ → Bool → ℕ → Life → Life
sent_by count whole now l = if whole && nat_lt 0 count then alive_at now else moved_by count now l

-- ---- the connection under a number

abbrev pub life_in : ℕ → List Connection → Option Life
life_in n [] = None
life_in n (c ∷ connections) = if c.number == n then Some c.life else life_in n connections

abbrev pub life_of : ℕ → Connections → Option Life
life_of n c = life_in n c.connections.items

-- since when there was none; 0 of one that is not open
abbrev pub silence_in : ℕ → Option Life → ℕ
silence_in now None = 0
silence_in now (Some l) = now - l.since

abbrev pub silence_of : ℕ → Connections → ℕ
silence_of n c = silence_in c.time (life_of n c)

-- ---- what a call makes of them

-- the life under n is this, and every other one is as it was, at the same time
pub record LivesBut (n : ℕ) (life : Option Life) (old new : Connections) : Type 0 where
  pub time : new.time ≡ old.time
  pub is : life_of n new ≡ life
  pub others : (other : ℕ) → other ≢ n → life_of other new ≡ life_of other old

-- all lives are as they were, at this time
pub record LivesAt (t : ℕ) (old new : Connections) : Type 0 where
  pub time : new.time ≡ t
  pub all : (n : ℕ) → life_of n new ≡ life_of n old

abbrev pub LivesOn : Connections → Connections → Type 0
LivesOn old new = LivesAt old.time old new

-- where the bytes were taken, so many moved
abbrev pub LivesThrough : Receipt → ℕ → Text → Connections → Connections → Type 0
LivesThrough Taken n bytes old new =
    LivesBut n (option_map (moved_by (length bytes) old.time) (life_of n old)) old new
LivesThrough NoRoom n bytes old new = LivesOn old new
LivesThrough NotOpen n bytes old new = LivesOn old new

-- none has been silent for so long
abbrev pub NoneSilent : ℕ → Connections → Type 0
NoneSilent limit c = (n : ℕ) → IfSome (life_of n c) (λ l. c.time - l.since < limit)

-- this one has
abbrev pub IsSilent : ℕ → ℕ → Connections → Type 0
IsSilent limit n c = (l : Life) × (life_of n c ≡ Some l) × (limit ≤ c.time - l.since)
