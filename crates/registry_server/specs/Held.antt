-- What is kept of connections, so that nobody walks over all of them.
use Rattle.std.specs.Prelude.{◌≡◌, ℕ, ◌+◌, ◌-◌, ◌^◌, ◌≤◌, false, List, length, take, min, All}
use Rattle.registry_conversation.specs.Shown.{Shown}
use Rattle.registry_server.specs.Room.{over, over_sum, going_sum}
use Rattle.registry_server.specs.Slots.{slots_of}
use Rattle.registry_server.specs.declared.connection.Connection.{Connection}
use Rattle.registry_server.specs.declared.sums.Sums.{Sums}

-- ---- the sums of what they hold, numbers of 64 and of 128 bits

abbrev pub with_one : Shown → Sums → Sums
with_one c s = record {
  over = min (s.over + over c) (2 ^ 64 - 1);
  going = min (s.going + length c.going) (2 ^ 128 - 1);
}

abbrev pub without_one : Shown → Sums → Sums
without_one c s = record { over = s.over - over c; going = s.going - length c.going }

-- one has changed
abbrev pub with_other : Shown → Shown → Sums → Sums
with_other old new s = with_one new (without_one old s)

-- ---- all of it

-- the sums are those of what they hold, none of so many from the front is to be looked at, and none gave its
-- last sign of life before the oldest time, which is no later than now
pub record IsKept (sums : Sums) (resting oldest now : ℕ) (connections : List Connection) : Type 0 where
  pub over : sums.over ≡ over_sum (slots_of connections)
  pub going : sums.going ≡ going_sum (slots_of connections)
  pub rest : All (λ s. s.stirred ≡ false) (take resting (slots_of connections))
  pub past : oldest ≤ now
  pub alive : All (λ c. oldest ≤ c.life.since) connections
