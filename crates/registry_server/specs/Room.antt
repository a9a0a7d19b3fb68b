-- How many bytes of requests connections may hold together, and of replies (profile).
use Rattle.std.specs.Prelude.{◌≡◌, ℕ, ◌+◌, ◌-◌, ◌*◌, ◌<◌, ◌≤◌, nat_le, if◌then◌else◌, List, [], ◌∷◌, length, max, Option, Some, None, IfSome}
use Rattle.oci_types.specs.Text.{Text}
use Rattle.registry_conversation.specs.Shown.{Shown, coming_len}
use Rattle.registry_server.specs.declared.bounds.Bounds.{Bounds}
use Rattle.registry_server.specs.declared.receipt.Receipt.{Receipt}
use Rattle.registry_server.specs.declared.receipt.Receipt.TheVariants.{Taken, NoRoom, NotOpen}
use Rattle.registry_server.specs.Open.{Slot, Open, conversation_of, Changes, with_slots, hears, Hears}

-- ---- the rule

-- what each connection may always hold of requests
abbrev pub share : ℕ
share = 65536

-- a head of 16,384 bytes, a manifest of 4,194,304, and as many bytes as are read at once
abbrev pub largest : ℕ
largest = 4276224

-- the shares of all that may be open, and one largest request
abbrev pub least : Bounds → ℕ
least b = b.at_once * share + largest

-- what all together may hold above that
abbrev pub pool : Bounds → ℕ
pool b = b.coming - least b

-- so much all together may hold: what was given, or that where it is more
abbrev pub most_coming : Bounds → ℕ
most_coming b = max b.coming (least b)

-- what a connection holds above its share
abbrev pub over : Shown → ℕ
over c = coming_len c - share

abbrev pub over_sum : List Slot → ℕ
over_sum [] = 0
over_sum (c ∷ slots) = over c.conversation + over_sum slots

-- how much a connection may hold, where the others hold so much above their shares: where the pool holds
-- that, one largest request besides its share, and else its share alone
abbrev pub most_beside : ℕ → ℕ → ℕ
most_beside others pool = if nat_le others pool then share + largest else share

-- how many more bytes a connection that holds so many may be given
abbrev pub room_beside : ℕ → ℕ → ℕ → ℕ
room_beside all held pool = most_beside (all - (held - share)) pool - held

abbrev pub room_in : Option Shown → Open → ℕ
room_in None u = 0
room_in (Some c) u = room_beside (over_sum u.slots) (coming_len c) (pool u.bounds)

abbrev pub room_of : ℕ → Open → ℕ
room_of n u = room_in (conversation_of n u.slots) u

-- bytes came for the number n: they were taken, where there was room for all of them; where there was not
-- nothing has changed
abbrev pub IsReceived : Receipt → ℕ → Text → Open → Open → Type 0
IsReceived Taken n bytes u u' =
    Changes n (Hears bytes) hears u.slots u'.slots × (u' ≡ with_slots u u'.slots)
    × (length bytes ≤ room_of n u)
IsReceived NoRoom n bytes u u' =
    (c : Shown) × (conversation_of n u.slots ≡ Some c) × (room_of n u < length bytes) × (u' ≡ u)
IsReceived NotOpen n bytes u u' = (conversation_of n u.slots ≡ None) × (u' ≡ u)

-- ---- what is held

abbrev pub coming_sum : List Slot → ℕ
coming_sum [] = 0
coming_sum (c ∷ slots) = coming_len c.conversation + coming_sum slots

abbrev pub going_sum : List Slot → ℕ
going_sum [] = 0
going_sum (c ∷ slots) = length c.conversation.going + going_sum slots

-- the most that one holds above its share
abbrev pub over_most : List Slot → ℕ
over_most [] = 0
over_most (c ∷ slots) = max (over c.conversation) (over_most slots)

-- no more are open than may be, none holds more than one largest request above its share, and but for the one
-- that holds most all others hold no more above their shares than the pool
pub record IsWithin (b : Bounds) (slots : List Slot) : Type 0 where
  pub few : length slots ≤ b.at_once
  pub each : over_most slots ≤ largest
  pub others : over_sum slots ≤ pool b + over_most slots

-- what that comes to: all together hold no more than they may, each no more than its share and one largest
-- request, and, if any is open, one of them may hold so much: its request can get whole, where its body stays
-- with it
pub record HoldsWithin (u : Open) : Type 0 where
  pub together : coming_sum u.slots ≤ most_coming u.bounds
  pub each : (n : ℕ) → IfSome (conversation_of n u.slots) (λ c. coming_len c ≤ share + largest)
  pub one : 0 < length u.slots → (n : ℕ) × (c : Shown) × (conversation_of n u.slots ≡ Some c)
      × (room_of n u + coming_len c ≡ share + largest)
