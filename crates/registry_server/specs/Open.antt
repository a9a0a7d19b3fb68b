-- The connections that are open, as contracts see them, and what a call makes of them.
use Rattle.std.specs.Prelude.{◌≡◌, ◌≢◌, ℕ, ◌+◌, ◌<◌, ◌≤◌, ◌⊎◌, ⊤, Bool, true, false, ◌||◌, ◌&&◌, nat_lt, is_none, if◌then◌else◌, List, [], ◌∷◌, ◌++◌, ◌==◌, length, drop, min, Option, Some, None, All}
use Rattle.oci_types.specs.Text.{Text}
use Rattle.registry_conversation.specs.declared.phase.Step.{Step}
use Rattle.registry_conversation.specs.declared.phase.Step.TheVariants.{Answered, Interim, Waits, Ended}
use Rattle.registry_conversation.specs.Shown.{Shown, begun, listens, with_finished, with_going, coming_len, held_len}
use Rattle.registry_conversation.specs.Stepping.{Receives}
use Rattle.registry_model.specs.declared.settings.Settings.{Settings}
use Rattle.registry_server.specs.declared.bounds.Bounds.{Bounds}
use Rattle.registry_server.specs.declared.refusal.Refusal.{Refusal}
use Rattle.registry_server.specs.declared.refusal.Refusal.TheVariants.{Full, NoNumber, Memory}

-- ---- what is open

-- a connection: its number, its conversation, and whether that is to be looked at
pub record Slot : Type 0 where
  pub number : ℕ
  pub conversation : Shown
  pub stirred : Bool

-- no number follows it
abbrev pub last_number : ℕ
last_number = 18446744073709551615

-- the connections, in the order in which they take their turns; the number of the next, how many there may
-- be and how much they may hold, and the settings of all
pub record Open : Type 0 where
  pub slots : List Slot
  pub next : ℕ
  pub bounds : Bounds
  pub settings : Settings

abbrev pub none : Settings → Bounds → Open
none settings bounds = record { slots = []; next = 0; bounds = bounds; settings = settings }

-- the conversation under a number
abbrev pub conversation_of : ℕ → List Slot → Option Shown
conversation_of n [] = None
conversation_of n (c ∷ slots) = if c.number == n then Some c.conversation else conversation_of n slots

-- what is to go out on a connection; nothing on one that is not open
abbrev pub going_in : Option Shown → Text
going_in None = []
going_in (Some c) = c.going

abbrev pub outgoing_of : ℕ → List Slot → Text
outgoing_of n slots = going_in (conversation_of n slots)

-- how many bytes it holds; a number of 64 bits
abbrev pub held_in : Option Shown → ℕ
held_in None = 0
held_in (Some c) = min (held_len c) 18446744073709551615

abbrev pub held_of : ℕ → List Slot → ℕ
held_of n slots = held_in (conversation_of n slots)

-- the numbers were given before next, each to one connection
abbrev pub are_numbered : ℕ → List Slot → Bool
are_numbered next [] = true
are_numbered next (c ∷ slots) =
    nat_lt c.number next && (is_none (conversation_of c.number slots) && are_numbered next slots)

-- ---- what a call makes of them

-- the conversation under n was one and is the other, and every other connection is exactly as it was
pub record Only (n : ℕ) (before after : Option Shown) (old new : List Slot) : Type 0 where
  pub was : conversation_of n old ≡ before
  pub is : conversation_of n new ≡ after
  pub others : (other : ℕ) → other ≢ n → conversation_of other new ≡ conversation_of other old

-- a connection came under the next number, and takes its turns behind the others
pub record Opens (n : ℕ) (old new : Open) : Type 0 where
  pub number : n ≡ old.next
  pub room : length old.slots < old.bounds.at_once
  pub is : new ≡ record {
    slots = old.slots ++ record { number = n; conversation = begun; stirred = false } ∷ [];
    next = n + 1;
    bounds = old.bounds;
    settings = old.settings;
  }
  pub only : Only n None (Some begun) old.slots new.slots

-- there is no room for a further one, or no number, or no memory
abbrev pub Refuses : Refusal → Open → Type 0
Refuses Full u = u.bounds.at_once ≤ length u.slots
Refuses NoNumber u = u.next ≡ last_number
Refuses Memory u = ⊤

-- the conversation under n changes, in its place, and is to be looked at as f says
pub record Changes (n : ℕ) (P : Shown → Shown → Type 0) (f : Slot → Bool) (old new : List Slot) : Type 0 where
  pub front : List Slot
  pub slot : Slot
  pub back : List Slot
  pub conversation : Shown
  pub was : old ≡ front ++ slot ∷ back
  pub numbered : slot.number ≡ n
  pub is : new ≡ front ++ record { number = n; conversation = conversation; stirred = f slot } ∷ back
  pub changes : P slot.conversation conversation
  pub only : Only n (Some slot.conversation) (Some conversation) old new

-- what was held of n is let go
pub record Closes (n : ℕ) (old new : List Slot) : Type 0 where
  pub front : List Slot
  pub slot : Slot
  pub back : List Slot
  pub was : old ≡ front ++ slot ∷ back
  pub numbered : slot.number ≡ n
  pub is : new ≡ front ++ back
  pub only : Only n (Some slot.conversation) None old new

-- nothing is to go out on it
abbrev pub is_told : Shown → Bool
is_told c = length c.going == 0

-- another turn may come to something at once: it answered, or put an interim response out, and nothing waits
-- for its way out
abbrev pub goes_on : Step → Shown → Bool
goes_on Answered c = is_told c
goes_on Interim c = is_told c
goes_on Waits c = false
goes_on (Ended e) c = false

-- the first that is to be looked at takes a turn, and goes behind all others
pub record TakesTurn (n : ℕ) (found : Step) (P : Shown → Shown → Type 0) (old new : List Slot) : Type 0 where
  pub front : List Slot
  pub slot : Slot
  pub back : List Slot
  pub conversation : Shown
  pub was : old ≡ front ++ slot ∷ back
  pub waiting : All (λ s. s.stirred ≡ false) front
  pub stirred : slot.stirred ≡ true
  pub numbered : slot.number ≡ n
  pub is : new ≡ (front ++ back)
      ++ record { number = n; conversation = conversation; stirred = goes_on found conversation } ∷ []
  pub changes : P slot.conversation conversation
  pub only : Only n (Some slot.conversation) (Some conversation) old new

-- these connections are others, and no more is
abbrev pub with_slots : Open → List Slot → Open
with_slots u slots = record u { slots = slots }

-- a call for the number n: what P says of the connections, if it is open, and else nothing
abbrev pub IfOpen : Bool → ℕ → (List Slot → List Slot → Type 0) → Open → Open → Type 0
IfOpen true n P old new = P old.slots new.slots × (new ≡ with_slots old new.slots)
IfOpen false n P old new = (conversation_of n old.slots ≡ None) × (new ≡ old)

-- a connection that rests is closed: it held nothing that came and is not answered, and nothing that is to go
-- out; where it is not open, or holds any, nothing has changed
abbrev pub IfResting : Bool → ℕ → Open → Open → Type 0
IfResting true n old new =
    Closes n old.slots new.slots × (held_of n old.slots ≡ 0) × (new ≡ with_slots old new.slots)
IfResting false n old new =
    ((conversation_of n old.slots ≡ None) ⊎ (0 < held_of n old.slots)) × (new ≡ old)

-- something came for it, if it listened; while a reply waits for its way out, that is not looked at
abbrev pub hears : Slot → Bool
hears slot = (listens slot.conversation && is_told slot.conversation) || slot.stirred

-- so many bytes went out: it is looked at again when they were the last
abbrev pub sends : ℕ → Slot → Bool
sends count slot = (length (drop count slot.conversation.going) == 0) || slot.stirred

-- ---- what a call makes of one conversation

-- the clauses of `receive`
abbrev pub Hears : Text → Shown → Shown → Type 0
Hears bytes c c' = (listens c ≡ false → c' ≡ c) × (listens c ≡ true → Receives bytes c c')
    × (coming_len c' ≤ coming_len c + length bytes)

-- the clause of `finish`
abbrev pub Finishes : Shown → Shown → Type 0
Finishes c c' = c' ≡ with_finished c

-- the clause of `sent`: these bytes, of which there are so many, went out
abbrev pub Sends : ℕ → Shown → Shown → Type 0
Sends count c c' = (count ≤ length c.going) × (c' ≡ with_going c (drop count c.going))

-- the number stays, and it is to be looked at so
abbrev pub Becomes : (Shown → Shown → Type 0) → Bool → Slot → Slot → Type 0
Becomes P stirred old new =
    P old.conversation new.conversation
    × (new ≡ record { number = old.number; conversation = new.conversation; stirred = stirred })

-- ---- what a search finds

pub record FoundAt (n at : ℕ) (slots : List Slot) : Type 0 where
  pub front : List Slot
  pub slot : Slot
  pub back : List Slot
  pub was : slots ≡ front ++ slot ∷ back
  pub place : length front ≡ at
  pub numbered : slot.number ≡ n
  pub first : conversation_of n front ≡ None

pub record LastAt (n at : ℕ) (slots : List Slot) : Type 0 where
  pub front : List Slot
  pub slot : Slot
  pub back : List Slot
  pub was : slots ≡ front ++ slot ∷ back
  pub place : length front ≡ at
  pub numbered : slot.number ≡ n
  pub last : conversation_of n back ≡ None

pub record StirredAt (at : ℕ) (slots : List Slot) : Type 0 where
  pub front : List Slot
  pub slot : Slot
  pub back : List Slot
  pub was : slots ≡ front ++ slot ∷ back
  pub place : length front ≡ at
  pub waiting : All (λ s. s.stirred ≡ false) front
  pub stirred : slot.stirred ≡ true
