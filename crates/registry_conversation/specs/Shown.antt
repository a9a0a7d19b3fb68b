-- A conversation as its contracts see it.
use Rattle.std.specs.Prelude.{ℕ, ◌+◌, ◌*◌, Bool, true, false, not, [], ◌++◌, ◌==◌, length}
use Rattle.oci_types.specs.Text.{Text}
use Rattle.registry_conversation.specs.declared.body_place.BodyPlace.{BodyPlace}
use Rattle.registry_conversation.specs.declared.body_place.BodyPlace.TheVariants.{Buffer}
use Rattle.registry_conversation.specs.declared.phase.Phase.{Phase}
use Rattle.registry_conversation.specs.declared.phase.Phase.TheVariants.{Head, Body, Ended}
use Rattle.registry_conversation.specs.declared.phase.Wants.{Wants}
use Rattle.registry_conversation.specs.declared.phase.Wants.TheVariants.{Bytes, Room, Nothing}

-- what was taken of the request in hand (its head, and what its body carries so far, but for what of it lies
-- elsewhere), and where the rest of that lies; what came and was not taken yet, whether the input has ended,
-- and what is to go out
pub record Shown : Type 0 where
  pub phase : Phase
  pub place : BodyPlace
  pub taken : Text
  pub unread : Text
  pub finished : Bool
  pub going : Text

-- nothing came
abbrev pub begun : Shown
begun = record { phase = Head; place = Buffer; taken = []; unread = []; finished = false; going = [] }

abbrev pub with_more : Shown → Text → Shown
with_more c bytes = record c { unread = c.unread ++ bytes }

abbrev pub with_finished : Shown → Shown
with_finished c = record c { finished = true }

abbrev pub with_phase : Shown → Phase → Shown
with_phase c p = record c { phase = p }

abbrev pub with_going : Shown → Text → Shown
with_going c text = record c { going = text }

-- all that came is let go
abbrev pub with_none : Shown → Shown
with_none c = record c { taken = []; unread = [] }

-- bytes that come are kept
abbrev pub listens_as : Phase → Bool → Bool
listens_as Head finished = not finished
listens_as (Body part) finished = not finished
listens_as (Ended e) finished = false

abbrev pub listens : Shown → Bool
listens c = listens_as c.phase c.finished

abbrev pub wants_as : Bool → Phase → Wants
wants_as false p = Room
wants_as true Head = Bytes
wants_as true (Body part) = Bytes
wants_as true (Ended e) = Nothing

-- room for what is to go out, then bytes, as long as there may be a further request
abbrev pub wants_of : Shown → Wants
wants_of c = wants_as (length c.going == 0) c.phase

-- the bytes that came and are not answered
abbrev pub coming_len : Shown → ℕ
coming_len c = length c.taken + length c.unread

-- these, and those that are to go out
abbrev pub held_len : Shown → ℕ
held_len c = coming_len c + length c.going

-- a head is looked for
abbrev pub heads : Phase → ℕ
heads Head = 1
heads (Body part) = 0
heads (Ended e) = 0

-- falls with each turn behind which another may come to something
abbrev pub turns_left : Shown → ℕ
turns_left c = 2 * coming_len c + heads c.phase
