-- What a connection shows.
use Rattle.std.specs.Prelude.{◌≡◌, ℕ, List, [], ◌∷◌, ◌++◌, map, slice_index_or}
use Rattle.std.specs.List.{remove}
use Rattle.registry_conversation.specs.Receiving.{received}
use Rattle.registry_server.specs.declared.connection.Connection.{Connection}
use Rattle.registry_server.specs.Open.{Slot}

abbrev pub slot_of : Connection → Slot
slot_of c = record { number = c.number; conversation = received c.conversation.value; stirred = c.stirred }

abbrev pub slots_of : List Connection → List Slot
slots_of connections = map slot_of connections

-- the connection at this place went behind all others
abbrev pub IsMoved : ℕ → List Connection → List Connection → Type 0
IsMoved at old new = (d : Connection) → new ≡ remove old at ++ slice_index_or old at d ∷ []
