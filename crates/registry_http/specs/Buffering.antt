-- The bytes that a buffer holds, around a place.
use Rattle.std.specs.Prelude.{ℕ, ◌-◌, slice_range, vec_len}
use Rattle.oci_types.specs.Text.{Text}
use Rattle.registry_http.specs.declared.buffer.Buffer.{Buffer}

-- what was taken of the request in hand
abbrev pub before : Buffer → Text
before b = slice_range b.room.items b.start b.place

-- what was read and not taken yet
abbrev pub behind : Buffer → Text
behind b = slice_range b.room.items b.unread b.end

-- room at the end
abbrev pub spare : Buffer → ℕ
spare b = vec_len b.room - b.end
