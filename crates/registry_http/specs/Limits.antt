-- The limits of a request's bytes (profile). The constants of src/limits.rt are these numbers
-- (`limits_are_these`). Those of bodies are the registry's own.
use Rattle.std.specs.Prelude.{ℕ}

-- the most bytes of a head, and of a trailer
abbrev pub longest_head : ℕ
longest_head = 16384

-- the most fields of a head, and of a trailer
abbrev pub most_fields : ℕ
most_fields = 64

-- the most bytes of the line of a chunk
abbrev pub longest_chunk_line : ℕ
longest_chunk_line = 1024
