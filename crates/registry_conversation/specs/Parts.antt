-- What has come of a body, part by part (RFC 9112, sections 6.3 and 7.1).
use Rattle.std.specs.Prelude.{◌≡◌, ℕ, ◌+◌, ◌-◌, ◌*◌, ◌<◌, ◌≤◌, List, ◌++◌, length, All}
use Rattle.httparse.specs.Grammar.{ChunkLine, print_chunk_line, chunk_size}
use Rattle.oci_types.specs.Text.{Text}
use Rattle.registry_model.specs.Limits.{most_body}
use Rattle.registry_model.specs.declared.settings.Settings.{Settings}
use Rattle.registry_http.specs.Chunks.{BeginsWithLine, HasBadEnd, HasGoodEnd, DataIsCut, Chunk, IsChunk, IsLast, print_chunks, data_of}
use Rattle.registry_http.specs.Spelling.{IsBody, BodyIsCut, BodyIsRefused}
use Rattle.registry_http.specs.declared.framing.Framing.{Framing}
use Rattle.registry_http.specs.declared.framing.Framing.TheVariants as framed
use Rattle.registry_conversation.specs.declared.part.Part.{Part}
use Rattle.registry_conversation.specs.declared.part.Part.TheVariants.{Length, Line, Data, Trailer}
use Rattle.registry_conversation.specs.declared.part.FoundEnd.{FoundEnd}
use Rattle.registry_conversation.specs.declared.part.FoundEnd.TheVariants as behind
use Rattle.registry_conversation.specs.declared.part.Took.{Took}
use Rattle.registry_conversation.specs.declared.part.Took.TheVariants as took
use Rattle.registry_conversation.specs.declared.part.Taken.{Taken}
use Rattle.registry_conversation.specs.declared.part.Taken.TheVariants as all

-- ---- what came behind a head, of which front was taken: v, of which the last bytes are unread

-- whole chunks, which carry total bytes
pub record BehindTotal (settings : Settings) (total : ℕ) (front v taken unread : Text) : Type 0 where
  pub chunks : List Chunk
  pub each : All IsChunk chunks
  pub within : total ≤ most_body settings
  pub carried : total ≡ length (data_of chunks)
  pub whole : v ≡ print_chunks chunks ++ unread
  pub kept : taken ≡ front ++ data_of chunks

-- of a body of size bytes the first that came
pub record BehindLength (size came : ℕ) (front v taken unread : Text) : Type 0 where
  pub come : Text
  pub counted : length come ≡ came
  pub fits : came ≤ size
  pub whole : v ≡ come ++ unread
  pub kept : taken ≡ front ++ come

-- whole chunks, the line of one of size bytes, with which they carry total, and the first of its bytes that
-- came
pub record BehindSize (settings : Settings) (total size came : ℕ) (front v taken unread : Text)
    : Type 0 where
  pub earlier : ℕ
  pub line : ChunkLine
  pub rest : Text
  pub before : Text
  pub come : Text
  pub so_far : BehindTotal settings earlier front v before rest
  pub begins : BeginsWithLine rest line (come ++ unread)
  pub some : 0 < size
  pub sized : size ≡ chunk_size line
  pub sum : total ≡ earlier + size
  pub within : total ≤ most_body settings
  pub counted : length come ≡ came
  pub fits : came ≤ size
  pub kept : taken ≡ before ++ come

-- all chunks, which carry total bytes, and the line that ends them
pub record BehindZero (settings : Settings) (total : ℕ) (front v taken unread : Text) : Type 0 where
  pub chunks : List Chunk
  pub zero : ChunkLine
  pub each : All IsChunk chunks
  pub within : length (data_of chunks) ≤ most_body settings
  pub carried : total ≡ length (data_of chunks)
  pub is_last : IsLast zero
  pub whole : v ≡ (print_chunks chunks ++ print_chunk_line zero) ++ unread
  pub kept : taken ≡ front ++ data_of chunks

-- of a body that is framed so this part is missing next
abbrev pub IsPart : Settings → Part → Framing → Text → Text → Text → Text → Type 0
IsPart settings (Length size came) framing front v taken unread =
    (framing ≡ framed.Length size) × BehindLength size came front v taken unread
IsPart settings (Line total) framing front v taken unread =
    (framing ≡ framed.Chunked) × BehindTotal settings total front v taken unread
IsPart settings (Data total size came) framing front v taken unread =
    (framing ≡ framed.Chunked) × BehindSize settings total size came front v taken unread
IsPart settings (Trailer total) framing front v taken unread =
    (framing ≡ framed.Chunked) × BehindZero settings total front v taken unread

-- a body that is framed so was taken
pub record BodyIsWhole (settings : Settings) (framing : Framing) (front v taken unread : Text) : Type 0 where
  pub coded : Text
  pub body : Text
  pub is_body : IsBody settings framing coded body
  pub whole : v ≡ coded ++ unread
  pub kept : taken ≡ front ++ body

-- ---- what is taken

abbrev pub FindsEnd : FoundEnd → ℕ → Text → Type 0
FindsEnd behind.Whole size b = HasGoodEnd size b
FindsEnd behind.NotYet size b = DataIsCut size b
FindsEnd behind.Never size b = (tail : Text) → HasBadEnd size (b ++ tail)

abbrev pub TakesPart : Settings → Took → Framing → Text → Text → Text → Text → Type 0
TakesPart settings (took.Next next) framing front v taken unread =
    IsPart settings next framing front v taken unread
TakesPart settings (took.Whole size) framing front v taken unread =
    (w : BodyIsWhole settings framing front v taken unread) × (size ≡ length w.body)
TakesPart settings (took.NotYet next) framing front v taken unread =
    IsPart settings next framing front v taken unread × BodyIsCut settings framing v
TakesPart settings (took.Never r) framing front v taken unread =
    (tail : Text) → BodyIsRefused settings framing (v ++ tail) r

-- more was taken; of whatever body this part is missing next, that is what came of it, wherever what was
-- taken before lies
abbrev pub TakesFrom : Settings → Part → Took → Text → Text → Text → Text → Type 0
TakesFrom settings part found taken unread taken' unread' =
    (more : Text) × (taken' ≡ taken ++ more)
    × ((framing : Framing) (front v carried : Text) → IsPart settings part framing front v carried unread
    → TakesPart settings found framing front v (carried ++ more) unread')

abbrev pub TakesBody : Settings → Taken → Framing → Text → Text → Text → Text → Type 0
TakesBody settings (all.Whole size) framing front v taken unread =
    (w : BodyIsWhole settings framing front v taken unread) × (size ≡ length w.body)
TakesBody settings (all.Missing part) framing front v taken unread =
    IsPart settings part framing front v taken unread × BodyIsCut settings framing v
TakesBody settings (all.Refused r) framing front v taken unread =
    (tail : Text) → BodyIsRefused settings framing (v ++ tail) r

abbrev pub TakesAll : Settings → Part → Taken → Text → Text → Text → Text → Type 0
TakesAll settings part found taken unread taken' unread' =
    (more : Text) × (taken' ≡ taken ++ more)
    × ((framing : Framing) (front v carried : Text) → IsPart settings part framing front v carried unread
    → TakesBody settings found framing front v (carried ++ more) unread')

-- of the bytes that are held some may be let go
abbrev pub LetsGo : Text → Text → Text → Text → Type 0
LetsGo taken unread taken' unread' = length taken' + length unread' ≤ length taken + length unread

-- ---- parts come to an end

-- falls from each part to the next
abbrev pub rank : Settings → Part → ℕ
rank settings (Length size came) = 0
rank settings (Line total) = 2 * (most_body settings - total) + 2
rank settings (Data total size came) = 2 * (most_body settings - total) + 3
rank settings (Trailer total) = 1

abbrev pub IsSmaller : Settings → Part → Took → Type 0
IsSmaller settings part (took.Next next) = rank settings next < rank settings part
IsSmaller settings part (took.Whole size) = Unit {0}
IsSmaller settings part (took.NotYet next) = Unit {0}
IsSmaller settings part (took.Never r) = Unit {0}
