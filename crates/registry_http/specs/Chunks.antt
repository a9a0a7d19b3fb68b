-- Bodies in chunks: how they are spelled, and where they cannot be read (RFC 9112, section 7.1; the limit of
-- a body is the settings', and the others are the profile's).
use Rattle.std.specs.Prelude.{◌≡◌, ◌≢◌, ℕ, ◌+◌, ◌<◌, ◌≤◌, ◌⊎◌, List, [], ◌∷◌, ◌++◌, length, take, slice_index, All}
use Rattle.std.specs.List.{flat_map}
use Rattle.httparse.specs.Grammar.{ChunkLine, print_chunk_line, IsChunkLine, ReadsChunkLine, HasNoChunkLine, NeverHasChunkLine, MayBecomeChunkLine, chunk_size, Field, IsField, LineEnd, print_section, ReadsSection, HasNoSection, NeverHasSection, MayBecomeSection}
use Rattle.oci_types.specs.Text.{Text}
use Rattle.registry_model.specs.Limits.{most_body}
use Rattle.registry_model.specs.declared.settings.Settings.{Settings}
use Rattle.registry_http.specs.Limits.{longest_head, most_fields, longest_chunk_line}
use Rattle.registry_http.specs.declared.ending.FramingRefusal.{FramingRefusal}
use Rattle.registry_http.specs.declared.ending.FramingRefusal.TheVariants.{UnreadableChunk, ChunksTooLarge}

-- ---- the line of a chunk

-- b begins with a chunk line that is not too long
pub record BeginsWithLine (b : Text) (l : ChunkLine) (rest : Text) : Type 0 where
  pub reads : ReadsChunkLine b l rest
  pub short : length (print_chunk_line l) ≤ longest_chunk_line

-- as many bytes as a chunk line may have hold none, or never will
abbrev pub HoldsNoLine : Text → Type 0
HoldsNoLine b =
    ((longest_chunk_line ≤ length b) × HasNoChunkLine (take longest_chunk_line b))
    ⊎ NeverHasChunkLine (take longest_chunk_line b)

-- no whole line stands there, and more bytes can make it one
abbrev pub LineIsCut : Text → Type 0
LineIsCut b = (length b < longest_chunk_line) × HasNoChunkLine b × MayBecomeChunkLine b

abbrev pub LineIsRefused : Text → FramingRefusal → Type 0
LineIsRefused b r = (r ≡ UnreadableChunk) × HoldsNoLine b

-- ---- the data of a chunk, and the line end behind it

-- behind so many bytes stands something else than CR LF
abbrev pub HasBadEnd : ℕ → Text → Type 0
HasBadEnd size b =
    ((size < length b) × (slice_index b size ≢ 13))
    ⊎ ((size + 1 < length b) × (slice_index b size ≡ 13) × (slice_index b (size + 1) ≢ 10))

-- behind so many bytes stands CR LF
abbrev pub HasGoodEnd : ℕ → Text → Type 0
HasGoodEnd size b = (size + 2 ≤ length b) × (slice_index b size ≡ 13) × (slice_index b (size + 1) ≡ 10)

-- the data and CR LF are not whole, and what has come of CR LF is right
abbrev pub DataIsCut : ℕ → Text → Type 0
DataIsCut size b = (length b < size + 2) × (size < length b → slice_index b size ≡ 13)

abbrev pub DataIsRefused : ℕ → Text → FramingRefusal → Type 0
DataIsRefused size b r = (r ≡ UnreadableChunk) × HasBadEnd size b

-- ---- chunks

pub record Chunk : Type 0 where
  pub line : ChunkLine
  pub carried : Text

abbrev pub chunk_end : Text
chunk_end = 13 ∷ 10 ∷ []

abbrev pub print_chunk : Chunk → Text
print_chunk c = print_chunk_line c.line ++ (c.carried ++ chunk_end)

abbrev pub print_chunks : List Chunk → Text
print_chunks cs = flat_map print_chunk cs

-- the bytes that the chunks carry
abbrev pub data_of : List Chunk → Text
data_of cs = flat_map (λ c. c.carried) cs

pub record IsChunk (c : Chunk) : Type 0 where
  pub line : IsChunkLine c.line
  pub short : length (print_chunk_line c.line) ≤ longest_chunk_line
  pub some : 0 < length c.carried
  pub sized : chunk_size c.line ≡ length c.carried

-- the line that ends the chunks
pub record IsLast (l : ChunkLine) : Type 0 where
  pub line : IsChunkLine l
  pub short : length (print_chunk_line l) ≤ longest_chunk_line
  pub zero : chunk_size l ≡ 0

-- ---- where a chunk cannot be read, behind chunks of so many bytes

-- a chunk's line that the limit allows, and then rest
pub record BeginsWithSize (settings : Settings) (total : ℕ) (b : Text) (l : ChunkLine) (rest : Text)
    : Type 0 where
  pub begins : BeginsWithLine b l rest
  pub some : 0 < chunk_size l
  pub within : total + chunk_size l ≤ most_body settings

abbrev pub ChunkIsCut : Settings → ℕ → Text → Type 0
ChunkIsCut settings total b =
    LineIsCut b
    ⊎ ((l : ChunkLine) × (rest : Text) × BeginsWithSize settings total b l rest
    × DataIsCut (chunk_size l) rest)

-- the line comes first, then the limit, then the line end behind the data
abbrev pub ChunkIsRefused : Settings → ℕ → Text → FramingRefusal → Type 0
ChunkIsRefused settings total b r =
    LineIsRefused b r
    ⊎ (((l : ChunkLine) × (rest : Text) × BeginsWithLine b l rest
    × (most_body settings < total + chunk_size l) × (r ≡ ChunksTooLarge))
    ⊎ ((l : ChunkLine) × (rest : Text) × BeginsWithSize settings total b l rest
    × DataIsRefused (chunk_size l) rest r))

-- chunks, within the limit, and then a rest of which P holds
pub record BehindChunks (settings : Settings) (P : ℕ → Text → Type 0) (b : Text) : Type 0 where
  pub chunks : List Chunk
  pub rest : Text
  pub whole : b ≡ print_chunks chunks ++ rest
  pub each : All IsChunk chunks
  pub within : length (data_of chunks) ≤ most_body settings
  pub here : P (length (data_of chunks)) rest

-- the input ends inside a chunk behind others
abbrev pub SomeChunkIsCut : Settings → Text → Type 0
SomeChunkIsCut settings b = BehindChunks settings (ChunkIsCut settings) b

-- the first chunk that cannot be read
abbrev pub SomeChunkIsRefused : Settings → Text → FramingRefusal → Type 0
SomeChunkIsRefused settings b r = BehindChunks settings (λ total rest. ChunkIsRefused settings total rest r) b

-- ---- the trailer

-- b begins with a trailer that is not too long
pub record BeginsWithTrailer (b : Text) (fields : List Field) (last : LineEnd) (rest : Text) : Type 0 where
  pub reads : ReadsSection b fields last rest
  pub short : length (print_section fields last) ≤ longest_head

-- as many bytes as a trailer may have hold none, or never will, or one of too many fields
abbrev pub HoldsNoTrailer : Text → Type 0
HoldsNoTrailer b =
    (((longest_head ≤ length b) × HasNoSection (take longest_head b)) ⊎ NeverHasSection (take longest_head b))
    ⊎ ((fields : List Field) × (last : LineEnd) × (rest : Text) × BeginsWithTrailer b fields last rest
    × (most_fields < length fields))

-- no whole trailer stands there, and more bytes can make it one
abbrev pub TrailerIsCut : Text → Type 0
TrailerIsCut b = (length b < longest_head) × HasNoSection b × MayBecomeSection b

abbrev pub TrailerIsRefused : Text → FramingRefusal → Type 0
TrailerIsRefused b r = (r ≡ UnreadableChunk) × HoldsNoTrailer b

-- ---- a body in chunks

pub record ChunkedBody : Type 0 where
  pub chunks : List Chunk
  pub zero : ChunkLine
  pub fields : List Field
  pub last : LineEnd

-- the chunks and the line that ends them
abbrev pub print_data : ChunkedBody → Text
print_data b = print_chunks b.chunks ++ print_chunk_line b.zero

abbrev pub print_body : ChunkedBody → Text
print_body b = print_data b ++ print_section b.fields b.last

pub record IsChunkedBody (settings : Settings) (b : ChunkedBody) : Type 0 where
  pub each : All IsChunk b.chunks
  pub within : length (data_of b.chunks) ≤ most_body settings
  pub zero : IsLast b.zero
  pub fields : All IsField b.fields
  pub few : length b.fields ≤ most_fields
  pub short : length (print_section b.fields b.last) ≤ longest_head

-- chunks, within the limit, the line that ends them, and a rest of which P holds
pub record BehindLast (settings : Settings) (P : Text → Type 0) (b : Text) : Type 0 where
  pub chunks : List Chunk
  pub zero : ChunkLine
  pub rest : Text
  pub whole : b ≡ (print_chunks chunks ++ print_chunk_line zero) ++ rest
  pub each : All IsChunk chunks
  pub within : length (data_of chunks) ≤ most_body settings
  pub is_last : IsLast zero
  pub here : P rest

-- the input ends inside a body that is not refused
abbrev pub ChunksAreCut : Settings → Text → Type 0
ChunksAreCut settings b = SomeChunkIsCut settings b ⊎ BehindLast settings TrailerIsCut b

-- the first chunk that cannot be read, or the trailer
abbrev pub ChunksAreRefused : Settings → Text → FramingRefusal → Type 0
ChunksAreRefused settings b r =
    SomeChunkIsRefused settings b r ⊎ BehindLast settings (λ rest. TrailerIsRefused rest r) b
