-- What the unread bytes begin with: the line of a chunk, a trailer.
use Rattle.std.specs.Prelude.{◌≡◌, ℕ, ◌≤◌, List, ◌++◌, length, drop}
use Rattle.httparse.specs.Grammar.{ChunkLine, print_chunk_line, chunk_size, Field, LineEnd, print_section}
use Rattle.oci_types.specs.Text.{Text}
use Rattle.registry_http.specs.Limits.{most_fields}
use Rattle.registry_http.specs.Chunks.{BeginsWithLine, LineIsCut, HoldsNoLine, BeginsWithTrailer, TrailerIsCut, HoldsNoTrailer}
use Rattle.registry_http.specs.declared.chunk.Line.{Line}
use Rattle.registry_http.specs.declared.chunk.FoundLine.{FoundLine}
use Rattle.registry_http.specs.declared.chunk.FoundLine.TheVariants as line
use Rattle.registry_http.specs.declared.trailer.FoundTrailer.{FoundTrailer}
use Rattle.registry_http.specs.declared.trailer.FoundTrailer.TheVariants as trailer

-- ---- lines

-- the bytes begin with a line
pub record LineIsRead (b : Text) (line : Line) : Type 0 where
  pub text : ChunkLine
  pub begins : BeginsWithLine b text (drop line.len b)
  pub len : line.len ≡ length (print_chunk_line text)
  pub size : line.size ≡ chunk_size text

abbrev pub FindsLine : FoundLine → Text → Type 0
FindsLine (line.Whole found) b = LineIsRead b found
FindsLine line.NotYet b = LineIsCut b
FindsLine line.Never b = (tail : Text) → HoldsNoLine (b ++ tail)

-- ---- the trailer

pub record TrailerIsRead (b : Text) (len : ℕ) : Type 0 where
  pub fields : List Field
  pub last : LineEnd
  pub begins : BeginsWithTrailer b fields last (drop len b)
  pub few : length fields ≤ most_fields
  pub len_is : len ≡ length (print_section fields last)

abbrev pub FindsTrailer : FoundTrailer → Text → Type 0
FindsTrailer (trailer.Whole len) b = TrailerIsRead b len
FindsTrailer trailer.NotYet b = TrailerIsCut b
FindsTrailer trailer.Never b = (tail : Text) → HoldsNoTrailer (b ++ tail)
