-- Tokens that are not on the command line, but in a file or on standard input (profile).
use Rattle.std.specs.Prelude.{◌≡◌, ℕ, ◌≤◌, ◌⊎◌, false, Option, None, Some, List, [], ◌∷◌, ◌++◌, length, codes}
use Rattle.std.specs.Io.KnownBytes.{Consumes, IsAtEnd}
use Rattle.clap.specs.Words.{Row, first_of}
use Rattle.oci_types.specs.Text.{Text}
use Rattle.registry_orders.specs.Causes.{has_line_end}
use Rattle.registry_orders.specs.declared.tokens.TokenSource.{TokenSource}
use Rattle.registry_orders.specs.declared.tokens.TokenSource.TheVariants.{Input, File}
use Rattle.registry_orders.specs.Outputs.{newline}

-- the options say that the token is read from there
abbrev pub IsTokenFrom : List Row → TokenSource → Type 0
IsTokenFrom options Input =
    (first_of (codes "token") options ≡ Some (codes "-")) × (first_of (codes "token-file") options ≡ None)
IsTokenFrom options (File path) =
    (first_of (codes "token") options ≡ None) × (first_of (codes "token-file") options ≡ Some path.now)

-- one byte was read, or there was none
abbrev pub IsNextByte : Option Text → Option Text → Option ℕ → Type 0
IsNextByte old new None = Consumes old new [] × IsAtEnd new
IsNextByte old new (Some byte) = Consumes old new (byte ∷ [])

-- the text and the end of its line were read, and nothing else; or the text alone, and nothing is left
abbrev pub IsFirstLine : Option Text → Option Text → Text → Type 0
IsFirstLine old new text = Consumes old new (text ++ newline) ⊎ (Consumes old new text × IsAtEnd new)

-- no more was read than the bytes of the longest token and a line's end, and nothing behind a line's end
pub record ReadsWithinLine (old new : Option Text) : Type 0 where
  pub line : Text
  pub end : Text
  pub is_end : (end ≡ []) ⊎ (end ≡ newline)
  pub is_line : has_line_end line ≡ false
  pub short : length (line ++ end) ≤ 201
  pub read : Consumes old new (line ++ end)
