-- What is written to standard output and to standard error, and what ends a line of it (profile).
use Rattle.std.specs.Prelude.{◌≡◌, List, [], ◌∷◌, ◌++◌, Option}
use Rattle.std.specs.Borrow.{Bor}
use Rattle.std.specs.List.{flat_map}
use Rattle.std.specs.Io.KnownBytes.{Appends}
use Rattle.oci_types.specs.Text.{Text}

abbrev pub newline : Text
newline = 10 ∷ []

-- what standard output held before and after, where it is known
pub record Output : Type 0 where
  pub held : Option Text
  pub held' : Option Text

abbrev pub output : Option Text → Option Text → Output
output held held' = record { held = held; held' = held' }

abbrev pub IsSilent : Output → Type 0
IsSilent o = o.held' ≡ o.held

-- a first part of the text was written: all of it, some or nothing
pub record AppendsPart (old new : Option Text) (text : Text) : Type 0 where
  pub part : Text
  pub rest : Text
  pub is : text ≡ part ++ rest
  pub appended : Appends old new part

-- texts, one behind the other
abbrev pub text_of_all : List (Bor Text) → Text
text_of_all texts = flat_map (λ t. t.now) texts
