-- The lines of what is wrong (profile).
use Rattle.std.specs.Prelude.{List, ◌∷◌, ◌++◌, [], codes}
use Rattle.std.specs.List.{flat_map}
use Rattle.oci_types.specs.Text.{Text}
use Rattle.registry_checking.specs.declared.wrong.Wrong.{Wrong}
use Rattle.registry_checking.specs.declared.wrong.Wrong.TheVariants.{Content, Tag}
use Rattle.registry_checking.specs.declared.wrong.Flaw.{Flaw}
use Rattle.registry_checking.specs.declared.wrong.Flaw.TheVariants.{OtherBytes, OtherSize, NoManifest, Unreadable}

abbrev pub words_of : Flaw → Text
words_of OtherBytes = codes "not the bytes of this digest"
words_of OtherSize = codes "not as many bytes as it is told to have"
words_of NoManifest = codes "no manifest"
words_of Unreadable = codes "cannot be read"

-- a repository, a digest or a tag, and what is said of it
abbrev pub line : Text → Text → Text → Text
line repo what words = repo ++ 32 ∷ what ++ codes ": " ++ words

-- the repository, a digest or a tag, and what is wrong with it; the line's end is not of it
abbrev pub line_of : Wrong → Text
line_of (Content repo digest flaw) = line repo digest (words_of flaw)
line_of (Tag repo tag) = line repo tag (codes "a tag of no manifest")

abbrev pub newline : Text
newline = 10 ∷ []

-- a line for each
abbrev pub lines_of : List Wrong → Text
lines_of wrongs = flat_map (λ wrong. line_of wrong ++ newline) wrongs
