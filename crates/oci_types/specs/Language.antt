-- Regular languages: a grammar as a value, and the texts that it has.
use Rattle.std.specs.Prelude.{◌≡◌, ℕ, Bool, true, List, [], ◌∷◌, ◌++◌, ◌⊎◌, All, ◌==◌}
use Rattle.oci_types.specs.Text.{Text}

pub data Language : Type 0 where
  -- one byte of a class
  one : (ℕ → Bool) → Language
  -- the empty text alone
  nothing : Language
  -- a text of the first and then one of the second
  both : Language → Language → Language
  -- a text of the first or of the second
  either : Language → Language → Language
  -- any number of texts, one after the other
  many : Language → Language

-- the texts, one after the other
abbrev pub joined : List Text → Text
joined [] = []
joined (t ∷ ts) = t ++ joined ts

-- the text is in the language
unfoldable pub IsIn : Language → Text → Type 0
IsIn (one p) t = (b : ℕ) × (p b ≡ true) × (t ≡ b ∷ [])
IsIn nothing t = t ≡ []
IsIn (both l m) t = (u : Text) × (v : Text) × (t ≡ u ++ v) × IsIn l u × IsIn m v
IsIn (either l m) t = IsIn l t ⊎ IsIn m t
IsIn (many l) t = (us : List Text) × (t ≡ joined us) × All (IsIn l) us

-- one or more
abbrev pub some : Language → Language
some l = both l (many l)

-- the byte itself
abbrev pub byte : ℕ → Language
byte c = one (λ b. b == c)
