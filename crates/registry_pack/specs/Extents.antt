-- Runs of bytes of a file.
use Rattle.std.specs.Prelude.{◌⊎◌, ◌+◌, ◌≤◌, ◌<◌, ◌++◌, ℕ, List, [], ◌∷◌, length, slice_range}
use Rattle.std.specs.List.{AllByRecursion}
use Rattle.registry_pack.specs.declared.extent.Extent.{Extent}

abbrev pub starts_at : Extent → ℕ
starts_at e = e.at

abbrev pub size_of : Extent → ℕ
size_of e = e.size

-- the offset behind the last byte
abbrev pub ends_at : Extent → ℕ
ends_at e = e.at + e.size

-- the extent has the byte at this offset
abbrev pub Covers : Extent → ℕ → Type 0
Covers e p = (e.at ≤ p) × (p < e.at + e.size)

-- two ranges have no offset in common
abbrev pub AreApart : ℕ → ℕ → ℕ → ℕ → Type 0
AreApart a n b m = (a + n ≤ b) ⊎ (b + m ≤ a)

-- how many bytes several extents have together
abbrev pub total_of : List Extent → ℕ
total_of [] = 0
total_of (e ∷ es) = e.size + total_of es

-- the bytes of a file at an extent
abbrev pub bytes_of : List ℕ → Extent → List ℕ
bytes_of file e = slice_range file e.at (e.at + e.size)

-- the bytes of a content, which stand at its extents, one behind the other
abbrev pub bytes_at : List ℕ → List Extent → List ℕ
bytes_at file [] = []
bytes_at file (e ∷ es) = bytes_of file e ++ bytes_at file es

-- the file is as long as the extents say
abbrev pub AreWithin : List ℕ → List Extent → Type 0
AreWithin file es = AllByRecursion (λ e. e.at + e.size ≤ length file) es

-- none of the extents has an offset of this range
abbrev pub AreElsewhere : ℕ → ℕ → List Extent → Type 0
AreElsewhere at n es = AllByRecursion (λ e. AreApart at n e.at e.size) es
