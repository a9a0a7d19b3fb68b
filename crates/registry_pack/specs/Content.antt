-- Contents, read and compared in pieces.
use Rattle.std.specs.Prelude.{◌≡◌, ◌+◌, ◌≤◌, ◌<◌, ℕ, List, length, drop, take, slice_range}
use Rattle.registry_pack.specs.declared.extent.Extent.{Extent}
use Rattle.registry_pack.specs.declared.content.Compared.{Compared}
use Rattle.registry_pack.specs.declared.content.Compared.TheVariants.{Same, Different}
use Rattle.registry_pack.specs.Extents.{AreWithin, bytes_at, bytes_of, ends_at, size_of, total_of}

-- the extent has bytes of the content from here on
pub record IsRunFrom (es : List Extent) (from : ℕ) (e : Extent) : Type 0 where
  pub some : 0 < size_of e
  pub within : from + size_of e ≤ total_of es
  pub bytes : (file : List ℕ) → AreWithin file es
      → (ends_at e ≤ length file) × (bytes_of file e ≡ slice_range (bytes_at file es) from (from + size_of e))

-- the first n bytes of a buffer are the content's from here on; at the content's end there are none
pub record ReadsPiece (clean : Type 0) (file : List ℕ) (es : List Extent) (from : ℕ)
    (old new : List ℕ) (n : ℕ) : Type 0 where
  pub fits : n ≤ length old
  pub length : length new ≡ length old
  pub some : from < total_of es → 0 < n
  pub within : from < total_of es → from + n ≤ total_of es
  pub none : total_of es ≤ from → n ≡ 0
  pub bytes : clean → AreWithin file es → take n new ≡ slice_range (bytes_at file es) from (from + n)
  pub rest : drop n new ≡ drop n old

-- of two contents n bytes more are the same; none are left of both where n is 0
pub record AreSameFrom (clean : Type 0) (file : List ℕ) (ones others : List Extent)
    (from n : ℕ) : Type 0 where
  pub some : from < total_of ones → 0 < n
  pub other_some : from < total_of others → 0 < n
  pub within : 0 < n → from + n ≤ total_of ones
  pub other_within : 0 < n → from + n ≤ total_of others
  pub bytes : clean → AreWithin file ones → AreWithin file others
      → take from (bytes_at file ones) ≡ take from (bytes_at file others)
      → take (from + n) (bytes_at file ones) ≡ take (from + n) (bytes_at file others)

-- what a comparison of two contents from here on found
abbrev pub IsCompared : Type 0 → List ℕ → List Extent → List Extent → ℕ → Compared → Type 0
IsCompared clean file ones others from (Same n) = AreSameFrom clean file ones others from n
IsCompared clean file ones others from Different =
    clean → AreWithin file ones → AreWithin file others → bytes_at file ones ≡ bytes_at file others → ⊥
