-- A content that is read from the pack a piece at a time.
use Rattle.std.specs.Prelude.{◌≡◌, ◌+◌, ◌≤◌, ◌<◌, ℕ, List, length, take}
use Rattle.registry_pack.specs.declared.extent.Extent.{Extent}
use Rattle.registry_pack.specs.Extents.{AreWithin, bytes_at, total_of}

-- the bytes are the first of those at the extents
pub record IsFront (clean : Type 0) (file : List ℕ) (es : List Extent) (bytes : List ℕ) : Type 0 where
  pub within : length bytes ≤ total_of es
  pub first : clean → AreWithin file es → bytes ≡ take (length bytes) (bytes_at file es)

-- n bytes more of them came behind those that were there; none came where these are all
pub record HasMoreOf (clean : Type 0) (file : List ℕ) (es : List Extent) (old new : List ℕ)
    (n : ℕ) : Type 0 where
  pub front : IsFront clean file es old → IsFront clean file es new
  pub size : length new ≡ length old + n
  pub some : length old < total_of es → 0 < n
