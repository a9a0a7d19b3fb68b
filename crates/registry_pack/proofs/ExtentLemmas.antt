-- Several extents, one behind the other.
use Rattle.std.proofs.Common.{◌≡◌, ℕ, ◌+◌, List, [], ◌∷◌, ◌++◌, refl}
use Rattle.registry_pack.specs.declared.extent.Extent.{Extent}
use Rattle.registry_pack.specs.Extents.{bytes_at, bytes_of, total_of}

pub total_of-none : total_of [] ≡ 0
total_of-none = refl

pub total_of-more : (e : Extent) (es : List Extent) → total_of (e ∷ es) ≡ e.size + total_of es
total_of-more e es = refl

pub bytes_at-none : (file : List ℕ) → bytes_at file [] ≡ []
bytes_at-none file = refl

pub bytes_at-more : (file : List ℕ) (e : Extent) (es : List Extent) → bytes_at file (e ∷ es) ≡ bytes_of file e ++ bytes_at file es
bytes_at-more file e es = refl
