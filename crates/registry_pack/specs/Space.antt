-- What is free in a space.
use Rattle.std.specs.Prelude.{ℕ, List}
use Rattle.registry_pack.specs.declared.extent.Extent.{Extent}
use Rattle.registry_pack.specs.declared.space.Space.{Space}
use Rattle.registry_pack.specs.Holes.{IsFree}

-- the holes, from the first on
abbrev pub holes_in : Space → List Extent
holes_in space = space.holes.items

-- the byte at this offset is free
abbrev pub IsFreeIn : Space → ℕ → Type 0
IsFreeIn space p = IsFree (holes_in space) p
