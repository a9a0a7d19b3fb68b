-- An upload session that ends with the bytes that it has, where a keeper knows without reading them what
-- their digest is.
use Rattle.std.specs.Prelude.{◌≡◌, ℕ, Bool, true, false, Result, Ok, Err, ⊤}
use Rattle.std.specs.Option.{option_map_or}
use Rattle.oci_types.specs.Text.{Text}
use Rattle.oci_types.specs.Digest.{matches}
use Rattle.oci_types.specs.declared.fault.Fault.{Fault}
use Rattle.oci_types.specs.declared.fault.Fault.TheVariants.{Memory, Storage}
use Rattle.registry_model.specs.World.{World}
use Rattle.registry_model.specs.Lookups.{session_at, bytes_or_none, finish}
use Rattle.registry_model.specs.Keeping.{Kept, goes_on}

-- the session is open, and its bytes match the digest
abbrev pub session_matches : World → Text → ℕ → Text → Bool
session_matches w name number digest =
    option_map_or (λ bytes. matches digest bytes) (session_at w name number) false

-- the session ends, and the bytes that it has are a blob
abbrev pub finish_as_is : World → Text → ℕ → Text → World
finish_as_is w name number digest =
    finish w name number digest (bytes_or_none (session_at w name number))

-- a write that is made only where this is so, to the world w; an answer that it was not made says nothing of
-- whether it is so, and nothing changes then
abbrev pub WritesWhereSo : Result Bool Fault → Bool → World → Kept → Kept → Type 0
WritesWhereSo (Ok true) so w k k' = (so ≡ true) × (k' ≡ goes_on k w)
WritesWhereSo (Ok false) so w k k' = k' ≡ k
WritesWhereSo (Err Memory) so w k k' = k' ≡ k
WritesWhereSo (Err Storage) so w k k' = ⊤
