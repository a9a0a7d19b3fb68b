-- A source that has no bytes has no places, and one that has some is put.
use Rattle.std.proofs.Common.{◌≡◌, ℕ, List, [], ◌∷◌, refl, sym, subst, arith}
use Rattle.std.specs.Prelude.{◌<◌, nat_lt}
use Rattle.std.specs.List.{AllByRecursion}
use Rattle.std.proofs.lemmas.Bool.{lt-ltb}
use Rattle.oci_types.specs.Text.{Text}
use Rattle.registry_pack.specs.declared.extent.Extent.{Extent}
use Rattle.registry_pack.specs.Extents.{size_of, total_of}
use Rattle.store_places.specs.declared.source.Source.{Source}
use Rattle.store_places.specs.declared.source.Source.TheVariants.{Bytes, Extents}
use Rattle.store_places.specs.Places.{runs_at}
use Rattle.store_places.specs.Source.{Fits, size_in}
use Rattle.store_statements.specs.Tables.{Tables}
use Rattle.store_statements.specs.PlaceChanges.{AddsContent, AddsPlaces, AddsRuns, PutsContent}
use Rattle.store_statements.proofs.PlacesKept.{no_runs}

no_extents : (extents : List Extent) → AllByRecursion (λ e. 0 < size_of e) extents → total_of extents ≡ 0 → extents ≡ []
no_extents [] some none = refl
no_extents (e ∷ es) some none = absurd (omega (arith, some.0, none))

pub no_places : (source : Source) → Fits source → size_in source ≡ 0 → (t : Tables) → AddsPlaces source t t
no_places (Bytes bytes) fits none t = no_runs t t refl refl
no_places (Extents extents hash) fits none t = subst (λ es. AddsRuns (runs_at es) t t) (sym (no_extents extents.now fits.1 none)) (no_runs t t refl refl)

pub puts_none : (bytes : Text) (size : ℕ) (t : Tables) → size ≡ 0 → PutsContent bytes (nat_lt 0 size) t t
puts_none bytes size t none = subst (λ n. PutsContent bytes (nat_lt 0 n) t t) (sym none) refl

pub puts_some : (bytes : Text) (size : ℕ) (t u : Tables) → (size ≡ 0 → ⊥) → AddsContent bytes t u → PutsContent bytes (nat_lt 0 size) t u
puts_some bytes size t u some adds = subst (λ came. PutsContent bytes came t u) (sym (lt-ltb 0 size (omega (arith, some)))) adds
