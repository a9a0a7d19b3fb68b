-- What a change makes of the rows that say where contents stand in a pack, and of the contents themselves. In
-- a registry whose bytes are in its tables there are no such rows.
use Rattle.std.specs.Prelude.{◌≡◌, ◌≢◌, ◌++◌, ℕ, ℤ, Bool, true, false, List, Some}
use Rattle.std.specs.List.Sorted.{IsPermutation}
use Rattle.oci_types.specs.Text.{Text}
use Rattle.store_contents.specs.Places.{runs_of}
use Rattle.store_places.specs.declared.source.Source.{Source}
use Rattle.store_places.specs.Source.{runs_in}
use Rattle.store_statements.specs.Tables.{Tables}

-- places of these bytes of the pack come, and no others
pub record AddsRuns (came : List (ℕ × ℕ)) (t u : Tables) : Type 0 where
  pub runs : IsPermutation (runs_of u.places) (came ++ runs_of t.places)
  pub packs : u.packs ≡ t.packs

-- the places of a source come, and no others
abbrev pub AddsPlaces : Source → Tables → Tables → Type 0
AddsPlaces source t u = AddsRuns (runs_in source) t u

-- no place comes or goes
pub record KeepsPlaces (t u : Tables) : Type 0 where
  pub places : u.places ≡ t.places
  pub packs : u.packs ≡ t.packs

-- those of a source come where it came
abbrev pub PutsPlaces : Source → Bool → Tables → Tables → Type 0
PutsPlaces source true t u = AddsPlaces source t u
PutsPlaces source false t u = KeepsPlaces t u

-- the bytes have an id, as they had or got it; every other content is as it was
pub record AddsContent (bytes : Text) (t u : Tables) : Type 0 where
  pub id : ℤ
  pub there : u.contents id ≡ Some bytes
  pub rest : (i : ℤ) → i ≢ id → u.contents i ≡ t.contents i

-- the bytes have one where they came
abbrev pub PutsContent : Text → Bool → Tables → Tables → Type 0
PutsContent bytes true t u = AddsContent bytes t u
PutsContent bytes false t u = u.contents ≡ t.contents
