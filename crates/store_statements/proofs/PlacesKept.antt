-- Which rows of places come, and which stay, from tables to tables.
use Rattle.std.proofs.Common.{◌≡◌, ◌∙◌, ℕ, List, [], ◌++◌, sym, ap, subst}
use Rattle.std.specs.List.Sorted.{IsPermutation}
use Rattle.std.proofs.lemmas.List.Sorted.{IsPermutation-refl}
use Rattle.store_contents.specs.Places.{runs_of}
use Rattle.store_statements.specs.PlaceChanges.{AddsRuns, KeepsPlaces}
use Rattle.store_statements.specs.Tables.{Tables}

-- places come, and then they stay
pub runs_then : (runs : List (ℕ × ℕ)) (t m u : Tables) → AddsRuns runs t m → u.places ≡ m.places → u.packs ≡ m.packs → AddsRuns runs t u
runs_then runs t m u adds places packs = record {
  runs = subst (λ rows. IsPermutation (runs_of rows) (runs ++ runs_of t.places)) (sym places) adds.runs;
  packs = packs ∙ adds.packs;
}

-- none come
pub no_runs : (t u : Tables) → u.places ≡ t.places → u.packs ≡ t.packs → AddsRuns [] t u
no_runs t u places packs = record {
  runs = subst (λ rows. IsPermutation (runs_of rows) (runs_of t.places)) (sym places) (IsPermutation-refl (runs_of t.places));
  packs = packs;
}

-- the tables are these, which have the places of those
pub places_as : (t s u : Tables) → u ≡ s → s.places ≡ t.places → s.packs ≡ t.packs → KeepsPlaces t u
places_as t s u same places packs = record { places = ap (λ (x : Tables). x.places) same ∙ places; packs = ap (λ (x : Tables). x.packs) same ∙ packs }
