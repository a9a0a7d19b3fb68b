-- Each content that was there is there behind a write that takes none out.
use Rattle.std.proofs.Common.{◌≡◌, ◌∙◌, ℕ, ℤ, List, ap, refl, subst}
use Rattle.std.specs.Prelude.{Option}
use Rattle.sqlite.specs.State.{State}
use Rattle.oci_types.specs.Text.{Text}
use Rattle.store_contents.specs.Layouts.{Layout}
use Rattle.store_statements.specs.Changes.{Grow}
use Rattle.store_statements.specs.PlaceChanges.{KeepsPlaces}
use Rattle.store_statements.specs.Steps.{Appended, BlobStored, Finished}
use Rattle.store_statements.specs.Tables.{Tables}
use Rattle.store_statements.specs.Held.{StaysSettled, held}
use Rattle.store_statements.proofs.PlacesKept.{places_as, runs_then}
use Rattle.store_statements.proofs.WritesAfterReads.{same_held}
use Rattle.store_writes.specs.Worlds.{AddsRows, KeepsRows}

-- the contents are the same
pub grow_same : (t u : Tables) → u.contents ≡ t.contents → Grow t.contents u.contents
grow_same t u same id bytes is = ap (λ (c : ℤ → Option Text). c id) same ∙ is

-- behind a look-up
module _ {l : Layout} (old mid : State) (stays : StaysSettled l old mid) where
  pub same_read : (held l mid).contents ≡ (held l old).contents
  same_read = ap (λ (t : Tables). t.contents) (same_held old mid stays)

  pub same_from : (new : State) → (held l new).contents ≡ (held l mid).contents → (held l new).contents ≡ (held l old).contents
  same_from new e = e ∙ same_read

  pub grow_from : (new : State) → Grow (held l mid).contents (held l new).contents → Grow (held l old).contents (held l new).contents
  grow_from new = subst (λ (t : Tables). Grow t.contents (held l new).contents) (same_held old mid stays)

  -- and this is so of the tables before it
  pub from_read : (R : Tables → Tables → Type 0) (new : State) → R (held l mid) (held l new) → R (held l old) (held l new)
  from_read R new = subst (λ (t : Tables). R t (held l new)) (same_held old mid stays)

  pub places_read : KeepsPlaces (held l old) (held l mid)
  places_read = places_as (held l old) (held l old) (held l mid) (same_held old mid stays) refl refl

-- ---- the rows of one content came

-- and then they stay
pub rows_then : (bytes : Text) (runs : List (ℕ × ℕ)) (t m u : Tables) → AddsRows bytes runs t m → KeepsRows m u → AddsRows bytes runs t u
rows_then bytes runs t m u adds keeps = (
  runs_then runs t m u adds.0 keeps.0.places keeps.0.packs,
  record {
    id = adds.1.id;
    there = ap (λ (c : ℤ → Option Text). c adds.1.id) keeps.1 ∙ adds.1.there;
    rest = λ i other. ap (λ (c : ℤ → Option Text). c i) keeps.1 ∙ adds.1.rest i other;
  },
)

-- with the link to a blob
pub blob_rows : (name digest bytes : Text) (runs : List (ℕ × ℕ)) (t u : Tables) → BlobStored t u name digest bytes runs → AddsRows bytes runs t u
blob_rows name digest bytes runs t u it = (it.placed, record { id = it.id; there = it.there; rest = it.rest })

-- with the piece of a session
pub piece_rows : (name : Text) (number size : ℕ) (bytes : Text) (runs : List (ℕ × ℕ)) (t u : Tables) → Appended t u name number size bytes runs → AddsRows bytes runs t u
piece_rows name number size bytes runs t u it = (record { runs = it.placed.runs; packs = it.placed.packs }, record { id = it.id; there = it.there; rest = it.rest })

-- with the blob of a session that ends
pub end_rows : (name : Text) (number : ℕ) (digest bytes : Text) (runs : List (ℕ × ℕ)) (t u : Tables) → Finished t u name number digest bytes runs → AddsRows bytes runs t u
end_rows name number digest bytes runs t u it = (record { runs = it.placed.runs; packs = it.placed.packs }, record { id = it.id; there = it.there; rest = it.rest })
