-- Which contents the tables name, and what clearing leaves of them.
use Rattle.std.specs.Prelude.{◌≡◌, ◌||◌, ◌&&◌, ℕ, ℤ, Bool, List, None, filter, not, if◌then◌else◌}
use Rattle.std.specs.List.{list_any}
use Rattle.std.specs.Ordering.{int_eq}
use Rattle.sqlite.specs.Order.{Row}
use Rattle.sqlite.specs.State.{State}
use Rattle.store_schema.specs.Rows.{integer_at}
use Rattle.store_contents.specs.declared.content_id.ContentId.{ContentId}
use Rattle.store_contents.specs.Layouts.{Layout}
use Rattle.store_contents.specs.Linked.{rows_in}
use Rattle.store_statements.specs.Held.{held}
use Rattle.store_statements.specs.Tables.{Tables}

abbrev pub is_among : List ContentId → ℤ → Bool
is_among ids id = list_any (λ (other : ContentId). int_eq id other.id) ids

-- a row has the id in the column
abbrev pub is_in_column : ℕ → List Row → ℤ → Bool
is_in_column at rows id = list_any (λ r. int_eq id (integer_at r at)) rows

-- a blob's link, a manifest's link or a piece of an upload session names the content
abbrev pub is_named : Tables → ℤ → Bool
is_named t id = is_in_column 4 t.blobs id || (is_in_column 6 t.manifests id || is_in_column 5 t.pieces id)

-- these are the ids of the contents that nothing names
abbrev pub AreUnnamed : Layout → State → List ContentId → Type 0
AreUnnamed l s ids =
    (id : ℤ) → is_among ids id ≡ (not (is_named (held l s) id) && is_in_column 0 (rows_in l s.now) id)

-- the contents of these ids are gone; every other content stays, as does every other table
pub record ContentsGone (old new : Tables) (ids : List ContentId) : Type 0 where
  pub contents : (id : ℤ) → new.contents id ≡ (if is_among ids id then None else old.contents id)
  pub others : new ≡ record old { contents = new.contents; places = new.places }

-- exactly the contents that something names stay, with every other table
pub record Cleared (old new : Tables) : Type 0 where
  pub contents : (id : ℤ) → new.contents id ≡ (if is_named old id then old.contents id else None)
  pub others : new ≡ record old { contents = new.contents; places = new.places }

-- ---- in a pack

-- with their places
pub record PlacedGone (old new : Tables) (ids : List ContentId) : Type 0 where
  pub gone : ContentsGone old new ids
  pub places : new.places ≡ filter (λ r. not (is_among ids (integer_at r 1))) old.places

-- exactly the places of contents that something names stay, in their order
pub record FreesPlaces (old new : Tables) : Type 0 where
  pub places : new.places ≡ filter (λ r. is_named old (integer_at r 1)) old.places
  pub packs : new.packs ≡ old.packs
