-- The row of the pack, and what a statement makes of it.
use Rattle.std.specs.Prelude.{◌≡◌, ◌⊎◌, ◌+◌, ◌∷◌, [], ℕ, pos, List, Option, MatchOption}
use Rattle.sqlite.specs.declared.types.Value.TheVariants.{Int, Blob}
use Rattle.sqlite.specs.Order.{Row, column}
use Rattle.sqlite.specs.Effect.{Database}
use Rattle.sqlite_disk.specs.declared.Disk.{Ghosts}
use Rattle.registry_pack.specs.declared.pack.Pack.{Pack}
use Rattle.registry_pack.specs.Pack.{age_of, mark_of}
use Rattle.store_schema.specs.Layout.{KeepsOthers}
use Rattle.store_pack.specs.declared.pack_row.PackRow.{PackRow}
use Rattle.store_contents.specs.PlaceTables.{pack_table}
use Rattle.store_contents.specs.Places.{HoldsPlaces, content_rows, pack_rows, place_rows}

-- there is one row, and it has this mark and this age
pub record PackSays (db : Database) (mark : List ℕ) (age : ℕ) : Type 0 where
  pub row : Row
  pub only : pack_rows db ≡ row ∷ []
  pub has_mark : column row 1 ≡ Blob mark
  pub has_age : column row 2 ≡ Int (pos age)

-- so does a row that shows the two columns
pub record Shows (row : Row) (said : PackRow) : Type 0 where
  pub has_mark : column row 0 ≡ Blob said.mark
  pub has_age : column row 1 ≡ Int (pos said.age)

-- nothing where no row is shown, and else what the one row shows
abbrev pub ShowsOnly : List Row → Option PackRow → Type 0
ShowsOnly rows o = MatchOption o (rows ≡ []) (λ said. (row : Row) × (rows ≡ row ∷ []) × Shows row said)

-- the one row says this now, and all other tables are as they were
pub record PutsPack (old new : Database) (mark : List ℕ) (age : ℕ) : Type 0 where
  pub says : PackSays new mark age
  pub contents : content_rows new ≡ content_rows old
  pub places : place_rows new ≡ place_rows old
  pub others : KeepsOthers pack_table old new
  pub holds : HoldsPlaces new

-- nothing changed, or the one row says this now
abbrev pub MayPutPack : Database → Database → List ℕ → ℕ → Type 0
MayPutPack old new mark age = (new ≡ old) ⊎ PutsPack old new mark age

-- the rows say the age of the pack, or the next one, which they said already when memory was wanting
abbrev pub SaysAge : {D : Type 0} {g : Ghosts D} → Database → Pack D g → Type 0
SaysAge db pack = PackSays db (mark_of pack) (age_of pack) ⊎ PackSays db (mark_of pack) (age_of pack + 1)
