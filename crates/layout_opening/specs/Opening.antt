-- What a database is that a registry of either layout is opened on, and what is opened on it.
use Rattle.std.specs.Prelude.{◌≡◌, ◌⊎◌, ⊤, ℕ, List, Bool, true, false}
use Rattle.sqlite.specs.Effect.{Database, IsDatabase}
use Rattle.sqlite_disk.specs.declared.Disk as disk
use Rattle.sqlite_wal.specs.Recovery.{Image}
use Rattle.either.specs.declared.Either.{Either}
use Rattle.either.specs.Either.{either}
use Rattle.registry_model.specs.World.{no_world}
use Rattle.registry_pack.specs.Pack.{file_of}
use Rattle.store_contents.specs.Layouts.{Layout, InTables, InPack}
use Rattle.store_bytes.specs.declared.table_contents.TableContents.{TableContents}
use Rattle.store_pack.specs.declared.pack_contents.PackContents.{PackContents}
use Rattle.store_schema.specs.Schema.{no_schema}
use Rattle.store_schema.specs.Making.{IsEmptyWith}
use Rattle.store_statements.specs.World.{world_of}
use Rattle.store_statements.specs.Held.{tables_in}
use Rattle.store_opening.specs.Opening.{HoldsRegistry}
use Rattle.pack_opening.specs.Making.{IsPackRegistry}
use Rattle.registry_store.specs.Opening.{MayFind}

-- the layout of a registry that was opened, with the bytes that its pack has then
abbrev pub layout_in : {D : Type 0} {g : disk.Ghosts D} → Either TableContents (PackContents D g) → Layout
layout_in {g = g} = either (λ _. InTables) (λ c. InPack (g.seen (file_of c.pack)))

-- its contents are in a pack
abbrev pub IsInPack : Layout → Type 0
IsInPack InTables = ⊥
IsInPack (InPack file) = ⊤

-- they are where it was asked that those of a new registry be
abbrev pub IsOfChoice : Bool → Layout → Type 0
IsOfChoice true l = IsInPack l
IsOfChoice false l = l ≡ InTables

-- no table at all, or a registry, whose contents are in its tables or in a pack that has these bytes
abbrev pub IsOursBeside : List ℕ → Database → Type 0
IsOursBeside file db = IsEmptyWith no_schema db ⊎ (HoldsRegistry db ⊎ IsPackRegistry file db)

-- whatever database an open finds in the files, it is so
abbrev pub WereOursBeside : Image → List ℕ → Type 0
WereOursBeside image file =
    (db : Database) → IsDatabase db → MayFind image db.trees → IsOursBeside file db

-- A database that was found, and what it is opened as: a new registry, of the layout that was asked for, or
-- the one that was there, of its own, with nothing changed.
pub record IsOpenedAs (file : List ℕ) (beside : Bool) (db : Database) (l : Layout) (now : Database)
    : Type 0 where
  pub made : IsEmptyWith no_schema db → IsOfChoice beside l × (world_of (tables_in l now) ≡ no_world)
  pub tables : HoldsRegistry db → (l ≡ InTables) × (now ≡ db)
  pub pack : IsPackRegistry file db → (l ≡ InPack file) × (now ≡ db)

-- the tables of a store that was opened on the files, and where its contents are
abbrev pub OpensIn : Image → List ℕ → Bool → Layout → Database → Type 0
OpensIn image file beside l now =
    (db : Database) × IsDatabase db × MayFind image db.trees × IsOpenedAs file beside db l now
