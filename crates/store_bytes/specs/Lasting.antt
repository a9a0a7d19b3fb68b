-- Tables have their contents whatever a crash leaves of anything else.
use Rattle.std.proofs.Common.{◌≡◌, refl, sym, subst}
use Rattle.sqlite.specs.Effect.{Database}
use Rattle.store_contents.specs.Layouts.{Layout, InTables}
use Rattle.store_bytes.specs.Keeping.{KeepsBytes}

pub keeps_itself : (db : Database) → KeepsBytes InTables InTables db
keeps_itself db = record { kind = tt; contents = λ id. refl; holds = λ h. h }

pub tables_last : (l : Layout) → l ≡ InTables → (db : Database) → KeepsBytes InTables l db
tables_last l same db = subst (λ (m : Layout). KeepsBytes InTables m db) (sym same) (keeps_itself db)
