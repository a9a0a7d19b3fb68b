-- Contents that come or go leave the other tables as they hold.
use Rattle.std.proofs.Common.{◌≡◌, ℕ, ℤ, List, sym, subst}
use Rattle.std.specs.Prelude.{Option}
use Rattle.sqlite.specs.Effect.{Database}
use Rattle.store_contents.specs.Contents.{HoldsContents, bytes_in}
use Rattle.store_contents.specs.Layouts.{InTables}
use Rattle.store_statements.specs.Tables.{Tables, AreTables}
use Rattle.store_statements.specs.Known.{KnowsRegistry}
use Rattle.store_statements.specs.Held.{HoldsTables, tables_in}

are_beside : (t : Tables) (contents : ℤ → Option (List ℕ)) → AreTables t → AreTables (record t { contents = contents })
are_beside t contents a = record { repos = a.repos; grants = a.grants; tags = a.tags; blobs = a.blobs; manifests = a.manifests; uploads = a.uploads; pieces = a.pieces }

-- where one was added or taken, the tables hold still
pub holds_beside : (old new : Database) → HoldsTables InTables old → new.schema ≡ old.schema → tables_in InTables new ≡ record (tables_in InTables old) { contents = bytes_in new } → HoldsContents new → HoldsTables InTables new
holds_beside old new h schema same contents = record {
  known = subst (KnowsRegistry InTables) (sym schema) h.known;
  contents = contents;
  tables = subst AreTables (sym same) (are_beside (tables_in InTables old) (bytes_in new) h.tables);
}
