-- New tables, of schema 2, stand for the empty world.
use Rattle.std.proofs.Common.{List}
use Rattle.sqlite.specs.Order.{Row}
use Rattle.store_statements.specs.Tables.{Beside, AreTables, IsEmptyBeside, new_tables}
use Rattle.store_statements.specs.Registry.{Agree, IsOfSchemaTwo}

pub are_new : (version : List Row) (beside : Beside) → AreTables (new_tables version beside)
are_new version beside = record {
  repos = record { types = tt; apart = tt; ids = (tt, tt) };
  grants = record { types = tt; apart = tt; ids = (tt, tt) };
  tags = record { types = tt; apart = tt; ids = (tt, tt) };
  blobs = record { types = tt; apart = tt; ids = (tt, tt) };
  manifests = record { types = tt; apart = tt; ids = (tt, tt) };
  uploads = record { types = tt; apart = tt; ids = (tt, tt) };
  pieces = record { types = tt; apart = tt; ids = (tt, tt) };
}

pub agree_new : (version : List Row) (beside : Beside) → IsOfSchemaTwo version → IsEmptyBeside beside → Agree (new_tables version beside)
agree_new version beside two none = record { version = two; granted = tt; tagged = tt; blobs_repo = tt; manifests_repo = tt; uploads_repo = tt; blobs = tt; manifests = tt; uploads = tt; pieces = tt; pieces_open = tt; beside = none }
