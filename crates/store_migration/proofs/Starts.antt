-- Where moving begins: no row is in the tables that only schema 2 has.
use Rattle.std.proofs.Common.{◌≡◌, List, [], ◌∷◌, map, Bool, refl}
use Rattle.std.specs.FinMap.{from_entries}
use Rattle.std.proofs.lemmas.List.{append-nil}
use Rattle.sqlite.specs.Order.{Row}
use Rattle.store_schema.specs.Rows.{bytes_at, natural_at}
use Rattle.store_statements.specs.Keys.{same_key, same_session}
use Rattle.store_statements.specs.Tables.{Tables}
use Rattle.store_statements.specs.World.{tags_of, grants_of}
use Rattle.store_migration.specs.OldTables.{OldTables, IsOldRegistry}
use Rattle.store_migration.specs.OldWorld.{old_blobs, old_manifests, old_sessions, old_repo_in, old_world}
use Rattle.store_migration.specs.Both.{both_repo_in, world_of_both, AreBoth, AreUnmoved, IsRegistryOnceTwo, emptied}

alone : (old : OldTables) (t : Tables) (r : Row) → both_repo_in old (emptied t) r ≡ old_repo_in old t r
alone old t r = λ i. record {
  blobs = from_entries (append-nil (old_blobs old (bytes_at r 1)) i);
  manifests = from_entries (append-nil (old_manifests old (bytes_at r 1)) i);
  tags = tags_of t.tags (bytes_at r 1);
  sessions = from_entries (append-nil (old_sessions old (bytes_at r 1)) i);
  last = natural_at r 3;
  quota = natural_at r 2;
}

pub world_begins : (old : OldTables) (t : Tables) → world_of_both old (emptied t) ≡ old_world old t
world_begins old t = λ i. record { repos = from_entries (map (λ r. (bytes_at r 1, alone old t r i)) t.repos); grants = grants_of t.grants }

-- ---- what is kept true

none_moved : (same : Row → Row → Bool) (rows : List Row) → AreUnmoved same rows []
none_moved same [] = tt
none_moved same (r ∷ rs) = (refl, none_moved same rs)

ready : (old : OldTables) (t : Tables) → IsOldRegistry old t → IsRegistryOnceTwo (emptied t)
ready old t is = λ version beside two none. record {
  tables = record {
    repos = is.repos;
    grants = is.grants;
    tags = is.tags;
    blobs = record { types = tt; apart = tt; ids = (tt, tt) };
    manifests = record { types = tt; apart = tt; ids = (tt, tt) };
    uploads = record { types = tt; apart = tt; ids = (tt, tt) };
    pieces = record { types = tt; apart = tt; ids = (tt, tt) };
  };
  agree = record { version = two; granted = is.granted; tagged = is.tagged; blobs_repo = tt; manifests_repo = tt; uploads_repo = tt; blobs = tt; manifests = tt; uploads = tt; pieces = tt; pieces_open = tt; beside = none };
}

pub both_begin : (old : OldTables) (t : Tables) → IsOldRegistry old t → AreBoth old (emptied t)
both_begin old t is = record {
  version = is.version;
  olds = is.olds;
  news = ready old t is;
  blobs = none_moved same_key old.blobs;
  manifests = none_moved same_key old.manifests;
  sessions = none_moved same_session old.sessions;
}
