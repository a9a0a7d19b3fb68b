-- A registry of which the rows of one table are replaced.
use Rattle.std.proofs.Common.{List}
use Rattle.std.specs.List.{AllByRecursion}
use Rattle.sqlite.specs.Order.{Row}
use Rattle.store_statements.specs.Keys.{same_key}
use Rattle.store_statements.specs.Tables.{Tables, AreRows, IsGrantRow, IsTagRow, IsBlobRow, IsManifestRow}
use Rattle.store_statements.specs.Registry.{IsRegistry, HaveRepo, HaveGranted, BlobAgrees, ManifestAgrees}

pub with_grants_rows : (t : Tables) (rows : List Row) → IsRegistry t → AreRows IsGrantRow same_key rows → HaveGranted t.repos rows → IsRegistry (record t { grants = rows })
with_grants_rows t rows is are granted = record {
  tables = record { repos = is.tables.repos; grants = are; tags = is.tables.tags; blobs = is.tables.blobs; manifests = is.tables.manifests; uploads = is.tables.uploads; pieces = is.tables.pieces };
  agree = record {
    version = is.agree.version;
    granted = granted;
    tagged = is.agree.tagged;
    blobs_repo = is.agree.blobs_repo;
    manifests_repo = is.agree.manifests_repo;
    uploads_repo = is.agree.uploads_repo;
    blobs = is.agree.blobs;
    manifests = is.agree.manifests;
    uploads = is.agree.uploads;
    pieces = is.agree.pieces;
    pieces_open = is.agree.pieces_open;
    beside = is.agree.beside;
  };
}

pub with_tags_rows : (t : Tables) (rows : List Row) → IsRegistry t → AreRows IsTagRow same_key rows → HaveRepo t.repos rows → IsRegistry (record t { tags = rows })
with_tags_rows t rows is are tagged = record {
  tables = record { repos = is.tables.repos; grants = is.tables.grants; tags = are; blobs = is.tables.blobs; manifests = is.tables.manifests; uploads = is.tables.uploads; pieces = is.tables.pieces };
  agree = record {
    version = is.agree.version;
    granted = is.agree.granted;
    tagged = tagged;
    blobs_repo = is.agree.blobs_repo;
    manifests_repo = is.agree.manifests_repo;
    uploads_repo = is.agree.uploads_repo;
    blobs = is.agree.blobs;
    manifests = is.agree.manifests;
    uploads = is.agree.uploads;
    pieces = is.agree.pieces;
    pieces_open = is.agree.pieces_open;
    beside = is.agree.beside;
  };
}

pub with_blobs_rows : (t : Tables) (rows : List Row) → IsRegistry t → AreRows IsBlobRow same_key rows → HaveRepo t.repos rows → AllByRecursion (BlobAgrees t.contents) rows → IsRegistry (record t { blobs = rows })
with_blobs_rows t rows is are have agrees = record {
  tables = record { repos = is.tables.repos; grants = is.tables.grants; tags = is.tables.tags; blobs = are; manifests = is.tables.manifests; uploads = is.tables.uploads; pieces = is.tables.pieces };
  agree = record {
    version = is.agree.version;
    granted = is.agree.granted;
    tagged = is.agree.tagged;
    blobs_repo = have;
    manifests_repo = is.agree.manifests_repo;
    uploads_repo = is.agree.uploads_repo;
    blobs = agrees;
    manifests = is.agree.manifests;
    uploads = is.agree.uploads;
    pieces = is.agree.pieces;
    pieces_open = is.agree.pieces_open;
    beside = is.agree.beside;
  };
}

pub with_manifests_rows : (t : Tables) (rows : List Row) → IsRegistry t → AreRows IsManifestRow same_key rows → HaveRepo t.repos rows → AllByRecursion (ManifestAgrees t.contents) rows → IsRegistry (record t { manifests = rows })
with_manifests_rows t rows is are have agrees = record {
  tables = record { repos = is.tables.repos; grants = is.tables.grants; tags = is.tables.tags; blobs = is.tables.blobs; manifests = are; uploads = is.tables.uploads; pieces = is.tables.pieces };
  agree = record {
    version = is.agree.version;
    granted = is.agree.granted;
    tagged = is.agree.tagged;
    blobs_repo = is.agree.blobs_repo;
    manifests_repo = have;
    uploads_repo = is.agree.uploads_repo;
    blobs = is.agree.blobs;
    manifests = agrees;
    uploads = is.agree.uploads;
    pieces = is.agree.pieces;
    pieces_open = is.agree.pieces_open;
    beside = is.agree.beside;
  };
}
