use Rattle.store_migration.proofs.Free.{blob_free, manifest_free, number_free}
use Rattle.store_migration.proofs.laws.an_old_key_is_free.Goals as goal

pub returns : goal.returns
returns c = record { blobs = blob_free; manifests = manifest_free; sessions = number_free }
