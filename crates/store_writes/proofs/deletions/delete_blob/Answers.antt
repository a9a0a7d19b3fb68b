use Rattle.registry_model.specs.Lookups.{delete_blob}
use Rattle.store_statements.specs.Keys.{has_key}
use Rattle.store_statements.proofs.BlobWorlds.{blob_taken}
use Rattle.store_statements.specs.Steps.{blobs_without}
use Rattle.store_writes.proofs.Transacted.{crash_tables, made_tables}
use Rattle.std.proofs.Common.{ap, refl}
use Rattle.store_statements.specs.Tables.{Tables}
use Rattle.store_statements.proofs.PlacesKept.{places_as}
use Rattle.store_statements.proofs.Alone.{less}
use Rattle.store_writes.proofs.deletions.delete_blob.Goals as goal

pub returns : goal.returns
returns g c = record {
  made = λ l. made_tables g.S.Store c.args.conn.now c.make.new.conn c.make.result (λ w. delete_blob w c.args.repo.now c.args.digest.now) (blobs_without (has_key c.args.repo.now c.args.digest.now)) (rw c.as_str.ensures.text at rw c.as_str-2.ensures.text at (c.make.ensures.made l tt (λ clean. tt))) (λ t is. blob_taken t c.args.repo.now c.args.digest.now is);
  stays = λ l clean is. less c.make.result (λ it. ap (λ (t : Tables). t.contents) it.1) (c.make.ensures.made l tt (λ early. tt) clean is);
  places = λ l clean is. less c.make.result (λ it. places_as _ _ _ it.1 refl refl) (c.make.ensures.made l tt (λ early. tt) clean is);
  memory = λ l. c.make.ensures.memory l tt (λ clean. tt);
  back = λ l. c.make.ensures.back l tt (λ clean. tt);
  crash = λ l. crash_tables g.S.Store c.args.conn.now c.make.new.conn c.make.result (λ w. delete_blob w c.args.repo.now c.args.digest.now) (blobs_without (has_key c.args.repo.now c.args.digest.now)) (rw c.as_str.ensures.text at rw c.as_str-2.ensures.text at (c.make.ensures.crash l tt (λ clean. tt))) (λ t is. blob_taken t c.args.repo.now c.args.digest.now is);
  survives = c.make.ensures.survives;
}

pub make-requires : goal.make-requires
make-requires g c = record { fits = tt }
