use Rattle.registry_model.specs.Pruning.{delete_blobs}
use Rattle.store_writes.specs.Deleting.{without_blob_links}
use Rattle.store_writes.proofs.SeveralBlobs.{blobs_taken, links_keep, links_leave}
use Rattle.store_writes.proofs.Transacted.{crash_tables, made_tables}
use Rattle.std.proofs.Common.{ap, ◌∙◌}
use Rattle.store_statements.specs.Tables.{Tables}
use Rattle.store_statements.proofs.PlacesKept.{places_as}
use Rattle.store_statements.proofs.Alone.{less}
use Rattle.sqlite.specs.Held.{state}
use Rattle.store_statements.specs.Held.{held}
use Rattle.store_writes.proofs.deletions.delete_blobs.Goals as goal

pub returns : goal.returns
returns g c = record {
  made = λ l. made_tables g.S.Store c.args.conn.now c.make.new.conn c.make.result (λ w. delete_blobs w c.args.repo.now c.args.digests.now) (without_blob_links c.args.repo.now c.args.digests.now) (rw c.as_str.ensures.text at (c.make.ensures.made l tt (λ clean. tt))) (λ t is. blobs_taken t c.args.repo.now c.args.digests.now is);
  stays = λ l clean is. less c.make.result (λ it. ap (λ (t : Tables). t.contents) it.1 ∙ links_leave c.as_str.result.now c.args.digests.now (held l (state g.S.Store c.args.conn.now))) (c.make.ensures.made l tt (λ early. tt) clean is);
  places = λ l clean is. let links = links_keep c.as_str.result.now c.args.digests.now (held l (state g.S.Store c.args.conn.now)) in less c.make.result (λ it. places_as _ _ _ it.1 links.places links.packs) (c.make.ensures.made l tt (λ early. tt) clean is);
  memory = λ l. c.make.ensures.memory l tt (λ clean. tt);
  back = λ l. c.make.ensures.back l tt (λ clean. tt);
  crash = λ l. crash_tables g.S.Store c.args.conn.now c.make.new.conn c.make.result (λ w. delete_blobs w c.args.repo.now c.args.digests.now) (without_blob_links c.args.repo.now c.args.digests.now) (rw c.as_str.ensures.text at (c.make.ensures.crash l tt (λ clean. tt))) (λ t is. blobs_taken t c.args.repo.now c.args.digests.now is);
  survives = c.make.ensures.survives;
}

pub make-requires : goal.make-requires
make-requires g c = record { fits = tt }
