use Rattle.registry_model.proofs.BlobsTakenAway.{one_taken}
use Rattle.registry_maps.specs.Maps.{repo_of}
use Rattle.registry_maps.proofs.repository.Repository.delete_blobs.Goals as goal

pub loop-digest-preserved : goal.loop-digest-preserved
loop-digest-preserved c =
    one_taken (repo_of c.args.self.now) c.args.digests.now c.loop-digest.digest-index c.digest-item.result (repo_of c.loop-digest.self) (repo_of c.delete_blob.new.self)
    c.loop-digest-test.true c.digest-item.is c.loop-digest.invariant c.delete_blob.ensures
