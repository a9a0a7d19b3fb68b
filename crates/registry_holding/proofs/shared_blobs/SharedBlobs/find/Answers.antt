use Rattle.std.proofs.Common.{sym}
use Rattle.registry_holding.proofs.SharingLemmas.{blob_found}
use Rattle.registry_holding.proofs.shared_blobs.SharedBlobs.find.Goals as goal

pub returns-in-Some-get : goal.returns-in-Some-get
returns-in-Some-get c = λ w are.
    blob_found c.args.self.now.map w c.args.repo.now c.args.digest.now c.in-Some.blobs.now c.in-Some-get.bytes.now c.upgrade.result (sym c.in-Some.ensures.value) (sym c.in-Some-get.ensures.value) are c.upgrade.ensures
