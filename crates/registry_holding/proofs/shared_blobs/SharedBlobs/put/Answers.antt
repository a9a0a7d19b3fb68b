use Rattle.std.proofs.Common.{◌≡◌, rules}
use Rattle.registry_holding.proofs.SharingLemmas.{repo_put}
use Rattle.registry_holding.proofs.shared_blobs.SharedBlobs.put.Goals as goal

pub returns : goal.returns
returns c = λ w are is.
    let name : c.in_ok-clone.field-0 ≡ c.args.repo.now = search rules in
    repo_put c.args.self.now.map w c.args.repo.now c.insert.new.self c.in_ok-clone.field-0 c.args.blobs c.in_ok-insert.ensures.updates name are is
