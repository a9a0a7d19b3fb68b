use Rattle.std.proofs.Common.{◌∙◌, sym}
use Rattle.registry_holding.proofs.SharingLemmas.{repo_taken}
use Rattle.registry_holding.proofs.shared_blobs.SharedBlobs.take.Goals as goal

pub returns-in-Some : goal.returns-in-Some
returns-in-Some c = λ w are. repo_taken c.args.self.now.map w c.args.repo.now c.remove.new.self c.in-Some.blobs (sym c.in-Some.is ∙ c.remove.ensures.value) c.remove.ensures.updates are
