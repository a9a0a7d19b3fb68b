use Rattle.registry_copy.proofs.WorldLemmas.{without_uploads-repo}
use Rattle.registry_copy.proofs.laws.without_uploads_all_else_stays.Goals as goal

pub returns-clause-repos : goal.returns-clause-repos
returns-clause-repos c = without_uploads-repo
