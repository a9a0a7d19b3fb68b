use Rattle.oci_types.proofs.RepoNameLaw.{is_repo_name_decides}
use Rattle.oci_types.proofs.laws.repo_name_grammar.Goals as goal

pub returns : goal.returns
returns c = is_repo_name_decides
