use Rattle.std.proofs.Common.{rules, ◌≡◌}
use Rattle.oci_types.specs.RepoName.{is_repo_name}
use Rattle.oci_types.proofs.RepoNameLaw.{is_repo_name_decides}
use Rattle.oci_types.proofs.repo_name.is_name.Goals as goal

-- the answer is that of the test, which decides the grammar
pub returns-then-text-le-LONGEST_REPO_NAME-clause-grammar : goal.returns-then-text-le-LONGEST_REPO_NAME-clause-grammar
returns-then-text-le-LONGEST_REPO_NAME-clause-grammar c =
    let same : c.has_path.result ≡ is_repo_name c.args.text.now = search rules in rw same (is_repo_name_decides c.args.text.now)
