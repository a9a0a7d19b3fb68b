use Rattle.std.proofs.Common.{◌∙◌, sym}
use Rattle.std.proofs.lemmas.Result.{IfOk-weaker}
use Rattle.sqlite.specs.Held.{state}
use Rattle.store_statements.specs.Held.{held}
use Rattle.store_statements.proofs.Transactions.{registry}
use Rattle.store_reads.proofs.RepoLists.{names_found}
use Rattle.store_reads.proofs.repos.repo_names.Goals as goal

pub returns : goal.returns
returns g c =
    let old = state g.S.Store c.args.conn.now in
    record {
      found = λ l clean is. IfOk-weaker c.list_repos.result _ _ (λ names h. h ∙ sym (names_found (held l old) (registry old is))) (c.list_repos.ensures.found l clean is);
      settled = c.list_repos.ensures.settled;
      survives = c.list_repos.ensures.survives;
    }
