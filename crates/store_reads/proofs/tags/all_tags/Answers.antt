use Rattle.std.proofs.Common.{◌∙◌, sym}
use Rattle.std.proofs.lemmas.Result.{IfOk-weaker}
use Rattle.sqlite.specs.Held.{state}
use Rattle.store_statements.specs.Held.{held}
use Rattle.store_statements.proofs.Transactions.{registry}
use Rattle.store_reads.proofs.RepoLists.{tags_found}
use Rattle.store_reads.proofs.tags.all_tags.Goals as goal

pub returns : goal.returns
returns g c =
    let old = state g.S.Store c.args.conn.now in
    record {
      found = λ l clean is. IfOk-weaker c.list_tags.result _ _ (λ tags h. h ∙ sym (tags_found (held l old) (registry old is) c.args.repo.now)) (rw c.as_str.ensures.text at (c.list_tags.ensures.found l clean is));
      settled = c.list_tags.ensures.settled;
      survives = c.list_tags.ensures.survives;
    }
