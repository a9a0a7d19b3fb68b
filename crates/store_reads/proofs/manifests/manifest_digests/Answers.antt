use Rattle.std.proofs.Common.{◌∙◌, sym}
use Rattle.std.proofs.lemmas.Result.{IfOk-weaker}
use Rattle.sqlite.specs.Held.{state}
use Rattle.store_statements.specs.Held.{held}
use Rattle.store_statements.proofs.Transactions.{registry}
use Rattle.store_reads.proofs.DigestsFound.{manifest_digests_found}
use Rattle.store_reads.proofs.manifests.manifest_digests.Goals as goal

pub returns : goal.returns
returns g c =
    let old = state g.S.Store c.args.conn.now in
    record {
      found = λ l clean is. IfOk-weaker c.list_manifest_digests.result _ _ (λ digests h. h ∙ sym (manifest_digests_found (held l old) c.args.repo.now (registry old is))) (rw c.as_str.ensures.text at (c.list_manifest_digests.ensures.found l clean is));
      settled = c.list_manifest_digests.ensures.settled;
      survives = c.list_manifest_digests.ensures.survives;
    }
