use Rattle.std.proofs.Common.{◌∙◌}
use Rattle.std.proofs.lemmas.Result.{IfOk-from_err}
use Rattle.store_statements.specs.Keys.{has_key}
use Rattle.store_statements.specs.Steps.{manifests_without, tags_without, names_digest}
use Rattle.store_writes.proofs.StatementSequences.{both_kept, both_last, both_change}
use Rattle.store_writes.proofs.deletions.take_manifest.Goals as goal

pub returns : goal.returns
returns g c =
    let old = c.args.tx.now.conn.now in
    let mid = c.take_manifest_link.new.tx.conn.now in
    let new = c.take_tags_named.new.tx.conn.now in
    record {
      taken = λ l. both_change g.S.Store l old mid new c.take_tags_named.result (manifests_without (has_key c.args.repo.now c.args.digest.now)) (tags_without (names_digest c.args.repo.now c.args.digest.now)) (c.in_ok-take_manifest_link.ensures.taken l) (c.take_tags_named.ensures.taken l) c.take_tags_named.ensures.survives;
      kept = λ l. both_kept g.S.Store l old mid new (manifests_without (has_key c.args.repo.now c.args.digest.now)) (c.in_ok-take_manifest_link.ensures.taken l) (c.take_manifest_link.ensures.kept l) (c.take_tags_named.ensures.kept l) c.take_tags_named.ensures.survives;
      same_reference = c.take_tags_named.ensures.same_reference ∙ c.take_manifest_link.ensures.same_reference;
      survives = both_last g.S.Store old mid new c.take_manifest_link.ensures.survives c.take_tags_named.ensures.survives;
    }

pub returns-in_err-take_manifest_link : goal.returns-in_err-take_manifest_link
returns-in_err-take_manifest_link g c = record {
  taken = λ l clean is. IfOk-from_err c.from_residual.result _ c.from_residual.ensures.0;
  kept = c.take_manifest_link.ensures.kept;
  same_reference = c.take_manifest_link.ensures.same_reference;
  survives = c.take_manifest_link.ensures.survives;
}
