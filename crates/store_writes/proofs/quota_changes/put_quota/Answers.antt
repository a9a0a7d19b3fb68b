use Rattle.std.proofs.Common.{◌≢◌, ◌∙◌, length, sym}
use Rattle.std.proofs.lemmas.Result.{IfOk-from_err}
use Rattle.std.specs.Prelude.{filter}
use Rattle.sqlite.specs.State.{HasCleanDisk}
use Rattle.sqlite.specs.Held.{state}
use Rattle.store_schema.proofs.Selects.{commit_then, survives_both}
use Rattle.store_statements.specs.Keys.{of_first}
use Rattle.store_statements.specs.Held.{held}
use Rattle.store_statements.proofs.CleanBefore.{was_clean}
use Rattle.store_writes.proofs.RowCounts.{none_counted, some_counted}
use Rattle.store_writes.proofs.PutLemmas.{then_ok, repo_came, fresh_repo, quota_was_set}
use Rattle.store_writes.proofs.quota_changes.put_quota.Goals as goal

pub returns-then-count-eq0 : goal.returns-then-count-eq0
returns-then-count-eq0 g c =
    let old = state g.S.Store c.args.tx.now.conn.now in
    let mid = state g.S.Store c.set_quota.new.tx.conn.now in
    let new = state g.S.Store c.add_repo.new.tx.conn.now in
    let early : HasCleanDisk new → HasCleanDisk mid = was_clean c.add_repo.ensures.survives in
    record {
      put = λ l clean is.
          let none = none_counted (of_first c.args.name.now) (held l old).repos (sym (c.in_ok-count.ensures.counted l (early clean) is) ∙ c.if-count-eq0.true) in
          let became = c.in_ok-count.ensures.set l (early clean) is in
          then_ok c.add_repo.result (λ came. (came.ready, repo_came old mid new c.args.name.now c.args.quota none became came)) (c.add_repo.ensures.added l clean became.0 (fresh_repo old mid c.args.name.now c.args.quota none became));
      kept = λ l clean is. commit_then old mid new (c.set_quota.ensures.kept l (early clean) is) (c.add_repo.ensures.kept l clean (c.in_ok-count.ensures.set l (early clean) is).0);
      same_reference = c.add_repo.ensures.same_reference ∙ c.set_quota.ensures.same_reference;
      survives = survives_both old mid new c.set_quota.ensures.survives c.add_repo.ensures.survives;
    }

pub returns-else-count-eq0 : goal.returns-else-count-eq0
returns-else-count-eq0 g c =
    let old = state g.S.Store c.args.tx.now.conn.now in
    let mid = state g.S.Store c.set_quota.new.tx.conn.now in
    record {
      put = λ l clean is.
          let some : length (filter (of_first c.args.name.now) (held l old).repos) ≢ 0 = λ e. c.if-count-eq0.false (c.in_ok-count.ensures.counted l clean is ∙ e) in
          let became = c.in_ok-count.ensures.set l clean is in (became.0, quota_was_set old mid c.args.name.now c.args.quota (some_counted (of_first c.args.name.now) _ some) became);
      kept = λ l clean is. c.set_quota.ensures.kept l clean is;
      same_reference = c.set_quota.ensures.same_reference;
      survives = c.set_quota.ensures.survives;
    }

pub returns-in_err-count : goal.returns-in_err-count
returns-in_err-count g c = record {
  put = λ l clean is. IfOk-from_err c.from_residual.result _ c.from_residual.ensures.0;
  kept = λ l clean is. c.set_quota.ensures.kept l clean is;
  same_reference = c.set_quota.ensures.same_reference;
  survives = c.set_quota.ensures.survives;
}
