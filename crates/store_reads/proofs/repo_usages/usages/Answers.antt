use Rattle.std.proofs.Common.{false, refl}
use Rattle.std.proofs.lemmas.Result.{IfOk-from_err, IfOk-weaker}
use Rattle.sqlite.specs.Held.{state}
use Rattle.store_statements.proofs.Transactions.{registry, survives_all}
use Rattle.store_reads.proofs.ReadSequences.{stays_behind, told_behind, passed_on}
use Rattle.store_reads.proofs.NamedUsages.{all_shown}
use Rattle.store_reads.proofs.repo_usages.usages.Goals as goal

pub returns : goal.returns
returns g c =
    let old = state g.S.Store c.args.conn.now in
    let mid = state g.S.Store c.list_repos.new.conn in
    let new = state g.S.Store c.with_usages.new.conn in
    record {
      found = λ l clean is.
          told_behind old mid new c.with_usages.ensures.survives (λ early is. c.in_ok-repos.ensures.settled l early is (refl {a = false})) (λ early stays.
          IfOk-weaker c.with_usages.result _ _ (λ all h. all_shown l old mid c.in_ok-repos.repos.items all.items (registry old is) stays.1 (c.in_ok-repos.ensures.found l early is) h) (c.with_usages.ensures.found l clean stays.0)) clean is;
      settled = λ l clean is unspent.
          stays_behind old mid new c.with_usages.ensures.survives (λ early is. c.in_ok-repos.ensures.settled l early is (refl {a = false})) (λ clean is. c.with_usages.ensures.settled l clean is unspent) clean is;
      survives = survives_all old mid new _ _ c.list_repos.ensures.survives c.with_usages.ensures.survives;
    }

pub returns-in_err-repos : goal.returns-in_err-repos
returns-in_err-repos g c = record {
  found = λ l clean is. IfOk-from_err c.from_residual.result _ c.from_residual.ensures.0;
  settled = λ l clean is unspent. c.list_repos.ensures.settled l clean is (passed_on c.from_residual.result c.list_repos.result _ c.in_err-repos.was c.from_residual.ensures.1 unspent);
  survives = c.list_repos.ensures.survives;
}
