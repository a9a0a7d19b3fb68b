use Rattle.std.proofs.Common.{false, refl}
use Rattle.std.proofs.lemmas.Result.{IfOk-from_err}
use Rattle.sqlite.specs.Held.{state}
use Rattle.store_statements.proofs.Transactions.{survives_all}
use Rattle.store_reads.proofs.ReadSequences.{stays_behind, told_behind, passed_on}
use Rattle.store_reads.proofs.UsageReads.{under_quota}
use Rattle.store_reads.proofs.repo_usages.usage_under.Goals as goal

pub returns : goal.returns
returns g c =
    let old = state g.S.Store c.args.conn.now in
    let mid = state g.S.Store c.read_holdings.new.conn in
    let new = state g.S.Store c.count_tags.new.conn in
    record {
      found = λ l clean is.
          told_behind old mid new c.count_tags.ensures.survives (λ early is. c.in_ok-holdings.ensures.settled l early is (refl {a = false})) (λ early stays.
          under_quota l old mid c.args.repo.now c.args.quota c.in_ok-tags.tags c.in_ok-holdings.holdings c.taken_together.result
          stays.1 (c.in_ok-holdings.ensures.found l early is) (rw c.as_str.ensures.text at c.in_ok-tags.ensures.found l clean stays.0) c.taken_together.ensures) clean is;
      settled = λ l clean is unspent.
          stays_behind old mid new c.count_tags.ensures.survives (λ early is. c.in_ok-holdings.ensures.settled l early is (refl {a = false})) (λ clean is. c.in_ok-tags.ensures.settled l clean is (refl {a = false})) clean is;
      survives = survives_all old mid new _ _ c.read_holdings.ensures.survives c.count_tags.ensures.survives;
    }

pub returns-in_err-holdings : goal.returns-in_err-holdings
returns-in_err-holdings g c = record {
  found = λ l clean is. IfOk-from_err c.from_residual.result _ c.from_residual.ensures.0;
  settled = λ l clean is unspent. c.read_holdings.ensures.settled l clean is (passed_on c.from_residual.result c.read_holdings.result _ c.in_err-holdings.was c.from_residual.ensures.1 unspent);
  survives = c.read_holdings.ensures.survives;
}

pub returns-in_err-tags : goal.returns-in_err-tags
returns-in_err-tags g c =
    let old = state g.S.Store c.args.conn.now in
    let mid = state g.S.Store c.read_holdings.new.conn in
    let new = state g.S.Store c.count_tags.new.conn in
    record {
      found = λ l clean is. IfOk-from_err c.from_residual-in_err-tags.result _ c.from_residual-in_err-tags.ensures.0;
      settled = λ l clean is unspent.
          stays_behind old mid new c.count_tags.ensures.survives (λ early is. c.in_ok-holdings.ensures.settled l early is (refl {a = false}))
          (λ clean is. c.count_tags.ensures.settled l clean is (passed_on c.from_residual-in_err-tags.result c.count_tags.result _ c.in_err-tags.was c.from_residual-in_err-tags.ensures.1 unspent)) clean is;
      survives = survives_all old mid new _ _ c.read_holdings.ensures.survives c.count_tags.ensures.survives;
    }
