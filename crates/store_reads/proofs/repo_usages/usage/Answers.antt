use Rattle.std.proofs.Common.{◌∙◌, false, refl, sym}
use Rattle.sqlite.specs.Held.{state}
use Rattle.store_statements.specs.Held.{held}
use Rattle.store_statements.proofs.Transactions.{registry, survives_all}
use Rattle.store_reads.proofs.ReadSequences.{stays_behind, told_behind}
use Rattle.store_reads.proofs.UsageReads.{usage_shown, usage_not_there}
use Rattle.store_reads.proofs.repo_usages.usage.Goals as goal

pub returns-in-Ok-Some : goal.returns-in-Ok-Some
returns-in-Ok-Some g c =
    let old = state g.S.Store c.args.conn.now in
    let mid = state g.S.Store c.find_repo.new.conn in
    let new = state g.S.Store c.usage_under.new.conn in
    record {
      found = λ l clean is.
          told_behind old mid new c.usage_under.ensures.survives (λ early is. c.in-Ok-Some.ensures.settled l early is (refl {a = false})) (λ early stays.
          usage_shown l old mid c.args.repo.now c.in-Ok-Some.row c.usage_under.result (registry old is)
          stays.1 (sym c.in-Ok-Some.field-0-is ∙ rw c.as_str.ensures.text at (c.in-Ok-Some.ensures.found l early is)) (c.usage_under.ensures.found l clean stays.0)) clean is;
      settled = λ l clean is unspent.
          stays_behind old mid new c.usage_under.ensures.survives (λ early is. c.in-Ok-Some.ensures.settled l early is (refl {a = false})) (λ clean is. c.usage_under.ensures.settled l clean is unspent) clean is;
      survives = survives_all old mid new _ _ c.find_repo.ensures.survives c.usage_under.ensures.survives;
    }

pub returns-in-Ok-None : goal.returns-in-Ok-None
returns-in-Ok-None g c = record {
  found = λ l clean is.
      usage_not_there (held l (state g.S.Store c.args.conn.now)) c.args.repo.now (registry (state g.S.Store c.args.conn.now) is) (sym c.in-Ok-None.field-0-is ∙ rw c.as_str.ensures.text at (c.in-Ok-None.ensures.found l clean is));
  settled = c.in-Ok-None.ensures.settled;
  survives = c.find_repo.ensures.survives;
}

pub returns-in-Err : goal.returns-in-Err
returns-in-Err g c = record {
  found = λ l clean is. tt;
  settled = λ l clean is unspent. c.in-Err.ensures.settled l clean is unspent;
  survives = c.find_repo.ensures.survives;
}
