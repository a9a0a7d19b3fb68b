use Rattle.std.proofs.Common.{◌≡◌, ◌∙◌, [], false, sym, subst, refl}
use Rattle.std.proofs.lemmas.List.{map-id}
use Rattle.std.proofs.lemmas.Result.{IfOk-from_err}
use Rattle.std.proofs.lemmas.Iterator.Adapters.{YieldsList-from_vec}
use Rattle.std.proofs.lemmas.Iterator.Consumers.{YieldsList-end}
use Rattle.sqlite.specs.Held.{state}
use Rattle.store_statements.specs.Held.{world_in}
use Rattle.store_statements.specs.World.{world_of}
use Rattle.store_statements.proofs.Checks.{survives_here}
use Rattle.store_statements.proofs.Transactions.{survives_all}
use Rattle.store_reads.specs.Each.{AreTold}
use Rattle.store_reads.specs.Tallies.{named_usage}
use Rattle.store_reads.proofs.ReadSequences.{stays_here, stays_behind, told_behind, passed_on}
use Rattle.store_reads.proofs.ToldEach.{one_told}
use Rattle.store_reads.proofs.repo_usages.with_usages.Goals as goal

pub loop-repo-init : goal.loop-repo-init
loop-repo-init g c = record {
  survives = survives_here (state g.S.Store c.args.conn.now);
  settled = λ l clean is. stays_here (state g.S.Store c.args.conn.now) is;
  told = λ l clean is. subst (AreTold (λ repo named. named ≡ named_usage (world_in l (state g.S.Store c.args.conn.now)) repo) []) (sym c.new-all.ensures.items) tt;
}

pub loop-repo-preserved : goal.loop-repo-preserved
loop-repo-preserved g c =
    let old = state g.S.Store c.args.conn.now in
    let mid = state g.S.Store c.loop-repo.conn in
    let new = state g.S.Store c.with_usage.new.conn in
    record {
      survives = survives_all old mid new _ _ c.loop-repo.invariant.survives c.with_usage.ensures.survives;
      settled = λ l. stays_behind old mid new c.with_usage.ensures.survives (c.loop-repo.invariant.settled l) (λ clean is. c.with_usage.ensures.settled l clean is (c.in_ok-push_found.ensures.storage (refl {a = false})));
      told = λ l clean is.
          told_behind old mid new c.with_usage.ensures.survives (c.loop-repo.invariant.settled l) (λ early stays.
          one_told l (λ t repo named. named ≡ named_usage (world_of t) repo) old.now mid.now c.loop-repo.yielded c.in-Some.repo c.with_usage.result c.loop-repo.all.items c.push_found.new.values.items stays.1
          (c.loop-repo.invariant.told l early is) (c.with_usage.ensures.found l clean stays.0) c.in_ok-push_found.ensures.pushed) clean is;
    }

pub returns : goal.returns
returns g c = record {
  found = λ l clean is.
      let gives = c.into_iter-repo-iterator.ensures.into_iter_gives in
      let all = YieldsList-end (YieldsList-from_vec c.args.repos.items gives.0 (gives.1 ∙ c.args.repos.ok.0)) c.loop-repo.yielded c.loop-repo.repo-iterator c.loop-repo.yielded_by c.next.result c.next.new.self c.in-None.is c.next.ensures.steps in
      subst (λ given. AreTold (λ repo named. named ≡ named_usage (world_in l (state g.S.Store c.args.conn.now)) repo) given c.loop-repo.all.items) (sym (map-id c.loop-repo.yielded) ∙ all.0) (c.loop-repo.invariant.told l clean is);
  settled = λ l clean is unspent. c.loop-repo.invariant.settled l clean is;
  survives = c.loop-repo.invariant.survives;
}

pub returns-in_err-push_found : goal.returns-in_err-push_found
returns-in_err-push_found g c =
    let old = state g.S.Store c.args.conn.now in
    let mid = state g.S.Store c.loop-repo.conn in
    let new = state g.S.Store c.with_usage.new.conn in
    record {
      found = λ l clean is. IfOk-from_err c.from_residual.result _ c.from_residual.ensures.0;
      settled = λ l clean is unspent.
          stays_behind old mid new c.with_usage.ensures.survives (c.loop-repo.invariant.settled l)
          (λ clean is. c.with_usage.ensures.settled l clean is (c.push_found.ensures.storage (passed_on c.from_residual.result c.push_found.result _ c.in_err-push_found.was c.from_residual.ensures.1 unspent))) clean is;
      survives = survives_all old mid new _ _ c.loop-repo.invariant.survives c.with_usage.ensures.survives;
    }
