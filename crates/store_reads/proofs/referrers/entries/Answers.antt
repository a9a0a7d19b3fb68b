use Rattle.std.proofs.Common.{◌∙◌, [], false, sym, subst, refl}
use Rattle.std.proofs.lemmas.List.{map-id}
use Rattle.std.proofs.lemmas.Result.{IfOk-from_err}
use Rattle.std.proofs.lemmas.Iterator.Adapters.{YieldsList-from_vec}
use Rattle.std.proofs.lemmas.Iterator.Consumers.{YieldsList-end}
use Rattle.sqlite.specs.Held.{state}
use Rattle.store_statements.specs.Held.{held}
use Rattle.store_statements.proofs.Checks.{survives_here}
use Rattle.store_statements.proofs.Transactions.{survives_all}
use Rattle.store_bytes.proofs.Readings.{as_was_here, as_was_then, readable_before, finds_from, stays_from}
use Rattle.store_reads.specs.Each.{AreTold, IsEntry}
use Rattle.store_reads.proofs.ReadSequences.{stays_here, stays_behind, told_behind, passed_on}
use Rattle.store_reads.proofs.ToldEach.{one_told}
use Rattle.store_reads.proofs.referrers.entries.Goals as goal

pub loop-referrer-init : goal.loop-referrer-init
loop-referrer-init g c =
    let kept = g.C.Contents.layout c.args.contents.now in
    record {
      survives = survives_here (state g.S.Store c.args.conn.now);
      same = as_was_here g.C.Contents c.args.contents.now;
      settled = λ clean is. stays_here (state g.S.Store c.args.conn.now) is;
      told = λ readable clean is. subst (AreTold (IsEntry (held kept (state g.S.Store c.args.conn.now))) []) (sym c.new-entries.ensures.items) tt;
    }

pub loop-referrer-preserved : goal.loop-referrer-preserved
loop-referrer-preserved g c =
    let kept = g.C.Contents.layout c.args.contents.now in
    let old = state g.S.Store c.args.conn.now in
    let mid = state g.S.Store c.loop-referrer.conn in
    let new = state g.S.Store c.entry.new.conn in
    let from = c.args.contents.now in
    let here = c.loop-referrer.contents in
    let to = c.entry.new.contents in
    let first = c.loop-referrer.invariant.same in
    let stays = stays_from g.C.Contents g.S.Store from here to first c.loop-referrer.conn c.entry.new.conn c.entry.result c.entry.ensures.settled in
    let before = readable_before g.C.Contents from here to old c.entry.ensures.same in
    let finds = finds_from g.C.Contents g.S.Store from here to first c.loop-referrer.conn c.entry.new.conn c.entry.result (λ t entry. IsEntry t c.in-Some.referrer entry) c.entry.ensures.found in
    record {
      survives = survives_all old mid new _ _ c.loop-referrer.invariant.survives c.entry.ensures.survives;
      same = as_was_then g.C.Contents from here to first c.entry.ensures.same;
      settled = stays_behind old mid new c.entry.ensures.survives c.loop-referrer.invariant.settled
          (λ clean is. stays clean is (c.in_ok-push_found.ensures.storage (refl {a = false})));
      told = λ readable clean is.
          told_behind old mid new c.entry.ensures.survives c.loop-referrer.invariant.settled (λ early kept_so.
          one_told kept IsEntry old.now mid.now c.loop-referrer.yielded c.in-Some.referrer c.entry.result c.loop-referrer.entries.items c.push_found.new.values.items kept_so.1
          (c.loop-referrer.invariant.told (before readable) early is)
          (finds old kept_so.1 readable clean kept_so.0)
          c.in_ok-push_found.ensures.pushed) clean is;
    }

pub returns : goal.returns
returns g c =
    let kept = g.C.Contents.layout c.args.contents.now in
    record {
      found = λ readable clean is.
          let gives = c.into_iter-referrer-iterator.ensures.into_iter_gives in
          let all = YieldsList-end (YieldsList-from_vec c.args.referrers.items gives.0 (gives.1 ∙ c.args.referrers.ok.0)) c.loop-referrer.yielded c.loop-referrer.referrer-iterator c.loop-referrer.yielded_by c.next.result c.next.new.self c.in-None.is c.next.ensures.steps in
          subst (λ given. AreTold (IsEntry (held kept (state g.S.Store c.args.conn.now))) given c.loop-referrer.entries.items) (sym (map-id c.loop-referrer.yielded) ∙ all.0) (c.loop-referrer.invariant.told readable clean is);
      settled = λ clean is unspent. c.loop-referrer.invariant.settled clean is;
      survives = c.loop-referrer.invariant.survives;
      same = c.loop-referrer.invariant.same;
    }

pub returns-in_err-push_found : goal.returns-in_err-push_found
returns-in_err-push_found g c =
    let old = state g.S.Store c.args.conn.now in
    let mid = state g.S.Store c.loop-referrer.conn in
    let new = state g.S.Store c.entry.new.conn in
    let from = c.args.contents.now in
    let here = c.loop-referrer.contents in
    let to = c.entry.new.contents in
    let first = c.loop-referrer.invariant.same in
    let stays = stays_from g.C.Contents g.S.Store from here to first c.loop-referrer.conn c.entry.new.conn c.entry.result c.entry.ensures.settled in
    let was = passed_on c.from_residual.result c.push_found.result _ c.in_err-push_found.was c.from_residual.ensures.1 in
    record {
      found = λ readable clean is. IfOk-from_err c.from_residual.result _ c.from_residual.ensures.0;
      settled = λ clean is unspent.
          stays_behind old mid new c.entry.ensures.survives c.loop-referrer.invariant.settled
          (λ clean is. stays clean is (c.push_found.ensures.storage (was unspent))) clean is;
      survives = survives_all old mid new _ _ c.loop-referrer.invariant.survives c.entry.ensures.survives;
      same = as_was_then g.C.Contents from here to first c.entry.ensures.same;
    }
