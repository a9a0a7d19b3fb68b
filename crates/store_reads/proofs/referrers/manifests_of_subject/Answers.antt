use Rattle.std.proofs.Common.{refl, false}
use Rattle.std.proofs.lemmas.Result.{IfOk-from_err}
use Rattle.sqlite.specs.Held.{state}
use Rattle.store_statements.proofs.Transactions.{registry, survives_all}
use Rattle.store_bytes.proofs.Readings.{as_was_here, readable_still}
use Rattle.store_reads.proofs.ReadSequences.{stays_behind, told_behind, passed_on}
use Rattle.store_reads.proofs.ReferrerBytes.{on_subject_found}
use Rattle.store_reads.proofs.referrers.manifests_of_subject.Goals as goal

pub returns : goal.returns
returns g c =
    let kept = g.C.Contents.layout c.args.contents.now in
    let old = state g.S.Store c.args.conn.now in
    let mid = state g.S.Store c.manifests_on_subject.new.conn in
    let new = state g.S.Store c.entries.new.conn in
    record {
      found = λ readable clean is.
          told_behind old mid new c.entries.ensures.survives (λ early is. c.in_ok-referrers.ensures.settled kept early is (refl {a = false})) (λ early stays.
          on_subject_found kept old.now mid.now c.args.repo.now c.as_str.result.now c.args.digest.now c.as_str-2.result.now c.in_ok-referrers.referrers.items c.entries.result
          (registry old is) c.as_str.ensures.text c.as_str-2.ensures.text c.as_str-2.ensures.valid stays.1 (c.in_ok-referrers.ensures.found kept early is)
          (c.entries.ensures.found (readable_still g.C.Contents c.args.contents.now c.entries.new.contents old mid stays.1 readable) clean stays.0)) clean is;
      settled = λ clean is unspent.
          stays_behind old mid new c.entries.ensures.survives (λ early is. c.in_ok-referrers.ensures.settled kept early is (refl {a = false})) (λ clean is. c.entries.ensures.settled clean is unspent) clean is;
      survives = survives_all old mid new _ _ c.manifests_on_subject.ensures.survives c.entries.ensures.survives;
      same = c.entries.ensures.same;
    }

pub returns-in_err-referrers : goal.returns-in_err-referrers
returns-in_err-referrers g c =
    let kept = g.C.Contents.layout c.args.contents.now in
    record {
      found = λ readable clean is. IfOk-from_err c.from_residual.result _ c.from_residual.ensures.0;
      settled = λ clean is unspent. c.manifests_on_subject.ensures.settled kept clean is (passed_on c.from_residual.result c.manifests_on_subject.result _ c.in_err-referrers.was c.from_residual.ensures.1 unspent);
      survives = c.manifests_on_subject.ensures.survives;
      same = as_was_here g.C.Contents c.args.contents.now;
    }
