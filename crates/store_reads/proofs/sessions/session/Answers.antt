use Rattle.std.proofs.Common.{refl, false}
use Rattle.std.proofs.lemmas.Result.{IfOk-from_err}
use Rattle.sqlite.specs.Held.{state}
use Rattle.store_statements.proofs.Transactions.{registry, survives_all}
use Rattle.store_bytes.proofs.Readings.{as_was_here, readable_still}
use Rattle.store_reads.proofs.ReadSequences.{stays_behind, told_behind, passed_on}
use Rattle.store_reads.proofs.SessionBytes.{session_none, session_some}
use Rattle.store_reads.proofs.sessions.session.Goals as goal

pub returns-in_ok-session_bytes-in-Some : goal.returns-in_ok-session_bytes-in-Some
returns-in_ok-session_bytes-in-Some g c =
    let kept = g.C.Contents.layout c.args.contents.now in
    let old = state g.S.Store c.args.conn.now in
    let mid = state g.S.Store c.find_upload.new.conn in
    let new = state g.S.Store c.session_bytes.new.conn in
    record {
      found = λ readable clean is.
          told_behind old mid new c.session_bytes.ensures.survives (λ early is. c.in_ok-size.ensures.settled kept early is (refl {a = false})) (λ early stays.
          session_some kept old.now mid.now c.args.repo.now c.as_str-repo.result.now c.args.number c.in-Some.size c.in_ok-size.field-0 c.in_ok-session_bytes-in-Some.field-0.items
          (registry old is) c.as_str-repo.ensures.text stays.1 c.in-Some.is (c.in_ok-size.ensures.found kept early is) (c.in_ok-session_bytes-in-Some.ensures.found (readable_still g.C.Contents c.args.contents.now c.session_bytes.new.contents old mid stays.1 readable) clean stays.0)) clean is;
      settled = λ clean is unspent.
          stays_behind old mid new c.session_bytes.ensures.survives (λ early is. c.in_ok-size.ensures.settled kept early is (refl {a = false}))
          (λ clean is. c.in_ok-session_bytes-in-Some.ensures.settled clean is (refl {a = false})) clean is;
      survives = survives_all old mid new _ _ c.find_upload.ensures.survives c.session_bytes.ensures.survives;
      same = c.session_bytes.ensures.same;
    }

pub returns-in-None : goal.returns-in-None
returns-in-None g c =
    let kept = g.C.Contents.layout c.args.contents.now in
    record {
      found = λ readable clean is.
          session_none kept (state g.S.Store c.args.conn.now).now c.args.repo.now c.as_str-repo.result.now c.args.number c.in_ok-size.field-0
          (registry (state g.S.Store c.args.conn.now) is) c.as_str-repo.ensures.text c.in-None.is (c.in_ok-size.ensures.found kept clean is);
      settled = λ clean is unspent. c.in_ok-size.ensures.settled kept clean is (refl {a = false});
      survives = c.find_upload.ensures.survives;
      same = as_was_here g.C.Contents c.args.contents.now;
    }

pub returns-in_err-size : goal.returns-in_err-size
returns-in_err-size g c =
    let kept = g.C.Contents.layout c.args.contents.now in
    record {
      found = λ readable clean is. IfOk-from_err c.from_residual.result _ c.from_residual.ensures.0;
      settled = λ clean is unspent. c.find_upload.ensures.settled kept clean is (passed_on c.from_residual.result c.find_upload.result _ c.in_err-size.was c.from_residual.ensures.1 unspent);
      survives = c.find_upload.ensures.survives;
      same = as_was_here g.C.Contents c.args.contents.now;
    }

pub returns-in_err-session_bytes-in-Some : goal.returns-in_err-session_bytes-in-Some
returns-in_err-session_bytes-in-Some g c =
    let kept = g.C.Contents.layout c.args.contents.now in
    let old = state g.S.Store c.args.conn.now in
    let mid = state g.S.Store c.find_upload.new.conn in
    let new = state g.S.Store c.session_bytes.new.conn in
    record {
      found = λ readable clean is. IfOk-from_err c.from_residual-in_err-session_bytes-in-Some.result _ c.from_residual-in_err-session_bytes-in-Some.ensures.0;
      settled = λ clean is unspent.
          stays_behind old mid new c.session_bytes.ensures.survives (λ early is. c.in_ok-size.ensures.settled kept early is (refl {a = false}))
          (λ clean is. c.session_bytes.ensures.settled clean is (passed_on c.from_residual-in_err-session_bytes-in-Some.result c.session_bytes.result _ c.in_err-session_bytes-in-Some.was c.from_residual-in_err-session_bytes-in-Some.ensures.1 unspent)) clean is;
      survives = survives_all old mid new _ _ c.find_upload.ensures.survives c.session_bytes.ensures.survives;
      same = c.session_bytes.ensures.same;
    }
