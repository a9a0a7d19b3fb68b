use Rattle.std.proofs.Common.{◌∙◌, refl, false}
use Rattle.std.proofs.lemmas.Result.{IfOk-from_err}
use Rattle.sqlite.specs.Held.{state}
use Rattle.store_statements.proofs.Transactions.{survives_all}
use Rattle.store_bytes.proofs.Readings.{as_was_here, readable_still}
use Rattle.store_reads.proofs.ReadSequences.{stays_behind, told_behind, passed_on}
use Rattle.store_reads.proofs.SessionBytes.{pieces_joined}
use Rattle.store_reads.proofs.sessions.session_bytes.Goals as goal

pub returns : goal.returns
returns g c =
    let kept = g.C.Contents.layout c.args.contents.now in
    let old = state g.S.Store c.args.conn.now in
    let mid = state g.S.Store c.pieces_in_order.new.conn in
    let new = state g.S.Store c.joined.new.conn in
    record {
      found = λ readable clean is.
          told_behind old mid new c.joined.ensures.survives (λ early is. c.in_ok-ids.ensures.settled kept early is (refl {a = false})) (λ early stays.
          pieces_joined kept old.now mid.now _ c.deref.result.now c.joined.result stays.1
          (c.deref.ensures.value ∙ c.in_ok-ids.ensures.found kept early is) (c.joined.ensures.found (readable_still g.C.Contents c.args.contents.now c.joined.new.contents old mid stays.1 readable) clean stays.0)) clean is;
      settled = λ clean is unspent.
          stays_behind old mid new c.joined.ensures.survives (λ early is. c.in_ok-ids.ensures.settled kept early is (refl {a = false})) (λ clean is. c.joined.ensures.settled clean is unspent) clean is;
      survives = survives_all old mid new _ _ c.pieces_in_order.ensures.survives c.joined.ensures.survives;
      same = c.joined.ensures.same;
    }

pub returns-in_err-ids : goal.returns-in_err-ids
returns-in_err-ids g c =
    let kept = g.C.Contents.layout c.args.contents.now in
    record {
      found = λ readable clean is. IfOk-from_err c.from_residual.result _ c.from_residual.ensures.0;
      settled = λ clean is unspent. c.pieces_in_order.ensures.settled kept clean is (passed_on c.from_residual.result c.pieces_in_order.result _ c.in_err-ids.was c.from_residual.ensures.1 unspent);
      survives = c.pieces_in_order.ensures.survives;
      same = as_was_here g.C.Contents c.args.contents.now;
    }
