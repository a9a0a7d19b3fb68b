use Rattle.std.proofs.Common.{◌∙◌, false, map, ap, arith, refl}
use Rattle.std.specs.List.{concat}
use Rattle.std.proofs.lemmas.List.{take_all}
use Rattle.std.proofs.lemmas.Result.{IfOk-from_err}
use Rattle.sqlite.specs.Held.{state}
use Rattle.store_statements.specs.World.{content_at}
use Rattle.store_statements.specs.Held.{held}
use Rattle.store_statements.proofs.Checks.{survives_here}
use Rattle.store_statements.proofs.Transactions.{survives_all}
use Rattle.store_bytes.proofs.Readings.{as_was_here, as_was_then, readable_before, stays_from}
use Rattle.store_reads.proofs.ReadSequences.{stays_here, stays_behind, told_behind, passed_on, contents_more}
use Rattle.store_reads.proofs.Passing.{content_from, extended_so}
use Rattle.store_reads.proofs.contents.joined.Goals as goal

pub loop-id-init : goal.loop-id-init
loop-id-init g c = record {
  survives = survives_here (state g.S.Store c.args.conn.now);
  same = as_was_here g.C.Contents c.args.contents.now;
  settled = λ clean is. stays_here (state g.S.Store c.args.conn.now) is;
  bytes = λ readable clean is. c.in_ok-bytes.ensures;
}

pub loop-id-preserved : goal.loop-id-preserved
loop-id-preserved g c =
    let kept = g.C.Contents.layout c.args.contents.now in
    let old = state g.S.Store c.args.conn.now in
    let mid = state g.S.Store c.loop-id.conn in
    let new = state g.S.Store c.content.new.conn in
    let from = c.args.contents.now in
    let here = c.loop-id.contents in
    let to = c.content.new.contents in
    let first = c.loop-id.invariant.same in
    let stays = stays_from g.C.Contents g.S.Store from here to first c.loop-id.conn c.content.new.conn c.content.result c.content.ensures.settled in
    let before = readable_before g.C.Contents from here to old c.content.ensures.same in
    let finds = content_from g.C.Contents g.S.Store from here to first c.loop-id.conn c.content.new.conn c.content.result _ c.content.ensures.found in
    record {
      survives = survives_all old mid new _ _ c.loop-id.invariant.survives c.content.ensures.survives;
      same = as_was_then g.C.Contents from here to first c.content.ensures.same;
      settled = stays_behind old mid new c.content.ensures.survives c.loop-id.invariant.settled
          (λ clean is. stays clean is (c.in_ok-extend.ensures.storage (refl {a = false})));
      bytes = λ readable clean is.
          told_behind old mid new c.content.ensures.survives c.loop-id.invariant.settled (λ early kept_so.
          contents_more kept old.now mid.now c.args.ids.now c.loop-id.id-index _ c.loop-id.bytes.items c.extend.new.bytes.items kept_so.1 (omega arith)
          (c.loop-id.invariant.bytes (before readable) early is)
          (extended_so (held kept mid).contents _ c.loop-id.bytes.items c.extend.new.bytes.items c.content.result
          (finds old kept_so.1 readable clean kept_so.0)
          c.in_ok-extend.ensures.extended)) clean is;
    }

pub returns : goal.returns
returns g c =
    let kept = g.C.Contents.layout c.args.contents.now in
    record {
      found = λ readable clean is.
          c.loop-id.invariant.bytes readable clean is ∙ ap (λ ids. concat (map (λ id. content_at (held kept (state g.S.Store c.args.conn.now)).contents id.id) ids)) (take_all c.loop-id.id-index c.args.ids.now (omega arith));
      settled = λ clean is unspent. c.loop-id.invariant.settled clean is;
      survives = c.loop-id.invariant.survives;
      same = c.loop-id.invariant.same;
    }

pub returns-in_err-bytes : goal.returns-in_err-bytes
returns-in_err-bytes g c = record {
  found = λ readable clean is. IfOk-from_err c.from_residual.result _ c.from_residual.ensures.0;
  settled = λ clean is unspent. stays_here (state g.S.Store c.args.conn.now) is;
  survives = survives_here (state g.S.Store c.args.conn.now);
  same = as_was_here g.C.Contents c.args.contents.now;
}

pub returns-in_err-extend : goal.returns-in_err-extend
returns-in_err-extend g c =
    let old = state g.S.Store c.args.conn.now in
    let mid = state g.S.Store c.loop-id.conn in
    let new = state g.S.Store c.content.new.conn in
    let from = c.args.contents.now in
    let here = c.loop-id.contents in
    let to = c.content.new.contents in
    let first = c.loop-id.invariant.same in
    let stays = stays_from g.C.Contents g.S.Store from here to first c.loop-id.conn c.content.new.conn c.content.result c.content.ensures.settled in
    let was = passed_on c.from_residual-in_err-extend.result c.extend.result _ c.in_err-extend.was c.from_residual-in_err-extend.ensures.1 in
    record {
      found = λ readable clean is. IfOk-from_err c.from_residual-in_err-extend.result _ c.from_residual-in_err-extend.ensures.0;
      settled = λ clean is unspent.
          stays_behind old mid new c.content.ensures.survives c.loop-id.invariant.settled
          (λ clean is. stays clean is (c.extend.ensures.storage (was unspent))) clean is;
      survives = survives_all old mid new _ _ c.loop-id.invariant.survives c.content.ensures.survives;
      same = as_was_then g.C.Contents from here to first c.content.ensures.same;
    }
