use Rattle.std.proofs.Common.{◌∙◌, None, Some, refl, ap}
use Rattle.sqlite.specs.Held.{state}
use Rattle.store_statements.specs.Held.{held}
use Rattle.store_statements.proofs.Transactions.{registry, survives_all}
use Rattle.store_bytes.proofs.Readings.{as_was_here, readable_still}
use Rattle.store_reads.proofs.ReadSequences.{stays_behind, told_behind}
use Rattle.store_reads.proofs.WorldReads.{blob_by, bytes_kept}
use Rattle.store_reads.proofs.blobs.blob_bytes.Goals as goal

pub returns-in-Ok : goal.returns-in-Ok
returns-in-Ok g c =
    let kept = g.C.Contents.layout c.args.contents.now in
    let old = state g.S.Store c.args.conn.now in
    let mid = state g.S.Store c.find_blob_link.new.conn in
    let new = state g.S.Store c.content.new.conn in
    record {
      found = λ readable clean is.
          told_behind old mid new c.content.ensures.survives (λ early is. c.in-Ok-Some.ensures.settled kept early is refl) (λ early stays.
          ap Some (bytes_kept kept old mid c.in-Ok-Some.link.content.id c.in-Ok.bytes.items stays.1 (c.in-Ok.ensures.found (readable_still g.C.Contents c.args.contents.now c.content.new.contents old mid stays.1 readable) clean stays.0))
          ∙ blob_by (held kept old) c.args.repo.now c.args.digest.now (registry old is) (Some c.in-Ok-Some.link)
          (rw (c.in-Ok-Some.field-0-is, c.as_str.ensures.text, c.as_str-2.ensures.text) at (c.in-Ok-Some.ensures.found kept early is))) clean is;
      settled = λ clean is unspent. stays_behind old mid new c.content.ensures.survives (λ early is. c.in-Ok-Some.ensures.settled kept early is refl) (λ clean is. c.in-Ok.ensures.settled clean is refl) clean is;
      survives = survives_all old mid new _ _ c.find_blob_link.ensures.survives c.content.ensures.survives;
      same = c.content.ensures.same;
    }

pub returns-in-Err-content : goal.returns-in-Err-content
returns-in-Err-content g c =
    let kept = g.C.Contents.layout c.args.contents.now in
    let old = state g.S.Store c.args.conn.now in
    let mid = state g.S.Store c.find_blob_link.new.conn in
    let new = state g.S.Store c.content.new.conn in
    record {
      found = λ readable clean is. tt;
      settled = λ clean is unspent. stays_behind old mid new c.content.ensures.survives (λ early is. c.in-Ok-Some.ensures.settled kept early is refl) (λ clean is. c.in-Err-content.ensures.settled clean is unspent) clean is;
      survives = survives_all old mid new _ _ c.find_blob_link.ensures.survives c.content.ensures.survives;
      same = c.content.ensures.same;
    }

pub returns-in-Ok-None : goal.returns-in-Ok-None
returns-in-Ok-None g c =
    let kept = g.C.Contents.layout c.args.contents.now in
    record {
      found = λ readable clean is.
          blob_by (held kept (state g.S.Store c.args.conn.now)) c.args.repo.now c.args.digest.now (registry (state g.S.Store c.args.conn.now) is) None
          (rw (c.in-Ok-None.field-0-is, c.as_str.ensures.text, c.as_str-2.ensures.text) at (c.in-Ok-None.ensures.found kept clean is));
      settled = c.in-Ok-None.ensures.settled kept;
      survives = c.find_blob_link.ensures.survives;
      same = as_was_here g.C.Contents c.args.contents.now;
    }

pub returns-in-Err : goal.returns-in-Err
returns-in-Err g c =
    let kept = g.C.Contents.layout c.args.contents.now in
    record {
      found = λ readable clean is. tt;
      settled = λ clean is unspent. c.in-Err.ensures.settled kept clean is unspent;
      survives = c.find_blob_link.ensures.survives;
      same = as_was_here g.C.Contents c.args.contents.now;
    }
