use Rattle.std.proofs.Common.{sym}
use Rattle.store_bytes.proofs.Readings.{as_was_here}
use Rattle.store_reads.proofs.sessions.session_numbered.Goals as goal

pub returns-then-number-le-LARGEST : goal.returns-then-number-le-LARGEST
returns-then-number-le-LARGEST g c = record {
  found = c.session.ensures.found;
  settled = c.session.ensures.settled;
  survives = c.session.ensures.survives;
  same = c.session.ensures.same;
}

pub returns-in-Ok : goal.returns-in-Ok
returns-in-Ok g c = record {
  found = λ readable clean is. sym (c.in-Ok.ensures.found (g.C.Contents.layout c.args.contents.now) clean is);
  settled = c.in-Ok.ensures.settled (g.C.Contents.layout c.args.contents.now);
  survives = c.expect_no_session.ensures.survives;
  same = as_was_here g.C.Contents c.args.contents.now;
}

pub returns-in-Err : goal.returns-in-Err
returns-in-Err g c = record {
  found = λ readable clean is. tt;
  settled = λ clean is unspent. c.in-Err.ensures.settled (g.C.Contents.layout c.args.contents.now) clean is unspent;
  survives = c.expect_no_session.ensures.survives;
  same = as_was_here g.C.Contents c.args.contents.now;
}
