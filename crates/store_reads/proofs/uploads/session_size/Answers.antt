use Rattle.std.proofs.Common.{length, ap, sym}
use Rattle.std.specs.Prelude.{option_map}
use Rattle.sqlite.specs.Held.{state}
use Rattle.store_statements.proofs.SessionReads.{session_size_found}
use Rattle.store_statements.specs.Held.{held}
use Rattle.store_statements.proofs.Transactions.{registry}
use Rattle.store_reads.proofs.WorldReads.{told}
use Rattle.store_reads.proofs.uploads.session_size.Goals as goal

pub returns-then-number-le-LARGEST : goal.returns-then-number-le-LARGEST
returns-then-number-le-LARGEST g c = record {
  found = λ l clean is.
      told c.find_upload.result _ _ (sym (session_size_found (held l (state g.S.Store c.args.conn.now)) c.args.repo.now c.args.number (registry (state g.S.Store c.args.conn.now) is))) (rw c.as_str.ensures.text at (c.find_upload.ensures.found l clean is));
  settled = c.find_upload.ensures.settled;
  kept = c.find_upload.ensures.kept;
  survives = c.find_upload.ensures.survives;
}

pub returns-in-Ok : goal.returns-in-Ok
returns-in-Ok g c = record {
  found = λ l clean is. ap (option_map length) (sym (c.in-Ok.ensures.found l clean is));
  settled = c.in-Ok.ensures.settled;
  kept = c.expect_no_session.ensures.kept;
  survives = c.expect_no_session.ensures.survives;
}

pub returns-in-Err : goal.returns-in-Err
returns-in-Err g c = record {
  found = λ l clean is. tt;
  settled = λ l clean is unspent. c.in-Err.ensures.settled l clean is unspent;
  kept = c.expect_no_session.ensures.kept;
  survives = c.expect_no_session.ensures.survives;
}
