use Rattle.std.proofs.Common.{◌∙◌, inl, refl}
use Rattle.std.specs.Prelude.{Bool}
use Rattle.sqlite.specs.State.{HasCleanDisk}
use Rattle.sqlite.specs.Held.{state}
use Rattle.store_contents.specs.Places.{bytes_in}
use Rattle.store_statements.proofs.Checks.{survives_here}
use Rattle.store_schema.proofs.Selects.{survives_both}
use Rattle.store_statements.proofs.Crashes.{back_either, kept_by, kept_stayed}
use Rattle.store_statements.proofs.SettledAfter.{stays_read, stays_failed, is_memory, back_left}
use Rattle.store_statements.proofs.Transactions.{survives_all}
use Rattle.store_statements.proofs.ContentDigests.{told, other}
use Rattle.store_statements.proofs.CleanBefore.{was_clean}
use Rattle.store_statements.proofs.contents.has_digest_in_pack.Goals as goal

pub returns-in-Ok : goal.returns-in-Ok
returns-in-Ok g c =
    let old = state g.S.Store c.args.conn.now in
    record {
      found = λ file clean is. c.in-Ok.ensures.found file clean is.holds.contents ∙ told c.args.digest.now c.in-Some.sha256.now (bytes_in old.now file c.args.content.id) c.in-Some.ensures.cases;
      settled = λ file clean is unspent. stays_read old (state g.S.Store c.is_hashed_in_pack.new.conn) is (c.in-Ok.ensures.same clean is.holds.contents.rows);
      kept = λ file clean is. kept_by g.S.Store g.met.S.Store.settled c.args.conn.now c.is_hashed_in_pack.new.conn (c.is_hashed_in_pack.ensures.survives (λ early. is.holds.contents.rows)) (back_left old (state g.S.Store c.is_hashed_in_pack.new.conn) is (inl (c.in-Ok.ensures.same clean is.holds.contents.rows))) clean is;
      survives = c.is_hashed_in_pack.ensures.lasts;
    }

pub returns-in-Err : goal.returns-in-Err
returns-in-Err g c =
    let old = state g.S.Store c.args.conn.now in
    let mid = state g.S.Store c.is_hashed_in_pack.new.conn in
    let new = state g.S.Store c.checked_fault.new.conn in
    record {
      found = λ file clean is. tt;
      settled = λ file clean is unspent.
          let early : HasCleanDisk mid = was_clean c.checked_fault.ensures.survives clean in
          stays_failed old mid new is (c.in-Err.ensures.failed early is.holds.contents.rows) (c.checked_fault.ensures.memory clean (is_memory Bool _ unspent));
      kept = λ file clean is.
          let early : HasCleanDisk mid = was_clean c.checked_fault.ensures.survives clean in
          kept_by g.S.Store g.met.S.Store.settled c.args.conn.now c.checked_fault.new.conn (survives_both old mid new (c.is_hashed_in_pack.ensures.survives (λ early. is.holds.contents.rows)) c.checked_fault.ensures.survives)
          (back_either g.S.Store c.args.conn.now c.is_hashed_in_pack.new.conn c.checked_fault.new.conn is (back_left old mid is (c.in-Err.ensures.failed early is.holds.contents.rows)) (c.checked_fault.ensures.left clean)) clean is;
      survives = survives_all old mid new _ _ c.is_hashed_in_pack.ensures.lasts c.checked_fault.ensures.survives;
    }

pub returns-in-None : goal.returns-in-None
returns-in-None g c =
    let old = state g.S.Store c.args.conn.now in
    record {
      found = λ file clean is. other c.args.digest.now (bytes_in old.now file c.args.content.id) c.in-None.ensures.cases;
      settled = λ file clean is unspent. (is, refl);
      kept = λ file clean is. kept_stayed g.S.Store g.met.S.Store.settled c.args.conn.now c.args.conn.now is (is, refl);
      survives = survives_here old;
    }
