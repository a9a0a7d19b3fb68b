use Rattle.std.proofs.Common.{◌∙◌, cond, Some, None, refl, sym}
use Rattle.sqlite.specs.State.{HasCleanDisk}
use Rattle.sqlite.specs.Held.{state}
use Rattle.store_statements.specs.Held.{held}
use Rattle.store_statements.proofs.SettledAfter.{stays_then}
use Rattle.store_statements.proofs.Transactions.{survives_all}
use Rattle.store_writes.proofs.KnownEnds.{known_found, no_known, digest_made, unspent_before}
use Rattle.store_statements.proofs.CleanBefore.{was_clean}
use Rattle.store_statements.proofs.Crashes.{kept_then}
use Rattle.store_writes.proofs.whole_sessions.find_known.Goals as goal

pub returns-in-Ok-Some : goal.returns-in-Ok-Some
returns-in-Ok-Some g c =
    let old = state g.S.Store c.args.conn.now in
    let mid = state g.S.Store c.find_whole.new.conn in
    let new = state g.S.Store c.has_digest.new.conn in
    let early : HasCleanDisk new → HasCleanDisk mid = was_clean c.has_digest.ensures.survives in
    record {
      found = λ l kind clean is.
          let stays = c.in-Ok-Some.ensures.settled l (early clean) is refl in
          known_found old mid stays c.args.repo.now c.args.number c.args.digest.now c.in-Ok-Some.link c.with_digest.result (sym c.in-Ok-Some.field-0-is ∙ c.in-Ok-Some.ensures.found l (early clean) is)
          (digest_made (held l mid) c.args.digest.now c.in-Ok-Some.link c.has_digest.result c.with_digest.result c.with_digest.ensures (c.has_digest.ensures.found l kind clean stays.0));
      settled = λ l kind clean is unspent.
          let stays = c.in-Ok-Some.ensures.settled l (early clean) is refl in
          stays_then old mid new stays (c.has_digest.ensures.settled l kind clean stays.0 (unspent_before (λ so. cond so (Some c.in-Ok-Some.link) None) c.has_digest.result c.with_digest.result c.with_digest.ensures unspent));
      kept = λ l kind clean is.
          let stays = c.in-Ok-Some.ensures.settled l (early clean) is refl in
          kept_then old mid new is stays (c.has_digest.ensures.kept l kind clean stays.0);
      survives = survives_all old mid new _ _ c.find_whole.ensures.survives c.has_digest.ensures.survives;
    }

pub returns-in-Ok-None : goal.returns-in-Ok-None
returns-in-Ok-None g c = record {
  found = λ l kind clean is. no_known (held l (state g.S.Store c.args.conn.now)) c.args.repo.now c.args.number c.args.digest.now (sym c.in-Ok-None.field-0-is ∙ c.in-Ok-None.ensures.found l clean is);
  settled = λ l kind clean is unspent. c.in-Ok-None.ensures.settled l clean is refl;
  kept = λ l kind. c.find_whole.ensures.kept l;
  survives = c.find_whole.ensures.survives;
}

pub find_whole-requires : goal.find_whole-requires
find_whole-requires g c = record { fits = c.requires.fits }

pub returns-in-Err : goal.returns-in-Err
returns-in-Err g c = record {
  found = λ l kind clean is. tt;
  settled = λ l kind clean is unspent. c.in-Err.ensures.settled l clean is unspent;
  kept = λ l kind. c.find_whole.ensures.kept l;
  survives = c.find_whole.ensures.survives;
}
