use Rattle.std.proofs.Common.{◌≡◌, ◌∙◌, Some, refl, sym}
use Rattle.std.specs.Prelude.{IfSome}
use Rattle.sqlite.specs.Held.{state}
use Rattle.registry_model.specs.Lookups.{session_size_at}
use Rattle.registry_model.specs.Sessions.{finished}
use Rattle.store_statements.proofs.Transactions.{survives_all}
use Rattle.store_reads.specs.Usages.{Foretells}
use Rattle.store_reads.proofs.Behind.{found_behind, tells_behind, stays_behind, kept_behind}
use Rattle.store_reads.proofs.change_lookups.finish_change.Goals as goal

pub returns-in-Ok-Some : goal.returns-in-Ok-Some
returns-in-Ok-Some g c = record {
  found = λ l clean is.
      tells_behind g.S.Store c.args.conn.now c.session_size.new.conn (λ mid is. c.in-Ok-Some.ensures.settled l mid is refl) c.end_change.new.conn c.end_change.ensures.survives
      c.end_change.result (λ w change. IfSome change (Foretells w c.args.repo.now (λ r. finished r c.args.number c.args.digest.now c.args.bytes.now)))
      (c.end_change.ensures.found l (found_behind g.S.Store c.args.conn.now c.session_size.new.conn (λ mid is. c.in-Ok-Some.ensures.settled l mid is refl)
      (λ w. session_size_at w c.args.repo.now c.args.number ≡ Some c.in-Ok-Some.size) is (λ mid. sym (c.in-Ok-Some.ensures.found l mid is) ∙ c.in-Ok-Some.field-0-is)) c.args.bytes.now refl) clean is;
  settled = λ l. stays_behind g.S.Store c.args.conn.now c.session_size.new.conn (λ mid is. c.in-Ok-Some.ensures.settled l mid is refl) c.end_change.new.conn c.end_change.ensures.survives
      c.end_change.result (c.end_change.ensures.settled l);
  kept = λ l. kept_behind g.S.Store c.args.conn.now c.session_size.new.conn (λ mid is. c.in-Ok-Some.ensures.settled l mid is refl) c.end_change.new.conn c.end_change.ensures.survives (c.end_change.ensures.kept l);
  survives = survives_all (state g.S.Store c.args.conn.now) (state g.S.Store c.session_size.new.conn) (state g.S.Store c.end_change.new.conn) _ _ c.session_size.ensures.survives c.end_change.ensures.survives;
}

pub returns-in-Ok-None : goal.returns-in-Ok-None
returns-in-Ok-None g c = record {
  found = λ l clean is. tt;
  settled = c.in-Ok-None.ensures.settled;
  kept = c.session_size.ensures.kept;
  survives = c.session_size.ensures.survives;
}

pub returns-in-Err : goal.returns-in-Err
returns-in-Err g c = record {
  found = λ l clean is. tt;
  settled = λ l clean is unspent. c.in-Err.ensures.settled l clean is unspent;
  kept = c.session_size.ensures.kept;
  survives = c.session_size.ensures.survives;
}
