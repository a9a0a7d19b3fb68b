use Rattle.std.proofs.Common.{sym, refl}
use Rattle.sqlite.specs.Held.{state}
use Rattle.registry_model.specs.declared.quota.Usage.{Usage}
use Rattle.store_statements.proofs.Checks.{survives_here}
use Rattle.store_reads.proofs.CleanBefore.{was_clean}
use Rattle.registry_store.proofs.KnownWorlds.{keeps, unfollowed}
use Rattle.registry_store.proofs.usage_reads.recalled_usage.Goals as goal

pub returns-in-Some : goal.returns-in-Some
returns-in-Some g c = record {
  found = λ l known clean is. known clean c.args.repo.now c.in-Some.usage (sym c.in-Some.ensures);
  settled = λ l clean is sound. (is, refl);
  survives = survives_here (state g.S.Store c.args.conn.now);
  known = λ l known clean is sound. known clean;
}

pub returns-in-Ok : goal.returns-in-Ok
returns-in-Ok g c = record {
  found = λ l known clean is. c.in-Ok.ensures.found l clean is;
  settled = c.in-Ok.ensures.settled;
  survives = c.usage-2.ensures.survives;
  known = λ l known clean is sound.
      keeps l c.args.known.now c.keep.new.self (state g.S.Store c.args.conn.now) (state g.S.Store c.usage-2.new.conn) c.args.repo.now c.in-Ok.usage
      (known (was_clean (state g.S.Store c.args.conn.now) (state g.S.Store c.usage-2.new.conn) c.usage-2.ensures.survives clean)) c.keep.ensures (c.in-Ok.ensures.found l clean is) (c.in-Ok.ensures.settled l clean is refl).1;
}

pub returns-in-Err : goal.returns-in-Err
returns-in-Err g c = record {
  found = λ l known clean is. tt;
  settled = λ l clean is unspent. c.in-Err.ensures.settled l clean is unspent;
  survives = c.usage-2.ensures.survives;
  known = λ l known clean is sound.
      unfollowed {A = Usage} l c.args.known.now (state g.S.Store c.args.conn.now) (state g.S.Store c.usage-2.new.conn) c.in-Err.fault
      (known (was_clean (state g.S.Store c.args.conn.now) (state g.S.Store c.usage-2.new.conn) c.usage-2.ensures.survives clean)) sound (λ wanting. c.in-Err.ensures.settled l clean is sound);
}
