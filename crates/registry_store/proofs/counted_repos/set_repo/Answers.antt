use Rattle.sqlite.specs.Held.{state}
use Rattle.store_reads.proofs.CleanBefore.{was_clean}
use Rattle.registry_store.proofs.KnownWorlds.{requotes, unfollowed}
use Rattle.registry_store.proofs.counted_repos.set_repo.Goals as goal

pub returns-in-Ok : goal.returns-in-Ok
returns-in-Ok g c = record {
  made = λ l clean is. c.in-Ok.ensures.made l clean is;
  places = λ l clean is. c.in-Ok.ensures.places l clean is;
  memory = λ l clean is wanting. absurd (cc);
  crash = λ l clean is. c.in-Ok.ensures.crash l clean is;
  survives = c.set_repo.ensures.survives;
  known = λ l known clean is sound.
      requotes l c.args.known.now c.set_quota.new.self (state g.S.Store c.args.conn.now) (state g.S.Store c.set_repo.new.conn) c.args.name.now c.args.quota.bytes
      (known (was_clean (state g.S.Store c.args.conn.now) (state g.S.Store c.set_repo.new.conn) c.set_repo.ensures.survives clean)) c.set_quota.ensures (c.in-Ok.ensures.made l clean is).1;
}

pub returns-in-Err : goal.returns-in-Err
returns-in-Err g c = record {
  made = λ l clean is. tt;
  places = λ l clean is. tt;
  memory = λ l clean is wanting. c.in-Err.ensures.memory l clean is wanting;
  crash = λ l clean is. c.in-Err.ensures.crash l clean is;
  survives = c.set_repo.ensures.survives;
  known = λ l known clean is sound.
      unfollowed {A = Unit {0}} l c.args.known.now (state g.S.Store c.args.conn.now) (state g.S.Store c.set_repo.new.conn) c.in-Err.fault
      (known (was_clean (state g.S.Store c.args.conn.now) (state g.S.Store c.set_repo.new.conn) c.set_repo.ensures.survives clean)) sound (λ wanting. c.in-Err.ensures.memory l clean is wanting);
}
