use Rattle.sqlite.specs.Held.{state}
use Rattle.store_statements.proofs.Sessions.{sessions_dropped}
use Rattle.store_statements.specs.Held.{held}
use Rattle.store_statements.proofs.PlacesKept.{places_as}
use Rattle.store_statements.proofs.Alone.{commits_as, less}
use Rattle.store_statements.proofs.Transactions.{makes, registry}
use Rattle.store_statements.proofs.Crashes.{crash_made}
use Rattle.std.proofs.Common.{refl, ◌≡◌, ap}
use Rattle.registry_model.specs.Command.{drop_sessions}
use Rattle.store_statements.specs.Keys.{of_first}
use Rattle.store_statements.specs.Steps.{sessions_without}
use Rattle.store_statements.specs.Tables.{Tables}
use Rattle.store_writes.proofs.session_changes.drop_sessions.Goals as goal

pub returns : goal.returns
returns g c = record {
  made = λ l clean is.
      let old = state g.S.Store c.args.conn.now in
      let new = state g.S.Store c.make.new.conn in
      less c.make.result (λ it. makes new _ _ (commits_as new _ it.0 (rw c.as_str-repo.ensures.text at it.1)) (sessions_dropped (held l old) c.args.repo.now (registry old is))) (c.make.ensures.made l tt (λ early. tt) clean is);
  stays = λ l clean is. less c.make.result (λ it. ap (λ (t : Tables). t.contents) it.1) (c.make.ensures.made l tt (λ early. tt) clean is);
  places = λ l clean is. less c.make.result (λ it. places_as _ _ _ it.1 refl refl) (c.make.ensures.made l tt (λ early. tt) clean is);
  memory = λ l. c.make.ensures.memory l tt (λ early. tt);
  back = λ l. c.make.ensures.back l tt (λ early. tt);
  crash = λ l clean is.
      let old = state g.S.Store c.args.conn.now in
      crash_made g.S.Store c.args.conn.now c.make.new.conn (λ w. drop_sessions w c.args.repo.now) c.args.conn.now (λ t u. u ≡ sessions_without (of_first c.as_str-repo.result.now) t) is (is, refl)
      (λ s it. makes s _ _ (commits_as s _ it.0 (rw c.as_str-repo.ensures.text at it.1)) (sessions_dropped (held l old) c.args.repo.now (registry old is))) c.make.result c.make.result (λ X x. x)
      (c.make.ensures.crash l tt (λ early. tt) clean is);
  survives = c.make.ensures.survives;
}

pub make-requires : goal.make-requires
make-requires g c = record { fits = tt }
