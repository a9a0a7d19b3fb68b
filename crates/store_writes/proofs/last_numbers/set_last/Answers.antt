use Rattle.std.proofs.Common.{◌≡◌, ◌≤◌, ap, refl, subst}
use Rattle.sqlite.specs.State.{HasCleanDisk}
use Rattle.sqlite.specs.Held.{state}
use Rattle.registry_copy.specs.Restoring.{set_last}
use Rattle.store_statements.specs.Changes.{with_last}
use Rattle.store_statements.specs.Held.{held}
use Rattle.store_statements.specs.Keys.{of_first}
use Rattle.store_statements.specs.Steps.{repos_changed}
use Rattle.store_statements.specs.Tables.{Tables}
use Rattle.store_statements.proofs.Alone.{less}
use Rattle.store_statements.proofs.CleanBefore.{was_clean}
use Rattle.store_statements.proofs.Crashes.{crash_made}
use Rattle.store_statements.proofs.PlacesKept.{places_as}
use Rattle.store_statements.proofs.RepoWorlds.{last_number_found}
use Rattle.store_statements.proofs.Transactions.{makes, registry}
use Rattle.store_writes.proofs.LastNumbers.{last_put}
use Rattle.store_writes.proofs.last_numbers.set_last.Goals as goal

pub returns : goal.returns
returns g c = record {
  made = λ l rises clean is.
      let old = state g.S.Store c.args.conn.now in
      let new = state g.S.Store c.make.new.conn in
      let early : HasCleanDisk old = was_clean c.make.ensures.survives clean in
      less c.make.result
      (λ it. makes new (held l new) _ it.0 (last_put (held l old) (held l new) c.args.repo.now c.args.number (registry old is) (subst (λ n. n ≤ c.args.number) (last_number_found (held l old) c.args.repo.now) (rises early)) (rw c.as_str-repo.ensures.text at it.1)))
      (c.make.ensures.made l tt (λ clean. tt) clean is);
  memory = λ l. c.make.ensures.memory l tt (λ clean. tt);
  back = λ l. c.make.ensures.back l tt (λ clean. tt);
  crash = λ l rises clean is.
      let old = state g.S.Store c.args.conn.now in
      let early : HasCleanDisk old = was_clean c.make.ensures.survives clean in
      crash_made g.S.Store c.args.conn.now c.make.new.conn (λ w. set_last w c.args.repo.now c.args.number) c.args.conn.now (λ t u. u ≡ repos_changed (of_first c.as_str-repo.result.now) (with_last c.args.number) t) is (is, refl)
      (λ s it. makes s (held l s) _ it.0 (last_put (held l old) (held l s) c.args.repo.now c.args.number (registry old is) (subst (λ n. n ≤ c.args.number) (last_number_found (held l old) c.args.repo.now) (rises early)) (rw c.as_str-repo.ensures.text at it.1))) c.make.result c.make.result (λ X x. x)
      (c.make.ensures.crash l tt (λ clean. tt) clean is);
  stays = λ l clean is. less c.make.result (λ it. ap (λ (t : Tables). t.contents) it.1) (c.make.ensures.made l tt (λ early. tt) clean is);
  places = λ l clean is. less c.make.result (λ it. places_as _ _ _ it.1 refl refl) (c.make.ensures.made l tt (λ early. tt) clean is);
  survives = c.make.ensures.survives;
}

pub make-requires : goal.make-requires
make-requires g c = record { fits = c.requires.fits }
