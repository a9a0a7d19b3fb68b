use Rattle.std.proofs.Common.{◌∙◌, sym, refl, ap}
use Rattle.sqlite.specs.State.{HasCleanDisk}
use Rattle.sqlite.specs.Held.{state}
use Rattle.store_statements.proofs.RepoWorlds.{has_repo_found}
use Rattle.store_statements.specs.Held.{held}
use Rattle.store_statements.proofs.PlacesKept.{places_as}
use Rattle.store_statements.proofs.Alone.{less}
use Rattle.store_statements.proofs.CleanBefore.{was_clean}
use Rattle.store_statements.proofs.Transactions.{makes, registry}
use Rattle.store_writes.proofs.PutLemmas.{level_put}
use Rattle.store_statements.proofs.Crashes.{crash_made}
use Rattle.registry_model.specs.Command.{grant}
use Rattle.store_writes.specs.Puts.{LevelIsPut}
use Rattle.store_statements.specs.Tables.{Tables}
use Rattle.store_writes.proofs.grant_changes.grant.Goals as goal

pub returns : goal.returns
returns g c = record {
  made = λ l there clean is.
      let old = state g.S.Store c.args.conn.now in
      let new = state g.S.Store c.make.new.conn in
      let early : HasCleanDisk old = was_clean c.make.ensures.survives clean in
      less c.make.result
      (λ it. makes new (held l new) _ it.0 (level_put (held l old) (held l new) c.args.token.now c.args.name.now c.args.level (registry old is) (sym (has_repo_found (held l old) c.args.name.now) ∙ there early) (rw (c.as_str.ensures.text, c.as_str-2.ensures.text) at it.1)))
      (c.make.ensures.made l tt (λ clean. tt) clean is);
  memory = λ l. c.make.ensures.memory l tt (λ clean. tt);
  back = λ l. c.make.ensures.back l tt (λ clean. tt);
  crash = λ l there clean is.
      let old = state g.S.Store c.args.conn.now in
      let early : HasCleanDisk old = was_clean c.make.ensures.survives clean in
      crash_made g.S.Store c.args.conn.now c.make.new.conn (λ w. grant w c.args.token.now c.args.name.now c.args.level) c.args.conn.now (λ t u. LevelIsPut t u c.as_str.result.now c.as_str-2.result.now c.args.level) is (is, refl)
      (λ s it. makes s (held l s) _ it.0 (level_put (held l old) (held l s) c.args.token.now c.args.name.now c.args.level (registry old is) (sym (has_repo_found (held l old) c.args.name.now) ∙ there early) (rw (c.as_str.ensures.text, c.as_str-2.ensures.text) at it.1))) c.make.result c.make.result (λ X x. x)
      (c.make.ensures.crash l tt (λ clean. tt) clean is);
  stays = λ l clean is. less c.make.result (λ it. ap (λ (t : Tables). t.contents) it.1.others) (c.make.ensures.made l tt (λ early. tt) clean is);
  places = λ l clean is. less c.make.result (λ it. places_as _ _ _ it.1.others refl refl) (c.make.ensures.made l tt (λ early. tt) clean is);
  survives = c.make.ensures.survives;
}

pub make-requires : goal.make-requires
make-requires g c = record { fits = tt }
