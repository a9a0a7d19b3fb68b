use Rattle.registry_model.specs.Command.{set_repo}
use Rattle.store_writes.specs.Puts.{QuotaIsPut}
use Rattle.store_writes.proofs.Transacted.{crash_step, made_step}
use Rattle.store_writes.proofs.PutLemmas.{quota_put}
use Rattle.store_statements.specs.Tables.{Tables}
use Rattle.store_statements.proofs.PlacesKept.{places_as}
use Rattle.store_statements.proofs.Alone.{less}
use Rattle.std.proofs.Common.{ap, refl}
use Rattle.store_writes.proofs.quota_changes.set_repo.Goals as goal

pub returns : goal.returns
returns g c = record {
  made = λ l. made_step g.S.Store c.args.conn.now c.make.new.conn c.make.result (λ w. set_repo w c.args.name.now c.args.quota.bytes) (λ t u. QuotaIsPut t u c.args.name.now c.args.quota.bytes) (rw c.as_str.ensures.text at (c.make.ensures.made l tt (λ clean. tt)))
      (λ t u is it. quota_put t u c.args.name.now c.args.quota.bytes is it);
  memory = λ l. c.make.ensures.memory l tt (λ clean. tt);
  back = λ l. c.make.ensures.back l tt (λ clean. tt);
  crash = λ l. crash_step g.S.Store c.args.conn.now c.make.new.conn c.make.result (λ w. set_repo w c.args.name.now c.args.quota.bytes) (λ t u. QuotaIsPut t u c.args.name.now c.args.quota.bytes) (rw c.as_str.ensures.text at (c.make.ensures.crash l tt (λ clean. tt)))
      (λ t u is it. quota_put t u c.args.name.now c.args.quota.bytes is it);
  stays = λ l clean is. less c.make.result (λ it. ap (λ (t : Tables). t.contents) it.1.others) (c.make.ensures.made l tt (λ early. tt) clean is);
  places = λ l clean is. less c.make.result (λ it. places_as _ _ _ it.1.others refl refl) (c.make.ensures.made l tt (λ early. tt) clean is);
  survives = c.make.ensures.survives;
}
