use Rattle.registry_model.specs.Command.{revoke}
use Rattle.store_statements.specs.Keys.{has_key}
use Rattle.store_statements.proofs.GrantWorlds.{grant_taken}
use Rattle.store_statements.specs.Steps.{grants_without}
use Rattle.store_writes.proofs.Transacted.{crash_tables, made_tables}
use Rattle.store_statements.specs.Tables.{Tables}
use Rattle.store_statements.proofs.PlacesKept.{places_as}
use Rattle.store_statements.proofs.Alone.{less}
use Rattle.std.proofs.Common.{ap, refl}
use Rattle.store_writes.proofs.grant_changes.revoke.Goals as goal

pub returns : goal.returns
returns g c = record {
  made = λ l. made_tables g.S.Store c.args.conn.now c.make.new.conn c.make.result (λ w. revoke w c.args.token.now c.args.name.now) (grants_without (has_key c.args.token.now c.args.name.now)) (rw c.as_str.ensures.text at rw c.as_str-2.ensures.text at (c.make.ensures.made l tt (λ clean. tt))) (λ t is. grant_taken t c.args.token.now c.args.name.now is);
  memory = λ l. c.make.ensures.memory l tt (λ clean. tt);
  back = λ l. c.make.ensures.back l tt (λ clean. tt);
  crash = λ l. crash_tables g.S.Store c.args.conn.now c.make.new.conn c.make.result (λ w. revoke w c.args.token.now c.args.name.now) (grants_without (has_key c.args.token.now c.args.name.now)) (rw c.as_str.ensures.text at rw c.as_str-2.ensures.text at (c.make.ensures.crash l tt (λ clean. tt))) (λ t is. grant_taken t c.args.token.now c.args.name.now is);
  stays = λ l clean is. less c.make.result (λ it. ap (λ (t : Tables). t.contents) it.1) (c.make.ensures.made l tt (λ early. tt) clean is);
  places = λ l clean is. less c.make.result (λ it. places_as _ _ _ it.1 refl refl) (c.make.ensures.made l tt (λ early. tt) clean is);
  survives = c.make.ensures.survives;
}

pub make-requires : goal.make-requires
make-requires g c = record { fits = tt }
