use Rattle.registry_model.specs.Command.{drop_repo}
use Rattle.store_statements.proofs.Dropped.{repo_dropped}
use Rattle.store_statements.specs.Drops.{dropped}
use Rattle.store_writes.proofs.Transacted.{crash_tables, made_tables}
use Rattle.std.proofs.Common.{ap, refl}
use Rattle.store_statements.specs.Tables.{Tables}
use Rattle.store_statements.proofs.PlacesKept.{places_as}
use Rattle.store_statements.proofs.Alone.{less}
use Rattle.store_writes.proofs.repo_removal.drop_repo.Goals as goal

pub returns : goal.returns
returns g c = record {
  made = λ l. made_tables g.S.Store c.args.conn.now c.make.new.conn c.make.result (λ w. drop_repo w c.args.name.now) (dropped c.args.name.now) (λ clean is. rw c.as_str.ensures.text at (c.make.ensures.made l tt (λ early. is.agree.beside) clean is)) (λ t is. repo_dropped t c.args.name.now is);
  stays = λ l clean is. less c.make.result (λ it. ap (λ (t : Tables). t.contents) it.1) (c.make.ensures.made l tt (λ early. is.agree.beside) clean is);
  places = λ l clean is. less c.make.result (λ it. places_as _ _ _ it.1 refl refl) (c.make.ensures.made l tt (λ early. is.agree.beside) clean is);
  memory = λ l clean is. c.make.ensures.memory l tt (λ early. is.agree.beside) clean is;
  back = λ l clean is. c.make.ensures.back l tt (λ early. is.agree.beside) clean is;
  crash = λ l. crash_tables g.S.Store c.args.conn.now c.make.new.conn c.make.result (λ w. drop_repo w c.args.name.now) (dropped c.args.name.now) (λ clean is. rw c.as_str.ensures.text at (c.make.ensures.crash l tt (λ early. is.agree.beside) clean is)) (λ t is. repo_dropped t c.args.name.now is);
  survives = c.make.ensures.survives;
}

pub make-requires : goal.make-requires
make-requires g c = record { fits = tt }
