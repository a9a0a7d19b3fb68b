use Rattle.registry_model.specs.Command.{drop_repo}
use Rattle.registry_store.proofs.KnownWorlds.{beside_gone}
use Rattle.registry_store.proofs.Followed.{forgotten}
use Rattle.registry_store.proofs.counted_repos.drop_repo.Goals as goal

pub returns : goal.returns
returns g c = record {
  made = c.drop_repo.ensures.made;
  places = c.drop_repo.ensures.places;
  memory = c.drop_repo.ensures.memory;
  crash = c.drop_repo.ensures.crash;
  survives = c.drop_repo.ensures.survives;
  known = λ l.
      forgotten g.S.Store l c.args.conn.now c.drop_repo.new.conn c.args.known.now c.forget.new.self c.args.name.now (λ w. drop_repo w c.args.name.now) c.drop_repo.result
      c.drop_repo.ensures.survives c.forget.ensures (λ w. beside_gone w c.args.name.now) (c.drop_repo.ensures.made l) (c.drop_repo.ensures.memory l);
}
