use Rattle.registry_model.specs.World.{repo_at}
use Rattle.operation_parts.proofs.QuotaLemmas.{told_over}
use Rattle.operation_parts.proofs.quota.goes_over.Goals as goal

pub returns-clause-found : goal.returns-clause-found
returns-clause-found g c honest =
    let found = c.in_ok-usage.ensures.found honest in (
      told_over (repo_at (g.K.Keeper.kept c.args.keeper.now).world c.args.name.now) c.in_ok-usage.usage c.args.added c.args.gone c.exceeds.result found.0 c.if-added-gone.false c.exceeds.ensures,
      found.1,
    )
