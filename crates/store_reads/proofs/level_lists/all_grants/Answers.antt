use Rattle.std.proofs.Common.{List, sym, subst}
use Rattle.std.proofs.lemmas.Result.{IfOk-weaker}
use Rattle.sqlite.specs.Held.{state}
use Rattle.registry_model.specs.declared.grant.Grant.{Grant}
use Rattle.registry_model.specs.Lookups.{AreLevelsOver, repo_names_of}
use Rattle.store_statements.specs.Held.{held, world_in}
use Rattle.store_statements.proofs.LevelsOver.{grants_found}
use Rattle.store_statements.proofs.Transactions.{registry}
use Rattle.store_reads.proofs.level_lists.all_grants.Goals as goal

pub returns : goal.returns
returns g c =
    let old = state g.S.Store c.args.conn.now in
    record {
      found = λ l clean is. let w = world_in l old in IfOk-weaker c.list_grants.result _ _ (λ grants h. subst (λ (gs : List Grant). AreLevelsOver w (repo_names_of w) gs) (sym h) (grants_found (held l old) (registry old is))) (c.list_grants.ensures.found l clean is);
      settled = c.list_grants.ensures.settled;
      survives = c.list_grants.ensures.survives;
    }
