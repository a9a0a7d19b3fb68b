use Rattle.std.proofs.Common.{IfOk, subst, sym}
use Rattle.clap.specs.Words.{found_of, rows_of}
use Rattle.registry_orders.specs.Orders.{IsOrderIn}
use Rattle.registry_orders.proofs.orders.read_order.Goals as goal

pub returns-in-prune : goal.returns-in-prune
returns-in-prune c = record { read = c.list_of_repo-in-prune.ensures.read; refused = c.list_of_repo-in-prune.ensures.refused }

pub returns-in-tags : goal.returns-in-tags
returns-in-tags c = record { read = c.list_of_repo.ensures.read; refused = c.list_of_repo.ensures.refused }

pub returns-in-grant : goal.returns-in-grant
returns-in-grant c = record { read = c.order_of_token.ensures.read; refused = c.order_of_token.ensures.refused }

pub returns-in-grants : goal.returns-in-grants
returns-in-grants c = record {
  read = subst (λ word. IfOk c.list_of_grants.result (IsOrderIn word (rows_of (found_of c.args.matches.now)))) (sym c.in-grants.is) c.list_of_grants.ensures.read;
  refused = c.list_of_grants.ensures.refused;
}

pub returns-in-usage : goal.returns-in-usage
returns-in-usage c = record { read = c.in-usage.is; refused = tt }

pub returns-in-clear : goal.returns-in-clear
returns-in-clear c = record { read = c.in-clear.is; refused = tt }

pub returns-in-repos : goal.returns-in-repos
returns-in-repos c = record { read = (c.in-repos.is, c.form_in.ensures); refused = tt }

pub returns-in-repo : goal.returns-in-repo
returns-in-repo c = record { read = c.order_of_quota.ensures.read; refused = c.order_of_quota.ensures.refused }

pub returns-in_default : goal.returns-in_default
returns-in_default c = record { read = c.order_of_name.ensures.read; refused = c.order_of_name.ensures.refused }
