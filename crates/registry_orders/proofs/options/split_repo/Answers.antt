use Rattle.registry_orders.proofs.options.split_repo.Goals as goal

pub returns-in_err-name : goal.returns-in_err-name
returns-in_err-name c = rw c.from_residual.ensures tt

pub returns-in_err-decimal : goal.returns-in_err-decimal
returns-in_err-decimal c = rw c.from_residual-in_err-decimal.ensures tt

pub returns-in_err-quota : goal.returns-in_err-quota
returns-in_err-quota c = rw c.from_residual-in_err-quota.ensures tt
