use Rattle.registry_model.proofs.RunLaws.{request_aside, order_aside}
use Rattle.registry_model.proofs.laws.a_step_aside_leaves_the_view.Goals as goal

pub returns-clause-request : goal.returns-clause-request
returns-clause-request c = request_aside

pub returns-clause-command : goal.returns-clause-command
returns-clause-command c = order_aside
