use Rattle.registry_program.proofs.ServingLemmas.{not_begun}
use Rattle.registry_program.proofs.serving.ServerWork.work.Goals as goal

pub returns-in-Err-clause-does : goal.returns-in-Err-clause-does
returns-in-Err-clause-does g c honest buffer none =
    not_begun c.args.self.now.task.now.serving.settings c.args.self.now.task.now.serving.limits c.in-Err.failure _ _ (c.in-Err.ensures.begins honest)
