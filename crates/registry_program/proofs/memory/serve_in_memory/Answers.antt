use Rattle.registry_program.proofs.MemoryLemmas.{set_up_served}
use Rattle.registry_program.proofs.memory.serve_in_memory.Goals as goal

pub returns : goal.returns
returns g c =
    set_up_served c.args.serving.settings c.args.serving.limits c.args.setup.now _ _ _ c.new.ensures c.serve_set_up.ensures
