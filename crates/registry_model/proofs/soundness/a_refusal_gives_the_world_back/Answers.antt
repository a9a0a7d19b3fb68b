use Rattle.registry_model.proofs.RefusalsKeepWorlds.{same_world, same_after_refusal}
use Rattle.registry_model.proofs.soundness.a_refusal_gives_the_world_back.Goals as goal

pub returns : goal.returns
returns c = record { requests = same_world; commands = same_after_refusal }
