use Rattle.registry_model.proofs.SoundWorlds.{sound_no_world}
use Rattle.registry_model.proofs.soundness.the_empty_world_is_sound.Goals as goal

pub returns : goal.returns
returns c = sound_no_world
