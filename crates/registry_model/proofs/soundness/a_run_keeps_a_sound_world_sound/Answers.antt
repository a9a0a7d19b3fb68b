use Rattle.registry_model.proofs.SoundWorlds.{sound_after_all}
use Rattle.registry_model.proofs.soundness.a_run_keeps_a_sound_world_sound.Goals as goal

pub returns : goal.returns
returns c = sound_after_all
