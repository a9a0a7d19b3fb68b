use Rattle.registry_model.proofs.SoundWorlds.{sound_after_command}
use Rattle.registry_model.proofs.soundness.a_command_keeps_a_sound_world_sound.Goals as goal

pub returns : goal.returns
returns c = λ w a s. sound_after_command w s a
