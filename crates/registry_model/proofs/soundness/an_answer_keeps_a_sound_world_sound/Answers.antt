use Rattle.registry_model.proofs.SoundWorlds.{sound_after_request}
use Rattle.registry_model.proofs.soundness.an_answer_keeps_a_sound_world_sound.Goals as goal

pub returns : goal.returns
returns c = λ w q s. sound_after_request w s q
