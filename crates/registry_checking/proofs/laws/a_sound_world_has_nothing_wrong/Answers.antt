use Rattle.registry_checking.proofs.WholeLemmas.{nothing_wrong}
use Rattle.registry_checking.proofs.laws.a_sound_world_has_nothing_wrong.Goals as goal

pub returns : goal.returns
returns c = nothing_wrong
