use Rattle.registry_model.specs.declared.level.Level.{Level}
use Rattle.registry_model.proofs.TextOrder.{text_total, exact_texts}
use Rattle.registry_maps.proofs.SeenMaps.{seen_removed}
use Rattle.registry_maps.proofs.levels.take_level.Goals as goal

pub returns-clause-taken : goal.returns-clause-taken
returns-clause-taken c = seen_removed text_total exact_texts (λ (l : Level). l) c.args.name.now c.args.levels.now c.remove.new.self c.remove.ensures.updates
