use Rattle.std.specs.FinMap.{empty, get-insert}
use Rattle.registry_model.specs.declared.level.Level.TheVariants.{Delete}
use Rattle.registry_model.specs.Worked.{app}
use Rattle.registry_model.proofs.TextOrder.{text_total}
use Rattle.registry_model.proofs.worked.the_setting_can_be_made.Goals as goal

pub returns : goal.returns
returns c = λ r. record { level = get-insert text_total empty app Delete app; repo = get-insert text_total empty app r app }
