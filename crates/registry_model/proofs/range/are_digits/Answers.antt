use Rattle.std.proofs.Common.{◌∙◌, sym}
use Rattle.registry_model.proofs.PlacesAndDigits.{digits_all}
use Rattle.registry_model.proofs.range.are_digits.Goals as goal

pub returns : goal.returns
returns c = c.all_digits.ensures ∙ sym (digits_all c.args.text.now)
