use Rattle.registry_model.proofs.OwnLaws.{own_after}
use Rattle.registry_model.proofs.laws.an_own_request_changes_the_view_alike.Goals as goal

pub returns : goal.returns
returns c = λ w team q mine own. own_after w team mine q own
