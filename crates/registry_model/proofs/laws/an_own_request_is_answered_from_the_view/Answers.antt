use Rattle.registry_model.proofs.OwnLaws.{own_reply}
use Rattle.registry_model.proofs.laws.an_own_request_is_answered_from_the_view.Goals as goal

pub returns : goal.returns
returns c = λ w team q mine own. own_reply w team mine q own
