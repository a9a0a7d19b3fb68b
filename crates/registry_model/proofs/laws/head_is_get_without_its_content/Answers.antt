use Rattle.registry_model.proofs.HeadLaws.{reply_alike, world_alike}
use Rattle.registry_model.proofs.laws.head_is_get_without_its_content.Goals as goal

pub returns-clause-reply : goal.returns-clause-reply
returns-clause-reply c = λ w q. reply_alike w q

pub returns-clause-world : goal.returns-clause-world
returns-clause-world c = λ w q. world_alike w q
