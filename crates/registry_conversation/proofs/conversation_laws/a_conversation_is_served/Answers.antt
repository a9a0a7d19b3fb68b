use Rattle.registry_conversation.proofs.LawLemmas.{all_account}
use Rattle.registry_conversation.proofs.conversation_laws.a_conversation_is_served.Goals as goal

pub returns : goal.returns
returns c = λ settings events s d s' x. all_account settings events s d s' x
