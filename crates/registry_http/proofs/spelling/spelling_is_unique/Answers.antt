use Rattle.registry_http.proofs.SpellingUniqueness.{one_spelling}
use Rattle.registry_http.proofs.spelling.spelling_is_unique.Goals as goal

pub returns-clause-items : goal.returns-clause-items
returns-clause-items c = λ settings b items others e f s z. (one_spelling settings b items others e f s z).0

pub returns-clause-end : goal.returns-clause-end
returns-clause-end c = λ settings b items others e f s z. (one_spelling settings b items others e f s z).1
