use Rattle.registry_http.proofs.RequestLemmas.{crowded}
use Rattle.registry_conversation.proofs.heading.find_head.Goals as goal

pub returns-then-spans-gt-MOST_FIELDS : goal.returns-then-spans-gt-MOST_FIELDS
returns-then-spans-gt-MOST_FIELDS c =
    crowded c.args.unread.now _ c.in-Whole.spans c.in-Whole.ensures.0 c.in-Whole.ensures.1 c.if-spans-gt-MOST_FIELDS.true
