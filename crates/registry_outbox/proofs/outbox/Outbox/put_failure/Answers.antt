use Rattle.registry_outbox.proofs.OutboxLemmas.{some_failure}
use Rattle.registry_outbox.proofs.outbox.Outbox.put_failure.Goals as goal

pub put_text-requires : goal.put_text-requires
put_text-requires c = some_failure c.args.spent c.args.close _ c.failure_text.ensures
