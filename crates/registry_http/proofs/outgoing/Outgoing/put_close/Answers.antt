use Rattle.registry_http.proofs.outgoing.Outgoing.put_close.Goals as goal

pub returns-then-close : goal.returns-then-close
returns-then-close g c = λ held text carried. rw c.if-close.true (c.put.ensures held text carried)
