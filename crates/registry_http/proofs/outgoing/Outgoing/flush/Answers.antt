use Rattle.registry_http.proofs.SendingLemmas.{flushed, flush_broken}
use Rattle.registry_http.proofs.outgoing.Outgoing.flush.Goals as goal

pub returns-in-Ok-clause-carries : goal.returns-in-Ok-clause-carries
returns-in-Ok-clause-carries g c = λ held text carried.
    let sent = rw c.as_slice.ensures.value at c.in-Ok.ensures in
    flushed _ _ _ _ _ held _ _ text c.if-self.false sent.0 sent.1 c.clear.ensures carried

pub returns-in-Err-clause-carries : goal.returns-in-Err-clause-carries
returns-in-Err-clause-carries g c = λ held text carried.
    let sent = rw c.as_slice.ensures.value at c.in-Err.ensures in
    flush_broken _ _ _ sent.0 _ held _ _ text c.if-self.false sent.1 sent.2 sent.3 carried
