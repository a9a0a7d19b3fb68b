use Rattle.registry_http.proofs.SendingLemmas.{passed, pass_broken}
use Rattle.registry_http.proofs.outgoing.Outgoing.send_all.Goals as goal

pub returns-in-Ok : goal.returns-in-Ok
returns-in-Ok g c = λ held text carried.
    passed _ _ _ _ _ held _ _ text c.if-self.false (c.flush.ensures.none c.if-self.false) c.in-Ok.ensures.0 c.in-Ok.ensures.1 (c.flush.ensures.carries held text carried)

pub returns-in-Err : goal.returns-in-Err
returns-in-Err g c = λ held text carried.
    let sent = c.in-Err.ensures in
    pass_broken _ _ _ sent.0 _ _ held _ _ text c.if-self.false (c.flush.ensures.none c.if-self.false) sent.1 sent.2 sent.3 (c.flush.ensures.carries held text carried)
