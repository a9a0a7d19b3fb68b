use Rattle.registry_http.proofs.SendingLemmas.{four}
use Rattle.registry_http.proofs.outgoing.Outgoing.put_field.Goals as goal

pub returns : goal.returns
returns g c = λ held text carried.
    rw (← four text _ _ _ _) (c.put-4.ensures held _ (c.put-3.ensures held _ (c.put-2.ensures held _ (c.put.ensures held text carried))))
