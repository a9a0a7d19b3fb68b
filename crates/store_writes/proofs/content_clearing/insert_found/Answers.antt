use Rattle.store_writes.proofs.content_clearing.insert_found.Goals as goal

pub returns-in-Ok : goal.returns-in-Ok
returns-in-Ok c = rw c.in-Ok.is (rw c.deref.ensures.value at c.insert_all.ensures)

pub returns-in-Err : goal.returns-in-Err
returns-in-Err c = tt
