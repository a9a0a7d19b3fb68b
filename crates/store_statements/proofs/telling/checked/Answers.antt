use Rattle.store_statements.proofs.Checks.{checked_found, checked_failed}
use Rattle.store_statements.proofs.telling.checked.Goals as goal

pub returns-in-Ok : goal.returns-in-Ok
returns-in-Ok g c = record { told = checked_found g.S.Store c.args.conn.now c.in-Ok.value c.args.found c.in-Ok.is }

pub returns-in-Err : goal.returns-in-Err
returns-in-Err g c = record { told = checked_failed g.S.Store c.args.conn.now c.checked_fault.new.conn c.in-Err.fault c.checked_fault.result c.args.found c.in-Err.is c.checked_fault.ensures.memory c.checked_fault.ensures.left c.checked_fault.ensures.survives }
