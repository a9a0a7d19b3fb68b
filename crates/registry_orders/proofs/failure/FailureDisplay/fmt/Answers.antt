use Rattle.registry_orders.proofs.failure.FailureDisplay.fmt.Goals as goal

pub returns-in-Ok : goal.returns-in-Ok
returns-in-Ok g c = record { writes = rw (← c.in-Ok.ensures) c.write_str.ensures.writes; styled = tt }
