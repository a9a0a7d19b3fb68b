use Rattle.std.proofs.Common.{Bool, Err}
use Rattle.store_opening.proofs.OpeningLemmas.{names_none}
use Rattle.registry_store.proofs.store.or_fault.Goals as goal

pub returns-in-Ok : goal.returns-in-Ok
returns-in-Ok g c = record { same = c.in-Ok.is; another = tt }

pub returns : goal.returns
returns g c = record { same = tt; another = names_none {A = Bool} (Err c.fault_in_opening.result) c.fault_in_opening.ensures.unnumbered }
