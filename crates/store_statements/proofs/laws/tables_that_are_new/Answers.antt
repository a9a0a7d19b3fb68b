use Rattle.store_statements.proofs.NewTables.{are_new, agree_new}
use Rattle.store_statements.proofs.laws.tables_that_are_new.Goals as goal

pub returns-clause-registry : goal.returns-clause-registry
returns-clause-registry c = λ version beside two none. record { tables = are_new version beside; agree = agree_new version beside two none }
