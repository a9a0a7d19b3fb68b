-- What is read of rows that a query showed.
use Rattle.std.specs.Prelude.{List, Result, OnOk, IfOk, IsOk, Vec}
use Rattle.std.specs.declared.alloc.Global.{Global}
use Rattle.sqlite.specs.Order.{Row}
use Rattle.sqlite.specs.declared.error.Error.{Error}
use Rattle.oci_types.specs.declared.fault.Fault.{Fault}

-- what is read is this of the rows, and where they were not shown nothing is
pub record IsRead {A : Type 0} (rows : Result (Vec Row Global) Error) (read : Result A Fault)
    (P : List Row → A → Type 0) : Type 0 where
  pub shown : OnOk read (IsOk rows)
  pub value : IfOk rows (λ xs. IfOk read (P xs.items))
