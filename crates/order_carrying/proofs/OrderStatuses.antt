-- An order that was read does not end with status 2.
use Rattle.std.proofs.Common.{arith, ◌≢◌}
use Rattle.registry_model.specs.declared.admin.AdminFault.{AdminFault}
use Rattle.registry_model.specs.declared.admin.AdminFault.TheVariants as fault
use Rattle.registry_orders.specs.declared.failure.Failure.{Failure}
use Rattle.registry_orders.specs.declared.failure.Failure.TheVariants as failure
use Rattle.registry_orders.specs.Failures.{IsOfOrder, failure_of, status_of}

pub of_fault : (f : AdminFault) → IsOfOrder (failure_of f)
of_fault fault.NoRepo = tt
of_fault fault.NoGrant = tt
of_fault fault.RepoThere = tt
of_fault fault.Memory = tt
of_fault fault.Storage = tt

pub order_status : (f : Failure) → IsOfOrder f → status_of f ≢ 2
order_status failure.NoRepo is e = omega arith
order_status failure.NoGrant is e = omega arith
order_status failure.RepoThere is e = omega arith
order_status failure.OutOfMemory is e = omega arith
order_status failure.StorageFailure is e = omega arith
order_status failure.ConnectionFailure is e = omega arith
order_status failure.InvalidName is e = is
order_status failure.InvalidToken is e = is
order_status failure.InvalidOptions is e = is
order_status (failure.Schema n) is e = is
order_status failure.NotARegistry is e = is
order_status failure.Damaged is e = is
