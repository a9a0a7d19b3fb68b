-- What the end of an order says of its exit status.
use Rattle.std.proofs.Common.{arith, ◌≡◌, ◌<◌, ◌≢◌, ◌∙◌, ℕ, Result, Ok, Err, sym}
use Rattle.registry_orders.specs.declared.failure.Failure.{Failure}
use Rattle.registry_orders.specs.declared.failure.Failure.TheVariants as failure
use Rattle.registry_orders.specs.Failures.{status_of, status_if}
use Rattle.registry_orders.specs.Outputs.{Output, IsSilent}
use Rattle.order_carrying.specs.Carrying.{IsSilentUnlessBroken}
use Rattle.order_carrying.proofs.OrderStatuses.{order_status}
use Rattle.registry_tasks.specs.Opened.{EndsOrder}

silent_failure : (f : Failure) (o : Output) → IsSilentUnlessBroken (Err f) o → status_of f < 4 → IsSilent o
silent_failure failure.NoRepo o silent less = silent
silent_failure failure.NoGrant o silent less = silent
silent_failure failure.RepoThere o silent less = silent
silent_failure failure.InvalidName o silent less = silent
silent_failure failure.InvalidToken o silent less = silent
silent_failure failure.InvalidOptions o silent less = silent
silent_failure failure.OutOfMemory o silent less = silent
silent_failure failure.StorageFailure o silent less = silent
silent_failure (failure.Schema n) o silent less = silent
silent_failure failure.NotARegistry o silent less = silent
silent_failure failure.Damaged o silent less = silent
silent_failure failure.ConnectionFailure o silent less = absurd (omega arith)

pub order_silent : (ended : Result (Unit {0}) Failure) (status : ℕ) (o : Output) → EndsOrder ended o → status ≡ status_if ended
    → 0 < status → status < 4 → IsSilent o
order_silent (Ok v) status o ends told more less = absurd (omega arith)
order_silent (Err f) status o ends told more less = silent_failure f o ends.0 (omega arith)

pub order_read : (ended : Result (Unit {0}) Failure) (status : ℕ) (o : Output) → EndsOrder ended o → status ≡ status_if ended → status ≢ 2
order_read (Ok v) status o ends told two = omega arith
order_read (Err f) status o ends told two = order_status f ends.1 (sym told ∙ two)
