-- Bounds of the exit statuses that failures have.
use Rattle.std.proofs.Common.{arith, ◌≡◌, ◌<◌, ◌≤◌, ◌≢◌, ◌∙◌, ℕ, Result, Ok, Err, sym}
use Rattle.std.specs.Prelude.{IfErr}
use Rattle.registry_orders.specs.declared.failure.Failure.{Failure}
use Rattle.registry_orders.specs.declared.failure.Failure.TheVariants as failure
use Rattle.registry_orders.specs.Failures.{status_of, status_if, IsOfConnection}
use Rattle.registry_tasks.specs.Checking.{IsOfCheck}
use Rattle.registry_tasks.specs.Sending.{IsOfSending}
use Rattle.registry_tasks.proofs.ExitStatuses.{check_status, connection_status}

most_status : (f : Failure) → status_of f ≤ 4
most_status failure.NoRepo = omega arith
most_status failure.NoGrant = omega arith
most_status failure.RepoThere = omega arith
most_status failure.InvalidName = omega arith
most_status failure.InvalidToken = omega arith
most_status failure.InvalidOptions = omega arith
most_status failure.OutOfMemory = omega arith
most_status failure.StorageFailure = omega arith
most_status (failure.Schema n) = omega arith
most_status failure.NotARegistry = omega arith
most_status failure.Damaged = omega arith
most_status failure.ConnectionFailure = omega arith

-- a status that tells a failure is 4 at most
pub status_at_most : (f : Failure) (status : ℕ) → status ≡ status_of f → status ≤ 4
status_at_most f status told = let most = most_status f in rw told most

sending_status : (f : Failure) → IsOfSending f → status_of f ≢ 2
sending_status failure.OutOfMemory is two = omega arith
sending_status failure.ConnectionFailure is two = omega arith
sending_status failure.NoRepo is two = is
sending_status failure.NoGrant is two = is
sending_status failure.RepoThere is two = is
sending_status failure.InvalidName is two = is
sending_status failure.InvalidToken is two = is
sending_status failure.InvalidOptions is two = is
sending_status failure.StorageFailure is two = is
sending_status (failure.Schema n) is two = is
sending_status failure.NotARegistry is two = is
sending_status failure.Damaged is two = is

-- that an order has no answer is no mistake of the command line
pub sending_read : (f : Failure) (status : ℕ) → IsOfSending f → status ≡ status_of f → status ≢ 2
sending_read f status is told two = sending_status f is (sym told ∙ two)

pub check_at_most : (checked : Result (Unit {0}) Failure) (status : ℕ) → status ≡ status_if checked → status ≤ 4
check_at_most (Ok v) status told = omega arith
check_at_most (Err f) status told = status_at_most f status told

pub check_failed : (checked : Result (Unit {0}) Failure) (status : ℕ) → IfErr checked IsOfCheck
    → status ≡ status_if checked → 0 < status → 3 ≤ status
check_failed (Ok v) status fails told more = omega arith
check_failed (Err f) status fails told more = let least = check_status f fails in rw told least

pub connection_failed : (ended : Result (Unit {0}) Failure) (status : ℕ) → IfErr ended IsOfConnection
    → status ≡ status_if ended → 0 < status → 3 ≤ status
connection_failed (Ok v) status fails told more = omega arith
connection_failed (Err f) status fails told more = let least = connection_status f fails in rw told least
