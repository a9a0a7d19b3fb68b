-- What the end of the one connection says of the program, (profile).
use Rattle.std.specs.Prelude.{Bool, Result, Ok, Err, if◌then◌else◌}
use Rattle.registry_http.specs.declared.ending.End.{End}
use Rattle.registry_http.specs.declared.ending.End.TheVariants as ending
use Rattle.registry_orders.specs.declared.failure.Failure.{Failure}
use Rattle.registry_orders.specs.declared.failure.Failure.TheVariants.{StorageFailure, ConnectionFailure}

-- a failed connection goes before a failed storage; a cut or refused connection is no failure
abbrev pub ended_as : End → Bool → Result (Unit {0}) Failure
ended_as ending.ReadFailed spent = Err ConnectionFailure
ended_as (ending.WriteFailed written) spent = Err ConnectionFailure
ended_as _ spent = if spent then Err StorageFailure else Ok tt
