-- What is said on standard error of how a task ended (profile).
use Rattle.std.specs.Prelude.{◌≡◌, ℕ, ◌++◌, Option, Result, Ok, Err}
use Rattle.oci_types.specs.Text.{Text}
use Rattle.registry_orders.specs.declared.cause.Cause.{Cause}
use Rattle.registry_orders.specs.declared.failure.Failure.{Failure}
use Rattle.registry_orders.specs.Causes.{lines_of}
use Rattle.registry_orders.specs.Failures.{status_if, text_of}
use Rattle.registry_orders.specs.Outputs.{Output, AppendsPart, IsSilent, newline}

-- a first part of the line of the failure
abbrev pub TellsLine : Failure → Output → Type 0
TellsLine f errors = AppendsPart errors.held errors.held' (text_of f ++ newline)

-- a first part of this line, and of one behind it of what is wrong with the place, where that can be seen
abbrev pub TellsAt : Failure → Text → Output → Type 0
TellsAt f place errors =
    (cause : Option Cause) × AppendsPart errors.held errors.held' (lines_of f place cause)

-- what failed is told, and nothing where nothing did
abbrev pub TellsEnd : Result (Unit {0}) Failure → Text → Output → Type 0
TellsEnd (Ok v) place errors = IsSilent errors
TellsEnd (Err f) place errors = TellsAt f place errors

-- the exit status and standard error say how a task at a place ended
abbrev pub SaysEnd : Result (Unit {0}) Failure → Text → ℕ → Output → Type 0
SaysEnd ended place status errors = (status ≡ status_if ended) × TellsEnd ended place errors

-- the same without a place
abbrev pub TellsPlainly : Result (Unit {0}) Failure → Output → Type 0
TellsPlainly (Ok v) errors = IsSilent errors
TellsPlainly (Err f) errors = TellsLine f errors

abbrev pub SaysPlainly : Result (Unit {0}) Failure → ℕ → Output → Type 0
SaysPlainly ended status errors = (status ≡ status_if ended) × TellsPlainly ended errors
