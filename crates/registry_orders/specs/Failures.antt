-- The exit statuses and the messages of the program (profile).
use Rattle.std.specs.Prelude.{ℕ, List, ◌++◌, Result, Ok, Err, codes, ⊤}
use Rattle.std.specs.Fmt.{signed_decimal}
use Rattle.oci_types.specs.declared.fault.NameFault.{NameFault}
use Rattle.oci_types.specs.declared.fault.NameFault.TheVariants as text
use Rattle.registry_model.specs.declared.admin.AdminFault.{AdminFault}
use Rattle.registry_model.specs.declared.admin.AdminFault.TheVariants as command
use Rattle.registry_orders.specs.declared.failure.Failure.{Failure}
use Rattle.registry_orders.specs.declared.failure.Failure.TheVariants.{NoRepo, NoGrant, RepoThere, InvalidName, InvalidToken, InvalidOptions, OutOfMemory, StorageFailure, Schema, NotARegistry, Damaged, ConnectionFailure}

-- 1: a refused command; 2: the command line; 3: storage, schema, memory or damage; 4: a socket, reading or
-- writing
abbrev pub status_of : Failure → ℕ
status_of NoRepo = 1
status_of NoGrant = 1
status_of RepoThere = 1
status_of InvalidName = 2
status_of InvalidToken = 2
status_of InvalidOptions = 2
status_of OutOfMemory = 3
status_of StorageFailure = 3
status_of (Schema found) = 3
status_of NotARegistry = 3
status_of Damaged = 3
status_of ConnectionFailure = 4

abbrev pub text_of : Failure → List ℕ
text_of NoRepo = codes "registry: no such repository"
text_of NoGrant = codes "registry: no such grant"
text_of RepoThere = codes "registry: repository already there"
text_of InvalidName = codes "registry: invalid name"
text_of InvalidToken = codes "registry: invalid token"
text_of InvalidOptions = codes "registry: invalid options"
text_of OutOfMemory = codes "registry: out of memory"
text_of StorageFailure = codes "registry: storage failure"
text_of (Schema found) = codes "registry: schema " ++ signed_decimal found ++ codes " is not supported"
text_of NotARegistry = codes "registry: not a registry"
text_of Damaged = codes "registry: damaged"
text_of ConnectionFailure = codes "registry: connection failure"

-- why a command is not carried out
abbrev pub failure_of : AdminFault → Failure
failure_of command.NoRepo = NoRepo
failure_of command.NoGrant = NoGrant
failure_of command.RepoThere = RepoThere
failure_of command.Memory = OutOfMemory
failure_of command.Storage = StorageFailure

-- why a text is none of its kind, or that memory is wanting
abbrev pub failure_of_text : NameFault → Failure → Failure
failure_of_text text.Memory kind = OutOfMemory
failure_of_text _ kind = kind

abbrev pub status_if : Result (Unit {0}) Failure → ℕ
status_if (Ok v) = 0
status_if (Err failure) = status_of failure

-- why a command line is not read: its form, a name or a token, or want of memory
abbrev pub IsOfWords : Failure → Type 0
IsOfWords InvalidOptions = ⊤
IsOfWords InvalidName = ⊤
IsOfWords InvalidToken = ⊤
IsOfWords OutOfMemory = ⊤
IsOfWords _ = ⊥

-- why an order that was read is not carried out: it is refused, or memory is wanting, or the storage or
-- writing fails
abbrev pub IsOfOrder : Failure → Type 0
IsOfOrder NoRepo = ⊤
IsOfOrder NoGrant = ⊤
IsOfOrder RepoThere = ⊤
IsOfOrder OutOfMemory = ⊤
IsOfOrder StorageFailure = ⊤
IsOfOrder ConnectionFailure = ⊤
IsOfOrder _ = ⊥

-- why a registry over a database is not opened: want of memory, the storage, another schema, or no registry
-- at all
abbrev pub IsOfOpening : Failure → Type 0
IsOfOpening OutOfMemory = ⊤
IsOfOpening StorageFailure = ⊤
IsOfOpening (Schema found) = ⊤
IsOfOpening NotARegistry = ⊤
IsOfOpening _ = ⊥

-- why serving a connection is a failure: it failed, or the storage did
abbrev pub IsOfConnection : Failure → Type 0
IsOfConnection StorageFailure = ⊤
IsOfConnection ConnectionFailure = ⊤
IsOfConnection _ = ⊥

-- why serving an address is: the registry is not opened, or the socket fails
abbrev pub IsOfServing : Failure → Type 0
IsOfServing ConnectionFailure = ⊤
IsOfServing f = IsOfOpening f
