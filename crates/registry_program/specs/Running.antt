-- What words come to, and what the opener of registries does meanwhile.
use Rattle.std.specs.Prelude.{◌≡◌, ◌≢◌, ℕ, ◌⊎◌, ⊤, List, Result}
use Rattle.oci_types.specs.Text.{Text}
use Rattle.registry_model.specs.declared.settings.Settings.{Settings}
use Rattle.registry_orders.specs.declared.failure.Failure.{Failure}
use Rattle.registry_orders.specs.declared.failure.Failure.TheVariants.{OutOfMemory}
use Rattle.registry_orders.specs.declared.limits.Limits.{Limits}
use Rattle.registry_orders.specs.declared.options.Setup.{Setup}
use Rattle.registry_orders.specs.declared.served.Served.{Served}
use Rattle.registry_orders.specs.declared.served.Served.TheVariants.{Memory, Stored}
use Rattle.registry_orders.specs.declared.tasks.Task.{Task}
use Rattle.registry_orders.specs.declared.tasks.Task.TheVariants as task
use Rattle.registry_orders.specs.declared.tokens.TokenSource.TheVariants.{Input}
use Rattle.registry_orders.specs.Failures.{status_of, status_if, IsOfWords}
use Rattle.registry_orders.specs.Tasks.{IsTask}
use Rattle.registry_orders.specs.Reading.{fit}
use Rattle.registry_orders.specs.Outputs.{Output, IsSilent}
use Rattle.registry_opening.specs.Openings.{Between, Never}
use Rattle.registry_conversation.specs.Accepting.{Streams}
use Rattle.registry_loop.specs.Together.{ServesAll}
use Rattle.registry_tasks.specs.Program.{IsUntouched, GivesUp, RunsMemory, Tells}
use Rattle.registry_tasks.specs.Sockets.{ServesAddress}
use Rattle.registry_tasks.specs.Acts.{Acts, SendsNone, DoesNothing}
use Rattle.registry_tasks.specs.Sending.{SendsStop}
use Rattle.registry_tasks.specs.Telling.{TellsLine, TellsAt}
use Rattle.registry_tasks.specs.Opened.{output_of, RunsAt, RunsTokenOrder, LacksTokenOf, RunsCheck}
use Rattle.registry_tasks.specs.Opened.{RunsStored, EndsMigration}
use Rattle.registry_program.specs.Memory.{ServesMemory}

-- connections over sockets with these settings and within these limits, over the registry at the path, which
-- is opened again where its storage failed
abbrev pub RunsServer : {K : Type 0} → Between K → Settings → Limits → Text → ℕ → Output → Type 0
RunsServer {K} b settings limits path status o =
    (result : Result (Unit {0}) Failure) × (status ≡ status_if result)
    × ServesAddress b path (ServesAll settings limits.at_once limits.buffer) result o

-- the same over a registry in memory that begins so
abbrev pub RunsMemoryServer : Settings → Limits → Setup → ℕ → Output → Type 0
RunsMemoryServer settings limits setup status o =
    (result : Result (Unit {0}) Failure) × (status ≡ status_if result)
    × ServesMemory settings limits setup result o

-- over the one or the other; where the registry is in memory, none is opened
abbrev pub RunsServed : {K : Type 0} → Between K → Settings → Limits → Served → ℕ → Output → Type 0
RunsServed {K} b settings limits (Memory setup) status o =
    Never b × RunsMemoryServer settings limits setup status o
RunsServed {K} b settings limits (Stored path) status o = RunsServer b settings limits path.now status o

-- what a task comes to: a registry in memory that is set up so is served, or the one at the path is, by one
-- connection or over sockets; or the latter is taken over, or is looked at for what is wrong; or an order is
-- carried out or sent, or the line that ends a server is. What a server says on standard error is not said
-- here
abbrev pub RunsTask : {K : Type 0} → Acts K → Task → ℕ → Streams → Output → Type 0
RunsTask {K} a (task.Memory setup settings) status e errors =
    DoesNothing a × RunsMemory settings setup status e errors
RunsTask {K} a (task.Stored path layout settings) status e errors =
    SendsNone a × RunsStored a.openings settings path.now status e errors
RunsTask {K} a (task.Server served layout address connections limits beside settings) status e errors =
    SendsNone a × (e.left' ≡ e.left) × RunsServed a.openings settings limits served status (output_of e)
RunsTask {K} a (task.Order place layout order) status e errors =
    (e.left' ≡ e.left) × RunsAt a place order status (output_of e) errors
RunsTask {K} a (task.TokenOrder place layout source order) status e errors =
    RunsTokenOrder a place source order status e errors
RunsTask {K} a (task.Check path) status e errors =
    SendsNone a × (e.left' ≡ e.left) × RunsCheck a.openings path.now status (output_of e) errors
RunsTask {K} a (task.Migration path) status e errors =
    SendsNone a × IsUntouched e × EndsMigration a.openings path.now status errors
RunsTask {K} a (task.Stop path) status e errors =
    Never a.openings × (e.left' ≡ e.left) × SendsStop a.sent a.sent' path.now status (output_of e) errors

-- words are not read, which is told, and nothing is done; or something is told of them: help, the version, or
-- what is wrong with words that do not fit the command line, and of others that memory is wanting
abbrev pub IsNotRead : List Text → ℕ → Streams → Output → Type 0
IsNotRead words status e errors = ((f : Failure) × IsOfWords f × GivesUp f status e
    × (TellsLine f errors ⊎ ((place : Text) × TellsAt f place errors)))
    ⊎ (Tells status e errors × (fit words → status ≡ status_of OutOfMemory))

-- the task wants a token, and there is none
abbrev pub LacksToken : {K : Type 0} → Acts K → Task → ℕ → Streams → Output → Type 0
LacksToken {K} a (task.TokenOrder place layout source order) status e errors =
    LacksTokenOf a source status e errors
LacksToken {K} a _ status e errors = ⊥

-- a task is done, and then the status is not 2; or it wants a token, and there is none
abbrev pub EndsTask : {K : Type 0} → Acts K → Task → ℕ → Streams → Output → Type 0
EndsTask {K} a task status e errors =
    ((status ≢ 2) × RunsTask a task status e errors) ⊎ LacksToken a task status e errors

-- what words come to: the task that they spell is done, and then the status is not 2; or it wants a token,
-- and there is none; or they are not read, and no registry is opened and nothing sent
abbrev pub RunsWords : {K : Type 0} → Acts K → List Text → ℕ → Streams → Output → Type 0
RunsWords {K} a words status e errors =
    ((task : Task) × IsTask words task × (status ≢ 2) × RunsTask a task status e errors)
    ⊎ (((task : Task) × IsTask words task × LacksToken a task status e errors)
    ⊎ (DoesNothing a × IsNotRead words status e errors))

-- the words take a line of standard input for a token
abbrev pub IsByInput : Task → Type 0
IsByInput (task.TokenOrder place layout Input order) = ⊤
IsByInput _ = ⊥

-- nothing was read or written, but for the line that the task takes
abbrev pub IsSparedBy : Task → Streams → Type 0
IsSparedBy task e = IsUntouched e ⊎ (IsByInput task × IsSilent (output_of e))

abbrev pub TakesLine : List Text → Type 0
TakesLine words = (task : Task) × IsTask words task × IsByInput task

-- nothing was read or written, but for the line that the words take
abbrev pub IsSparedFor : List Text → Streams → Type 0
IsSparedFor words e = IsUntouched e ⊎ (TakesLine words × IsSilent (output_of e))
