-- What a task comes to is what the words come to that spell it.
use Rattle.std.proofs.Common.{◌≢◌, ◌⊎◌, ℕ, List, inl, inr}
use Rattle.oci_types.specs.Text.{Text}
use Rattle.registry_orders.specs.declared.layout.Layout.{Layout}
use Rattle.registry_orders.specs.declared.tasks.Task.{Task}
use Rattle.registry_orders.specs.declared.tasks.Task.TheVariants as task
use Rattle.registry_orders.specs.declared.orders.TokenOrder.{TokenOrder}
use Rattle.registry_orders.specs.declared.place.Place.{Place}
use Rattle.registry_orders.specs.declared.tokens.TokenSource.{TokenSource}
use Rattle.registry_orders.specs.declared.tokens.TokenSource.TheVariants.{Input, File}
use Rattle.registry_orders.specs.Outputs.{Output, IsSilent}
use Rattle.registry_orders.specs.Tasks.{IsTask}
use Rattle.registry_conversation.specs.Accepting.{Streams}
use Rattle.registry_tasks.specs.Acts.{Acts}
use Rattle.registry_tasks.specs.Opened.{output_of, RunsTokenOrder, LacksTokenOf}
use Rattle.registry_program.specs.Running.{RunsWords, IsSparedFor, EndsTask, IsSparedBy}

pub task_runs : {K : Type 0} (a : Acts K) (words : List Text) (task : Task) (status : ℕ) (e : Streams) (errors : Output)
    → IsTask words task → EndsTask a task status e errors → RunsWords a words status e errors
task_runs a words task status e errors is (inl runs) = inl (task, is, runs.0, runs.1)
task_runs a words task status e errors is (inr lacks) = inr (inl (task, is, lacks))

pub task_spares : (words : List Text) (task : Task) (e : Streams) → IsTask words task → IsSparedBy task e → IsSparedFor words e
task_spares words task e is (inl untouched) = inl untouched
task_spares words task e is (inr line) = inr ((task, is, line.0), line.1)

abbrev pub EndsTokenOrder : {K : Type 0} → Acts K → Place → TokenSource → TokenOrder → ℕ → Streams → Output → Type 0
EndsTokenOrder {K} a place source order status e errors =
    ((status ≢ 2) × RunsTokenOrder a place source order status e errors) ⊎ LacksTokenOf a source status e errors

-- an order whose token is read elsewhere
pub order_spares : {K : Type 0} (a : Acts K) (place : Place) (layout : Layout) (source : TokenSource) (order : TokenOrder) (status : ℕ) (e : Streams) (errors : Output)
    → EndsTokenOrder a place source order status e errors → IsSilent (output_of e) → IsSparedBy (task.TokenOrder place layout source order) e
order_spares a place layout Input order status e errors ends silent = inr (tt, silent)
order_spares a place layout (File file) order status e errors (inl runs) silent = inl (record { left = runs.1.0; held = silent })
order_spares a place layout (File file) order status e errors (inr lacks) silent = inl (record { left = lacks.1; held = silent })
