-- Orders that lack a token: what it comes to that there is one, or none.
use Rattle.std.proofs.Common.{ℕ, Result, Ok, Err}
use Rattle.std.specs.Prelude.{IfOk}
use Rattle.oci_types.specs.Text.{Text}
use Rattle.registry_orders.specs.declared.place.Place.{Place}
use Rattle.registry_orders.specs.declared.tokens.TokenSource.{TokenSource}
use Rattle.registry_orders.specs.declared.tokens.TokenSource.TheVariants.{Input, File}
use Rattle.registry_orders.specs.declared.orders.TokenOrder.{TokenOrder}
use Rattle.registry_orders.specs.Orders.{order_with}
use Rattle.registry_orders.specs.Outputs.{Output}
use Rattle.registry_conversation.specs.Accepting.{Streams}
use Rattle.registry_tasks.specs.Acts.{Acts}
use Rattle.registry_tasks.specs.Opened.{output_of, RunsAt, GivesToken, RunsTokenOrder}

pub runs_with : {K : Type 0} (a : Acts K) (place : Place) (source : TokenSource) (order : TokenOrder) (status : ℕ) (e : Streams) (errors : Output) (token : Text)
    → GivesToken source e.left e.left' token → RunsAt a place (order_with order token) status (output_of e) errors
    → RunsTokenOrder a place source order status e errors
runs_with a place Input order status e errors token given runs = (token, given, runs)
runs_with a place (File path) order status e errors token given runs = (given, (token, runs))

pub whatever_it_is : {A E : Type 0} (r : Result A E) (P : A → Type 0) → ((x : A) → P x) → IfOk r P
whatever_it_is (Ok x) P h = h x
whatever_it_is (Err e) P h = tt
